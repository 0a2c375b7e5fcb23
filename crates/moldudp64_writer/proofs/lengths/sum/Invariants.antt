-- So far it is the sum of the first ones, each below 2^16.
use Rattle.moldudp64_writer.proofs.LengthLaws.{Summing}
use Rattle.moldudp64_writer.proofs.lengths.sum.Given as goal

abbrev pub invariant-loop-length : goal.invariant-loop-length
invariant-loop-length l = Summing l.lengths l.sum l.length-index
