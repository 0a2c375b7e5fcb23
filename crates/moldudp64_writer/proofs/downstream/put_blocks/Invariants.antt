-- What is still to be laid makes the whole.
use Rattle.moldudp64_writer.proofs.LayingLaws.{Laying}
use Rattle.moldudp64_writer.proofs.downstream.put_blocks.Given as goal

abbrev pub invariant-loop-length : goal.invariant-loop-length
invariant-loop-length l = Laying l.fn.out l.lengths l.joined l.out l.rest l.at l.length-index
