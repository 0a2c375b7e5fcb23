-- The longest of the messages before this place decides of them.
use Rattle.transmitter.proofs.RunLaws.{Longest}
use Rattle.transmitter.proofs.run.each_fits.Given as goal

abbrev pub invariant-loop-length : goal.invariant-loop-length
invariant-loop-length l = Longest l.room l.lengths l.length-index l.longest
