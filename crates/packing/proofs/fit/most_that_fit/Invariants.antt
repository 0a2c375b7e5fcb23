-- One after another is counted as long as it fits; what is counted and what is still to count make the whole.
use Rattle.packing.proofs.CountLaws.{Counting}
use Rattle.packing.proofs.fit.most_that_fit.Given as goal

abbrev pub invariant-loop-count : goal.invariant-loop-count
invariant-loop-count l = Counting l.fn.room l.lengths l.left l.count l.bytes
