-- What is still to be laid makes the whole.
use Rattle.std.proofs.Common.{length}
use Rattle.missing_text.proofs.RangeLaws.{Putting}
use Rattle.missing_text.proofs.lines.put_ranges.Given as goal

abbrev pub invariant-loop-rest : goal.invariant-loop-rest
invariant-loop-rest l = Putting l.fn.out l.fn.at.0 l.top l.edges l.out l.place.0 l.rest

abbrev pub decreases-loop-rest : goal.decreases-loop-rest
decreases-loop-rest l = length l.rest
