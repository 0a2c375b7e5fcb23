-- After i bytes the output is the entry's with the first i laid over it.
use Rattle.std.proofs.Common.{◌-◌}
use Rattle.wire.proofs.Copy.{Copied}
use Rattle.wire.proofs.output.lay.Given as goal

abbrev pub invariant-loop-i : goal.invariant-loop-i
invariant-loop-i l = Copied l.fn.out l.from l.src l.out l.i

abbrev pub decreases-loop-i : goal.decreases-loop-i
decreases-loop-i l = l.size - l.i

abbrev pub invariant-loop-i-then-is_ok : goal.invariant-loop-i-then-is_ok
invariant-loop-i-then-is_ok l = Copied l.fn.out l.from l.src l.out l.i

abbrev pub decreases-loop-i-then-is_ok : goal.decreases-loop-i-then-is_ok
decreases-loop-i-then-is_ok l = l.size - l.i
