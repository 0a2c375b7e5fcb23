-- A pair of edges is laid, and at the end an edge that is open.
use Rattle.std.proofs.Common.{arith}
use Rattle.missing_text.proofs.RangeLaws.{putting-step, end-open}
use Rattle.missing_text.proofs.lines.put_ranges.Goals as goal

pub loop-rest-preserved : goal.loop-rest-preserved
loop-rest-preserved c =
    putting-step _ _ _ _ _ _ _ _ _ c.loop-rest.invariant c.in-len2-up.len_at_least c.put_range-place.ensures

pub returns-in-len1 : goal.returns-in-len1
returns-in-len1 c =
    end-open _ _ _ _ _ _ _ _ _ c.loop-rest.invariant (omega (arith, c.in_default.len_below))
    (λ e. absurd (omega (arith, c.in-len1.len_at_least))) c.if-from-top.true c.put_range.ensures
