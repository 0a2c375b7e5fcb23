-- A pair of edges is counted, and at the end an edge that is open.
use Rattle.std.proofs.Common.{arith}
use Rattle.wire.proofs.Rooms.{capped-sum}
use Rattle.missing_ranges.proofs.ListingLaws.{counting-step, count-open}
use Rattle.missing_ranges.proofs.listing.total_of.Goals as goal

pub loop-rest-preserved : goal.loop-rest-preserved
loop-rest-preserved c =
    counting-step _ _ _ _ _ _ c.loop-rest.invariant c.in-len2-up.len_at_least c.size.ensures
    (capped-sum _ _ _ c.saturating_add-n.ensures)

pub returns-in-len1 : goal.returns-in-len1
returns-in-len1 c =
    count-open _ _ _ _ _ _ c.loop-rest.invariant (omega (arith, c.in_default.len_below)) (λ e. absurd (omega (arith, c.in-len1.len_at_least)))
    c.if-from-top.true c.size-in-len1.ensures (capped-sum _ _ _ c.saturating_add.ensures)
