-- Count by count.
use Rattle.capture_tally.proofs.TallyLaws.{plus-all}
use Rattle.capture_tally.proofs.tally.Tally.plus.Goals as goal

pub returns : goal.returns
returns c =
    plus-all _ _ _ _ _ _ _ c.saturating_add.ensures c.saturating_add-2.ensures c.saturating_add-3.ensures c.saturating_add-4.ensures
    c.saturating_add-5.ensures
