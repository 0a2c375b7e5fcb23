-- It is near enough, and its bit tells whether it is held already.
use Rattle.early_holding.proofs.HoldingLaws.{keeps-new}
use Rattle.early_holding.proofs.Rules.{places}
use Rattle.early_holding.proofs.holding.EarlyReceiver.keeps.Goals as goal

pub returns : goal.returns
returns c = keeps-new _ _ _ _ _ (search places) c.place_of-place.ensures c.before-distance.ensures _ (search places) (search places) (search places)
