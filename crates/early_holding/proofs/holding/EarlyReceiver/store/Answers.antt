-- The slot's bytes, the length, the mark.
use Rattle.early_holding.proofs.Rules.{stores}
use Rattle.early_holding.proofs.holding.EarlyReceiver.store.Goals as goal

pub returns : goal.returns
returns c = search stores
