-- Kept, or left.
use Rattle.early_holding.proofs.Rules.{stores}
use Rattle.early_holding.proofs.holding.EarlyReceiver.keep.Goals as goal

pub returns-then-keeps : goal.returns-then-keeps
returns-then-keeps c = search stores
