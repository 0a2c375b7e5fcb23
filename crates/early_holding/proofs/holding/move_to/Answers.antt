-- Every held message that follows follows the last one of the datagram.
use Rattle.early_holding.proofs.Rules.{moves}
use Rattle.early_holding.proofs.holding.move_to.Goals as goal

pub returns : goal.returns
returns c = search moves
