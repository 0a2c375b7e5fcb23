-- One number, one message, one block on.
use Rattle.early_messages.proofs.Rules.{walks}
use Rattle.early_messages.proofs.walk.next.Goals as goal

pub returns : goal.returns
returns c = search walks
