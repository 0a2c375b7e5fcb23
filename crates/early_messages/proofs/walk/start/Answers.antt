-- The three parts of the start.
use Rattle.early_messages.proofs.Rules.{walks}
use Rattle.early_messages.proofs.walk.start.Goals as goal

pub returns-clause-value : goal.returns-clause-value
returns-clause-value c = search walks
