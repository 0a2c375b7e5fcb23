use Rattle.host_early.proofs.Rules.{walks}
use Rattle.host_early.proofs.walk.write.Goals as goal

pub returns-then-kept-ne0-clause-keeps : goal.returns-then-kept-ne0-clause-keeps
returns-then-kept-ne0-clause-keeps c = search walks

pub returns-clause-keeps : goal.returns-clause-keeps
returns-clause-keeps c = search walks
