use Rattle.host_early.proofs.Rules.{receivers}
use Rattle.host_early.proofs.write_fresh.Goals as goal

pub returns-then-kept-ne0-clause-keeps : goal.returns-then-kept-ne0-clause-keeps
returns-then-kept-ne0-clause-keeps c = search receivers

pub returns-clause-keeps : goal.returns-clause-keeps
returns-clause-keeps c = search receivers
