use Rattle.host_receiver.proofs.Rules.{receivers}
use Rattle.host_receiver.proofs.write.Goals as goal

pub returns-then-kept-ne0-clause-keeps : goal.returns-then-kept-ne0-clause-keeps
returns-then-kept-ne0-clause-keeps c = search receivers

pub returns-clause-keeps : goal.returns-clause-keeps
returns-clause-keeps c = search receivers
