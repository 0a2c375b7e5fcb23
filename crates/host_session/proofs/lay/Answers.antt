use Rattle.host_session.proofs.Rules.{sessions}
use Rattle.host_session.proofs.lay.Goals as goal

pub returns-then-kept-ne0-clause-keeps : goal.returns-then-kept-ne0-clause-keeps
returns-then-kept-ne0-clause-keeps c = search sessions

pub returns-clause-keeps : goal.returns-clause-keeps
returns-clause-keeps c = search sessions
