use Rattle.host_session.proofs.Rules.{sessions}
use Rattle.host_session.proofs.keep.Goals as goal

pub returns-then-kept-ne0-clause-keeps : goal.returns-then-kept-ne0-clause-keeps
returns-then-kept-ne0-clause-keeps c = search sessions
