use Rattle.host_session.proofs.Rules.{sessions}
use Rattle.host_session.proofs.keep_fields.Goals as goal

pub returns : goal.returns
returns c = search sessions
