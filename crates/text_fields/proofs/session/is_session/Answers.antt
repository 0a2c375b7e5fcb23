use Rattle.text_fields.proofs.Rules.{sessions}
use Rattle.text_fields.proofs.session.is_session.Goals as goal

pub loop-b-preserved : goal.loop-b-preserved
loop-b-preserved c = search sessions

pub returns : goal.returns
returns c = search sessions
