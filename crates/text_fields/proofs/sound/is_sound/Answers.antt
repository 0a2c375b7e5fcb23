use Rattle.text_fields.proofs.Rules.{logins}
use Rattle.text_fields.proofs.sound.is_sound.Goals as goal

pub loop-b-preserved : goal.loop-b-preserved
loop-b-preserved c = search logins
