use Rattle.text_fields.proofs.Rules.{numbers}
use Rattle.text_fields.proofs.number.read.Goals as goal

pub loop-b-preserved : goal.loop-b-preserved
loop-b-preserved c = search numbers
