use Rattle.text_fields.proofs.Rules.{numbers}
use Rattle.text_fields.proofs.number.step.Goals as goal

pub returns-in-Digits-clause-value : goal.returns-in-Digits-clause-value
returns-in-Digits-clause-value c = search numbers
