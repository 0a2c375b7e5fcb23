-- A refusal, too few words, or the words laid.
use mathlib.Core.Path.{refl}
use Rattle.host_answers.proofs.AnswerLaws.{answered-refused, answered-short, answered, laid-slice}
use Rattle.host_answers.proofs.answer_slice.Goals as goal

pub returns-then-refused-ne0 : goal.returns-then-refused-ne0
returns-then-refused-ne0 c = answered-refused _ _ _ _ c.from.ensures c.if-refused-ne0.true

pub returns-then-words-values : goal.returns-then-words-values
returns-then-words-values c = answered-short _ _ _ _ refl c.if-refused-ne0.false c.if-words-values.true

pub returns : goal.returns
returns c = answered _ _ _ _ _ refl c.if-refused-ne0.false c.if-words-values.false (laid-slice _ _ _ c.copy_from_slice.ensures.after c.if-words-values.false)
