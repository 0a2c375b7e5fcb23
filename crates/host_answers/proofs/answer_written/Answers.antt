-- What was written, or the refusal, is answered but where memory is too short.
use Rattle.host_answers.specs.Answers.{said_refusal}
use Rattle.host_answers.proofs.AnswerLaws.{answers-written, values-of-writer}
use Rattle.host_answers.proofs.answer_written.Goals as goal

pub returns-in-Ok-clause-answers_with : goal.returns-in-Ok-clause-answers_with
unfolding values-of-writer said_refusal
returns-in-Ok-clause-answers_with c = answers-written _ _ _ _ _ _ c.in-Ok.ensures.refused c.in-Ok.ensures.kept c.answer.ensures

pub returns-in-Err-clause-answers_with : goal.returns-in-Err-clause-answers_with
unfolding values-of-writer said_refusal
returns-in-Err-clause-answers_with c = answers-written _ _ _ _ _ _ c.in-Err.ensures.refused c.in-Err.ensures.kept c.answer-in-Err.ensures
