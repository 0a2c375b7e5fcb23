-- A message stands at the place that the answer gives, and every other answer hands up none.
use Rattle.soupbintcp_session.proofs.AnswerLaws.{message-sequenced, message-unsequenced, message-none, answers_apart}
use mathlib.Core.Logic.{inl, inr}
use Rattle.soupbintcp_session.proofs.answer.message.Goals as goal

pub returns-in_default : goal.returns-in_default
returns-in_default c = record {
  result_value = message-none _ _ c.in_default.not-Sequenced c.in_default.not-Unsequenced;
  tells_apart = answers_apart;
}

pub returns-in-Sequenced-clause-result_value : goal.returns-in-Sequenced-clause-result_value
returns-in-Sequenced-clause-result_value c =
    elim c.in-Sequenced.is [
      | inl w ↦ message-sequenced _ _ _ _ _ w.0 w.1 c.part.ensures
      | inr e ↦ message-unsequenced _ _ _ _ _ e c.part.ensures
    ]

pub returns-in-Sequenced-clause-tells_apart : goal.returns-in-Sequenced-clause-tells_apart
returns-in-Sequenced-clause-tells_apart c = answers_apart
