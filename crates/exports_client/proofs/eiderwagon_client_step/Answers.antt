-- The step's answer by its words, and the next client kept where it took something.
use Rattle.host_answers.proofs.AnswerLaws.{kept-values}
use Rattle.host_session.proofs.ReplyLaws.{answers_apart}
use Rattle.exports_client.proofs.ClientLaws.{client-waits, client-moves, step-only, client-hands-on}
use Rattle.exports_client.proofs.eiderwagon_client_step.Goals as goal

pub returns-then-stepped-eq0 : goal.returns-then-stepped-eq0
returns-then-stepped-eq0 c =
    let steps =
    client-waits _ _ _ _ _ _ _ _ _ _ c.read.ensures c.step-stepped.ensures.client_steps c.answer_words.ensures.number_value.0
    c.answer_words.ensures.number_value.1 c.behind_stateless-said.ensures.refused
    (kept-values _ _ _ _ _ _ c.behind_stateless-said.ensures.kept c.answer-code.ensures) c.if-stepped-eq0.true in
    record { steps_at_client = steps; refuses = step-only _ _ _ _ _ _ steps; hands_on = client-hands-on; tells_apart = answers_apart }

pub returns : goal.returns
returns c =
    let steps =
    client-moves _ _ _ _ _ _ _ _ _ _ c.read.ensures c.step-stepped.ensures.client_steps c.answer_words.ensures.number_value.0
    c.answer_words.ensures.number_value.1 c.behind_stateless-said.ensures.refused
    (kept-values _ _ _ _ _ _ c.behind_stateless-said.ensures.kept c.answer-code.ensures) _ _ c.if-stepped-eq0.false c.write.ensures.value c.write.ensures.keeps in
    record { steps_at_client = steps; refuses = step-only _ _ _ _ _ _ steps; hands_on = client-hands-on; tells_apart = answers_apart }
