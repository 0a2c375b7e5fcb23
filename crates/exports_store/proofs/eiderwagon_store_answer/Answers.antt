-- The store's answer is reported, and without a name 41 in place of what comes behind the request's refusals.
use Rattle.exports_store.proofs.RefusalLaws.{answer-only, nameless-only}
use Rattle.exports_store.proofs.AnswerLaws.{named-reported, nameless-reported}
use Rattle.exports_store.proofs.eiderwagon_store_answer.Goals as goal

pub returns-then-unnamed-clause-answers_writing : goal.returns-then-unnamed-clause-answers_writing
returns-then-unnamed-clause-answers_writing c =
    nameless-reported _ _ _ _ _ _ _ _ _ _ _ _ _ _ _ c.first-name.ensures c.lent_from-from.ensures c.if-unnamed.true
    c.behind_stateless-nameless.ensures.refused c.answer_written.ensures.answers_with c.answer-written.ensures.writes

pub returns-then-unnamed-clause-refuses : goal.returns-then-unnamed-clause-refuses
returns-then-unnamed-clause-refuses c =
    nameless-only _ _ _ _ _ _ _ _ _ _ _ _ _ _ _ c.behind_stateless-nameless.ensures.refused c.answer_written.ensures.answers_with c.answer-written.ensures.writes

pub returns-clause-answers_writing : goal.returns-clause-answers_writing
returns-clause-answers_writing c =
    named-reported _ _ _ _ _ _ _ _ _ _ _ _ _ _ c.first-name.ensures c.lent_from-from.ensures c.if-unnamed.false
    c.answer_written-2.ensures.answers_with c.answer-written.ensures.writes

pub returns-clause-refuses : goal.returns-clause-refuses
returns-clause-refuses c = answer-only _ _ _ _ _ _ _ _ _ _ _ _ _ _ _ c.answer_written-2.ensures.answers_with c.answer-written.ensures.writes
