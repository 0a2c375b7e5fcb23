-- The step's answer by its words, its reply in the output, and the next server kept where it took something.
use Rattle.exports_reply.proofs.CallLaws.{reply-waits, reply-moves, reply-only, refused-reply, written-behind, none-written, told-so}
use Rattle.exports_reply.proofs.Rules.{replies}
use Rattle.exports_reply.proofs.RunLaws.{every-server-call}
use Rattle.exports_reply.proofs.eiderwagon_server_reply.Goals as goal

pub returns-then-replied-eq0 : goal.returns-then-replied-eq0
returns-then-replied-eq0 c =
    let done =
    reply-waits _ _ _ _ _ _ _ _ _ _ _ _ _ _ c.lent_from-from.ensures c.read-server.ensures c.step-replied.ensures.replies
    c.answer_words.ensures.number_value.0 c.answer_words.ensures.number_value.1 c.behind_stateless-said.ensures.refused
    (written-behind _ _ _ _ c.answer_words.result _ c.behind_stateless-said.ensures.kept
    (λ r e. none-written _ _ _ _ _ r c.step-replied.ensures.replies (told-so _ _ c.answer_words.ensures.told r e))
    (rw c.with_written.ensures at c.answer-code.ensures)) c.if-replied-eq0.true in
    record { replies_at_server = done; refuses = reply-only _ _ _ _ _ _ _ _ _ done; refused = refused-reply; hands_on = every-server-call }

pub returns : goal.returns
returns c =
    let done =
    reply-moves _ _ _ _ _ _ _ _ _ _ _ _ _ _ c.lent_from-from.ensures c.read-server.ensures c.step-replied.ensures.replies
    c.answer_words.ensures.number_value.0 c.answer_words.ensures.number_value.1 c.behind_stateless-said.ensures.refused
    (written-behind _ _ _ _ c.answer_words.result _ c.behind_stateless-said.ensures.kept
    (λ r e. none-written _ _ _ _ _ r c.step-replied.ensures.replies (told-so _ _ c.answer_words.ensures.told r e))
    (rw c.with_written.ensures at c.answer-code.ensures)) _ _ c.if-replied-eq0.false c.write.ensures.value c.write.ensures.keeps in
    record { replies_at_server = done; refuses = reply-only _ _ _ _ _ _ _ _ _ done; refused = refused-reply; hands_on = every-server-call }

pub slice_bounds-step-count : goal.slice_bounds-step-count
slice_bounds-step-count c = search replies

pub slice_bounds-step-start : goal.slice_bounds-step-start
slice_bounds-step-start c = search replies
