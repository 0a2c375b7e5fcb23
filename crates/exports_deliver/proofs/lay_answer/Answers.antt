-- Nothing is laid on a refusal or without room; else the places behind the skipped blocks.
use Rattle.exports_deliver.proofs.AnswerLaws.{lay-long, lay-there, lay-room, lays-not, lays_all}
use Rattle.exports_deliver.proofs.lay_answer.Goals as goal

pub returns-then-code-ne0 : goal.returns-then-code-ne0
returns-then-code-ne0 c =
    lays-not _ _ _ _ c.delivery_of-delivery.ensures _ _ _ _ _ _ c.answer_words.ensures.0 c.answer_words.ensures.1
    (rw c.from.ensures at c.or_short-said.ensures.refused) c.or_short-said.ensures.kept c.answer-code.ensures c.if-code-ne0.true

pub lay_behind-requires : goal.lay_behind-requires
lay_behind-requires c = (
  lay-long _ _ c.requires,
  lay-there _ _ _ _ c.requires c.delivery_of-delivery.ensures,
  lay-room _ _ _ _ _ _ _ _ (rw c.from.ensures at c.or_short-said.ensures.refused) c.answer-code.ensures c.if-code-ne0.false,
)

pub returns : goal.returns
returns c =
    lays_all _ _ _ _ c.delivery_of-delivery.ensures _ _ _ _ _ _ c.answer_words.ensures.0 c.answer_words.ensures.1
    (rw c.from.ensures at c.or_short-said.ensures.refused) c.or_short-said.ensures.kept c.answer-code.ensures _ c.if-code-ne0.false c.lay_behind.ensures
