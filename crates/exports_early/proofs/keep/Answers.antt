-- Refused, nothing is laid; else both sets of words and the receiver's head are.
use Rattle.exports_early.proofs.TakeLaws.{keep-refused, keep-done}
use Rattle.exports_early.proofs.keep.Goals as goal

pub returns-then-code-ne0 : goal.returns-then-code-ne0
returns-then-code-ne0 c =
    keep-refused _ _ _ _ _ _ _ c.answer_words.ensures.number_value.0 c.answer_words.ensures.number_value.1 c.requires.1 c.answer-code.ensures c.if-code-ne0.true

pub returns : goal.returns
returns c =
    keep-done _ _ _ _ _ _ _ c.answer_words.ensures.number_value.0 c.answer_words.ensures.number_value.1 c.requires.1 c.answer-code.ensures _ _ _ _ c.if-code-ne0.false c.request_words-asked.ensures c.answer.ensures c.write.ensures
