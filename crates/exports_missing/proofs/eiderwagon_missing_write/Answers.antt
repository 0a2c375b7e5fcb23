-- The text is written where nothing is refused.
use Rattle.exports_missing.proofs.LentLaws.{refused-ground, refused-not, passed, refused-only}
use Rattle.exports_missing.proofs.ListLaws.{text-refused, text-words, text-so, text-only}
use mathlib.Core.Path.{sym, refl}
use Rattle.exports_missing.proofs.eiderwagon_missing_write.Goals as goal

pub returns-in-Err-clause-writes_missing : goal.returns-in-Err-clause-writes_missing
returns-in-Err-clause-writes_missing c =
    text-refused _ _ _ _ _ (refused-ground _ _ c.check.result c.check.ensures c.in-Err.refused c.in-Err.is _ c.from.ensures) (refused-not _ _ c.check.result c.check.ensures c.in-Err.refused c.in-Err.is _ c.from.ensures)

pub returns-in-Err-clause-refuses : goal.returns-in-Err-clause-refuses
returns-in-Err-clause-refuses c = refused-only _ _ _ (refused-ground _ _ c.check.result c.check.ensures c.in-Err.refused c.in-Err.is _ c.from.ensures)

pub returns-then-words-lt-WRITTEN_WORDS-clause-writes_missing : goal.returns-then-words-lt-WRITTEN_WORDS-clause-writes_missing
returns-then-words-lt-WRITTEN_WORDS-clause-writes_missing c =
    text-words _ _ _ _ 0 (sym (passed _ _ c.check.result c.check.ensures (λ r e. c.in_default.not-Err r e))) refl c.if-words-lt-WRITTEN_WORDS.true

pub returns-clause-writes_missing : goal.returns-clause-writes_missing
returns-clause-writes_missing c =
    text-so _ _ _ _ _ _ 0 _ _ _ (sym (passed _ _ c.check.result c.check.ensures (λ r e. c.in_default.not-Err r e))) refl c.if-words-lt-WRITTEN_WORDS.false c.read.ensures c.write-written.ensures c.answer_written.ensures.answers_with

pub returns-clause-refuses : goal.returns-clause-refuses
returns-clause-refuses c = text-only _ _ _ _ _ _ _ _ c.answer_written.ensures.answers_with c.write-written.ensures
