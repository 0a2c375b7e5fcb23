-- Too few words are refused behind the receiver's own grounds; what is settled needs no slots.
use mathlib.Core.Path.{refl}
use native.Mathlib.Omega.{arith}
use Rattle.exports_early.proofs.TakeLaws.{takes-few, takes-settled}
use Rattle.exports_early.proofs.take_read.Goals as goal

pub returns-then-words-lt-ANSWER_WORDS : goal.returns-then-words-lt-ANSWER_WORDS
returns-then-words-lt-ANSWER_WORDS c = takes-few _ _ _ _ c.requires.0 c.requires.1 c.requires.2 _ _ (omega (arith, c.if-words-lt-ANSWER_WORDS.true)) c.refuse.ensures

pub returns : goal.returns
returns c =
    takes-settled _ _ _ _ c.requires.0 c.requires.1 c.requires.2 _ c.read.ensures _ (omega (arith, c.if-words-lt-ANSWER_WORDS.false)) _ _ _ _ _ c.settle-settled.ensures c.if-not-settled.false c.if-slots-ne-SLOT_BYTES.false refl c.keep.ensures
