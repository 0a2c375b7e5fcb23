-- Readings kept, and what a feed answers.
use Prim.Native.Nat.{ℕ, ◌≤◌, ◌<◌}
use mathlib.Core.List.{List, [], ◌∷◌}
use mathlib.Core.Bool.{Bool}
use mathlib.Core.Path.{◌≡◌, refl, sym, ◌∙◌}
use native.Mathlib.Omega.{arith}
use lib.ListN.{length}
use lib.Dec.{ltb}
use borrow.Author.Tests.{lt-ltb, le-ltb}
use Rattle.wire.specs.Refusals.{bad_setting, output_short}
use Rattle.wire.specs.Output.{written_words, write_refusal, Writes}
use Rattle.wire.specs.Output.{Written}
use Rattle.capture.specs.declared.reading.Reading.{Reading}
use Rattle.capture.specs.Reading.{start_reading, text_of}
use Rattle.host_answers.specs.Answers.{or_else, short, is_one_of, RefusesOnly, AnswersWith, AnswersWriting}
use Rattle.host_answers.proofs.AnswerLaws.{or-next, or-first, no-success}
use Rattle.host_answers.proofs.OnlyLaws.{only_ending, reported-only}
use Rattle.host_states.specs.States.{on_code}
use Rattle.host_early.specs.Early.{no_lengths}
use Rattle.host_capture.specs.Reading.{reading_size, kept_reading, reading_in, KeepsReading}
use Rattle.exports_capture.specs.Calls.{StartsReading}

-- ---- which refusals there are

pub short-only : RefusesOnly output_short (41 ∷ [])
unfolding is_one_of
short-only = refl

pub starts-only : (r : ℕ) (b : Bool) → r ≡ or_else 0 (short b) → RefusesOnly r (41 ∷ [])
unfolding is_one_of
starts-only r b e = only_ending r 0 b (41 ∷ []) e refl refl

pub text-only : (r : ℕ) (b : Bool) (w : Written) (ws ws' vs l m bs : List ℕ) → AnswersWith r ws ws' (or_else (written_words w).refusal (short b)) vs → Writes w l m 0 0 bs
    → RefusesOnly r (41 ∷ [])
unfolding is_one_of
text-only r b w ws ws' vs l m bs a x = reported-only r 0 b w ws ws' vs l m bs (41 ∷ []) a x refl refl

-- of a feed and of a finish: 19 too

pub state-only : RefusesOnly output_short (19 ∷ 41 ∷ [])
unfolding is_one_of
state-only = refl

pub slots-only : RefusesOnly bad_setting (19 ∷ 41 ∷ [])
unfolding is_one_of
slots-only = refl

pub none_only : (r : ℕ) → r ≡ 0 → RefusesOnly r (19 ∷ 41 ∷ [])
unfolding is_one_of
none_only r e = rw e refl

-- ---- a reading is started

pub starts-reading : (r : ℕ) (l m : List ℕ) (x : Reading) → r ≡ or_else 0 (short (ltb (length l) reading_size)) → KeepsReading (on_code r) l m (kept_reading x no_lengths)
    → x ≡ start_reading → StartsReading r l m
starts-reading r l m x e k f = record { returns = e ∙ sym (or-next 0 _ refl); keeps = rw (← f) k }

-- ---- what is written of a reading

pub text-short : (ws l s bs : List ℕ) → length s < reading_size → AnswersWriting output_short ws ws l l (short (ltb (length s) reading_size)) bs
unfolding short write_refusal
text-short ws l s bs h =
    rw (lt-ltb (length s) reading_size h)
    (record {
      returns = or-first output_short _ (λ z. omega arith);
      words = no-success output_short _ ws (λ z. omega arith);
      output = no-success output_short _ l (λ z. omega arith);
    })

pub text-reported : (ws ws' l l' s : List ℕ) (x : Reading) (r : ℕ) → x ≡ reading_in s → reading_size ≤ length s → AnswersWriting r ws ws' l l' 0 (text_of x)
    → AnswersWriting r ws ws' l l' (short (ltb (length s) reading_size)) (text_of (reading_in s))
unfolding short
text-reported ws ws' l l' s x r a h t = rw (le-ltb (length s) reading_size h, ← a) t
