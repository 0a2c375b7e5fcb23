-- The calls that are lent a cursor.
use Prim.Native.Nat.{ℕ, ◌≤◌, ◌<◌}
use mathlib.Core.List.{List, [], ◌∷◌}
use mathlib.Core.Bool.{Bool, true, false}
use mathlib.Core.Path.{◌≡◌, refl, sym, ◌∙◌}
use native.Mathlib.Omega.{arith}
use lib.ListN.{length}
use lib.Dec.{ltb}
use borrow.Author.Tests.{lt-ltb, le-ltb}
use Rattle.wire.specs.Refusals.{output_short}
use Rattle.moldudp64_messages.specs.declared.cursor.Cursor.{Cursor}
use Rattle.moldudp64_messages.specs.declared.cursor.Located.{Located}
use Rattle.moldudp64_messages.specs.Cursor.{located, advanced}
use Rattle.host_answers.specs.Answers.{or_else, short, is_one_of, RefusesOnly, AnswersWith}
use Rattle.host_answers.proofs.AnswerLaws.{or-next, or-none, rung-own, not-answered}
use Rattle.host_answers.proofs.OnlyLaws.{only_ending, answers-only}
use Rattle.host_states.specs.States.{on_code, on_step}
use Rattle.host_states.proofs.StateLaws.{keeps-step, keeps-more}
use Rattle.host_cursor.specs.Cursor.{cursor_size, cursor_in, KeepsCursor}
use Rattle.host_cursor.specs.Calls.{located_words, SetsCursor, NextMessage}
use Rattle.host_cursor.proofs.CursorLaws.{cursor-not, length-cursor}

-- ---- a cursor is set

module _ (r : ℕ) (l m : List ℕ) (x c : Cursor) (e : r ≡ or_else 0 (short (ltb (length l) cursor_size))) where
  pub sets-cursor : KeepsCursor (on_code r) l m x → x ≡ c → SetsCursor r l m c
  sets-cursor k f = record { returns = e ∙ sym (or-next 0 _ refl); keeps = rw (← f) k }

pub sets-only : (r : ℕ) (b : Bool) → r ≡ or_else 0 (short b) → RefusesOnly r (41 ∷ [])
unfolding is_one_of
sets-only r b e = only_ending r 0 b (41 ∷ []) e refl refl

-- ---- the next message

module _ (l d ws : List ℕ) where
  pub next-short : length l < cursor_size → NextMessage output_short l l d ws ws
  unfolding short on_step
  next-short h =
      record {
        answers = rw (lt-ltb (length l) cursor_size h)
            (not-answered output_short output_short output_short ws _ (rung-own output_short output_short (ltb (length ws) 3) (λ z. omega arith) refl) refl (λ z. omega arith));
        keeps = cursor-not (advanced d (cursor_in l)) l output_short (λ z. omega arith);
      }

  module _ (code : ℕ) (ws' vs : List ℕ) (at : Cursor) (p : Located) (h : cursor_size ≤ length l) (a : at ≡ cursor_in l) (e : p ≡ located d at) (f : vs ≡ located_words p)
      (t : AnswersWith code ws ws' 0 vs) where
    next-answers : AnswersWith code ws ws' (short (ltb (length l) cursor_size)) (located_words (located d (cursor_in l)))
    unfolding short
    next-answers = rw (le-ltb (length l) cursor_size h, ← a, ← e, ← f) t

    pub next-message : (r : ℕ) (m : List ℕ) (next : Cursor) → next ≡ advanced d at → p.exists ≡ true → r ≡ or_else code (short (ltb (length l) cursor_size))
        → KeepsCursor (on_code r) l m next
        → NextMessage r l m d ws ws'
    unfolding short
    next-message r m next g b q k =
        let same : r ≡ code = q ∙ rw (le-ltb (length l) cursor_size h) (sym (or-none code)) in
        record {
          answers = rw same next-answers;
          keeps = rw (← a, ← e, b, ← g) (keeps-step r 1 (λ z. omega arith) k);
        }

    pub next-none : p.exists ≡ false → NextMessage code l l d ws ws'
    next-none b = record { answers = next-answers; keeps = rw (← a, ← e, b) (keeps-more code 0 refl (length-cursor (advanced d at))) }

-- its code is 41 at the most
pub short-only : RefusesOnly output_short (41 ∷ [])
unfolding is_one_of
short-only = refl

pub next-only : (r code : ℕ) (b : Bool) (ws ws' vs : List ℕ) → AnswersWith code ws ws' 0 vs → r ≡ or_else code (short b) → RefusesOnly r (41 ∷ [])
unfolding is_one_of
next-only r code b ws ws' vs a e = only_ending r code b (41 ∷ []) e (answers-only code 0 ws ws' vs (41 ∷ []) a refl refl) refl

pub next-none-only : (code : ℕ) (ws ws' vs : List ℕ) → AnswersWith code ws ws' 0 vs → RefusesOnly code (41 ∷ [])
unfolding is_one_of
next-none-only code ws ws' vs a = answers-only code 0 ws ws' vs (41 ∷ []) a refl refl
