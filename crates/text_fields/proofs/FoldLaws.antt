-- Session and number read byte by byte are what their definitions say: one law for each state, by induction on the bytes.
use mathlib.Core.Path.{◌≡◌, refl, ap, sym, ◌∙◌}
use mathlib.Core.List.{List, [], ◌∷◌}
use mathlib.Core.Bool.{Bool, true, false, ◌&&◌}
use Prim.Native.Nat.{ℕ, suc, ◌≤◌, ◌<◌}
use native.Mathlib.Omega.{arith}
use lib.ListN.{length}
use lib.Dec.{ltb, leb, eqb}
use borrow.Author.Tests.{le-leb, lt-leb, lt-ltb, ltb-true, ltb-false, ne_eqb}
use Rattle.std.specs.Prelude.{if◌then◌else◌}
use Rattle.wire.specs.Bounds.{largest_number}
use Rattle.wire.specs.Words.{Words, says}
use Rattle.decimal.specs.Decimal.{is_digit, with_digit, are_digits, value_from}
use Rattle.decimal.proofs.SpellLaws.{value_grows}
use Rattle.text_fields.specs.declared.session.SessionState.TheVariants.{Blank, Named, Bad}
use Rattle.text_fields.specs.declared.number.NumberState.TheVariants as state
use Rattle.text_fields.specs.Letters.{is_letter_or_digit, are_letters_or_digits, space, leading_spaces, after_spaces}
use Rattle.text_fields.specs.Session.{good_session, session_step, session_from, session_good, SessionFold}
use Rattle.text_fields.specs.Number.{NumberKind, value, bad, is_number, read_number, digit_step, number_step, number_from, number_good, NumberFold}

and-true : (x : Bool) → (x && true) ≡ x
and-true true = refl
and-true false = refl

-- ---- a space in front counts for nothing, and another byte ends the spaces

module _ (b : ℕ) (l : List ℕ) where
  after-space : eqb b space ≡ true → after_spaces (b ∷ l) ≡ after_spaces l
  unfolding leading_spaces
  after-space e = rw e

  after-other : eqb b space ≡ false → after_spaces (b ∷ l) ≡ b ∷ l
  unfolding leading_spaces
  after-other e = rw e

-- ---- sessions

session-bad : (l : List ℕ) → session_from Bad l ≡ Bad
unfolding session_from session_step
session-bad [] = refl
session-bad (b ∷ l) = session-bad l

session-named : (blank : Bool) (l : List ℕ) → session_good blank (session_from Named l) ≡ are_letters_or_digits l
unfolding session_from session_step session_good are_letters_or_digits
session-named blank [] = refl
session-named blank (b ∷ l) = go (is_letter_or_digit b) (session-named blank l)
  where
    go : (x : Bool) → session_good blank (session_from Named l) ≡ are_letters_or_digits l
        → session_good blank (session_from (if x then Named else Bad) l) ≡ (x && are_letters_or_digits l)
    go true h = h
    go false h = ap (session_good blank) (session-bad l)

module _ (blank : Bool) (b : ℕ) (l : List ℕ) where
  good-space : eqb b space ≡ true → good_session blank (b ∷ l) ≡ good_session blank l
  unfolding good_session
  good-space e = rw (after-space b l e)

  -- what doesn't begin with a space is not blank
  good-other : eqb b space ≡ false → good_session blank (b ∷ l) ≡ are_letters_or_digits (b ∷ l)
  unfolding good_session
  good-other e =
      let z : eqb (suc (length l)) 0 ≡ false = ne_eqb _ _ (λ (f : suc (length l) ≡ 0). omega arith) in
      rw (after-other b l e, z) (and-true (are_letters_or_digits (b ∷ l)))

session-same : (blank : Bool) (l : List ℕ) → session_good blank (session_from Blank l) ≡ good_session blank l
unfolding session_from session_step session_good good_session are_letters_or_digits leading_spaces
session-same blank [] = refl
session-same blank (b ∷ l) = go (eqb b space) refl (session-same blank l)
  where
    go : (x : Bool) → eqb b space ≡ x → session_good blank (session_from Blank l) ≡ good_session blank l
        → session_good blank (session_from (if x then Blank else if is_letter_or_digit b then Named else Bad) l) ≡ good_session blank (b ∷ l)
    go true e h = h ∙ sym (good-space blank b l e)
    go false e h = session-named blank (b ∷ l) ∙ sym (good-other blank b l e)

pub session-fold : SessionFold
session-fold = record { same = session-same; bad_stays = session-bad }

-- ---- numbers

number-bad : (l : List ℕ) → number_from state.Bad l ≡ state.Bad
unfolding number_from number_step
number-bad [] = refl
number-bad (b ∷ l) = number-bad l

-- the digits l behind a number v, as the definition reads them
unfoldable behind : ℕ → ℕ → List ℕ → Words NumberKind
behind least v l =
    if are_digits l && leb (value_from v l) largest_number && leb least (value_from v l) then says value (value_from v l ∷ [])
    else says bad []

module _ (least v b : ℕ) (l : List ℕ) where
  -- one more digit, from what holds behind it
  digit-behind : (with_digit v b ≤ largest_number → number_good least (number_from (state.Digits (with_digit v b)) l) ≡ behind least (with_digit v b) l)
      → number_good least (number_from (digit_step v b) l) ≡ behind least v (b ∷ l)
  unfolding digit_step behind are_digits value_from number_good
  digit-behind h = go (is_digit b) (ltb largest_number (with_digit v b)) refl
    where
      -- a value above the largest only grows
      over : (y : Bool) → largest_number < with_digit v b
          → if y && leb (value_from (with_digit v b) l) largest_number && leb least (value_from (with_digit v b) l)
          then says value (value_from (with_digit v b) l ∷ []) else says bad []
          ≡ says bad []
      over true g = let k : largest_number < value_from (with_digit v b) l = omega (arith, value_grows (with_digit v b) l) in rw (lt-leb _ _ k)
      over false g = refl

      go : (x y : Bool) → ltb largest_number (with_digit v b) ≡ y
          → number_good least (number_from (if x then (if y then state.Bad else state.Digits (with_digit v b)) else state.Bad) l)
          ≡ if x && are_digits l && leb (value_from (with_digit v b) l) largest_number && leb least (value_from (with_digit v b) l)
          then says value (value_from (with_digit v b) l ∷ []) else says bad []
      go false y e = ap (number_good least) (number-bad l)
      go true true e = ap (number_good least) (number-bad l) ∙ sym (over (are_digits l) (ltb-true _ _ e))
      go true false e = h (ltb-false _ _ e)

number_digits : (least v : ℕ) (l : List ℕ) → v ≤ largest_number → number_good least (number_from (state.Digits v) l) ≡ behind least v l
unfolding number_from number_step number_good behind are_digits value_from
number_digits least v [] h = go (ltb v least) refl
  where
    go : (x : Bool) → ltb v least ≡ x
        → if x then says bad [] else says value (v ∷ []) ≡ if leb v largest_number && leb least v then says value (v ∷ []) else says bad []
    go true e = rw (le-leb _ _ h, lt-leb _ _ (ltb-true _ _ e))
    go false e = rw (le-leb _ _ h, le-leb _ _ (ltb-false _ _ e))
number_digits least v (b ∷ l) h = digit-behind least v b l (number_digits least (with_digit v b) l)

module _ (least b : ℕ) (l : List ℕ) where
  of_space : eqb b space ≡ true → read_number least (b ∷ l) ≡ read_number least l
  unfolding read_number
  of_space e = rw (after-space b l e)

  of_other : eqb b space ≡ false → read_number least (b ∷ l) ≡ behind least 0 (b ∷ l)
  unfolding read_number is_number behind
  of_other e = let z : ltb 0 (suc (length l)) ≡ true = lt-ltb 0 (suc (length l)) (omega arith) in rw (after-other b l e, z)

number_same : (least : ℕ) (l : List ℕ) → number_good least (number_from state.Blank l) ≡ read_number least l
unfolding number_from number_step number_good read_number is_number leading_spaces
number_same least [] = refl
number_same least (b ∷ l) = go (eqb b space) refl (number_same least l)
  where
    go : (x : Bool) → eqb b space ≡ x → number_good least (number_from state.Blank l) ≡ read_number least l
        → number_good least (number_from (if x then state.Blank else digit_step 0 b) l) ≡ read_number least (b ∷ l)
    go true e h = h ∙ sym (of_space least b l e)
    go false e h = digit-behind least 0 b l (number_digits least (with_digit 0 b) l) ∙ sym (of_other least b l e)

pub number-fold : NumberFold
number-fold = record { same = number_same; bad_stays = number-bad }
