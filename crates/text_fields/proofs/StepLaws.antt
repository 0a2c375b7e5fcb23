-- The functions' own cases: a letter, one byte of each field, and the loops, which have passed i bytes of l.
use mathlib.Core.Path.{◌≡◌, refl, ap, sym, ◌∙◌}
use mathlib.Core.List.{List, [], ◌∷◌}
use mathlib.Core.Bool.{Bool, true, false, ◌&&◌, ◌||◌}
use Prim.Native.Nat.{ℕ, suc, ◌+◌, ◌*◌, ◌≤◌, ◌<◌}
use native.Mathlib.Omega.{arith}
use native.Mathlib.Numerals.{add-one}
use lib.ListN.{length, drop, get_or, drop_of_length-le}
use lib.Seq.{drop-cons}
use lib.Dec.{ltb, leb, eqb, lit<}
use mir.Val.{bool_byte, Fits}
use mir.Syntax.{w8, w64}
use borrow.Author.Tests.{lt-ltb, le-ltb, le-leb, lt-leb, ltb-true, ltb-false, leb-true, eq-eqb, ne_eqb}
use Rattle.std.specs.Prelude.{if◌then◌else◌, Option, Some, None, Ok, Err}
use Rattle.wire.specs.Bounds.{largest_number}
use Rattle.wire.specs.Words.{Case, Words, answer, refused, says}
use Rattle.wire.proofs.Cases.{below_or_not}
use Rattle.decimal.specs.declared.reading.DigitError.{DigitError}
use Rattle.decimal.specs.declared.reading.DigitError.TheVariants.{NoDigit, TooLarge}
use Rattle.decimal.specs.Decimal.{is_digit, with_digit, Appending, value, no_digit, too_large, appended_words, append_of}
use Rattle.text_fields.specs.declared.session.SessionState.{SessionState}
use Rattle.text_fields.specs.declared.session.SessionState.TheVariants.{Blank, Named, Bad}
use Rattle.text_fields.specs.declared.number.NumberState.{NumberState}
use Rattle.text_fields.specs.declared.number.NumberState.TheVariants as state
use Rattle.wire.specs.declared.kinds.SequenceNumber.{SequenceNumber}
use Rattle.text_fields.specs.Letters.{is_letter_or_digit, lower, space}
use Rattle.text_fields.specs.Session.{good_session, session_step, session_from, session_good}
use Rattle.text_fields.specs.Number.{number_words, read_number, digit_step, number_step, number_from, number_good}
use Rattle.text_fields.specs.Sound.{word_length, are_spaces, sound}
use Rattle.text_fields.proofs.FoldLaws.{session-fold, number-fold}

-- the byte in front of what is left after i bytes
front : (l : List ℕ) (i : ℕ) → i < length l → drop i l ≡ get_or l i 0 ∷ drop (i + 1) l
front l i h = rw (add-one, drop-cons l i 0)

-- ---- a letter or digit

-- three ranges, of which at most one can hold the byte
digit-only : (x y z : Bool) → ((x || (false && y)) || (false && z)) ≡ x
digit-only true y z = refl
digit-only false y z = refl

capital-only : (x y z : Bool) → (((x && false) || y) || (false && z)) ≡ y
capital-only true true z = refl
capital-only true false z = refl
capital-only false true z = refl
capital-only false false z = refl

small-only : (x y z : Bool) → (((x && false) || (y && false)) || z) ≡ z
small-only true true z = refl
small-only true false z = refl
small-only false true z = refl
small-only false false z = refl

module _ (b : ℕ) where
  abbrev tests : Bool
  tests = ((leb 48 b && leb b 57) || (leb 65 b && leb b 90)) || (leb 97 b && leb b 122)

  digit_low : (x : Bool) → ltb b 48 ≡ x → (leb 48 b && leb b 57) ≡ (if x then false else leb b 57)
  digit_low true e = rw (lt-leb _ _ (ltb-true _ _ e)) refl
  digit_low false e = rw (le-leb _ _ (ltb-false _ _ e)) refl

  letter-low : b < 65 → tests ≡ is_letter_or_digit b
  unfolding is_letter_or_digit is_digit
  letter-low h =
      let n : b < 97 = omega arith in
      rw (lt-leb _ _ h, lt-leb _ _ n, lt-ltb _ _ h, digit-only (leb 48 b && leb b 57) (leb b 90) (leb b 122)) (digit_low (ltb b 48) refl)

  letter-capital : 65 ≤ b → b < 97 → tests ≡ is_letter_or_digit b
  unfolding is_letter_or_digit
  letter-capital h g =
      let n : 57 < b = omega arith in
      rw (lt-leb _ _ n, le-leb _ _ h, lt-leb _ _ g, le-ltb _ _ h, lt-ltb _ _ g) (capital-only (leb 48 b) (leb b 90) (leb b 122))

  letter-small : 97 ≤ b → tests ≡ is_letter_or_digit b
  unfolding is_letter_or_digit
  letter-small h =
      let n : 57 < b = omega arith in
      let k : 90 < b = omega arith in
      let j : 65 ≤ b = omega arith in
      rw (lt-leb _ _ n, lt-leb _ _ k, le-leb _ _ h, le-ltb _ _ j, le-ltb _ _ h) (small-only (leb 48 b) (leb 65 b) (leb b 122))

  pub letter-or-digit : tests ≡ is_letter_or_digit b
  letter-or-digit =
      below_or_not (tests ≡ is_letter_or_digit b) b 65 letter-low (λ h. below_or_not (tests ≡ is_letter_or_digit b) b 97 (letter-capital h) letter-small)

-- ---- without case

pub raise-fits : (x : Bool) → Fits w8 (32 * bool_byte x)
raise-fits true = record { fits = lit< tt }
raise-fits false = record { fits = lit< tt }

module _ (b : ℕ) where
  abbrev raised : ℕ
  raised = b + 32 * bool_byte (leb 65 b && leb b 90)

  raised-small : b < 65 → raised ≡ lower b
  unfolding lower
  raised-small h = rw (lt-leb _ _ h, lt-ltb _ _ h) (omega arith)

  raised-large : 65 ≤ b → raised ≡ lower b
  unfolding lower
  raised-large h = rw (le-leb _ _ h, le-ltb _ _ h) (go (leb b 90))
    where
      go : (x : Bool) → b + 32 * bool_byte x ≡ if x then b + 32 else b
      go true = omega arith
      go false = omega arith

  pub lower-sum : raised ≡ lower b
  lower-sum = below_or_not (raised ≡ lower b) b 65 raised-small raised-large

  lower-small : b < 256 → lower b < 256
  unfolding lower
  lower-small f = go (ltb b 65) (leb b 90) refl
    where
      go : (x y : Bool) → leb b 90 ≡ y → (if x then b else if y then b + 32 else b) < 256
      go true y e = f
      go false true e = let h : b ≤ 90 = leb-true _ _ e in omega arith
      go false false e = f

  pub raised-fits : Fits w8 b → Fits w8 raised
  raised-fits f = record { fits = rw lower-sum (lower-small f.fits) }

-- ---- one byte of a session: t is what the test of a letter or digit gave

module _ (b : ℕ) (s : SessionState) where
  pub session-space : s ≡ Blank → b ≡ space → Blank ≡ session_step s b
  unfolding session_step
  session-space e f = simp (e, eq-eqb _ _ f)

  pub session-begins : (t : Bool) → s ≡ Blank → (b ≡ space → ⊥) → t ≡ is_letter_or_digit b → t ≡ true → Named ≡ session_step s b
  unfolding session_step
  session-begins t e h f g = simp (e, ne_eqb _ _ h, ← f, g)

  pub session-breaks : (t : Bool) → s ≡ Blank → (b ≡ space → ⊥) → t ≡ is_letter_or_digit b → t ≡ false → Bad ≡ session_step s b
  unfolding session_step
  session-breaks t e h f g = simp (e, ne_eqb _ _ h, ← f, g)

  pub session-on : (t : Bool) → s ≡ Named → t ≡ is_letter_or_digit b → t ≡ true → Named ≡ session_step s b
  unfolding session_step
  session-on t e f g = simp (e, ← f, g)

  pub session-off : (t : Bool) → s ≡ Named → t ≡ is_letter_or_digit b → t ≡ false → Bad ≡ session_step s b
  unfolding session_step
  session-off t e f g = simp (e, ← f, g)

  pub session-stays : s ≡ Bad → Bad ≡ session_step s b
  unfolding session_step
  session-stays e = simp e

module _ (blank : Bool) (s : SessionState) where
  pub good-blank : s ≡ Blank → blank ≡ session_good blank s
  unfolding session_good
  good-blank e = simp e

  pub good-named : s ≡ Named → true ≡ session_good blank s
  unfolding session_good
  good-named e = simp e

  pub good-bad : s ≡ Bad → false ≡ session_good blank s
  unfolding session_good
  good-bad e = simp e

module _ (l : List ℕ) (i : ℕ) (s : SessionState) where
  pub session-next : (p r : SessionState) → session_from s (drop i l) ≡ p → i < length l → r ≡ session_step s (get_or l i 0)
      → session_from r (drop (i + 1) l) ≡ p
  unfolding session_from
  session-next p r v h e = rw e (rw (front l i h) at v)

  pub session-end : (blank t : Bool) → session_from s (drop i l) ≡ session_from Blank l → length l ≤ i → t ≡ session_good blank s
      → t ≡ good_session blank l
  unfolding session_from
  session-end blank t v h e = e ∙ ap (session_good blank) (rw (drop_of_length-le l h) at v) ∙ session-fold.same blank l

-- ---- one byte of a number: what `append` answered tells the state

told : Case Appending → List ℕ → NumberState
told (answer value) vs = state.Digits (get_or vs 0 0)
told (answer no_digit) vs = state.Bad
told (answer too_large) vs = state.Bad
told refused vs = state.Bad

tells : Words Appending → NumberState
tells w = told w.which w.values

digit-told : (v b : ℕ) → tells (append_of v b) ≡ digit_step v b
unfolding tells told append_of digit_step
digit-told v b = go (is_digit b) (ltb largest_number (with_digit v b))
  where
    go : (x y : Bool) → tells (if x then (if y then says too_large [] else says value (with_digit v b ∷ [])) else says no_digit [])
        ≡ if x then (if y then state.Bad else state.Digits (with_digit v b)) else state.Bad
    go true true = refl
    go true false = refl
    go false y = refl

module _ (v b : ℕ) where
  pub more-value : (n : ℕ) → appended_words (Ok n) ≡ append_of v b → state.Digits n ≡ digit_step v b
  unfolding appended_words tells told
  more-value n q = ap tells q ∙ digit-told v b

  pub more-none : (e : DigitError) → appended_words (Err e) ≡ append_of v b → state.Bad ≡ digit_step v b
  unfolding appended_words tells told
  more-none NoDigit q = ap tells q ∙ digit-told v b
  more-none TooLarge q = ap tells q ∙ digit-told v b

module _ (b : ℕ) (s : NumberState) where
  pub number-space : s ≡ state.Blank → b ≡ space → state.Blank ≡ number_step s b
  unfolding number_step
  number-space e f = simp (e, eq-eqb _ _ f)

  pub number-begins : (r : NumberState) → s ≡ state.Blank → (b ≡ space → ⊥) → r ≡ digit_step 0 b → r ≡ number_step s b
  unfolding number_step
  number-begins r e h f = f ∙ simp (e, ne_eqb _ _ h)

  pub number-on : (r : NumberState) (v : ℕ) → s ≡ state.Digits v → r ≡ digit_step v b → r ≡ number_step s b
  unfolding number_step
  number-on r v e f = f ∙ simp e

  pub number-stays : s ≡ state.Bad → state.Bad ≡ number_step s b
  unfolding number_step
  number-stays e = simp e

module _ (least : ℕ) (s : NumberState) where
  pub value-blank : s ≡ state.Blank → number_words None ≡ number_good least s
  unfolding number_words number_good
  value-blank e = simp e

  pub value-bad : s ≡ state.Bad → number_words None ≡ number_good least s
  unfolding number_words number_good
  value-bad e = simp e

  pub value_low : (v : ℕ) → s ≡ state.Digits v → v < least → number_words None ≡ number_good least s
  unfolding number_words number_good
  value_low v e h = simp (e, lt-ltb _ _ h)

  pub value-good : (v : ℕ) → s ≡ state.Digits v → least ≤ v → number_words (Some (record { 0 = v })) ≡ number_good least s
  unfolding number_words number_good
  value-good v e h = simp (e, le-ltb _ _ h)

module _ (l : List ℕ) (i : ℕ) (s : NumberState) where
  pub number-next : (p r : NumberState) → number_from s (drop i l) ≡ p → i < length l → r ≡ number_step s (get_or l i 0)
      → number_from r (drop (i + 1) l) ≡ p
  unfolding number_from
  number-next p r v h e = rw e (rw (front l i h) at v)

  pub number-end : (least : ℕ) (r : Option SequenceNumber) → number_from s (drop i l) ≡ number_from state.Blank l → length l ≤ i → number_words r ≡ number_good least s
      → number_words r ≡ read_number least l
  unfolding number_from
  number-end least r v h e = e ∙ ap (number_good least) (rw (drop_of_length-le l h) at v) ∙ number-fold.same least l

-- ---- a sound field, of which i bytes were passed: size are letters or digits at the left end, in-word tells whether the others may still be, and good that
-- none is wrong

-- how many letters or digits follow at the front of m
abbrev more : Bool → List ℕ → ℕ
more in-word m = if in-word then word_length m else 0

pub record Passed (l : List ℕ) (size : ℕ) (in-word good : Bool) (i : ℕ) : Type 0 where
  pub within : size ≤ i
  pub count : size + more in-word (drop i l) ≡ word_length l
  pub rest : (good && are_spaces (drop (more in-word (drop i l)) (drop i l))) ≡ are_spaces (drop (word_length l) l)

pub passed_none : (l : List ℕ) → Passed l 0 true true 0
passed_none l = record { within = omega arith; count = omega arith; rest = refl }

and-whole : (x : Bool) → (x && true) ≡ x
and-whole true = refl
and-whole false = refl

and_none : (x : Bool) → (x && false) ≡ false
and_none true = refl
and_none false = refl

and-apart : (x y z : Bool) → ((x && y) && z) ≡ (x && (y && z))
and-apart true y z = refl
and-apart false y z = refl

-- one byte b in front of m
module _ (b : ℕ) (m : List ℕ) where
  count-on : (size n : ℕ) (in-word x : Bool) → is_letter_or_digit b ≡ x → size + more in-word (b ∷ m) ≡ n → size + bool_byte (in-word && x) + more (in-word && x) m ≡ n
  unfolding word_length
  count-on size n true true e h = let w : size + suc (word_length m) ≡ n = rw e at h in omega arith
  count-on size n true false e h = let w : size + 0 ≡ n = rw e at h in omega arith
  count-on size n false x e h = let w : size + 0 ≡ n = h in omega arith

  rest-on : (good in-word x w : Bool) → is_letter_or_digit b ≡ x → (good && are_spaces (drop (more in-word (b ∷ m)) (b ∷ m))) ≡ w
      → ((good && ((in-word && x) || eqb b 32)) && are_spaces (drop (more (in-word && x) m) m)) ≡ w
  unfolding word_length are_spaces
  rest-on good true true w e h = let k : (good && are_spaces (drop (word_length m) m)) ≡ w = rw e at h in rw (and-whole good) k
  rest-on good true false w e h = let k : (good && (eqb b 32 && are_spaces m)) ≡ w = rw e at h in and-apart good (eqb b 32) (are_spaces m) ∙ k
  rest-on good false x w e h = and-apart good (eqb b 32) (are_spaces m) ∙ h

module _ (l : List ℕ) (size : ℕ) (in-word good : Bool) (i : ℕ) (p : Passed l size in-word good i) where
  pub passed-next : (x : Bool) → i < length l → x ≡ is_letter_or_digit (get_or l i 0)
      → Passed l (size + bool_byte (in-word && x)) (in-word && x) (good && ((in-word && x) || eqb (get_or l i 0) 32)) (i + 1)
  passed-next x h e =
      record {
        within = at_most (in-word && x);
        count = count-on (get_or l i 0) (drop (i + 1) l) size (word_length l) in-word x (sym e) (rw (front l i h) at p.count);
        rest = rest-on (get_or l i 0) (drop (i + 1) l) good in-word x (are_spaces (drop (word_length l) l)) (sym e) (rw (front l i h) at p.rest);
      }
    where
      at_most : (y : Bool) → size + bool_byte y ≤ i + 1
      at_most true = omega (arith, p.within)
      at_most false = omega (arith, p.within)

  pub passed-fits : (y : Bool) → i < length l → Fits w64 (length l) → Fits w64 (size + bool_byte y)
  passed-fits true h f = record { fits = omega (arith, p.within, f.fits) }
  passed-fits false h f = record { fits = omega (arith, p.within, f.fits) }

  over-count : length l ≤ i → size ≡ word_length l
  unfolding word_length
  over-count h = go in-word (rw (drop_of_length-le l h) at p.count)
    where
      go : (x : Bool) → size + more x [] ≡ word_length l → size ≡ word_length l
      go true e = omega arith
      go false e = omega arith

  over-rest : length l ≤ i → good ≡ are_spaces (drop (word_length l) l)
  unfolding word_length are_spaces
  over-rest h = go in-word (rw (drop_of_length-le l h) at p.rest)
    where
      go : (x : Bool) → (good && are_spaces (drop (more x []) [])) ≡ are_spaces (drop (word_length l) l) → good ≡ are_spaces (drop (word_length l) l)
      go true e = sym (and-whole good) ∙ e
      go false e = sym (and-whole good) ∙ e

  pub passed-all : (least : ℕ) → length l ≤ i → (good && leb least size) ≡ sound least l
  unfolding sound
  passed-all least h = rw (over-count h, over-rest h) (go (ltb (word_length l) least) refl)
    where
      go : (x : Bool) → ltb (word_length l) least ≡ x
          → (are_spaces (drop (word_length l) l) && leb least (word_length l)) ≡ (if x then false else are_spaces (drop (word_length l) l))
      go true e = rw (lt-leb _ _ (ltb-true _ _ e)) (and_none (are_spaces (drop (word_length l) l)))
      go false e = rw (le-leb _ _ (ltb-false _ _ e)) (and-whole (are_spaces (drop (word_length l) l)))
