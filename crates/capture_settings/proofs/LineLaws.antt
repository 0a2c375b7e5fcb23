-- Laws of a line's parts, as the code has them: a text in front, printable bytes, a name, and a number up to a line feed.
use mathlib.Core.Path.{◌≡◌, refl, ap, sym, ◌∙◌}
use mathlib.Core.List.{List, [], ◌∷◌}
use mathlib.Core.Bool.{Bool, true, false, true≢false, not, ◌&&◌}
use Prim.Native.Nat.{ℕ, zero, suc, ◌+◌, ◌≤◌, ◌<◌}
use native.Mathlib.Omega.{arith}
use native.Mathlib.Numerals.{add-one}
use native.Mathlib.Nat.{zero-add}
use lib.ListN.{length, take, drop, get_or, drop_of_length-le}
use lib.Seq.{drop-cons}
use lib.Dec.{ltb, leb, eqb}
use lib.Pointwise.{pointwise}
use borrow.Author.Tests.{le-leb, le-ltb, eq-eqb, ne_eqb, leb-true, ltb-false}
use Rattle.std.specs.Prelude.{if◌then◌else◌, All, IsTrue, ◌↔◌, Result, Ok, Err}
use Rattle.wire.specs.Bounds.{largest_number}
use Rattle.wire.specs.Words.{says}
use Rattle.wire.proofs.Words.{which-of, values-of}
use Rattle.decimal.specs.declared.reading.DigitError.{DigitError}
use Rattle.decimal.specs.declared.reading.DigitError.TheVariants.{NoDigit, TooLarge}
use Rattle.decimal.specs.Decimal.{is_digit, with_digit, value, no_digit, too_large, appended_words, append_of}
use Rattle.capture_settings.specs.declared.lines.Line.{Line}
use Rattle.capture_settings.specs.Settings.{line_feed, past_of, is_printable, further, goes_on, line_from, line_of}

-- the byte in front of what is left after i bytes
front : (l : List ℕ) (i : ℕ) → i < length l → drop i l ≡ get_or l i 0 ∷ drop (i + 1) l
front l i h = rw (add-one, drop-cons l i 0)

-- ---- a text in front

strips : (t l : List ℕ) → pointwise eqb (take (length t) l) t ≡ true → drop (length t) l ≡ past_of t l
unfolding past_of
strips [] l h = refl
strips (c ∷ t) [] h = absurd (true≢false (sym h))
strips (c ∷ t) (b ∷ l) h = step (eqb b c) (strips t l) h
  where
    step : (x : Bool) → (pointwise eqb (take (length t) l) t ≡ true → drop (length t) l ≡ past_of t l)
        → (x && pointwise eqb (take (length t) l) t) ≡ true → drop (length t) l ≡ if x then past_of t l else []
    step true f g = f g
    step false f g = absurd (true≢false (sym g))

pub past-there : (t l r : List ℕ) → pointwise eqb (take (length t) l) t ≡ true → r ≡ drop (length t) l → r ≡ past_of t l
past-there t l r h e = e ∙ strips t l h

pub past-other : (t l : List ℕ) → pointwise eqb (take (length t) l) t ≡ false → [] ≡ past_of t l
unfolding past_of
past-other [] l h = absurd (true≢false h)
past-other (c ∷ t) [] h = refl
past-other (c ∷ t) (b ∷ l) h = step (eqb b c) (past-other t l) h
  where
    step : (x : Bool) → (pointwise eqb (take (length t) l) t ≡ false → [] ≡ past_of t l)
        → (x && pointwise eqb (take (length t) l) t) ≡ false → [] ≡ if x then past_of t l else []
    step true f g = f g
    step false f g = refl

-- ---- printable bytes

abbrev pub printable-byte : ℕ → Type 0
printable-byte b = (32 ≤ b) × (b ≤ 126)

print-all : (l : List ℕ) → All printable-byte l → is_printable l ≡ true
unfolding is_printable
print-all [] h = refl
print-all (b ∷ l) h =
    let f = h 0 0 (omega arith) in
    let i = print-all l (λ k d g. h (suc k) d (omega arith)) in
    simp (le-leb _ _ f.0, le-leb _ _ f.1) i

both-three : (x y z : Bool) → (x && y && z) ≡ true → (x ≡ true) × (y ≡ true) × (z ≡ true)
both-three true true z h = (refl, refl, h)
both-three true false z h = absurd (true≢false (sym h))
both-three false y z h = absurd (true≢false (sym h))

all-print : (l : List ℕ) → is_printable l ≡ true → All printable-byte l
unfolding is_printable
all-print [] h k d g = absurd (omega arith)
all-print (b ∷ l) h zero d g = let t = both-three (leb 32 b) (leb b 126) (is_printable l) h in (leb-true _ _ t.0, leb-true _ _ t.1)
all-print (b ∷ l) h (suc k) d g = all-print l (both-three (leb 32 b) (leb b 126) (is_printable l) h).2 k d (omega arith)

same-truth : (r s : Bool) → (r ≡ true → s ≡ true) → (s ≡ true → r ≡ true) → r ≡ s
same-truth true s f g = sym (f refl)
same-truth false true f g = g refl
same-truth false false f g = refl

-- the test of all bytes is the definition's
pub print-so : (l : List ℕ) (r : Bool) → (IsTrue r ↔ All printable-byte l) → r ≡ is_printable l
print-so l r h = same-truth r (is_printable l) (λ e. print-all l (h.0 e)) (λ e. h.1 (all-print l e))

-- ---- one more byte of a number v, and what `append` answers to it

record ValueSo (v b n : ℕ) : Type 0 where
  digit : is_digit b ≡ true
  fits : with_digit v b ≤ largest_number
  same : n ≡ with_digit v b

value-so : (v b n : ℕ) → append_of v b ≡ says value (n ∷ []) → ValueSo v b n
unfolding append_of
value-so v b n = go (is_digit b) refl (ltb largest_number (with_digit v b)) refl
  where
    go : (x : Bool) → is_digit b ≡ x → (y : Bool) → ltb largest_number (with_digit v b) ≡ y
        → if x then (if y then says too_large [] else says value (with_digit v b ∷ [])) else says no_digit [] ≡ says value (n ∷ [])
        → ValueSo v b n
    go true f false g e = record { digit = f; fits = ltb-false _ _ g; same = let w = values-of e in cc }
    go true f true g e = let w = which-of e in let z : ◌≡◌ {A = ℕ} 0 1 = cc in absurd (omega arith)
    go false f y g e = let w = which-of e in let z : ◌≡◌ {A = ℕ} 0 1 = cc in absurd (omega arith)

goes-on-to : (v b n : ℕ) → append_of v b ≡ says value (n ∷ []) → (n ≡ 0 → ⊥) → goes_on v b ≡ true
unfolding goes_on
goes-on-to v b n e z =
    let s = value-so v b n e in
    let y : with_digit v b ≡ 0 → ⊥ = λ (f : with_digit v b ≡ 0). z (s.same ∙ f) in
    simp (s.digit, le-leb _ _ s.fits, ne_eqb _ _ y)

stays-zero : (v b n : ℕ) → append_of v b ≡ says value (n ∷ []) → n ≡ 0 → goes_on v b ≡ false
unfolding goes_on
stays-zero v b n e z =
    let s = value-so v b n e in
    let y : with_digit v b ≡ 0 = sym s.same ∙ z in
    simp (s.digit, le-leb _ _ s.fits, eq-eqb _ _ y)

-- a number that goes on is answered with its value
goes-on-so : (v b : ℕ) → goes_on v b ≡ true → append_of v b ≡ says value (with_digit v b ∷ [])
unfolding goes_on append_of
goes-on-so v b = go (is_digit b) (leb (with_digit v b) largest_number) refl
  where
    go : (x y : Bool) → leb (with_digit v b) largest_number ≡ y → (x && y && not (eqb (with_digit v b) 0)) ≡ true
        → if x then (if ltb largest_number (with_digit v b) then says too_large [] else says value (with_digit v b ∷ [])) else says no_digit []
        ≡ says value (with_digit v b ∷ [])
    go true true f e = rw (le-ltb _ _ (leb-true _ _ f))
    go true false f e = let k : ◌≡◌ {A = ℕ} 0 1 = cc in absurd (omega arith)
    go false y f e = let k : ◌≡◌ {A = ℕ} 0 1 = cc in absurd (omega arith)

no-digit-stops : (v b : ℕ) → append_of v b ≡ says no_digit [] → goes_on v b ≡ false
no-digit-stops v b e = go (goes_on v b) refl
  where
    go : (x : Bool) → goes_on v b ≡ x → x ≡ false
    go true f = let w = which-of (sym e ∙ goes-on-so v b f) in let z : ◌≡◌ {A = ℕ} 0 1 = cc in absurd (omega arith)
    go false f = refl

too-large-stops : (v b : ℕ) → append_of v b ≡ says too_large [] → goes_on v b ≡ false
too-large-stops v b e = go (goes_on v b) refl
  where
    go : (x : Bool) → goes_on v b ≡ x → x ≡ false
    go true f = let w = which-of (sym e ∙ goes-on-so v b f) in let z : ◌≡◌ {A = ℕ} 0 1 = cc in absurd (omega arith)
    go false f = refl

-- ---- a number's line: w is what the whole line gives, i digits are passed, v is their value

further-none : (x : Line) → further 0 x ≡ x
unfolding further
further-none x = ap (λ (n : ℕ). record { value = x.value; size = n }) (at x.size)
  where
    at : (n : ℕ) → if eqb n 0 then 0 else 0 + n ≡ n
    at zero = refl
    at (suc n) = let a : eqb (suc n) 0 ≡ false = ne_eqb _ _ (λ (e : suc n ≡ 0). omega arith) in simp a (zero-add (suc n))

further-further : (i : ℕ) (x : Line) → further i (further 1 x) ≡ further (i + 1) x
unfolding further
further-further i x = ap (λ (n : ℕ). record { value = x.value; size = n }) (at x.size)
  where
    at : (n : ℕ) → if eqb (if eqb n 0 then 0 else 1 + n) 0 then 0 else i + (if eqb n 0 then 0 else 1 + n) ≡ if eqb n 0 then 0 else i + 1 + n
    at zero = refl
    at (suc n) =
        let a : eqb (suc n) 0 ≡ false = ne_eqb _ _ (λ (e : suc n ≡ 0). omega arith) in
        let b : eqb (1 + suc n) 0 ≡ false = ne_eqb _ _ (λ (e : 1 + suc n ≡ 0). omega arith) in
        simp (a, b) (omega arith)

pub line-start : (l : List ℕ) → further 0 (line_from 0 (drop 0 l)) ≡ line_of l
line-start l = further-none (line_from 0 l)

module _ (l : List ℕ) (w : Line) (v i : ℕ) (p : further i (line_from v (drop i l)) ≡ w) where
  pub line-end : length l ≤ i → record { value = 0; size = 0 } ≡ w
  unfolding further line_from
  line-end h = rw (drop_of_length-le l h) at p

  pub line-feed : i < length l → get_or l i 0 ≡ line_feed → record { value = v; size = i + 1 } ≡ w
  unfolding further line_from
  line-feed h z = simp (eq-eqb _ _ z) at (rw (front l i h) at p)

  stops : i < length l → (get_or l i 0 ≡ line_feed → ⊥) → goes_on v (get_or l i 0) ≡ false → record { value = 0; size = 0 } ≡ w
  unfolding further line_from
  stops h z f = simp (ne_eqb _ _ z, f) at (rw (front l i h) at p)

  goes : i < length l → (get_or l i 0 ≡ line_feed → ⊥) → goes_on v (get_or l i 0) ≡ true
      → further (i + 1) (line_from (with_digit v (get_or l i 0)) (drop (i + 1) l)) ≡ w
  unfolding line_from
  goes h z f = rw (← further-further) (simp (ne_eqb _ _ z, f) at (rw (front l i h) at p))

  module _ (a : Result ℕ DigitError) (h : i < length l) (z : get_or l i 0 ≡ line_feed → ⊥) (q : appended_words a ≡ append_of v (get_or l i 0)) where
    pub line-no-digit : a ≡ Err NoDigit → record { value = 0; size = 0 } ≡ w
    unfolding appended_words
    line-no-digit e = stops h z (no-digit-stops v (get_or l i 0) (sym q ∙ ap appended_words e))

    pub line-large : a ≡ Err TooLarge → record { value = 0; size = 0 } ≡ w
    unfolding appended_words
    line-large e = stops h z (too-large-stops v (get_or l i 0) (sym q ∙ ap appended_words e))

    module _ (n : ℕ) (e : a ≡ Ok n) where
      says-value : append_of v (get_or l i 0) ≡ says value (n ∷ [])
      unfolding appended_words
      says-value = sym q ∙ ap appended_words e

      pub line-zero : n ≡ 0 → record { value = 0; size = 0 } ≡ w
      line-zero y = stops h z (stays-zero v (get_or l i 0) n says-value y)

      pub line-goes : (n ≡ 0 → ⊥) → further (i + 1) (line_from n (drop (i + 1) l)) ≡ w
      line-goes y = rw (value-so v (get_or l i 0) n says-value).same (goes h z (goes-on-to v (get_or l i 0) n says-value y))
