-- Names compared: whole ones, and ten bytes as a number of eight and one of two. l is the slice, at the place, m the name.
use mathlib.Core.Path.{◌≡◌, refl, ap, ap₂, sym, ◌∙◌}
use mathlib.Core.List.{List, [], ◌∷◌, ◌++◌}
use mathlib.Core.Bool.{Bool, true, false}
use Prim.Native.Nat.{ℕ, suc, ◌+◌, ◌*◌, ◌-◌, ◌≤◌, ◌<◌}
use native.Mathlib.Omega.{arith}
use mir.Syntax.{w8}
use mir.Val.{Fits}
use lib.ListN.{length, get_or, take, drop, length-take, length-drop, get_or-eq_default}
use lib.Seq.{take_all, take-add, take-take, get_or-take, get_or-drop}
use lib.Dec.{eqb}
use borrow.Author.Tests.{eq-eqb, eqb-true, eqb-false}
use Rattle.std.specs.Prelude.{if◌then◌else◌}
use Rattle.wire.specs.Bytes.{same_bytes, AreBytes, as_number}
use Rattle.wire.proofs.Cases.{below_or_not}
use Rattle.wire.proofs.Numbers.{part_to_end}
use Rattle.wire.proofs.PartLaws.{drop-take, first-eight, two-behind}

-- ---- any two lists

same-tail : (l m : List ℕ) (t : Bool) → if t then same_bytes l m else false ≡ true → (t ≡ true) × (same_bytes l m ≡ true)
same-tail l m true e = (refl, e)
same-tail l m false e = let z : ◌≡◌ {A = ℕ} 0 1 = cc in absurd (omega arith)

pub same_length : (l m : List ℕ) → same_bytes l m ≡ true → length l ≡ length m
unfolding same_bytes
same_length [] [] e = refl
same_length [] (b ∷ m) e = let z : ◌≡◌ {A = ℕ} 0 1 = cc in absurd (omega arith)
same_length (a ∷ l) [] e = let z : ◌≡◌ {A = ℕ} 0 1 = cc in absurd (omega arith)
same_length (a ∷ l) (b ∷ m) e = ap suc (same_length l m (same-tail l m (eqb a b) e).1)

-- the same bytes are the same list
pub same-equal : (l m : List ℕ) → same_bytes l m ≡ true → l ≡ m
unfolding same_bytes
same-equal [] [] e = refl
same-equal [] (b ∷ m) e = let z : ◌≡◌ {A = ℕ} 0 1 = cc in absurd (omega arith)
same-equal (a ∷ l) [] e = let z : ◌≡◌ {A = ℕ} 0 1 = cc in absurd (omega arith)
same-equal (a ∷ l) (b ∷ m) e =
    let s = same-tail l m (eqb a b) e in
    let h = eqb-true a b s.0 in
    let i = same-equal l m s.1 in
    cc

pub same_refl : (l : List ℕ) → same_bytes l l ≡ true
unfolding same_bytes
same_refl [] = refl
same_refl (a ∷ l) = simp (eq-eqb a a refl) (same_refl l)

pub alike : (a b : List ℕ) → a ≡ b → same_bytes a b ≡ true
alike a b e = rw e (same_refl b)

pub false-or-true : (t : Bool) → (t ≡ true → ⊥) → false ≡ t
false-or-true true f = absurd (f refl)
false-or-true false f = refl

-- lists that differ haven't the same bytes
pub different : (a b : List ℕ) → (a ≡ b → ⊥) → same_bytes a b ≡ false
different a b z = sym (false-or-true (same_bytes a b) (λ e. z (same-equal a b e)))

-- ---- a whole name: t is what comparing the first ten bytes gave

module _ (l m : List ℕ) where
  pub name-unlike : (length l ≡ 10 → ⊥) → length m ≡ 10 → false ≡ same_bytes l m
  name-unlike h n = false-or-true (same_bytes l m) (λ e. h (same_length l m e ∙ n))

  pub name-whole : (t : Bool) → length l ≡ 10 → t ≡ same_bytes (take 10 (drop 0 l)) m → t ≡ same_bytes l m
  name-whole t h e = rw (take_all 10 l (omega arith)) at e

-- ---- ten bytes at a place

abbrev ten : List ℕ → ℕ → List ℕ
ten l at = take 10 (drop at l)

module _ (l : List ℕ) (at : ℕ) (m : List ℕ) where
  pub same-short : length m ≡ 10 → length l < at + 10 → false ≡ same_bytes (ten l at) m
  same-short n h = false-or-true (same_bytes (ten l at) m) (λ e. let k = same_length (ten l at) m e in omega (arith, length-take 10 (drop at l), length-drop at l))

  pub same-beyond : length m ≡ 10 → length l < at → false ≡ same_bytes (ten l at) m
  same-beyond n h = same-short n (omega arith)

  pub same-cut : length m ≡ 10 → at ≤ length l → length l - at < 10 → false ≡ same_bytes (ten l at) m
  same-cut n f h = same-short n (omega arith)

  -- those in front of what is left from the place on
  pub same-there : (t : Bool) → t ≡ same_bytes (take 10 (take (length l - at) (drop at l))) m → t ≡ same_bytes (ten l at) m
  same-there t e = rw (part_to_end at l) at e

  pub rest-room : at ≤ length l → 10 ≤ length l - at → 10 ≤ length (take (length l - at) (drop at l))
  rest-room f h = rw (part_to_end at l, length-drop at l) h

-- ---- ten bytes as a number of eight and one of two: bytes make one number alone

one-digit : (x y a b : ℕ) → a < 256 → b < 256 → x * 256 + a ≡ y * 256 + b → (x ≡ y) × (a ≡ b)
one-digit x y a b h i e = (omega arith, omega arith)

as-number : (l m : List ℕ) → AreBytes l → AreBytes m → length l ≡ length m → as_number l ≡ as_number m → l ≡ m
unfolding as_number
as-number [] [] h i n e = refl
as-number [] (b ∷ m) h i n e = absurd (omega arith)
as-number (a ∷ l) [] h i n e = absurd (omega arith)
as-number (a ∷ l) (b ∷ m) h i n e =
    let d = one-digit (as_number l) (as_number m) a b (h 0) (i 0) e in
    let k = as-number l m (λ j. h (suc j)) (λ j. i (suc j)) (omega arith) d.0 in
    ap₂ (λ (x : ℕ) (y : List ℕ). x ∷ y) d.1 k

bytes_drop : (k : ℕ) (l : List ℕ) → AreBytes l → AreBytes (drop k l)
bytes_drop k l h i = rw (get_or-drop k l i 0) (h (k + i))

bytes_take : (k : ℕ) (l : List ℕ) → AreBytes l → AreBytes (take k l)
bytes_take k l h i = below_or_not _ i k (λ j. rw (get_or-take k l i 0 j) (h i))
    (λ j. let e : get_or (take k l) i 0 ≡ 0 = get_or-eq_default (take k l) 0 (omega (arith, length-take k l)) in omega arith)

-- as the code reads them
pub eight-so : (l : List ℕ) (r : ℕ) → 10 ≤ length l
    → r ≡ ((((((get_or l 7 0 * 256 + get_or l 6 0) * 256 + get_or l 5 0) * 256 + get_or l 4 0) * 256 + get_or l 3 0) * 256 + get_or l 2 0) * 256 + get_or l 1 0) * 256 + get_or l 0 0
    → r ≡ as_number (take 8 l)
unfolding as_number
eight-so l r h e = e ∙ rw (← first-eight l (omega arith)) (omega arith)

pub two-so : (l : List ℕ) (r : ℕ) → 10 ≤ length l → r ≡ get_or l 9 0 * 256 + get_or l 8 0 → r ≡ as_number (take 2 (drop 8 l))
unfolding as_number
two-so l r h e = e ∙ rw (← two-behind l h) (omega arith)

-- what the elements of a slice are known to be
module _ (l m : List ℕ) (y : (i : ℕ) → Fits w8 (get_or l i 0)) (z : (i : ℕ) → Fits w8 (get_or m i 0)) (h : 10 ≤ length l) (n : length m ≡ 10) (p q : ℕ)
    (e : p ≡ as_number (take 8 l)) (f : q ≡ as_number (take 8 m)) where
  a : AreBytes l
  a i = (y i).fits

  b : AreBytes m
  b i = (z i).fits

  -- the first ten bytes, in two parts
  parted : (k : List ℕ) → take 10 k ≡ take 8 k ++ take 2 (drop 8 k)
  parted k = take-add 8 2 k

  all-ten : take 10 m ≡ m
  all-ten = take_all 10 m (omega arith)

  -- the parts of bytes that begin with the name are the name's
  first-same : same_bytes (take 10 l) m ≡ true → take 8 l ≡ take 8 m
  first-same s = sym (take-take 8 10 l (omega arith)) ∙ ap (take 8) (same-equal (take 10 l) m s)

  rest-same : same_bytes (take 10 l) m ≡ true → take 2 (drop 8 l) ≡ take 2 (drop 8 m)
  rest-same s = sym (drop-take 8 10 l) ∙ ap (drop 8) (same-equal (take 10 l) m s ∙ sym all-ten) ∙ drop-take 8 10 m

  pub begins-unlike : (p ≡ q → ⊥) → false ≡ same_bytes (take 10 l) m
  begins-unlike d = false-or-true (same_bytes (take 10 l) m) (λ s. d (e ∙ ap as_number (first-same s) ∙ sym f))

  module _ (u v : ℕ) (g : p ≡ q) (i : u ≡ as_number (take 2 (drop 8 l))) (j : v ≡ as_number (take 2 (drop 8 m))) where
    both_so : u ≡ v → take 10 l ≡ m
    both_so c =
        let first = as-number (take 8 l) (take 8 m) (bytes_take 8 l a) (bytes_take 8 m b) (omega (arith, length-take 8 l, length-take 8 m)) (sym e ∙ g ∙ f) in
        let rest =
        as-number (take 2 (drop 8 l)) (take 2 (drop 8 m)) (bytes_take 2 (drop 8 l) (bytes_drop 8 l a)) (bytes_take 2 (drop 8 m) (bytes_drop 8 m b))
        (omega (arith, length-take 2 (drop 8 l), length-take 2 (drop 8 m), length-drop 8 l, length-drop 8 m))
        (sym i ∙ c ∙ j) in
        parted l ∙ rw (first, rest) (sym (parted m) ∙ all-ten)

    pub begins-like : eqb u v ≡ same_bytes (take 10 l) m
    begins-like = go (eqb u v) refl
      where
        go : (t : Bool) → eqb u v ≡ t → t ≡ same_bytes (take 10 l) m
        go true x = rw (both_so (eqb-true _ _ x)) (sym (same_refl m))
        go false x = false-or-true (same_bytes (take 10 l) m) (λ s. eqb-false _ _ x (i ∙ ap as_number (rest-same s) ∙ sym j))
