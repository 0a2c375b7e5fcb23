-- The lengths of messages: their sum, one by one and part by part, against the bytes that they are to have.
use mathlib.Core.Path.{◌≡◌, refl}
use mathlib.Core.List.{List, [], ◌∷◌}
use mathlib.Core.Bool.{Bool, true, false}
use Prim.Native.Nat.{ℕ, zero, suc, ◌+◌, ◌*◌, ◌-◌, ◌≤◌, ◌<◌}
use native.Mathlib.Omega.{arith}
use native.Mathlib.Numerals.{add-one}
use lib.ListN.{length, get_or, take, drop, drop_of_length-le}
use lib.Seq.{drop-cons}
use lib.Dec.{eqb}
use borrow.Author.Tests.{le-leb, lt-leb, eq-eqb, ne_eqb, eqb-true, eqb-false}
use mir.Val.{Fits}
use mir.Syntax.{w32}
use Rattle.std.specs.Prelude.{Some, None}
use Rattle.moldudp64_writer.specs.Writer.{total, left_after}

-- the first n and the others make all
pub total-parts : (n : ℕ) (ks : List ℕ) → total (take n ks) + total (drop n ks) ≡ total ks
unfolding total
total-parts zero ks = omega arith
total-parts (suc n) [] = omega arith
total-parts (suc n) (k ∷ ks) = omega (arith, total-parts n ks)

total-from : (ks : List ℕ) (i : ℕ) → i < length ks → total (drop i ks) ≡ get_or ks i 0 + total (drop (i + 1) ks)
unfolding total
total-from ks i h = rw (add-one, drop-cons ks i 0 h)

total-none : (ks : List ℕ) (i : ℕ) → length ks ≤ i → total (drop i ks) ≡ 0
unfolding total
total-none ks i h = let d : drop i ks ≡ [] = drop_of_length-le ks {i = i} h in rw d

-- ---- `sum`: s is the sum of the first i

pub record Summing (ks : List ℕ) (s i : ℕ) : Type 0 where
  pub within : i ≤ length ks
  pub small : s ≤ 65535 * i
  pub makes : s + total (drop i ks) ≡ total ks

pub sum-start : (ks : List ℕ) → Summing ks 0 0
sum-start ks = record { within = omega arith; small = omega arith; makes = omega arith }

module _ (ks : List ℕ) (s i : ℕ) (c : Summing ks s i) where
  pub sum_room : i < length ks → length ks ≤ 65536 → get_or ks i 0 < 65536 → Fits w32 (s + get_or ks i 0)
  sum_room h few k = record { fits = let b = c.small in omega arith }

  pub sum-next : i < length ks → get_or ks i 0 < 65536 → Summing ks (s + get_or ks i 0) (i + 1)
  sum-next h k =
      let b = c.small in
      record { within = omega arith; small = omega arith; makes = omega (arith, c.makes, total-from ks i h) }

  pub sum-end : length ks ≤ i → s ≡ total ks
  sum-end h = omega (arith, c.makes, total-none ks i h)

-- ---- `left_after`: of b bytes so many are left for the lengths that are left, and t are those of the next n

module _ (ks rest : List ℕ) (b left : ℕ) (e : b + total rest ≡ left + total ks) where
  pub left-short : (n t : ℕ) → t ≡ total (take n rest) → left < t → None ≡ left_after ks b
  left-short n t f h =
      let p = total-parts n rest in
      let y : b < total ks = omega arith in
      rw (lt-leb _ _ y) refl

  pub left-next : (n t : ℕ) (tail : List ℕ) → t ≡ total (take n rest) → t ≤ left → tail ≡ drop n rest → b + total tail ≡ left - t + total ks
  left-next n t tail f h g = let p = total-parts n rest in rw g (omega arith)

  pub left_end : length rest ≡ 0 → Some left ≡ left_after ks b
  left_end h =
      let p = total-none rest 0 (omega arith) in
      let z : b - total ks ≡ left = omega arith in
      let y : total ks ≤ b = omega arith in
      rw (le-leb _ _ y, z) refl

-- ---- `add_up`

pub left-none : (a b : ℕ) → a ≤ b → eqb (b - a) 0 ≡ eqb a b
left-none a b h = go (eqb a b) refl
  where
    go : (t : Bool) → eqb a b ≡ t → eqb (b - a) 0 ≡ t
    go true e = let f = eqb-true a b e in eq-eqb (b - a) 0 (omega arith)
    go false e = let f = eqb-false a b e in ne_eqb (b - a) 0 (λ (z : b - a ≡ 0). f (omega arith))
