-- Laws of the parts of a slice l.
use mathlib.Core.Path.{◌≡◌, refl, ap, sym, ◌∙◌}
use mathlib.Core.List.{List, [], ◌∷◌}
use Prim.Native.Nat.{ℕ, zero, suc, ◌+◌, ◌-◌, ◌≤◌, ◌<◌, min}
use native.Mathlib.Omega.{arith}
use lib.ListN.{length, get_or, take, drop, replicate, length-drop, drop_of_length-le}
use lib.Seq.{take_all, take-nil, drop-cons, length-take-le}
use borrow.Author.Tests.{le-ltb, lt-ltb}
use Rattle.wire.proofs.Cases.{below_or_not}
use Rattle.wire.specs.Parts.{first_bytes}

-- ---- the front without its own front

pub drop-take : (n k : ℕ) (l : List ℕ) → drop n (take k l) ≡ take (k - n) (drop n l)
drop-take zero k l = let e : k - 0 ≡ k = omega arith in rw e refl
drop-take (suc n) zero l = let e : 0 - suc n ≡ 0 = omega arith in rw e refl
drop-take (suc n) (suc k) [] = sym (take-nil (suc k - suc n))
drop-take (suc n) (suc k) (a ∷ l) = let e : suc k - suc n ≡ k - n = omega arith in rw e (drop-take n k l)

-- as many as there are are all
pub take-there : (l : List ℕ) (n k : ℕ) → n ≡ min (length l) k → take n l ≡ take k l
take-there l n k e =
    below_or_not _ k (length l) (λ h. let f : n ≡ k = omega arith in rw f)
    (λ h. take_all n l (omega arith) ∙ sym (take_all k l h))

-- ---- at a place

module _ (l : List ℕ) (at size : ℕ) where
  pub part_none : length l < at → take 0 l ≡ take size (drop at l)
  part_none h = rw (drop_of_length-le l {i = at} (omega arith), take-nil size) refl

  pub part-rest : at ≤ length l → length l - at < size → take (length l - at) (drop at l) ≡ take size (drop at l)
  part-rest h f =
      let e = length-drop at l in
      take_all (length l - at) (drop at l) (omega arith) ∙ sym (take_all size (drop at l) (omega arith))

  pub part-all : at ≤ length l → size ≤ length l - at → take (at + size - at) (drop at l) ≡ take size (drop at l)
  part-all h f = let e : at + size - at ≡ size = omega arith in ap (λ (k : ℕ). take k (drop at l)) e

-- ---- the first ones

pub first-there : (k : ℕ) (l : List ℕ) → k ≤ length l → first_bytes k l ≡ take k l
unfolding first_bytes
first-there k l h = simp (le-ltb _ _ h)

pub too_few : (k : ℕ) (l : List ℕ) → length l < k → replicate k 0 ≡ first_bytes k l
unfolding first_bytes
too_few k l h = simp (lt-ltb _ _ h)

pub name-ten : (l : List ℕ) → length (first_bytes 10 l) ≡ 10
unfolding first_bytes
name-ten l = below_or_not _ (length l) 10 (λ h. rw (lt-ltb (length l) 10 h) refl) (λ h. rw (le-ltb (length l) 10 h) (length-take-le 10 l h))

-- so many bytes from a place on, one by one
bytes_from : ℕ → ℕ → List ℕ → List ℕ
bytes_from i zero l = []
bytes_from i (suc k) l = get_or l i 0 ∷ bytes_from (suc i) k l

one_by_one : (k i : ℕ) (l : List ℕ) → i + k ≤ length l → bytes_from i k l ≡ take k (drop i l)
unfolding bytes_from
one_by_one zero i l h = refl
one_by_one (suc k) i l h = rw (drop-cons l i 0 (omega arith)) (ap (λ (m : List ℕ). get_or l i 0 ∷ m) (one_by_one k (suc i) l (omega arith)))

pub first-eight : (l : List ℕ) → 8 ≤ length l
    → get_or l 0 0 ∷ get_or l 1 0 ∷ get_or l 2 0 ∷ get_or l 3 0 ∷ get_or l 4 0 ∷ get_or l 5 0 ∷ get_or l 6 0 ∷ get_or l 7 0 ∷ [] ≡ take 8 l
unfolding bytes_from
first-eight l h = one_by_one 8 0 l h

pub two-behind : (l : List ℕ) → 10 ≤ length l → get_or l 8 0 ∷ get_or l 9 0 ∷ [] ≡ take 2 (drop 8 l)
unfolding bytes_from
two-behind l h = one_by_one 2 8 l h

-- the first ones as a chunk
pub first-chunk : (k : ℕ) (l m : List ℕ) → k ≤ length l → m ≡ take k l → m ≡ first_bytes k l
first-chunk k l m h e = e ∙ sym (first-there k l h)
