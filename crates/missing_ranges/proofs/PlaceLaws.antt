-- The place of a number among edges, looked for by halves.
use mathlib.Core.Path.{◌≡◌, refl, sym, ◌∙◌}
use mathlib.Core.List.{List}
use mathlib.Core.Bool.{Bool, true, false}
use Prim.Native.Nat.{ℕ, zero, suc, ◌+◌, ◌-◌, ◌/◌, ◌≤◌, ◌<◌}
use native.Mathlib.Omega.{arith}
use lib.ListN.{length, get_or, take}
use lib.Seq.{get_or-take}
use lib.Dec.{ltb, leb, eqb}
use borrow.Author.Tests.{lt-ltb, le-ltb, le-leb, lt-leb, eq-eqb, ne_eqb, ltb-true}
use Rattle.std.specs.Prelude.{if◌then◌else◌}
use Rattle.wire.proofs.Cases.{below_or_not}
use Rattle.missing_ranges.specs.Edges.{halved, place_past, place_of}

-- ---- steps enough give the same

pub fuel : (k m e : ℕ) (l : List ℕ) (lo hi : ℕ) → hi - lo ≤ k → hi - lo ≤ m → halved k e l lo hi ≡ halved m e l lo hi
unfolding halved
fuel zero zero e l lo hi h g = refl
fuel zero (suc m) e l lo hi h g = let z : hi ≤ lo = omega arith in rw (le-ltb _ _ z)
fuel (suc k) zero e l lo hi h g = let z : hi ≤ lo = omega arith in rw (le-ltb _ _ z)
fuel (suc k) (suc m) e l lo hi h g = go (ltb lo hi) refl (leb (get_or l (lo + (hi - lo) / 2) 0) e)
    (λ x. fuel k m e l (lo + (hi - lo) / 2 + 1) hi (omega arith) (omega arith))
    (λ x. fuel k m e l lo (lo + (hi - lo) / 2) (omega arith) (omega arith))
  where
    go : (t : Bool) → ltb lo hi ≡ t → (s : Bool)
        → (lo < hi → halved k e l (lo + (hi - lo) / 2 + 1) hi ≡ halved m e l (lo + (hi - lo) / 2 + 1) hi)
        → (lo < hi → halved k e l lo (lo + (hi - lo) / 2) ≡ halved m e l lo (lo + (hi - lo) / 2))
        → if t then (if s then halved k e l (lo + (hi - lo) / 2 + 1) hi else halved k e l lo (lo + (hi - lo) / 2)) else lo
        ≡ if t then (if s then halved m e l (lo + (hi - lo) / 2 + 1) hi else halved m e l lo (lo + (hi - lo) / 2)) else lo
    go true p true a b = a (ltb-true _ _ p)
    go true p false a b = b (ltb-true _ _ p)
    go false p s a b = refl

-- ---- one step, as the loop has it

module _ (e : ℕ) (l : List ℕ) (lo hi : ℕ) (h : lo < hi) where
  step-high : (k : ℕ) → k ≡ hi - lo → get_or l (lo + (hi - lo) / 2) 0 ≤ e
      → halved k e l lo hi ≡ halved (hi - (lo + (hi - lo) / 2 + 1)) e l (lo + (hi - lo) / 2 + 1) hi
  unfolding halved
  step-high zero q g = absurd (omega arith)
  step-high (suc k) q g =
      rw (lt-ltb _ _ h, le-leb _ _ g)
      (fuel k (hi - (lo + (hi - lo) / 2 + 1)) e l (lo + (hi - lo) / 2 + 1) hi (omega arith) (omega arith))

  step-low : (k : ℕ) → k ≡ hi - lo → e < get_or l (lo + (hi - lo) / 2) 0
      → halved k e l lo hi ≡ halved (lo + (hi - lo) / 2 - lo) e l lo (lo + (hi - lo) / 2)
  unfolding halved
  step-low zero q g = absurd (omega arith)
  step-low (suc k) q g =
      rw (lt-ltb _ _ h, lt-leb _ _ g)
      (fuel k (lo + (hi - lo) / 2 - lo) e l lo (lo + (hi - lo) / 2) (omega arith) (omega arith))

-- what is still to be looked through has the place among the first n
pub record Halving (e : ℕ) (l : List ℕ) (n lo hi : ℕ) : Type 0 where
  pub rising : lo ≤ hi
  pub within : hi ≤ n
  pub same : halved (hi - lo) e l lo hi ≡ place_past e l n

pub halving-start : (e : ℕ) (l : List ℕ) (n : ℕ) → Halving e l n 0 n
unfolding place_past
halving-start e l n =
    record { rising = omega arith; within = omega arith; same = fuel (n - 0) n e l 0 n (omega arith) (omega arith) }

pub middle-below : (lo hi : ℕ) → lo < hi → lo + (hi - lo) / 2 < hi
middle-below lo hi h = omega arith

pub halving-index : {e : ℕ} {l : List ℕ} {n lo hi : ℕ} → Halving e l n lo hi → lo < hi → n ≤ length l
    → lo + (hi - lo) / 2 < length l
halving-index {e} {l} {n} {lo} {hi} s h g = let w = s.within in let m = middle-below lo hi h in omega arith

pub halving-high : {e : ℕ} {l : List ℕ} {n lo hi : ℕ} → Halving e l n lo hi → lo < hi
    → get_or l (lo + (hi - lo) / 2) 0 ≤ e → Halving e l n (lo + (hi - lo) / 2 + 1) hi
halving-high {e} {l} {n} {lo} {hi} s h g =
    let m = middle-below lo hi h in
    record { rising = omega arith; within = s.within; same = sym (step-high e l lo hi h (hi - lo) refl g) ∙ s.same }

pub halving-low : {e : ℕ} {l : List ℕ} {n lo hi : ℕ} → Halving e l n lo hi → lo < hi
    → e < get_or l (lo + (hi - lo) / 2) 0 → Halving e l n lo (lo + (hi - lo) / 2)
halving-low {e} {l} {n} {lo} {hi} s h g =
    let m = middle-below lo hi h in
    let w = s.within in
    record { rising = omega arith; within = omega arith; same = sym (step-low e l lo hi h (hi - lo) refl g) ∙ s.same }

stop : (k e : ℕ) (l : List ℕ) (lo hi : ℕ) → hi ≤ lo → halved k e l lo hi ≡ lo
unfolding halved
stop zero e l lo hi h = refl
stop (suc k) e l lo hi h = rw (le-ltb _ _ h)

pub halving-end : {e : ℕ} {l : List ℕ} {n lo hi : ℕ} → Halving e l n lo hi → hi ≤ lo → lo ≡ place_past e l n
halving-end {e} {l} {n} {lo} {hi} s h = sym (stop (hi - lo) e l lo hi h) ∙ s.same

pub halving-less-high : (lo hi : ℕ) → lo < hi → hi - (lo + (hi - lo) / 2 + 1) < hi - lo
halving-less-high lo hi h = omega arith

pub halving-less-low : (lo hi : ℕ) → lo < hi → lo + (hi - lo) / 2 - lo < hi - lo
halving-less-low lo hi h = omega arith

-- ---- below a number

pub of_zero : (f : ℕ) (l : List ℕ) (n : ℕ) → f ≡ 0 → 0 ≡ place_of f l n
unfolding place_of
of_zero f l n h = rw (eq-eqb _ _ h)

pub of-past : (f : ℕ) (l : List ℕ) (n r : ℕ) → (f ≡ 0 → ⊥) → r ≡ place_past (f - 1) l n → r ≡ place_of f l n
unfolding place_of
of-past f l n r h p = rw (ne_eqb _ _ h) p

-- ---- the place is among them

halved-le : (k e : ℕ) (l : List ℕ) (lo hi : ℕ) → lo ≤ hi → halved k e l lo hi ≤ hi
unfolding halved
halved-le zero e l lo hi h = h
halved-le (suc k) e l lo hi h = go (ltb lo hi) refl (leb (get_or l (lo + (hi - lo) / 2) 0) e)
    (λ x. halved-le k e l (lo + (hi - lo) / 2 + 1) hi (omega arith))
    (halved-le k e l lo (lo + (hi - lo) / 2) (omega arith))
  where
    go : (t : Bool) → ltb lo hi ≡ t → (s : Bool)
        → (lo < hi → halved k e l (lo + (hi - lo) / 2 + 1) hi ≤ hi)
        → halved k e l lo (lo + (hi - lo) / 2) ≤ lo + (hi - lo) / 2
        → (if t then (if s then halved k e l (lo + (hi - lo) / 2 + 1) hi else halved k e l lo (lo + (hi - lo) / 2)) else lo)
        ≤ hi
    go true p true a b = a (ltb-true _ _ p)
    go true p false a b = let x = ltb-true _ _ p in let m = middle-below lo hi x in omega arith
    go false p s a b = h

pub past-le : (e : ℕ) (l : List ℕ) (n : ℕ) → place_past e l n ≤ n
unfolding place_past
past-le e l n = halved-le n e l 0 n (omega arith)

pub place-le : (f : ℕ) (l : List ℕ) (n : ℕ) → place_of f l n ≤ n
unfolding place_of
place-le f l n = go (eqb f 0) (past-le (f - 1) l n)
  where
    go : (b : Bool) → place_past (f - 1) l n ≤ n → (if b then 0 else place_past (f - 1) l n) ≤ n
    go true h = omega arith
    go false h = h

-- ---- and only the first n decide

halved-take : (k e : ℕ) (l : List ℕ) (n lo hi : ℕ) → hi ≤ n → halved k e (take n l) lo hi ≡ halved k e l lo hi
unfolding halved
halved-take zero e l n lo hi h = refl
halved-take (suc k) e l n lo hi h = below_or_not _ lo hi
    (λ x. let m : lo + (hi - lo) / 2 < n = omega arith in
    rw (get_or-take n l (lo + (hi - lo) / 2) 0 m, halved-take k e l n (lo + (hi - lo) / 2 + 1) hi h, halved-take k e l n lo (lo + (hi - lo) / 2) (omega arith)))
    (λ x. rw (le-ltb _ _ x))

pub past-take : (e : ℕ) (l : List ℕ) (n m : ℕ) → m ≤ n → place_past e (take n l) m ≡ place_past e l m
unfolding place_past
past-take e l n m h = halved-take m e l n 0 m h

pub place-take : (f : ℕ) (l : List ℕ) (n m : ℕ) → m ≤ n → place_of f (take n l) m ≡ place_of f l m
unfolding place_of
place-take f l n m h = rw (past-take (f - 1) l n m h)

-- ---- as the code of `plan_for` has it

pub past-within : (e : ℕ) (l : List ℕ) (n j : ℕ) → j ≡ place_past e l n → n ≤ length l → j ≤ length l
past-within e l n j p h = let w = past-le e l n in omega arith

pub past-among : (e : ℕ) (l : List ℕ) (n j : ℕ) → j ≡ place_past e l n → j ≤ n
past-among e l n j p = let w = past-le e l n in omega arith

pub place-among : (f : ℕ) (l : List ℕ) (n j : ℕ) → j ≡ place_of f l n → j ≤ n
place-among f l n j p = let w = place-le f l n in omega arith
