-- The two ways that a test of numbers can go.
use Prim.Native.Nat.{ℕ, ◌≤◌, ◌<◌}
use mathlib.Core.Path.{◌≡◌, refl}
use mathlib.Core.Bool.{Bool, true, false}
use lib.Dec.{ltb, eqb}
use borrow.Author.Tests.{ltb-true, ltb-false, eqb-true, eqb-false}

pub below_or_not : (P : Type 0) (a b : ℕ) → (a < b → P) → (b ≤ a → P) → P
below_or_not P a b f g = go (ltb a b) refl
  where
    go : (t : Bool) → ltb a b ≡ t → P
    go true e = f (ltb-true a b e)
    go false e = g (ltb-false a b e)

pub zero_or_not : (P : Type 0) (n : ℕ) → (n ≡ 0 → P) → ((n ≡ 0 → ⊥) → P) → P
zero_or_not P n f g = go (eqb n 0) refl
  where
    go : (t : Bool) → eqb n 0 ≡ t → P
    go true e = f (eqb-true n 0 e)
    go false e = g (eqb-false n 0 e)
