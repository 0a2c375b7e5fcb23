-- The bounds of a size, as the code tests them.
use Prim.Native.Nat.{ℕ, ◌≤◌, ◌<◌}
use mathlib.Core.Path.{◌≡◌}
use borrow.Author.Tests.{lt-ltb, le-ltb}
use Rattle.packing.specs.Fit.{size_ground}

module _ (size : ℕ) where
  pub size_small : size < 22 → 19 ≡ size_ground size
  unfolding size_ground
  size_small h = simp (lt-ltb _ _ h)

  pub size-large : 22 ≤ size → 65507 < size → 19 ≡ size_ground size
  unfolding size_ground
  size-large h i = simp (le-ltb _ _ h, lt-ltb _ _ i)

  pub size-kept : 22 ≤ size → size ≤ 65507 → 0 ≡ size_ground size
  unfolding size_ground
  size-kept h i = simp (le-ltb _ _ h, le-ltb _ _ i)
