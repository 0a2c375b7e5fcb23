-- What the tests of the kinds tell, as code that has t as a test's answer.
use Prim.Native.Nat.{ℕ, ◌+◌, ◌-◌, ◌≤◌, ◌<◌, min}
use Rattle.std.proofs.Common.{is_lt, is_ge, nat_cmp}
use Rattle.std.specs.Prelude.{if◌then◌else◌}
use native.Mathlib.Omega.{arith}
use mathlib.Core.Path.{◌≡◌, sym, ◌∙◌}
use mathlib.Core.Bool.{Bool, true, false, not}
use lib.Dec.{ltb, leb, eqb}
use borrow.Author.Tests.{eqb-true, eqb-false, ltb-true, ltb-false, leb-true, leb-false, not-true, not-false}

module _ (a b : ℕ) (t : Bool) where
  pub equal-so : t ≡ eqb a b → t ≡ true → a ≡ b
  equal-so e h = eqb-true a b (sym e ∙ h)

  pub equal-not : t ≡ eqb a b → t ≡ false → a ≡ b → ⊥
  equal-not e h = eqb-false a b (sym e ∙ h)

  pub below-so : t ≡ ltb a b → t ≡ true → a < b
  below-so e h = ltb-true a b (sym e ∙ h)

  pub below-not : t ≡ ltb a b → t ≡ false → b ≤ a
  below-not e h = ltb-false a b (sym e ∙ h)

-- the order of a kind is that of its numbers
module _ (a b : ℕ) (t : Bool) (e : t ≡ is_lt (nat_cmp a b)) where
  pub less-so : t ≡ true → a < b
  less-so h = let f : true ≡ is_lt (nat_cmp a b) = sym h ∙ e in grind arith

  pub less-not : t ≡ false → b ≤ a
  less-not h = let f : false ≡ is_lt (nat_cmp a b) = sym h ∙ e in grind arith

module _ (a b : ℕ) (t : Bool) (e : t ≡ is_ge (nat_cmp a b)) where
  pub reach-so : t ≡ true → b ≤ a
  reach-so h = let f : true ≡ is_ge (nat_cmp a b) = sym h ∙ e in grind arith

  pub reach-not : t ≡ false → a < b
  reach-not h = let f : false ≡ is_ge (nat_cmp a b) = sym h ∙ e in grind arith

pub smaller-so : (a b n : ℕ) → n ≡ (if is_lt (nat_cmp b a) then b else a) → n ≡ min a b
smaller-so a b n e = grind arith

module _ (n : ℕ) (t : Bool) where
  pub some_left : t ≡ eqb n 0 → not t ≡ true → 0 < n
  some_left e h = let z = eqb-false n 0 (sym e ∙ not-true t h) in omega arith

  pub none_left : t ≡ eqb n 0 → not t ≡ false → n ≤ 0
  none_left e h = let z = eqb-true n 0 (sym e ∙ not-false t h) in omega arith

-- one fewer is fewer
pub fewer-left : (n k : ℕ) (t : Bool) → t ≡ eqb n 0 → not t ≡ true → k ≡ n - 1 → k < n
fewer-left n k t e h f = let z = some_left n t e h in omega arith

module _ (a b m : ℕ) (t : Bool) where
  pub room-not : t ≡ leb (a + b) m → not t ≡ true → m < a + b
  room-not e h = leb-false (a + b) m (sym e ∙ not-true t h)

  pub room-so : t ≡ leb (a + b) m → not t ≡ false → a + b ≤ m
  room-so e h = leb-true (a + b) m (sym e ∙ not-false t h)

pub ruleset tests = (equal-so, equal-not, below-so, below-not, less-so, less-not, reach-so, reach-not, some_left, none_left, fewer-left, room-not, room-so)
