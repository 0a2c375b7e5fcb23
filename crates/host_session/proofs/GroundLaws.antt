-- The grounds of the front of a stream: 21 to 25.
use Prim.Native.Nat.{ℕ, ◌≤◌}
use mathlib.Core.List.{List}
use mathlib.Core.Path.{◌≡◌}
use native.Mathlib.Omega.{arith}
use Rattle.host_answers.specs.Answers.{RefusesOnly}

pub data Ground : ℕ → Type 0 where
  is-21 : Ground 21
  is-22 : Ground 22
  is-23 : Ground 23
  is-24 : Ground 24
  is-25 : Ground 25

pub ground-some : (r : ℕ) → Ground r → r ≡ 0 → ⊥
ground-some r is-21 e = omega arith
ground-some r is-22 e = omega arith
ground-some r is-23 e = omega arith
ground-some r is-24 e = omega arith
ground-some r is-25 e = omega arith

pub ground-most : (r : ℕ) → Ground r → r ≤ 25
ground-most r is-21 = omega arith
ground-most r is-22 = omega arith
ground-most r is-23 = omega arith
ground-most r is-24 = omega arith
ground-most r is-25 = omega arith

-- a list that has them all
pub record HasGrounds (gs : List ℕ) : Type 0 where
  pub has-21 : RefusesOnly 21 gs
  pub has-22 : RefusesOnly 22 gs
  pub has-23 : RefusesOnly 23 gs
  pub has-24 : RefusesOnly 24 gs
  pub has-25 : RefusesOnly 25 gs

pub ground-one-of : (r : ℕ) (gs : List ℕ) → HasGrounds gs → Ground r → RefusesOnly r gs
ground-one-of r gs h is-21 = h.has-21
ground-one-of r gs h is-22 = h.has-22
ground-one-of r gs h is-23 = h.has-23
ground-one-of r gs h is-24 = h.has-24
ground-one-of r gs h is-25 = h.has-25
