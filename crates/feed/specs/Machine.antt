-- A receiver, whatever it keeps, and what it delivers over a list.
use Rattle.std.specs.Prelude.{ℕ, List, [], ◌∷◌, ◌++◌, Bool}
use Rattle.feed.specs.Session.{Message}

-- it takes inputs of a type E one by one: what it is after one, what that one delivers, the receiver's number, whether
-- it is ended
pub record Machine (E : Type 0) : Type 1 where
  pub State : Type 0
  pub step : State → E → State
  pub gives : State → E → List Message
  pub number : State → ℕ
  pub ended : State → Bool

module _ {E : Type 0} (m : Machine E) where
  -- the first of the list meets the receiver as it is given, each later one the receiver that the one before left
  unfoldable pub after : m.State → List E → m.State
  after r [] = r
  after r (e ∷ es) = after (m.step r e) es

  unfoldable pub delivered : m.State → List E → List Message
  delivered r [] = []
  delivered r (e ∷ es) = m.gives r e ++ delivered (m.step r e) es

  -- the receiver's number after a list
  abbrev pub number_after : m.State → List E → ℕ
  number_after r es = m.number (after r es)
