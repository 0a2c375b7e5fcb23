-- What is promised of noting numbers in lent words.
use Rattle.std.specs.Prelude.{List, [], ◌∷◌}
use Rattle.missing_ranges.specs.Edges.{range}
use Rattle.missing_ranges.specs.Meaning.{Said, said, ListsExactly, JustOne, Exactly, TotalIsExact, RefusesTooMany}

-- ---- an example: from 1; data 1 and 2, data 5, heartbeat 9, data 2 to 5, data 7

abbrev pub example : List Said
example = said 1 3 ∷ said 5 6 ∷ said 9 9 ∷ said 2 6 ∷ said 7 8 ∷ []

-- 6 and 8 are missing, and that list says so
pub record NotVacuous : Type 0 where
  pub lists : ListsExactly 1 example (range 6 6 ∷ range 8 8 ∷ [])

-- a tool that lists nothing, one that lists two ranges that touch, and one that forgets a range when it is split, each
-- break it
pub record NotWeak : Type 0 where
  pub lists_nothing : ListsExactly 1 example [] → ⊥
  pub ranges_touch : ListsExactly 1 (said 4 4 ∷ []) (range 1 1 ∷ range 2 3 ∷ []) → ⊥
  pub forgets_a_half : ListsExactly 1 (said 5 5 ∷ said 2 4 ∷ []) (range 4 4 ∷ []) → ⊥

pub record MissingPromises : Type 0 where
  pub exactly : Exactly
  pub just_one : JustOne
  pub total_is_exact : TotalIsExact
  pub refuses_too_many : RefusesTooMany
  pub not_vacuous : NotVacuous
  pub not_weak : NotWeak
