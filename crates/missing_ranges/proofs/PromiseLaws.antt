-- What `Missing::start` cites: the promises together, with an example and what breaks them.
use mathlib.Core.Path.{◌≡◌, refl, subst}
use mathlib.Core.List.{[], ◌∷◌}
use mathlib.Core.Bool.{true, false}
use Prim.Native.Nat.{ℕ}
use native.Mathlib.Omega.{arith}
use Rattle.missing_ranges.specs.Edges.{range, ranges_of, is_listed, rises_from, is_odd, halved, place_past, place_of, middle, replaced, without}
use Rattle.missing_ranges.specs.Notes.{later}
use Rattle.missing_ranges.specs.Meaning.{said, highest_of, is_carried, ListsExactly}
use Rattle.missing_ranges.specs.Promises.{example, NotVacuous, MissingPromises}
use Rattle.missing_ranges.proofs.MeaningLaws.{edges_over, all_ranges, lists-all}
use Rattle.missing_ranges.proofs.HoldLaws.{exactly, refuses_too_many}
use Rattle.missing_ranges.proofs.OneLaws.{just_one}
use Rattle.missing_ranges.proofs.TotalLaws.{total_is_exact}

-- ---- the example

example-ranges : all_ranges 1 example ≡ range 6 6 ∷ range 8 8 ∷ []
unfolding edges_over highest_of ranges_of without replaced middle place_past place_of halved is_odd later
example-ranges = refl

not_vacuous : NotVacuous
not_vacuous = record { lists = subst (ListsExactly 1 example) example-ranges (lists-all 1 example) }

-- ---- what breaks it

never : false ≡ true → ⊥
never e = let z : ◌≡◌ {A = ℕ} 0 1 = cc in absurd (omega arith)

nothing-listed : ListsExactly 1 example [] → ⊥
unfolding is_listed highest_of is_carried later
nothing-listed s = never (s.exactly 6)

ranges_touch : ListsExactly 1 (said 4 4 ∷ []) (range 1 1 ∷ range 2 3 ∷ []) → ⊥
unfolding rises_from
ranges_touch s = never s.apart

forgets_a_half : ListsExactly 1 (said 5 5 ∷ said 2 4 ∷ []) (range 4 4 ∷ []) → ⊥
unfolding is_listed highest_of is_carried later
forgets_a_half s = never (s.exactly 1)

-- ---- all

pub missing-promises : MissingPromises
missing-promises =
    record {
      exactly = exactly;
      just_one = just_one;
      total_is_exact = total_is_exact;
      refuses_too_many = refuses_too_many;
      not_vacuous = not_vacuous;
      not_weak =
          record { lists_nothing = nothing-listed; ranges_touch = ranges_touch; forgets_a_half = forgets_a_half };
    }
