-- What is lent: a state that is too short is refused first, and then edges that aren't as many words.
use Prim.Native.Nat.{ℕ, ◌≤◌, ◌<◌}
use mathlib.Core.List.{List, [], ◌∷◌}
use mathlib.Core.Path.{◌≡◌, refl, sym, ◌∙◌}
use native.Mathlib.Omega.{arith}
use lib.ListN.{length}
use lib.Dec.{ltb, eqb}
use borrow.Author.Tests.{lt-ltb, le-ltb, eq-eqb, ne_eqb}
use Rattle.std.specs.Prelude.{Result, Ok, Err, ⊤}
use Rattle.wire.specs.declared.refusal.Refusal.{Refusal}
use Rattle.wire.specs.Words.{refused_by}
use Rattle.wire.proofs.Refusing.{refuses-by, passes, no-ground, its-ground, a-ground}
use Rattle.wire.proofs.Cases.{below_or_not}
use Rattle.missing_ranges.specs.Notes.{room}
use Rattle.host_answers.specs.Answers.{short, is_one_of, RefusesOnly}
use Rattle.host_answers.proofs.AnswerLaws.{or-first, or-next}
use Rattle.host_answers.proofs.OnlyLaws.{only_if, only-or, only-short}
use Rattle.host_missing.specs.Reading.{missing_size}
use Rattle.exports_missing.specs.Calls.{edges_refusal, edges_ladder}

module _ (l es : List ℕ) (k : ℕ) where
  lent-short : k ≡ 41 → length l < missing_size → k ≡ edges_ladder l es
  unfolding short
  lent-short e h = e ∙ rw (lt-ltb (length l) missing_size h) (or-first 41 _ (λ z. omega arith))

  lent-edges : k ≡ 19 → missing_size ≤ length l → (length es ≡ room → ⊥) → k ≡ edges_ladder l es
  unfolding short edges_refusal
  lent-edges e h z = e ∙ rw (le-ltb (length l) missing_size h, ne_eqb (length es) room z) (or-next 0 19 refl)

  pub lent-good : k ≡ 0 → missing_size ≤ length l → length es ≡ room → k ≡ edges_ladder l es
  unfolding short edges_refusal
  lent-good e h z = e ∙ rw (le-ltb (length l) missing_size h, eq-eqb (length es) room z) (or-next 0 0 refl)

-- as the check has them
module _ (l es : List ℕ) where
  pub check-short : length l < missing_size → Err (record { number = 41 }) ≡ refused_by (edges_ladder l es)
  check-short h = refuses-by _ _ (lent-short l es 41 refl h) refl

  pub check-edges : missing_size ≤ length l → (length es ≡ room → ⊥) → Err (record { number = 19 }) ≡ refused_by (edges_ladder l es)
  check-edges h z = refuses-by _ _ (lent-edges l es 19 refl h z) refl

  pub check-good : missing_size ≤ length l → length es ≡ room → Ok tt ≡ refused_by (edges_ladder l es)
  check-good h z = passes _ (sym (lent-good l es 0 refl h z))

-- what its answer tells: s is what it answered, and k the code of its refusal
module _ (l es : List ℕ) (s : Result ⊤ Refusal) (e : s ≡ refused_by (edges_ladder l es)) where
  module _ (r : Refusal) (f : s ≡ Err r) (k : ℕ) (n : k ≡ r.number) where
    pub refused-ground : k ≡ edges_ladder l es
    refused-ground = n ∙ its-ground _ r (sym f ∙ e)

    pub refused-not : k ≡ 0 → ⊥
    refused-not z = a-ground _ r (sym f ∙ e) (sym refused-ground ∙ z)

  pub passed : ((r : Refusal) → s ≡ Err r → ⊥) → edges_ladder l es ≡ 0
  passed z = go s refl
    where
      go : (t : Result ⊤ Refusal) → s ≡ t → edges_ladder l es ≡ 0
      go (Ok u) f = no-ground _ u (sym f ∙ e)
      go (Err r) f = absurd (z r f)

-- where nothing is refused the state is long enough
pub lent-room : (l es : List ℕ) → edges_ladder l es ≡ 0 → missing_size ≤ length l
lent-room l es z =
    below_or_not _ (length l) missing_size (λ h. let e : ◌≡◌ {A = ℕ} 41 0 = lent-short l es 41 refl h ∙ z in absurd (omega arith)) (λ h. h)

lent-only : (l es : List ℕ) → RefusesOnly (edges_ladder l es) (19 ∷ 41 ∷ [])
unfolding edges_refusal is_one_of
lent-only l es =
    only-or (short (ltb (length l) missing_size)) (edges_refusal es) (19 ∷ 41 ∷ []) (only-short (ltb (length l) missing_size) (19 ∷ 41 ∷ []) refl)
    (only_if (eqb (length es) room) 0 19 (19 ∷ 41 ∷ []) refl refl)

-- as the code has them
module _ (l es : List ℕ) (k : ℕ) (e : k ≡ edges_ladder l es) where
  pub refused-only : RefusesOnly k (19 ∷ 41 ∷ [])
  refused-only = rw e (lent-only l es)

  pub lent_none : k ≡ 0 → edges_ladder l es ≡ 0
  lent_none z = sym e ∙ z

pub short-only : RefusesOnly 41 (19 ∷ 41 ∷ [])
unfolding is_one_of
short-only = refl

pub none_only : (r : ℕ) → r ≡ 0 → RefusesOnly r (19 ∷ 41 ∷ [])
unfolding is_one_of
none_only r e = rw e refl
