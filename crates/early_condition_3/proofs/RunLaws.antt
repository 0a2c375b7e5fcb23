-- Runs of the session's messages: as a list, and as what the model holds without a gap.
use Prim.Native.Nat.{ℕ, zero, suc, ◌+◌, ◌<◌, ◌≤◌}
use mathlib.Core.Path.{◌≡◌, refl, sym, ap, ◌∙◌}
use mathlib.Core.List.{List, [], ◌∷◌, ◌++◌}
use mathlib.Core.Bool.{true, false, true≢false}
use mathlib.Core.Option.{Option, none, some}
use mathlib.Core.Logic.{◌⊎◌, inl, inr}
use native.Mathlib.Omega.{arith}
use lib.ListN.{length, get_or}
use Rattle.wire.proofs.Cases.{below_or_not}
use Rattle.feed.specs.Session.{Message, Session, last_of, IsMessage, messages_from}
use Rattle.feed.proofs.Sorts.{run-true as list-true}
use Rattle.feed.proofs.FeedLaws.{join, none_from}
use Rattle.early_condition_3.proofs.Model.{is_held, follow}

-- a choice taken apart, the choice first
pub cases : {A B P : Type 0} → A ⊎ B → (A → P) → (B → P) → P
cases (inl a) f g = f a
cases (inr b) f g = g b

held-or : (o : Option Message) → (o ≡ none) ⊎ ((x : Message) × (o ≡ some x))
held-or none = inl refl
held-or (some x) = inr (x, refl)

pub has : (o : Option Message) → is_held o ≡ true → (x : Message) × (o ≡ some x)
has none e = absurd (true≢false (sym e))
has (some x) e = (x, refl)

one-true : (s : Session) (n : ℕ) (x : Message) → IsMessage s n x → x ∷ [] ≡ messages_from s n (n + 1)
one-true s n x t = list-true s n (x ∷ []) go 1 refl (omega arith)
  where
    go : (i : ℕ) → i < 1 → IsMessage s (n + i) (get_or (x ∷ []) i [])
    go zero h = let z : n + 0 ≡ n = omega arith in rw z t
    go (suc i) h = absurd (omega arith)

pub cons-true : (s : Session) (n : ℕ) (x : Message) (l : List Message) → 1 ≤ n → IsMessage s n x →
    l ≡ messages_from s (n + 1) (n + 1 + length l) → x ∷ l ≡ messages_from s n (n + suc (length l))
cons-true s n x l h t e =
    let z : n + suc (length l) ≡ n + 1 + length l = omega arith in
    rw z
    (ap (λ (y : List Message). x ∷ y) e
    ∙ (ap (λ (y : List Message). y ++ messages_from s (n + 1) (n + 1 + length l)) (one-true s n x t)
    ∙ join s n (n + 1) (n + 1 + length l) h (omega arith) (omega arith)))

-- ---- the run of held messages, as a derivation: the lemmas below go by its cases

module _ (held : ℕ → Option Message) where
  pub data Run : ℕ → ℕ → List Message → Type 0 where
    spent : {n : ℕ} → Run zero n []
    gap : {k n : ℕ} → held n ≡ none → Run (suc k) n []
    more : {k n : ℕ} {x : Message} {l : List Message} → held n ≡ some x → Run k (n + 1) l → Run (suc k) n (x ∷ l)

  pub runs : (k n : ℕ) → Run k n (follow held k n)
  unfolding follow
  runs zero n = spent
  runs (suc k) n = cases (held-or (held n)) (λ e. rw e (gap e)) (λ w. rw w.1 (more w.1 (runs k (n + 1))))

  -- each of the run is held
  pub run-has : {k n : ℕ} {l : List Message} → Run k n l → (j : ℕ) → n ≤ j → j < n + length l → is_held (held j) ≡ true
  run-has spent j a b = absurd (omega arith)
  run-has (gap e) j a b = absurd (omega arith)
  run-has (more {n = n} e r) j a b =
      below_or_not _ n j (λ h. run-has r j (omega arith) (omega arith))
      (λ h. let z : j ≡ n = omega arith in rw (z, e))

  -- and what comes after it isn't, unless the run was cut at k
  pub run-stop : {k n : ℕ} {l : List Message} → Run k n l → ((j : ℕ) → n + k ≤ j → is_held (held j) ≡ false) →
      is_held (held (n + length l)) ≡ false
  run-stop (spent {n = n}) f = f (n + 0) (omega arith)
  run-stop (gap {n = n} e) f = let z : n + 0 ≡ n = omega arith in rw (z, e)
  run-stop (more {k = k} {n = n} {l = l} e r) f =
      let z : n + suc (length l) ≡ n + 1 + length l = omega arith in
      rw z (run-stop r (λ j h. f j (omega arith)))

  module _ (s : Session) (true-held : (j : ℕ) (x : Message) → held j ≡ some x → IsMessage s j x) where
    pub run_end : {k n : ℕ} {l : List Message} → Run k n l → n ≤ last_of s + 1 → n + length l ≤ last_of s + 1
    run_end spent h = omega arith
    run_end (gap e) h = omega arith
    run_end (more {n = n} {x = x} e r) h = omega (arith, run_end r (omega (arith, (true-held n x e).to_last)))

    pub run-true : {k n : ℕ} {l : List Message} → Run k n l → 1 ≤ n → l ≡ messages_from s n (n + length l)
    run-true (spent {n = n}) h = let z : n + 0 ≡ n = omega arith in rw z (sym (none_from s n))
    run-true (gap {n = n} e) h = let z : n + 0 ≡ n = omega arith in rw z (sym (none_from s n))
    run-true (more {n = n} {x = x} {l = l} e r) h = cons-true s n x l h (true-held n x e) (run-true r (omega arith))

-- a run of what q holds too is no longer than q's
pub run-longer : {held also : ℕ → Option Message} {k n : ℕ} {l o : List Message} → Run held k n l → Run also k n o →
    ((j : ℕ) → n ≤ j → is_held (held j) ≡ true → is_held (also j) ≡ true) → length l ≤ length o
run-longer spent b f = omega arith
run-longer (gap e) b f = omega arith
run-longer (more {n = n} e r) (gap q) f =
    let z : is_held none ≡ true = rw q at (f n (omega arith) (rw e refl)) in absurd (true≢false (sym z))
run-longer (more e r) (more q o) f = omega (arith, run-longer r o (λ j h. f j (omega arith)))
