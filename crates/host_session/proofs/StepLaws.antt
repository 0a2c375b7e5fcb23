-- A step of either end: s is the session before it, g the ground that needs none, o what the step comes to.
use Prim.Native.Nat.{ℕ, ◌≤◌, ◌<◌}
use mathlib.Core.List.{List, []}
use mathlib.Core.Bool.{Bool, false}
use mathlib.Core.Path.{◌≡◌, refl, ap, sym, ◌∙◌}
use Rattle.wire.specs.Words.{says, refuses}
use Rattle.wire.proofs.Cases.{zero_or_not}
use Rattle.soupbintcp_session.specs.Answer.{SessionAnswerKind, wants_more, StepOutcome, stays, takes}
use Rattle.host_answers.specs.Answers.{or_else, short, state_ladder, behind_stateless, RefusesOnly}
use Rattle.host_answers.proofs.AnswerLaws.{or-first, or-next}
use Rattle.host_answers.proofs.LadderLaws.{behind-ladder}
use Rattle.host_answers.proofs.OnlyLaws.{only_none, only-state}

-- ---- by its cases: a refusal of its own is one of gs, and comes behind those that need no session

pub data Steps {S : Type 0} (s : S) (g : ℕ) (gs : List ℕ) (o : StepOutcome S) : Type 0 where
  waits : g ≡ 0 → o ≡ stays s (says wants_more []) → Steps s g gs o
  needs-none : (g ≡ 0 → ⊥) → RefusesOnly g gs → o ≡ stays s (refuses g) → Steps s g gs o
  refuses-own : (r : ℕ) → g ≡ 0 → 25 < r → RefusesOnly r gs → o ≡ stays s (refuses r) → Steps s g gs o
  moves : (k : ℕ) (kind : SessionAnswerKind) (vs : List ℕ) (t : S) → g ≡ 0 → (k ≡ 0 → ⊥) → o ≡ takes k (says kind vs) t
      → Steps s g gs o

refusal-so : {S : Type 0} {o x : StepOutcome S} → o ≡ x → o.reply.refusal ≡ x.reply.refusal
refusal-so {S} e = ap (λ (y : StepOutcome S). y.reply.refusal) e

after-so : {S : Type 0} {o x : StepOutcome S} → o ≡ x → o.after ≡ x.after
after-so {S} e = ap (λ (y : StepOutcome S). y.after) e

size-so : {S : Type 0} {o x : StepOutcome S} → o ≡ x → o.size ≡ x.size
size-so {S} e = ap (λ (y : StepOutcome S). y.size) e

module _ {S : Type 0} {s : S} {g : ℕ} {gs : List ℕ} {o : StepOutcome S} where
  -- a ground that needs no session is the refusal
  pub ground-first : Steps s g gs o → (g ≡ 0 → ⊥) → o.reply.refusal ≡ g
  ground-first (waits z e) n = absurd (n z)
  ground-first (needs-none m p e) n = refusal-so e
  ground-first (refuses-own r z b p e) n = absurd (n z)
  ground-first (moves k kind vs t z b e) n = absurd (n z)

  -- and each other one is behind them
  pub own_behind : Steps s g gs o → g ≡ 0 → (o.reply.refusal ≡ 0 → ⊥) → 25 < o.reply.refusal
  own_behind (waits z e) q n = absurd (n (refusal-so e))
  own_behind (needs-none m p e) q n = absurd (m q)
  own_behind (refuses-own r z b p e) q n = rw (refusal-so e) b
  own_behind (moves k kind vs t z b e) q n = absurd (n (refusal-so e))

  pub step-only : Steps s g gs o → RefusesOnly o.reply.refusal gs
  step-only (waits z e) = rw (refusal-so e) (only_none gs)
  step-only (needs-none m p e) = rw (refusal-so e) p
  step-only (refuses-own r z b p e) = rw (refusal-so e) p
  step-only (moves k kind vs t z b e) = rw (refusal-so e) (only_none gs)

  -- the ground that needs none
  pub ground-only : Steps s g gs o → RefusesOnly g gs
  ground-only (waits z e) = rw z (only_none gs)
  ground-only (needs-none m p e) = p
  ground-only (refuses-own r z b p e) = rw z (only_none gs)
  ground-only (moves k kind vs t z b e) = rw z (only_none gs)

  -- one that takes nothing changes nothing
  pub took-nothing : Steps s g gs o → o.size ≡ 0 → o.after ≡ s
  took-nothing (waits z e) q = after-so e
  took-nothing (needs-none m p e) q = after-so e
  took-nothing (refuses-own r z b p e) q = after-so e
  took-nothing (moves k kind vs t z n e) q = absurd (n (sym (size-so e) ∙ q))

  -- and one that takes something refuses nothing
  pub took-some : Steps s g gs o → (o.size ≡ 0 → ⊥) → o.reply.refusal ≡ 0
  took-some (waits z e) q = absurd (q (size-so e))
  took-some (needs-none m p e) q = absurd (q (size-so e))
  took-some (refuses-own r z b p e) q = absurd (q (size-so e))
  took-some (moves k kind vs t z n e) q = refusal-so e

-- ---- the ladder of a step whose state may be too short

pub none-short : (h : ℕ) → or_else (short false) h ≡ h
unfolding or_else short
none-short h = refl

module _ {S : Type 0} {s : S} {g : ℕ} {gs : List ℕ} {o : StepOutcome S} (d : Steps s g gs o) where
  pub step-ladder : (lacks : Bool) → g ≤ 25 → behind_stateless lacks 25 o.reply.refusal ≡ state_ladder g lacks o.reply.refusal
  step-ladder lacks up = behind-ladder lacks 25 g o.reply.refusal (ground-first d) up (own_behind d)

  -- with a state that is long enough it is the step's refusal
  pub ladder-open : state_ladder g false o.reply.refusal ≡ o.reply.refusal
  ladder-open =
      zero_or_not _ g (λ z. sym (or-next g _ z) ∙ none-short o.reply.refusal)
      (λ n. sym (or-first g _ n) ∙ sym (ground-first d n))

  pub ladder-only : (lacks : Bool) → RefusesOnly 41 gs → RefusesOnly (state_ladder g lacks o.reply.refusal) gs
  ladder-only lacks p = only-state g lacks o.reply.refusal gs (ground-only d) (step-only d) p
