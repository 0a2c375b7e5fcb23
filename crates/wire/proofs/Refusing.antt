-- What a check answers by its ground, as the code has it; and what its answer tells of the ground.
use mathlib.Core.Path.{◌≡◌, refl, ap, sym, ◌∙◌}
use mathlib.Core.Bool.{Bool, true, false}
use Prim.Native.Nat.{ℕ}
use native.Mathlib.Omega.{arith}
use lib.Dec.{eqb}
use borrow.Author.Tests.{eq-eqb, eqb-true}
use Rattle.std.proofs.lemmas.Result.{err_from_is_err_and}
use Rattle.std.specs.Prelude.{IsErrAnd, Result, Ok, Err, ⊤, if◌then◌else◌}
use Rattle.wire.specs.declared.refusal.Refusal.{Refusal}
use Rattle.wire.specs.Words.{refused_by}

-- it passes where the ground is 0
pub passes : (g : ℕ) → g ≡ 0 → Ok tt ≡ refused_by g
unfolding refused_by
passes g e = rw (eq-eqb g 0 e) refl

pub passes-so : (g : ℕ) → 0 ≡ g → Ok tt ≡ refused_by g
passes-so g e = passes g (sym e)

-- and refuses by any other
pub refuses-by : (g : ℕ) (r : Refusal) → r.number ≡ g → eqb r.number 0 ≡ false → Err r ≡ refused_by g
unfolding refused_by
refuses-by g r e f = rw (← e, f) refl

-- what a check that passed tells of its ground, and one that didn't
is-pass : Result ⊤ Refusal → ℕ
is-pass (Ok u) = 0
is-pass (Err r) = 1

pub no-ground : (g : ℕ) (u : ⊤) → Ok u ≡ refused_by g → g ≡ 0
unfolding refused_by is-pass
no-ground g u e = go (eqb g 0) refl (ap is-pass e)
  where
    go : (b : Bool) → eqb g 0 ≡ b → 0 ≡ is-pass (if b then Ok tt else Err (record { number = g })) → g ≡ 0
    go true f h = eqb-true g 0 f
    go false f h = absurd (omega arith)

its-number : Result ⊤ Refusal → ℕ
its-number (Ok u) = 0
its-number (Err r) = r.number

pub its-ground : (g : ℕ) (r : Refusal) → Err r ≡ refused_by g → r.number ≡ g
unfolding refused_by its-number
its-ground g r e = go (eqb g 0) refl (ap its-number e)
  where
    go : (b : Bool) → eqb g 0 ≡ b → r.number ≡ its-number (if b then Ok tt else Err (record { number = g })) → r.number ≡ g
    go true f h = h ∙ sym (eqb-true g 0 f)
    go false f h = h

pub a-ground : (g : ℕ) (r : Refusal) → Err r ≡ refused_by g → g ≡ 0 → ⊥
unfolding refused_by is-pass
a-ground g r e z = let k = ap is-pass (e ∙ sym (passes g z)) in absurd (omega arith)

-- the same of a check's answer s
pub checked : (s : Result ⊤ Refusal) (u : ⊤) (g : ℕ) → s ≡ refused_by g → s ≡ Ok u → g ≡ 0
checked s u g e d = no-ground g u (sym d ∙ e)

pub ground-of : (s : Result ⊤ Refusal) (r : Refusal) (g : ℕ) → s ≡ refused_by g → s ≡ Err r → r.number ≡ g
ground-of s r g e d = its-ground g r (sym d ∙ e)

pub has-ground : (s : Result ⊤ Refusal) (r : Refusal) (g : ℕ) → s ≡ refused_by g → s ≡ Err r → g ≡ 0 → ⊥
has-ground s r g e d = a-ground g r (sym d ∙ e)

-- a refusal that is handed up by `?` is what the function answers
pub handed_up : {T : Type 0} (w : Result T Refusal) (r : Refusal) → IsErrAnd w (λ x. x ≡ r) → w ≡ Err r
handed_up w r e = let p = err_from_is_err_and w e in p.1 ∙ ap Err p.2

-- and by its ground it is refused, too
pub handed-by : (s w : Result ⊤ Refusal) (r : Refusal) (g : ℕ) → s ≡ refused_by g → s ≡ Err r → w ≡ Err r → w ≡ refused_by g
handed-by s w r g e d f = f ∙ sym d ∙ e

pub ruleset refusals = (handed_up, handed-by, passes, passes-so, refuses-by, checked, ground-of, has-ground)
