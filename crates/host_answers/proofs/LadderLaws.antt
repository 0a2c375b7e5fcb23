-- The ladder of a call that is lent a state, which may be too short.
use Prim.Native.Nat.{ℕ, ◌≤◌, ◌<◌}
use mathlib.Core.Bool.{Bool, true, false}
use mathlib.Core.Path.{◌≡◌, refl, ap, sym, ◌∙◌}
use native.Mathlib.Omega.{arith}
use borrow.Author.Tests.{eq-eqb, ne_eqb, lt-ltb}
use Rattle.wire.specs.Refusals.{output_short}
use Rattle.wire.proofs.Cases.{zero_or_not}
use Rattle.host_answers.specs.Answers.{or_else, short, state_ladder, behind_stateless}
use Rattle.host_answers.proofs.AnswerLaws.{or-first, or-next, or-short-no, behind-own, behind-has}

behind-own-grounds : (lacks : Bool) (last h : ℕ) → ((h ≡ 0 → ⊥) → last < h) → behind_stateless lacks last h ≡ or_else (short lacks) h
unfolding behind_stateless short or_else
behind-own-grounds true last h f = zero_or_not _ h (λ z. rw (eq-eqb h 0 z) refl) (λ n. rw (ne_eqb h 0 n, lt-ltb last h (f n)) refl)
behind-own-grounds false last h f = refl

behind-ground : (lacks : Bool) (last g : ℕ) → (g ≡ 0 → ⊥) → g ≤ last → behind_stateless lacks last g ≡ g
behind-ground true last g n h = sym (behind-own true last g refl n h)
behind-ground false last g n h = sym (behind-has false last g refl)

-- those up to the last need no state: 41 comes behind them, and before the others
pub behind-ladder : (lacks : Bool) (last g h : ℕ) → ((g ≡ 0 → ⊥) → h ≡ g) → g ≤ last → (g ≡ 0 → (h ≡ 0 → ⊥) → last < h)
    → behind_stateless lacks last h ≡ state_ladder g lacks h
behind-ladder lacks last g h first up behind =
    zero_or_not _ g (λ z. behind-own-grounds lacks last h (behind z) ∙ or-next g _ z)
    (λ n. ap (behind_stateless lacks last) (first n) ∙ behind-ground lacks last g n up ∙ or-first g _ n)

-- a code of 0 is given only to a state that is long enough
never-zero : (g h : ℕ) → state_ladder g true h ≡ 0 → ⊥
unfolding or_else short
never-zero g h e = zero_or_not ⊥ g (λ z. let f : output_short ≡ 0 = rw (eq-eqb g 0 z) at e in omega arith) (λ n. n (rw (ne_eqb g 0 n) at e))

pub first-zero : (g h : ℕ) → or_else g h ≡ 0 → g ≡ 0
first-zero g h e = zero_or_not _ g (λ z. z) (λ n. or-first g h n ∙ e)

pub zero-long : (g h : ℕ) (lacks b : Bool) → or_else (state_ladder g lacks h) (short b) ≡ 0 → lacks ≡ false
zero-long g h true b e = absurd (never-zero g h (first-zero (state_ladder g true h) (short b) e))
zero-long g h false b e = refl

-- so that a second test of the state changes no code
pub short-once : (g h code r : ℕ) (lacks b : Bool) → code ≡ or_else (state_ladder g lacks h) (short b) → r ≡ or_else code (short lacks) → r ≡ code
short-once g h code r lacks b e f = zero_or_not _ code (λ z. f ∙ long (zero-long g h lacks b (sym e ∙ z))) (λ n. f ∙ sym (or-first code _ n))
  where
    long : lacks ≡ false → or_else code (short lacks) ≡ code
    long q = rw q (sym (or-short-no code))
