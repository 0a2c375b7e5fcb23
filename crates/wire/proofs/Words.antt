-- Equal words are equal in each part; and words that can be read back tell all answers apart.
use mathlib.Core.Path.{◌≡◌, ap, sym, ◌∙◌}
use Rattle.wire.specs.Words.{Words, Injective}

module _ {K : Type 0} {a b : Words K} (e : a ≡ b) where
  pub which-of : a.which ≡ b.which
  which-of = ap (λ (w : Words K). w.which) e

  pub refusal-of : a.refusal ≡ b.refusal
  refusal-of = ap (λ (w : Words K). w.refusal) e

  pub values-of : a.values ≡ b.values
  values-of = ap (λ (w : Words K). w.values) e

pub read_back : {A B : Type 0} (f : A → B) (g : B → A) → ((a : A) → g (f a) ≡ a) → Injective f
read_back f g back a b e = sym (back a) ∙ ap g e ∙ back b
