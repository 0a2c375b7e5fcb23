-- Which numbers a code can be.
use Prim.Native.Nat.{ℕ, ◌+◌, ◌≤◌}
use mathlib.Core.List.{List, [], ◌∷◌}
use mathlib.Core.Bool.{Bool, true, false}
use mathlib.Core.Path.{◌≡◌, refl, ◌∙◌}
use native.Mathlib.Omega.{arith}
use lib.ListN.{length}
use lib.Dec.{eqb, leb}
use borrow.Author.Tests.{eqb-true, leb-true}
use Rattle.std.specs.Prelude.{if◌then◌else◌}
use Rattle.wire.specs.Refusals.{output_short}
use Rattle.wire.specs.Words.{Words, refuses}
use Rattle.wire.specs.Output.{written_words, write_refusal, Writes}
use Rattle.wire.specs.Output.{Written}
use Rattle.wire.proofs.Words.{refusal-of}
use Rattle.wire.proofs.Outputs.{answer-refusal}
use Rattle.host_answers.specs.Answers.{or_else, short, unless_sized, state_ladder, is_one_of, RefusesOnly, AnswersWith}

-- no refusal
pub only_none : (gs : List ℕ) → RefusesOnly 0 gs
unfolding is_one_of
only_none gs = refl

-- one of two
pub only_if : (b : Bool) (x y : ℕ) (gs : List ℕ) → RefusesOnly x gs → RefusesOnly y gs → RefusesOnly (if b then x else y) gs
only_if true x y gs p q = p
only_if false x y gs p q = q

-- words, or a refusal
pub only-words : {K : Type 0} (b : Bool) (w : Words K) (x : ℕ) (gs : List ℕ) → w.refusal ≡ 0 → RefusesOnly x gs → RefusesOnly (if b then w else refuses x).refusal gs
only-words true w x gs e p = rw e (only_none gs)
only-words false w x gs e p = p

-- a ladder
pub only-or : (g h : ℕ) (gs : List ℕ) → RefusesOnly g gs → RefusesOnly h gs → RefusesOnly (or_else g h) gs
unfolding or_else
only-or g h gs p q = only_if (eqb g 0) h g gs q p

pub only-short : (b : Bool) (gs : List ℕ) → RefusesOnly 41 gs → RefusesOnly (short b) gs
unfolding short
only-short b gs p = only_if b output_short 0 gs p (only_none gs)

pub only-sized : (n k g h : ℕ) (gs : List ℕ) → RefusesOnly g gs → RefusesOnly h gs → RefusesOnly (unless_sized n k g h) gs
unfolding unless_sized
only-sized n k g h gs p q = only_if (eqb n k) h g gs q p

pub only-state : (g : ℕ) (b : Bool) (h : ℕ) (gs : List ℕ) → RefusesOnly g gs → RefusesOnly h gs → RefusesOnly 41 gs → RefusesOnly (state_ladder g b h) gs
only-state g b h gs p q s = only-or g (or_else (short b) h) gs p (only-or (short b) h gs (only-short b gs s) q)

-- ---- a call, whose ladder ends with 41

pub only_ending : (r g : ℕ) (b : Bool) (gs : List ℕ) → r ≡ or_else g (short b) → RefusesOnly g gs → RefusesOnly 41 gs → RefusesOnly r gs
only_ending r g b gs e p s = rw e (only-or g (short b) gs p (only-short b gs s))

pub answers-only : (r g : ℕ) (ws ws' vs gs : List ℕ) → AnswersWith r ws ws' g vs → RefusesOnly g gs → RefusesOnly 41 gs → RefusesOnly r gs
answers-only r g ws ws' vs gs a p s = only_ending r g _ gs a.returns p s

writer_only : (g : ℕ) (l bs gs : List ℕ) → RefusesOnly g gs → RefusesOnly 41 gs → RefusesOnly (write_refusal g l 0 bs) gs
unfolding write_refusal
writer_only g l bs gs p s = only_if (eqb g 0) _ g gs (only_if (leb (0 + length bs) (length l)) 0 output_short gs (only_none gs) s) p

-- a writer's answer that is reported
pub reported-only : (r g : ℕ) (b : Bool) (w : Written) (ws ws' vs l m bs gs : List ℕ) → AnswersWith r ws ws' (or_else (written_words w).refusal (short b)) vs → Writes w l m g 0 bs
    → RefusesOnly g gs → RefusesOnly 41 gs → RefusesOnly r gs
reported-only r g b w ws ws' vs l m bs gs a x p s =
    let e : (written_words w).refusal ≡ write_refusal g l 0 bs = refusal-of x.answers ∙ answer-refusal g l 0 bs in
    answers-only r _ ws ws' vs gs a (only-or (written_words w).refusal (short b) gs (rw e (writer_only g l bs gs p s)) (only-short b gs s)) s

-- ---- one list of numbers within another

unfoldable pub within : List ℕ → List ℕ → Bool
within [] hs = true
within (g ∷ gs) hs = if is_one_of g hs then within gs hs else false

in-other : (r : ℕ) (gs hs : List ℕ) → is_one_of r gs ≡ true → within gs hs ≡ true → is_one_of r hs ≡ true
unfolding is_one_of within
in-other r [] hs e w = let z : ◌≡◌ {A = ℕ} 0 1 = cc in absurd (omega arith)
in-other r (g ∷ gs) hs e w = go (eqb r g) refl e (is_one_of g hs) refl w (in-other r gs hs)
  where
    go : (b : Bool) → eqb r g ≡ b → (if b then true else is_one_of r gs) ≡ true → (c : Bool) → is_one_of g hs ≡ c → (if c then within gs hs else false) ≡ true
        → (is_one_of r gs ≡ true → within gs hs ≡ true → is_one_of r hs ≡ true)
        → is_one_of r hs ≡ true
    go b d x false f y k = let z : ◌≡◌ {A = ℕ} 0 1 = cc in absurd (omega arith)
    go true d x true f y k = rw (eqb-true r g d) f
    go false d x true f y k = k x y

pub only-within : (r : ℕ) (gs hs : List ℕ) → RefusesOnly r gs → within (0 ∷ gs) (0 ∷ hs) ≡ true → RefusesOnly r hs
only-within r gs hs e w = in-other r (0 ∷ gs) (0 ∷ hs) e w

-- ---- a list of numbers that are at most k

unfoldable pub at_most : ℕ → List ℕ → Bool
at_most k [] = true
at_most k (g ∷ gs) = if leb g k then at_most k gs else false

in-bound : (r k : ℕ) (gs : List ℕ) → is_one_of r gs ≡ true → at_most k gs ≡ true → r ≤ k
unfolding is_one_of at_most
in-bound r k [] e w = let z : ◌≡◌ {A = ℕ} 0 1 = cc in absurd (omega arith)
in-bound r k (g ∷ gs) e w = go (eqb r g) refl e (leb g k) refl w (in-bound r k gs)
  where
    go : (b : Bool) → eqb r g ≡ b → (if b then true else is_one_of r gs) ≡ true → (c : Bool) → leb g k ≡ c → (if c then at_most k gs else false) ≡ true
        → (is_one_of r gs ≡ true → at_most k gs ≡ true → r ≤ k)
        → r ≤ k
    go b d x false f y i = let z : ◌≡◌ {A = ℕ} 0 1 = cc in absurd (omega arith)
    go true d x true f y i = rw (eqb-true r g d) (leb-true g k f)
    go false d x true f y i = i x y

pub only-at-most : (r k : ℕ) (gs : List ℕ) → RefusesOnly r gs → at_most k (0 ∷ gs) ≡ true → r ≤ k
only-at-most r k gs e w = in-bound r k (0 ∷ gs) e w
