-- What is promised of every answer.
use Prim.Native.Nat.{ℕ, ◌+◌, ◌≤◌}
use mathlib.Core.List.{List, [], ◌∷◌, ◌++◌}
use mathlib.Core.Bool.{Bool, true, false}
use mathlib.Core.Path.{◌≡◌, refl, sym, ◌∙◌}
use native.Mathlib.Omega.{arith}
use lib.ListN.{length, drop}
use lib.Dec.{leb, eqb}
use borrow.Author.Tests.{leb-true, eqb-false, ne_eqb}
use Rattle.wire.proofs.Cases.{zero_or_not}
use Rattle.std.specs.Prelude.{if◌then◌else◌}
use Rattle.wire.specs.Refusals.{output_short}
use Rattle.wire.specs.Output.{put, write_refusal}
use Rattle.wire.proofs.Outputs.{put-room}
use Rattle.host_answers.specs.Answers.{or_else, short, RefusalChangesNothing, SuccessLaysItsWords, ShortIsLast, HostPromises}
use Rattle.host_answers.proofs.AnswerLaws.{or-first, success, no-success, has_room}

-- ---- a refusal

refusal-nothing : RefusalChangesNothing
refusal-nothing =
    record {
      words = λ r ws ws' g vs p z. p.words ∙ sym (no-success r _ ws z);
      writing = λ r ws ws' l l' g bs p z. (p.words ∙ sym (no-success r _ ws z), p.output ∙ sym (no-success r _ l z));
    }

-- ---- a success

-- laid at the front
front : (l bs : List ℕ) → length bs ≤ length l → put l 0 bs ≡ bs ++ drop (length bs) l
front l bs h =
    let z : 0 + length bs ≡ length bs = omega arith in
    put-room l 0 bs (omega arith) ∙ rw z

room : (g : ℕ) (l bs : List ℕ) → write_refusal g l 0 bs ≡ 0 → length bs ≤ length l
unfolding write_refusal
room g l bs = go (eqb g 0) refl (leb (0 + length bs) (length l)) refl
  where
    go : (b : Bool) → eqb g 0 ≡ b → (c : Bool) → leb (0 + length bs) (length l) ≡ c → if b then (if c then 0 else output_short) else g ≡ 0 → length bs ≤ length l
    go true d true f e = let h : 0 + length bs ≤ length l = leb-true _ _ f in omega arith
    go true d false f e = absurd (omega arith)
    go false d c f e = absurd (eqb-false g 0 d e)

-- a code of 0 is given only where the output has room
written-room : (r : ℕ) (b : Bool) (g : ℕ) (l bs : List ℕ) → r ≡ or_else (write_refusal g l 0 bs) (short b) → r ≡ 0 → length bs ≤ length l
written-room r b g l bs e z = room g l bs (zero_or_not _ (write_refusal g l 0 bs) (λ y. y) (λ y. or-first _ (short b) y ∙ sym e ∙ z))

success-lays : SuccessLaysItsWords
success-lays =
    record {
      words = λ r ws ws' g vs p z. p.words ∙ sym (success r _ _ ws z refl) ∙ front ws vs (has_room r g (length ws) (length vs) p.returns z);
      writing = λ r ws ws' l l' g bs p z. (
        p.words ∙ sym (success r _ _ ws z refl) ∙ front ws (length bs ∷ []) (has_room r (write_refusal g l 0 bs) (length ws) 1 p.returns z),
        p.output ∙ sym (success r _ _ l z refl) ∙ front l bs (written-room r _ g l bs p.returns z),
      );
    }

-- ---- 41

-- a writer's own ground comes before it
own-ground : (g : ℕ) (l bs : List ℕ) → (g ≡ 0 → ⊥) → write_refusal g l 0 bs ≡ g
unfolding write_refusal
own-ground g l bs e = rw (ne_eqb g 0 e)

last : ShortIsLast
last =
    record {
      words = λ r ws ws' g vs p e. p.returns ∙ sym (or-first g _ e);
      writing = λ r ws ws' l l' g bs p e.
          p.returns ∙ rw (own-ground g l bs e) (sym (or-first g _ e));
      state = λ r ws ws' g lacks h vs p e.
          p.returns ∙ rw (← or-first g (or_else (short lacks) h) e) (sym (or-first g _ e));
    }

pub host-promises : HostPromises
host-promises = record { refusal_changes_nothing = refusal-nothing; success_lays_its_words = success-lays; short_is_last = last }
