-- An exported writer: it is lent the output from a place on, and its answer is reported. That place is the end where other
-- lent memory is too short, so that its own ground comes first and nothing is written. l is the output, g the writer's ground
-- and bs its bytes.
use Prim.Native.Nat.{ℕ, ◌+◌, ◌-◌, ◌≤◌}
use mathlib.Core.List.{List, [], ◌∷◌, ◌++◌, append-nil}
use mathlib.Core.Bool.{Bool, true, false, ◌||◌}
use mathlib.Core.Path.{◌≡◌, refl, ap, sym, ◌∙◌}
use native.Mathlib.Omega.{arith}
use lib.ListN.{length, take, drop, length-drop, drop_of_length-le}
use lib.Seq.{take_all, drop-length}
use lib.Dec.{ltb, leb, eqb}
use borrow.Rule.Slice.PartMut.{mid_of, put_mid}
use borrow.Author.Tests.{eq-eqb, ne_eqb, leb-false}
use Rattle.std.specs.Prelude.{if◌then◌else◌}
use Rattle.wire.specs.Refusals.{output_short}
use Rattle.wire.specs.Output.{written_words, put, write_refusal, write_answer, write_output, Writes}
use Rattle.wire.specs.Output.{Written}
use Rattle.wire.proofs.Cases.{zero_or_not}
use Rattle.wire.proofs.Numbers.{part_to_end}
use Rattle.wire.proofs.Words.{refusal-of, values-of}
use Rattle.wire.proofs.Outputs.{put-none, answer-refusal}
use Rattle.host_answers.specs.Answers.{or_else, short, lent_from, on_success, padded, AnswersWith, AnswersWriting}
use Rattle.host_answers.proofs.AnswerLaws.{or-first, or-next, or-none, or-short-no, no-success, length-padded}

module _ (l bs : List ℕ) where
  -- the output at exit, by the code
  output-by-code : (g : ℕ) → write_output g l 0 bs ≡ on_success (write_refusal g l 0 bs) (put l 0 bs) l
  unfolding on_success write_refusal
  output-by-code g = go (eqb g 0) refl (leb (0 + length bs) (length l)) refl
    where
      go : (b : Bool) → eqb g 0 ≡ b → (c : Bool) → leb (0 + length bs) (length l) ≡ c
          → if b then put l 0 bs else l ≡ if eqb (if b then (if c then 0 else output_short) else g) 0 then put l 0 bs else l
      go true d true e = refl
      go true d false e = put-none l 0 bs (leb-false _ _ e)
      go false d c e = rw d

  -- and its value, where there is no refusal, how many bytes
  answer-size : (g : ℕ) → write_refusal g l 0 bs ≡ 0 → padded 1 (write_answer g l 0 bs).values ≡ length bs ∷ []
  unfolding write_answer padded
  answer-size g e = rw (eq-eqb _ _ e)

  -- a ground of its own, or else 41 for any reason, is the code
  own-or-short : (g : ℕ) → or_else (write_refusal g l 0 bs) output_short ≡ or_else g output_short
  unfolding or_else write_refusal
  own-or-short g = go (eqb g 0) refl (leb (0 + length bs) (length l))
    where
      go : (b : Bool) → eqb g 0 ≡ b → (c : Bool)
          → if eqb (if b then (if c then 0 else output_short) else g) 0 then output_short else (if b then (if c then 0 else output_short) else g)
          ≡ if b then output_short else g
      go true d true = refl
      go true d false = refl
      go false d c = rw d

-- words of either kind are the same where none is laid
same-words : (r : ℕ) (a b before : List ℕ) → (r ≡ 0 → a ≡ b) → on_success r a before ≡ on_success r b before
same-words r a b before f =
    zero_or_not _ r (λ z. ap (λ (x : List ℕ). on_success r x before) (f z))
    (λ z. sym (no-success r a before z) ∙ no-success r b before z)

-- nothing is laid into nothing
into : (x : List ℕ) → put [] 0 x ≡ []
unfolding put
into [] = refl
into (b ∷ x) = put-none [] 0 (b ∷ x) (omega arith)

put-nothing : (g : ℕ) (bs : List ℕ) → write_output g [] 0 bs ≡ []
put-nothing g bs = go (eqb g 0) (into bs)
  where
    go : (b : Bool) → put [] 0 bs ≡ [] → if b then put [] 0 bs else [] ≡ []
    go true e = e
    go false e = refl

-- 41 is no success
or-short-not : (g r : ℕ) → r ≡ or_else g output_short → r ≡ 0 → ⊥
or-short-not g r e z = zero_or_not ⊥ g (λ y. go (sym z ∙ e ∙ sym (or-next g output_short y))) (λ y. y (or-first g output_short y ∙ sym e ∙ z))
  where
    go : 0 ≡ output_short → ⊥
    go d = omega arith

module _ (ws l : List ℕ) (g : ℕ) (bs : List ℕ) (w : Written) (r : ℕ) (ws' m : List ℕ) where
  -- all of the output is lent
  whole : ltb (length ws) 1 ≡ false → Writes w l m g 0 bs
      → AnswersWith r ws ws' (or_else (written_words w).refusal (short false)) (padded 1 (written_words w).values)
      → AnswersWriting r ws ws' l m g bs
  unfolding short
  whole e writes answers =
      let code : (written_words w).refusal ≡ write_refusal g l 0 bs = refusal-of writes.answers ∙ answer-refusal g l 0 bs in
      let size : write_refusal g l 0 bs ≡ 0 → padded 1 (written_words w).values ≡ length bs ∷ [] =
      λ z. ap (padded 1) (values-of writes.answers) ∙ answer-size l bs g z in
      let same : r ≡ write_refusal g l 0 bs = given code in
      record {
        returns = rw e (same ∙ or-none (write_refusal g l 0 bs));
        words = answers.words ∙ same-words r _ _ ws (λ z. ap (put ws 0) (size (sym same ∙ z)));
        output = writes.leaves ∙ output-by-code l bs g ∙ rw same;
      }
    where
      given : (written_words w).refusal ≡ write_refusal g l 0 bs → r ≡ write_refusal g l 0 bs
      given code = answers.returns ∙ rw (length-padded, e) (sym (or-none _) ∙ sym (or-none _) ∙ code)

  -- none of it is lent, for other memory that is too short: the code is the writer's ground, or 41
  refused : (h : ℕ) → r ≡ or_else g output_short → or_else (write_refusal h l 0 bs) (short (ltb (length ws) 1)) ≡ or_else g output_short → ws' ≡ on_success r (put ws 0 (padded 1 (written_words w).values)) ws
      → m ≡ l → AnswersWriting r ws ws' l m h bs
  refused h e f p q =
      let n = or-short-not g r e in
      record {
        returns = e ∙ sym f;
        words = p ∙ sym (no-success r _ ws n) ∙ no-success r _ ws n;
        output = q ∙ no-success r _ l n;
      }

-- a ground is a writer's code
own-ground : (g : ℕ) (l bs : List ℕ) → (g ≡ 0 → ⊥) → write_refusal g l 0 bs ≡ g
unfolding write_refusal
own-ground g l bs e = rw (ne_eqb g 0 e)

-- what comes behind 41 doesn't count
or-short-ends : (g h : ℕ) → or_else (or_else g output_short) h ≡ or_else g output_short
or-short-ends g h = sym (or-first (or_else g output_short) h (λ z. or-short-not g _ refl z))

-- the code where nothing was lent: reported, and as it is promised
reported-code : (g : ℕ) (bs : List ℕ) (a b : Bool) → a || b ≡ true
    → or_else (or_else (write_refusal g [] 0 bs) (short a)) (short b) ≡ or_else g output_short
unfolding short
reported-code g bs true b e = or-short-ends (write_refusal g [] 0 bs) (short b) ∙ own-or-short [] bs g
reported-code g bs false true e = rw (← or-none (write_refusal g [] 0 bs)) (own-or-short [] bs g)
reported-code g bs false false e = let z : ◌≡◌ {A = ℕ} 0 1 = cc in absurd (omega arith)

promised-code : (g : ℕ) (l bs : List ℕ) (a b : Bool) → a || b ≡ true
    → or_else (write_refusal (or_else g (short a)) l 0 bs) (short b) ≡ or_else g output_short
unfolding short
promised-code g l bs true b e =
    rw (own-ground (or_else g output_short) l bs (λ z. or-short-not g _ refl z)) (or-short-ends g (short b))
promised-code g l bs false true e = rw (← or-none g) (own-or-short l bs g)
promised-code g l bs false false e = let z : ◌≡◌ {A = ℕ} 0 1 = cc in absurd (omega arith)

-- neither of two tests
neither : (a b : Bool) → a || b ≡ false → (a ≡ false) × (b ≡ false)
neither true b e = let z : ◌≡◌ {A = ℕ} 0 1 = cc in absurd (omega arith)
neither false b e = (refl, e)

module _ (lacks : Bool) (ws l : List ℕ) (g from : ℕ) (bs : List ℕ) (w : Written) (r : ℕ) (ws' m : List ℕ)
    (answers : AnswersWith r ws ws' (or_else (written_words w).refusal (short lacks)) (padded 1 (written_words w).values)) where
  lent_nothing : lacks || ltb (length ws) 1 ≡ true → Writes w [] m g 0 bs
      → AnswersWriting r ws ws' l (take (length l) l ++ m) (or_else g (short lacks)) bs
  lent_nothing e writes =
      let code : (written_words w).refusal ≡ write_refusal g [] 0 bs = refusal-of writes.answers ∙ answer-refusal g [] 0 bs in
      let none : m ≡ [] = writes.leaves ∙ put-nothing g bs in
      let same : take (length l) l ++ m ≡ l = rw (none, take_all (length l) l (omega arith)) (append-nil l) in
      refused ws l g bs w r ws' (take (length l) l ++ m) (or_else g (short lacks))
      (answers.returns ∙ rw (length-padded, code) (reported-code g bs lacks (ltb (length ws) 1) e))
      (promised-code g l bs lacks (ltb (length ws) 1) e)
      answers.words
      same

  lent-whole : lacks || ltb (length ws) 1 ≡ false → Writes w l m g 0 bs → AnswersWriting r ws ws' l m (or_else g (short lacks)) bs
  lent-whole e writes =
      let n = neither lacks (ltb (length ws) 1) e in
      rw (n.0, ← or-short-no g) (whole ws l g bs w r ws' m n.1 writes (rw n.0 at answers))

  lent-part : from ≡ lent_from (lacks || ltb (length ws) 1) (length l) → Writes w (drop from l) m g 0 bs
      → AnswersWriting r ws ws' l (take from l ++ m) (or_else g (short lacks)) bs
  unfolding lent_from
  lent-part f writes = go (lacks || ltb (length ws) 1) refl f
    where
      go : (b : Bool) → lacks || ltb (length ws) 1 ≡ b → from ≡ lent_from b (length l) → AnswersWriting r ws ws' l (take from l ++ m) (or_else g (short lacks)) bs
      go true e f = rw f (lent_nothing e (rw (f, drop-length l) at writes))
      go false e f = rw f (lent-whole e (rw f at writes))

  -- as the call has it: the part from the place to the end is lent, and nothing stands behind it
  pub writing-reported : from ≡ lent_from (lacks || ltb (length ws) 1) (length l) → Writes w (mid_of from (length l - from) l) m g 0 bs
      → AnswersWriting r ws ws' l (put_mid from (length l - from) l m) (or_else g (short lacks)) bs
  writing-reported f writes =
      let rest : drop (length l - from) (drop from l) ≡ [] = drop_of_length-le (drop from l) {i = length l - from} (simp length-drop (omega arith)) in
      rw (rest, append-nil m) (lent-part f (rw part_to_end at writes))

-- a writer that is given no buffer of a fixed size but its words
pub writing-plain : (ws l : List ℕ) (g from : ℕ) (bs : List ℕ) (w : Written) (r : ℕ) (ws' m : List ℕ)
    → AnswersWith r ws ws' (or_else (written_words w).refusal (short false)) (padded 1 (written_words w).values)
    → from ≡ lent_from (ltb (length ws) 1) (length l) → Writes w (mid_of from (length l - from) l) m g 0 bs
    → AnswersWriting r ws ws' l (put_mid from (length l - from) l m) g bs
writing-plain ws l g from bs w r ws' m a f x = rw (← or-short-no g) at (writing-reported false ws l g from bs w r ws' m a f x)

-- the place is within the output
pub lent-within : (b : Bool) (from n : ℕ) → from ≡ lent_from b n → from ≤ n
unfolding lent_from
lent-within true from n e = omega arith
lent-within false from n e = omega arith
