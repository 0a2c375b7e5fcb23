-- Codes by their ladder, and what is left on success and on a refusal.
use Prim.Native.Nat.{ℕ, zero, suc, ◌+◌, ◌<◌, ◌≤◌}
use mathlib.Core.List.{List, [], ◌∷◌, ◌++◌}
use mathlib.Core.Bool.{Bool, true, false}
use mathlib.Core.Path.{◌≡◌, refl, ap, sym, ◌∙◌}
use lib.ListN.{length, drop, replicate}
use lib.Dec.{ltb, eqb}
use native.Mathlib.Omega.{arith}
use borrow.Author.Tests.{eq-eqb, ne_eqb, eqb-true, eqb-false, ltb-false, lt-ltb, le-ltb}
use Rattle.std.specs.Prelude.{if◌then◌else◌}
use Rattle.wire.proofs.Cases.{zero_or_not}
use Rattle.wire.specs.Refusals.{output_short}
use Rattle.wire.specs.Output.{put, written_words}
use Rattle.wire.proofs.Outputs.{put-room}
use Rattle.wire.specs.declared.refusal.Refusal.{Refusal}
use Rattle.wire.specs.Output.{Written}
use Rattle.std.specs.Prelude.{Result, Ok, Err}
use Rattle.host_answers.specs.Answers.{or_else, short, unless_sized, behind_stateless, lent_from, on_success, padded, said_refusal, said_values, AnswersWith}

-- ---- the ladder

pub or-first : (g h : ℕ) → (g ≡ 0 → ⊥) → g ≡ or_else g h
unfolding or_else
or-first g h e = rw (ne_eqb g 0 e)

pub or-next : (g h : ℕ) → g ≡ 0 → h ≡ or_else g h
unfolding or_else
or-next g h e = rw (eq-eqb g 0 e)

pub or-none : (g : ℕ) → g ≡ or_else g 0
unfolding or_else
or-none g = go (eqb g 0) refl
  where
    go : (b : Bool) → eqb g 0 ≡ b → g ≡ if b then 0 else g
    go true e = eqb-true g 0 e
    go false e = refl

pub short-yes : (lacks : Bool) → lacks ≡ true → output_short ≡ short lacks
unfolding short
short-yes lacks e = rw e

pub short-no : (lacks : Bool) → lacks ≡ false → 0 ≡ short lacks
unfolding short
short-no lacks e = rw e

pub or-short-no : (g : ℕ) → g ≡ or_else g (short false)
unfolding short
or-short-no g = or-none g

-- the three ways out of a ladder that ends with 41
pub rung-own : (g x : ℕ) (lacks : Bool) → (g ≡ 0 → ⊥) → x ≡ g → x ≡ or_else g (short lacks)
rung-own g x lacks e p = p ∙ or-first g (short lacks) e

pub rung-short : (g : ℕ) (lacks : Bool) → g ≡ 0 → lacks ≡ true → output_short ≡ or_else g (short lacks)
rung-short g lacks e l = short-yes lacks l ∙ or-next g (short lacks) e

pub rung-none : (g : ℕ) (lacks : Bool) → g ≡ 0 → lacks ≡ false → 0 ≡ or_else g (short lacks)
rung-none g lacks e l = short-no lacks l ∙ or-next g (short lacks) e

-- an input of a fixed size
pub sized-own : (n k g h : ℕ) → n ≡ k → h ≡ unless_sized n k g h
unfolding unless_sized
sized-own n k g h e = rw (eq-eqb n k e)

pub sized-not : (n k g h : ℕ) → (n ≡ k → ⊥) → g ≡ unless_sized n k g h
unfolding unless_sized
sized-not n k g h e = rw (ne_eqb n k e)

-- a state that is too short
module _ (lacks : Bool) (last g : ℕ) where
  pub behind-has : lacks ≡ false → g ≡ behind_stateless lacks last g
  unfolding behind_stateless
  behind-has e = rw e

  pub behind-zero : lacks ≡ true → g ≡ 0 → output_short ≡ behind_stateless lacks last g
  unfolding behind_stateless
  behind-zero e z = rw (e, eq-eqb g 0 z)

  pub behind-above : lacks ≡ true → (g ≡ 0 → ⊥) → last < g → output_short ≡ behind_stateless lacks last g
  unfolding behind_stateless
  behind-above e z h = rw (e, ne_eqb g 0 z, lt-ltb last g h)

  pub behind-own : lacks ≡ true → (g ≡ 0 → ⊥) → g ≤ last → g ≡ behind_stateless lacks last g
  unfolding behind_stateless
  behind-own e z h = rw (e, ne_eqb g 0 z, le-ltb last g h)

pub lent_none : (lacks : Bool) (n : ℕ) → lacks ≡ true → n ≡ lent_from lacks n
unfolding lent_from
lent_none lacks n e = rw e

pub lent-all : (lacks : Bool) (n : ℕ) → lacks ≡ false → 0 ≡ lent_from lacks n
unfolding lent_from
lent-all lacks n e = rw e

-- ---- what is left

pub success : (code : ℕ) (m after before : List ℕ) → code ≡ 0 → m ≡ after → m ≡ on_success code after before
unfolding on_success
success code m after before e f = rw (eq-eqb code 0 e) f

pub no-success : (code : ℕ) (after before : List ℕ) → (code ≡ 0 → ⊥) → before ≡ on_success code after before
unfolding on_success
no-success code after before e = rw (ne_eqb code 0 e)

-- a code of 0 says that nothing is too short, and that no other ground applies
pub no_short : (g : ℕ) (lacks : Bool) → or_else g (short lacks) ≡ 0 → lacks ≡ false
unfolding or_else short
no_short g lacks e = go (eqb g 0) refl lacks e
  where
    go : (b : Bool) → eqb g 0 ≡ b → (c : Bool) → (if b then (if c then output_short else 0) else g) ≡ 0 → c ≡ false
    go b d false z = refl
    go true d true z = absurd (omega arith)
    go false d true z = absurd (eqb-false g 0 d z)

pub has_room : (r g n k : ℕ) → r ≡ or_else g (short (ltb n k)) → r ≡ 0 → k ≤ n
has_room r g n k e z = ltb-false n k (no_short g (ltb n k) (sym e ∙ z))

-- ---- the words of an answer

pub length-padded : (n : ℕ) (vs : List ℕ) → length (padded n vs) ≡ n
unfolding padded
length-padded zero vs = refl
length-padded (suc n) [] = ap suc (length-padded n [])
length-padded (suc n) (v ∷ vs) = ap suc (length-padded n vs)

-- ---- an answer, by the refusal that its ladder came to

pub not-answered : (r x g : ℕ) (ws vs : List ℕ) → x ≡ or_else g (short (ltb (length ws) (length vs))) → r ≡ x → (r ≡ 0 → ⊥)
    → AnswersWith r ws ws g vs
not-answered r x g ws vs e p z = record { returns = p ∙ e; words = no-success r _ ws z }

-- a refusal, too few words, or the words laid
module _ (r g : ℕ) (ws vs : List ℕ) where
  pub answered-refused : r ≡ g → (g ≡ 0 → ⊥) → AnswersWith r ws ws g vs
  answered-refused e z = record { returns = e ∙ or-first g _ z; words = no-success r _ ws (λ n. z (sym e ∙ n)) }

  pub answered-short : r ≡ 41 → g ≡ 0 → length ws < length vs → AnswersWith r ws ws g vs
  answered-short e z h = record { returns = e ∙ rung-short g _ z (lt-ltb _ _ h); words = no-success r _ ws (λ n. let y : ◌≡◌ {A = ℕ} 41 0 = sym e ∙ n in omega arith) }

  pub answered : (ws' : List ℕ) → r ≡ 0 → g ≡ 0 → length vs ≤ length ws → ws' ≡ put ws 0 vs → AnswersWith r ws ws' g vs
  answered ws' e z h w = record { returns = e ∙ rung-none g _ z (le-ltb _ _ h); words = success r ws' _ ws e w }

-- the words of a slice laid in front
pub laid-slice : (ws vs us : List ℕ) → us ≡ vs → length vs ≤ length ws → us ++ drop (length vs) ws ≡ put ws 0 vs
laid-slice ws vs us e h =
    let z : 0 + length vs ≡ length vs = omega arith in
    rw e (sym (put-room ws 0 vs (omega arith) ∙ rw z refl))

-- ---- an answer in values

pub no-refusal : {A : Type 0} (vs : A) → 0 ≡ said_refusal (Ok vs)
unfolding said_refusal
no-refusal vs = refl

pub its-refusal : (A : Type 0) (x : Refusal) → x.number ≡ said_refusal {A = A} (Err x)
unfolding said_refusal
its-refusal A x = refl

padded-none : (n : ℕ) → padded n [] ≡ replicate n 0
unfolding padded
padded-none zero = refl
padded-none (suc n) = ap (λ (l : List ℕ). 0 ∷ l) (padded-none n)

-- the values that are laid: those that were said, and zeros of a refusal without a number
pub record Laid (n : ℕ) (said : Result (List ℕ) Refusal) (vs : List ℕ) : Type 0 where
  pub none : said_refusal said ≡ 0
  pub same : said_values n said ≡ vs

module _ (n : ℕ) (said : Result (List ℕ) Refusal) (vs : List ℕ) where
  pub laid-ok : (ws : List ℕ) → said ≡ Ok ws → vs ≡ ws → Laid n said vs
  unfolding said_refusal said_values
  laid-ok ws e f = record { none = rw e refl; same = rw (e, f) refl }

  pub laid-zeros : (x : Refusal) → said ≡ Err x → x.number ≡ 0 → vs ≡ replicate n 0 → Laid n said vs
  unfolding said_refusal said_values
  laid-zeros x e z f = record { none = rw e z; same = rw (e, f) (padded-none n) }

  pub said-refused : (x : Refusal) (r : ℕ) (ws : List ℕ) → said ≡ Err x → (x.number ≡ 0 → ⊥) → r ≡ x.number
      → AnswersWith r ws ws (said_refusal said) (said_values n said)
  unfolding said_refusal
  said-refused x r ws e z f =
      let k : said_refusal said ≡ x.number = rw e refl in
      answered-refused r (said_refusal said) ws (said_values n said) (f ∙ sym k) (λ y. z (sym k ∙ y))

  pub said-short : (ws : List ℕ) → Laid n said vs → length vs ≡ n → length ws < n → AnswersWith 41 ws ws (said_refusal said) (said_values n said)
  said-short ws p k h = answered-short 41 (said_refusal said) ws (said_values n said) refl p.none (rw p.same (omega arith))

  pub said-laid : (ws ws' : List ℕ) → Laid n said vs → length vs ≡ n → n ≤ length ws → ws' ≡ vs ++ drop n ws → AnswersWith 0 ws ws' (said_refusal said) (said_values n said)
  said-laid ws ws' p k h e =
      let at_end : 0 + length vs ≡ n = omega arith in
      answered 0 (said_refusal said) ws (said_values n said) ws' refl p.none (rw p.same (omega arith))
      (rw p.same (e ∙ sym (put-room ws 0 vs (omega arith) ∙ rw (at_end) refl)))

-- a refused answer lays no values, so that it answers any
pub any-values : (r g : ℕ) (ws ws' vs vs' : List ℕ) → (g ≡ 0 → ⊥) → AnswersWith r ws ws' g vs → AnswersWith r ws ws' g vs'
any-values r g ws ws' vs vs' z a =
    let e : r ≡ g = a.returns ∙ sym (or-first g _ z) in
    let n : r ≡ 0 → ⊥ = λ (y : r ≡ 0). z (sym e ∙ y) in
    record { returns = e ∙ or-first g _ z; words = a.words ∙ sym (no-success r _ ws n) ∙ no-success r _ ws n }

-- what was kept but for a refusal answers the values that it was kept of
pub kept-values : (r n : ℕ) (ws ws' : List ℕ) (a b : Result (List ℕ) Refusal) → (said_refusal b ≡ 0 → b ≡ a)
    → AnswersWith r ws ws' (said_refusal b) (said_values n b) → AnswersWith r ws ws' (said_refusal b) (said_values n a)
kept-values r n ws ws' a b k h =
    zero_or_not _ (said_refusal b) (λ z. rw (← k z) h) (λ z. any-values r (said_refusal b) ws ws' (said_values n b) (said_values n a) z h)

-- a writer's answer in values
unfoldable pub values-of-writer : Written → Result (List ℕ) Refusal
values-of-writer (Ok size) = Ok (size ∷ [])
values-of-writer (Err x) = Err x

-- ---- what a writer answered: w is that, and what is left of it but for 41

module _ (w : Written) (lacks : Bool) (r : ℕ) (ws ws' : List ℕ) where
  said-written : (written_words w).refusal ≡ said_refusal w
  unfolding written_words said_refusal
  said-written = go w
    where
      go : (v : Written) → (written_words v).refusal ≡ said_refusal v
      go (Ok size) = refl
      go (Err x) = refl

  kept-written : (v : Written) → v ≡ w → said_values 1 (values-of-writer v) ≡ padded 1 (written_words w).values
  unfolding said_values values-of-writer written_words padded
  kept-written (Ok size) e = rw (← e) refl
  kept-written (Err x) e = rw (← e) refl

  pub answers-written : (v : Written) → said_refusal v ≡ or_else (said_refusal w) (short lacks) → (said_refusal v ≡ 0 → v ≡ w)
      → AnswersWith r ws ws' (said_refusal v) (said_values 1 (values-of-writer v))
      → AnswersWith r ws ws' (or_else (written_words w).refusal (short lacks)) (padded 1 (written_words w).values)
  answers-written v e k a =
      rw (said-written, ← e)
      (zero_or_not _ (said_refusal v)
      (λ z. rw (kept-written v (k z)) at a)
      (λ z. any-values r (said_refusal v) ws ws' (said_values 1 (values-of-writer v)) (padded 1 (written_words w).values) z a))
