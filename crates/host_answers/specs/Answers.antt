-- What an exported function answers: its code, and what it leaves in lent words and in a lent output.
use Rattle.std.specs.Prelude.{ℕ, zero, suc, List, [], ◌∷◌, ◌++◌, Bool, true, false, not, ◌≡◌, length, drop, ltb, eqb, if◌then◌else◌, Result, Ok, Err}
use Rattle.wire.specs.Bounds.{session_size}
use Rattle.wire.specs.Refusals.{output_short}
use Rattle.wire.specs.Words.{Words, Case, answer, refused}
use Rattle.wire.specs.declared.refusal.Refusal.{Refusal}
use Rattle.wire.specs.Output.{put, write_refusal}

-- ---- the code: 0, or the number of a refusal, by a ladder of grounds that ends with 41

-- the ground g, or h where g doesn't apply
unfoldable pub or_else : ℕ → ℕ → ℕ
or_else g h = if eqb g 0 then h else g

-- 41 where lent memory is too short
unfoldable pub short : Bool → ℕ
short lacks = if lacks then output_short else 0

-- a writer that is given a session's name: the documents have no ground for one that isn't ten bytes, so it is 41,
-- behind the writer's own
abbrev pub named : List ℕ → ℕ → ℕ
named name g = or_else g (short (not (eqb (length name) session_size)))

-- an input of n bytes that is to have k: where it hasn't, g; else h
unfoldable pub unless_sized : ℕ → ℕ → ℕ → ℕ → ℕ
unless_sized n k g h = if eqb n k then h else g

-- a call that is lent a state: first the ground that needs no state; then 41 where the state is too short; then h, its
-- own
abbrev pub state_ladder : ℕ → Bool → ℕ → ℕ
state_ladder g lacks h = or_else g (or_else (short lacks) h)

-- a number is one of these
unfoldable pub is_one_of : ℕ → List ℕ → Bool
is_one_of r [] = false
is_one_of r (g ∷ gs) = if eqb r g then true else is_one_of r gs

-- a code is 0 or one of these numbers
abbrev pub RefusesOnly : ℕ → List ℕ → Type 0
RefusesOnly r gs = is_one_of r (0 ∷ gs) ≡ true

-- lent memory changes on success alone: on every refusal it is as it came
unfoldable pub on_success : ℕ → List ℕ → List ℕ → List ℕ
on_success code after before = if eqb code 0 then after else before

-- ---- the words of an answer

-- a flag as a number
abbrev pub flag : Bool → ℕ
flag true = 1
flag false = 0

-- values with zeros behind them, n words in all
unfoldable pub padded : ℕ → List ℕ → List ℕ
padded zero vs = []
padded (suc n) [] = 0 ∷ padded n []
padded (suc n) (v ∷ vs) = v ∷ padded n vs

-- the number of the kind by a table, and then its values; a refusal has none, and its words are never laid
unfoldable pub words_at : {K : Type 0} → (K → ℕ) → ℕ → Case K → List ℕ → List ℕ
words_at table n (answer k) vs = padded n (table k ∷ vs)
words_at table n refused vs = padded n []

-- n words of an answer
abbrev pub words_of : {K : Type 0} → (K → ℕ) → ℕ → Words K → List ℕ
words_of table n w = words_at table n w.which w.values

-- an answer that was put into values, or refused: the number of its refusal, 0 where it has values
unfoldable pub said_refusal : {A : Type 0} → Result A Refusal → ℕ
said_refusal (Ok vs) = 0
said_refusal (Err r) = r.number

-- and its n values; of a refused one they are zeros, and never laid
unfoldable pub said_values : ℕ → Result (List ℕ) Refusal → List ℕ
said_values n (Ok vs) = vs
said_values n (Err r) = padded n []

-- ---- the promises, of a function that answers r

-- g is the ground before the last, or 0, and vs are the values: the words ws become ws'. Too few words are the last
pub record AnswersWith (r : ℕ) (ws ws' : List ℕ) (g : ℕ) (vs : List ℕ) : Type 0 where
  pub returns : r ≡ or_else g (short (ltb (length ws) (length vs)))
  pub words : ws' ≡ on_success r (put ws 0 vs) ws

-- an answer w in document 01's words, its kinds by a table, in n words
abbrev pub Answers : {K : Type 0} → ℕ → List ℕ → List ℕ → (K → ℕ) → ℕ → Words K → Type 0
Answers r ws ws' table n w = AnswersWith r ws ws' w.refusal (words_of table n w)

-- the same of a call that is lent a state, which lacks bytes or not; g is the ground that needs none
abbrev pub StateAnswers : {K : Type 0} → ℕ → List ℕ → List ℕ → ℕ → Bool → (K → ℕ) → ℕ → Words K → Type 0
StateAnswers r ws ws' g lacks table n w = AnswersWith r ws ws' (state_ladder g lacks w.refusal) (words_of table n w)

-- a writer: g is its own ground and bs are its bytes. The output l becomes l', and the words say how many bytes were
-- written. An output that is too short and too few words are the last
pub record AnswersWriting (r : ℕ) (ws ws' l l' : List ℕ) (g : ℕ) (bs : List ℕ) : Type 0 where
  pub returns : r ≡ or_else (write_refusal g l 0 bs) (short (ltb (length ws) 1))
  pub words : ws' ≡ on_success r (put ws 0 (length bs ∷ [])) ws
  pub output : l' ≡ on_success r (put l 0 bs) l

-- ---- what is promised of every answer

-- a refusal changes no word and no byte of an output, whatever the function
pub record RefusalChangesNothing : Type 0 where
  pub words : (r : ℕ) (ws ws' : List ℕ) (g : ℕ) (vs : List ℕ) → AnswersWith r ws ws' g vs → (r ≡ 0 → ⊥) → ws' ≡ ws
  pub writing : (r : ℕ) (ws ws' l l' : List ℕ) (g : ℕ) (bs : List ℕ) → AnswersWriting r ws ws' l l' g bs
      → (r ≡ 0 → ⊥)
      → (ws' ≡ ws) × (l' ≡ l)

-- a success lays all of its words and changes none behind them; what is written stands in front, and nothing behind
-- it changes
pub record SuccessLaysItsWords : Type 0 where
  pub words : (r : ℕ) (ws ws' : List ℕ) (g : ℕ) (vs : List ℕ) → AnswersWith r ws ws' g vs → r ≡ 0
      → ws' ≡ vs ++ drop (length vs) ws
  pub writing : (r : ℕ) (ws ws' l l' : List ℕ) (g : ℕ) (bs : List ℕ) → AnswersWriting r ws ws' l l' g bs → r ≡ 0
      → (ws' ≡ length bs ∷ drop 1 ws) × (l' ≡ bs ++ drop (length bs) l)

-- 41 comes behind every other ground for words and for an output, and for a state behind those that need none
pub record ShortIsLast : Type 0 where
  pub words : (r : ℕ) (ws ws' : List ℕ) (g : ℕ) (vs : List ℕ) → AnswersWith r ws ws' g vs → (g ≡ 0 → ⊥) → r ≡ g
  pub writing : (r : ℕ) (ws ws' l l' : List ℕ) (g : ℕ) (bs : List ℕ) → AnswersWriting r ws ws' l l' g bs
      → (g ≡ 0 → ⊥) → r ≡ g
  pub state : (r : ℕ) (ws ws' : List ℕ) (g : ℕ) (lacks : Bool) (h : ℕ) (vs : List ℕ)
      → AnswersWith r ws ws' (state_ladder g lacks h) vs → (g ≡ 0 → ⊥) → r ≡ g

pub record HostPromises : Type 0 where
  pub refusal_changes_nothing : RefusalChangesNothing
  pub success_lays_its_words : SuccessLaysItsWords
  pub short_is_last : ShortIsLast

-- ---- for helpers alone: no exported function promises it

-- a refusal g by a state that is too short: those up to `last` need no state, and come before 41
unfoldable pub behind_stateless : Bool → ℕ → ℕ → ℕ
behind_stateless lacks last g =
    if lacks then (if eqb g 0 then output_short else if ltb last g then output_short else g) else g

-- from where on an output of n bytes is lent to a writer: nothing of it where other lent memory is too short
unfoldable pub lent_from : Bool → ℕ → ℕ
lent_from lacks n = if lacks then n else 0
