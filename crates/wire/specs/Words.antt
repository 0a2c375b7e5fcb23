-- What an answer says in document 01's words.
use Rattle.std.specs.Prelude.{ℕ, List, [], ◌≡◌, eqb, if◌then◌else◌, ⊤, Result, Ok, Err}
use Rattle.wire.specs.declared.refusal.Refusal.{Refusal}

-- an answer is one of its kinds K, or a refusal
pub data Case (K : Type 0) : Type 0 where
  answer : K → Case K
  refused : Case K

-- which case it is, its refusal number (0 where it is none), and its values in order
pub record Words (K : Type 0) : Type 0 where
  pub which : Case K
  pub refusal : ℕ
  pub values : List ℕ

-- an answer of a kind, with its values
abbrev pub says : {K : Type 0} → K → List ℕ → Words K
says k vs = record { which = answer k; refusal = 0; values = vs }

-- a refusal gives its number and no other value
abbrev pub refuses : {K : Type 0} → ℕ → Words K
refuses n = record { which = refused; refusal = n; values = [] }

-- the words of a refusal that is handed up
abbrev pub refused_words : {K : Type 0} → Refusal → Words K
refused_words r = refuses r.number

-- the words tell all answers apart
abbrev pub Injective : {A B : Type 0} → (A → B) → Type 0
Injective {A} f = (a b : A) → f a ≡ f b → a ≡ b

-- what a check answers: nothing where its ground is 0, else the refusal of that number
unfoldable pub refused_by : ℕ → Result ⊤ Refusal
refused_by g = if eqb g 0 then Ok tt else Err (record { number = g })
