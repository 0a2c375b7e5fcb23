-- A login is accepted exactly when the account, session and number rules hold.
use Rattle.std.specs.Prelude.{ℕ, ◌+◌, ◌<◌, ◌≤◌, List, [], ◌∷◌, true, is_ok, ◌≡◌, length, get_or, replicate}
use Rattle.wire.specs.Bounds.{least_number, blank}
use Rattle.wire.specs.Refusals.{bad_setting}
use Rattle.wire.specs.Words.{Words, answer, says, refuses, Injective}
use Rattle.wire.specs.Text.{letter}
use Rattle.text_fields.specs.Letters.{space, to_small}
use Rattle.text_fields.specs.Sound.{Sound, least_username, least_password}
use Rattle.soupbintcp.specs.Fields.{not_authorized, session_not_available}
use Rattle.login.specs.declared.account.Account.{Account}
use Rattle.login.specs.Account.{most_accounts, lookup_of, Found, found_in, found_records, verdict_on}
use Rattle.login.specs.Decision.{DecisionKind, accepted, granted, decision_words, decision_of, rejects}
use Rattle.login.specs.Decision.{Attempt, login_of}

-- ---- the rules, as document 01 says them

abbrev pub no_account : Account
no_account = record { username = []; password = [] }

-- the record at a place of a table
abbrev pub record_at : List Account → ℕ → Account
record_at t i = get_or t i no_account

-- the same letter without case, or the same byte
pub data SameLetter (a b : ℕ) : Type 0 where
  same : a ≡ b → SameLetter a b
  capital : letter "A" ≤ a → a ≤ letter "Z" → b ≡ a + to_small → SameLetter a b
  small : letter "A" ≤ b → b ≤ letter "Z" → a ≡ b + to_small → SameLetter a b

-- all bytes of two fields compared
pub record SameText (a b : List ℕ) : Type 0 where
  pub size : length a ≡ length b
  pub each : (i : ℕ) → i < length a → SameLetter (get_or a i 0) (get_or b i 0)

-- both fields of a record, or of an entry, are sound
pub record SoundAccount (a : Account) : Type 0 where
  pub username : Sound least_username a.username
  pub password : Sound least_password a.password

-- the record at this place is sound and has the entry's username
pub record Named (t : List Account) (e : Account) (i : ℕ) : Type 0 where
  pub there : i < length t
  pub sound : SoundAccount (record_at t i)
  pub username : SameText (record_at t i).username e.username

-- the account rule: the entry is sound, and the first sound record with its username has its password
pub record AccountRule (x : Attempt) : Type 0 where
  pub entry_sound : SoundAccount x.entry
  pub place : ℕ
  pub named : Named x.table x.entry place
  pub first : (i : ℕ) → i < place → Named x.table x.entry i → ⊥
  pub password : SameText (record_at x.table place).password x.entry.password

-- the session rule: blank, or exactly the server's
pub data SessionRule (x : Attempt) : Type 0 where
  asks_blank : x.asked ≡ blank → SessionRule x
  asks_ours : x.asked ≡ x.session → SessionRule x

-- the number rule: at most one past the last
abbrev pub NumberRule : Attempt → Type 0
NumberRule x = x.wanted ≤ x.last + 1

-- a login that isn't refused: 19 is the one refusal, and its ground is the table
abbrev pub NotRefused : Attempt → Type 0
NotRefused x = length x.table ≤ most_accounts

pub record Rules (x : Attempt) : Type 0 where
  pub account : AccountRule x
  pub session : SessionRule x
  pub number : NumberRule x

-- ---- what is promised

-- a lock is what it decides on a login
abbrev pub Lock : Type 0
Lock = Attempt → Words DecisionKind

-- accepted with the granted number if all three hold, and only then; J with A where the account rule doesn't; J with
-- S where it does and another doesn't; 19 for a table of too many records
pub record LoginRules (lock : Lock) : Type 0 where
  pub when : (x : Attempt) → NotRefused x → Rules x → lock x ≡ says accepted (granted x.wanted x.last ∷ [])
  pub only_when : (x : Attempt) → (lock x).which ≡ answer accepted → Rules x
  pub else_A : (x : Attempt) → NotRefused x → (AccountRule x → ⊥) → lock x ≡ rejects not_authorized
  pub else_S : (x : Attempt) → NotRefused x → AccountRule x → (Rules x → ⊥) → lock x ≡ rejects session_not_available
  pub too_many : (x : Attempt) → most_accounts < length x.table → lock x ≡ refuses bad_setting

-- our lock keeps them, and the number that it grants is one that a message has or will have next
pub record AcceptedExactlyWhen : Type 0 where
  pub rules : LoginRules login_of
  pub from_one : (x : Attempt) → least_number ≤ granted x.wanted x.last
  pub up_to_next : (x : Attempt) → NumberRule x → granted x.wanted x.last ≤ x.last + 1

-- a field that is no text: one of its bytes is zero, or it is nothing but spaces, or empty
pub data NoText (l : List ℕ) : Type 0 where
  has_zero : (i : ℕ) → i < length l → get_or l i 0 ≡ 0 → NoText l
  all_spaces : (k : ℕ) → l ≡ replicate k space → NoText l

-- an entry with such a field gets J with A, whatever the table holds
pub record NeverAccepted : Type 0 where
  pub username : (x : Attempt) → NotRefused x → NoText x.entry.username → login_of x ≡ rejects not_authorized
  pub password : (x : Attempt) → NotRefused x → NoText x.entry.password → login_of x ≡ rejects not_authorized

-- what was found for an entry says of it what the whole table says
unfoldable pub FoundDecides : Type 0
FoundDecides = (t : List Account) (e : Account) → verdict_on (found_in t e) e ≡ lookup_of t e

-- the attempt at a table of one record, the one that is said to be found; of none where none is
abbrev pub attempt_by : Found → Account → List ℕ → ℕ → List ℕ → ℕ → Attempt
attempt_by f e asked wanted session last =
    record { table = found_records f; entry = e; asked = asked; wanted = wanted; session = session; last = last }

-- let in by the record that is said to be found: its username, its password, and the other rules
pub record ByItsRecord (f : Found) (x : Attempt) : Type 0 where
  pub not_too_many : is_ok f ≡ true
  pub rules : Rules x

-- nobody is let in but so, whatever is said to be found
unfoldable pub OnlyByARecord : Type 0
OnlyByARecord = (f : Found) (e : Account) (asked : List ℕ) (wanted : ℕ) (session : List ℕ) (last : ℕ)
    → (decision_of (verdict_on f e) asked wanted session last).which ≡ answer accepted
    → ByItsRecord f (attempt_by f e asked wanted session last)

-- the words tell all decisions apart
unfoldable pub DecisionsApart : Type 0
DecisionsApart = Injective decision_words
