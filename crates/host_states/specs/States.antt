-- A state kept in lent bytes: when it is open, what is promised of it, and the fields that several states have.
use Rattle.std.specs.Prelude.{ℕ, ◌+◌, ◌≤◌, List, ◌∷◌, ◌++◌, Bool, true, false, ◌≡◌, length, get_or, drop, eqb, if◌then◌else◌}
use Rattle.wire.specs.Bounds.{session_size, number_size}
use Rattle.wire.specs.Output.{put}
use Rattle.wire.specs.Parts.{first_bytes}
use Rattle.host_states.specs.Little.{little_bytes}

-- ---- the first byte

-- the codes of the kinds: no two are the same, and none is 0
abbrev pub cursor_code : ℕ
cursor_code = 225

abbrev pub receiver_code : ℕ
receiver_code = 226

abbrev pub server_code : ℕ
server_code = 227

abbrev pub client_code : ℕ
client_code = 228

abbrev pub reading_code : ℕ
reading_code = 229

abbrev pub transmitter_code : ℕ
transmitter_code = 230

abbrev pub early_code : ℕ
early_code = 231

abbrev pub walk_code : ℕ
walk_code = 232

abbrev pub missing_code : ℕ
missing_code = 233

-- its bytes, and those of a phase or a stage
abbrev pub code_size : ℕ
code_size = 1

abbrev pub phase_size : ℕ
phase_size = 1

-- a state is open exactly when its first byte is its kind's code
unfoldable pub is_open : ℕ → List ℕ → Bool
is_open code l = eqb (get_or l 0 0) code

-- what is laid there: 0 for a state that isn't open
unfoldable pub open_byte : ℕ → Bool → ℕ
open_byte code opened = if opened then code else 0

-- ---- the promise of a call that is lent a state's bytes

-- the state x, whose bytes are bs, as many as its layout has, is kept in the bytes l, which become m: they change
-- where it is laid, and then the state that is read from them is x
pub record Keeps {S : Type 0} (lays : Bool) (l m : List ℕ) (size : ℕ) (reads : List ℕ → S) (bs : List ℕ)
    (x : S) : Type 0 where
  pub fits : length bs ≡ size
  pub leaves : m ≡ if lays then put l 0 bs else l
  pub reads_back : lays ≡ true → size ≤ length l → reads m ≡ x

-- a start, and every other call that is given a state to keep, lays it on success
abbrev pub on_code : ℕ → Bool
on_code code = eqb code 0

-- a step lays it where it took something: need more, which takes nothing, changes no byte
unfoldable pub on_step : ℕ → ℕ → Bool
on_step code size = if eqb code 0 then (if eqb size 0 then false else true) else false

-- ---- what is promised of every state, by its layout

-- no byte changes where nothing is laid: on a refusal, and where more is needed
abbrev pub Stays : {S : Type 0} → (Bool → List ℕ → List ℕ → S → Type 0) → Type 0
Stays {S} keeps = (l m : List ℕ) (x : S) → keeps false l m x → m ≡ l

-- else the bytes of the state are laid in front, and none behind them changes
abbrev pub Stands : {S : Type 0} → (Bool → List ℕ → List ℕ → S → Type 0) → ℕ → (S → List ℕ) → Type 0
Stands {S} keeps size bytes_of = (l m : List ℕ) (x : S) → keeps true l m x → size ≤ length l
    → m ≡ bytes_of x ++ drop size l

-- both
pub record StatePromises {S : Type 0} (keeps : Bool → List ℕ → List ℕ → S → Type 0) (size : ℕ)
    (bytes_of : S → List ℕ) : Type 0 where
  pub stays : Stays keeps
  pub stands : Stands keeps size bytes_of

-- ---- the fields in front of a receiver and of a SoupBinTCP session: the first byte, the name and the number

abbrev pub name_at : ℕ
name_at = code_size

abbrev pub number_at : ℕ
number_at = name_at + session_size

abbrev pub front_size : ℕ
front_size = number_at + number_size

unfoldable pub front_bytes : ℕ → List ℕ → ℕ → List ℕ
front_bytes first name n = first ∷ name ++ little_bytes number_size n

-- the name that stands in some bytes
abbrev pub name_in : List ℕ → List ℕ
name_in l = first_bytes session_size (drop name_at l)

-- ---- for private helpers alone; no public promise uses it

-- the same where there is room: the bytes are laid, and the state that is read from them is x
pub record Lays {S : Type 0} (l m : List ℕ) (reads : List ℕ → S) (bs : List ℕ) (x : S) : Type 0 where
  pub laid : m ≡ put l 0 bs
  pub back : reads m ≡ x
