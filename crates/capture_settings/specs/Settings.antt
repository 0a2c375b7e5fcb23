-- The settings at the front of a capture, as a list of bytes.
use Rattle.std.specs.Prelude.{ℕ, ◌+◌, List, [], ◌∷◌, Bool, true, not, ◌&&◌, length, take, drop, get_or, ltb, leb, eqb, if◌then◌else◌, Result, Ok, Err}
use Rattle.wire.specs.Refusals.{bad_setting}
use Rattle.wire.specs.declared.refusal.Refusal.{Refusal}
use Rattle.wire.specs.Bytes.{same_bytes}
use Rattle.wire.specs.Text.{letter, ascii}
use Rattle.wire.specs.Bounds.{least_number, largest_number, least_limit, largest_limit, session_size, blank}
use Rattle.decimal.specs.Decimal.{is_digit, with_digit}
use Rattle.capture_settings.specs.declared.lines.Line.{Line}
use Rattle.capture_settings.specs.declared.settings.Settings.{Settings}
use Rattle.capture_settings.specs.declared.settings.Opened.{Opened}

-- `session=`, `next=` and `limit=`
abbrev pub session_key : List ℕ
session_key = ascii "session="

abbrev pub next_key : List ℕ
next_key = ascii "next="

abbrev pub limit_key : List ℕ
limit_key = ascii "limit="

-- the line feed that ends each line
abbrev pub line_feed : ℕ
line_feed = letter "\n"

-- what is left after a text that stands in front, or nothing where another does
unfoldable pub past_of : List ℕ → List ℕ → List ℕ
past_of [] l = l
past_of (t ∷ text) [] = []
past_of (t ∷ text) (b ∷ l) = if eqb b t then past_of text l else []

-- the first and the last byte that may stand in a name
abbrev pub first_printable : ℕ
first_printable = 0x20

abbrev pub last_printable : ℕ
last_printable = 0x7E

-- each byte is one of these
unfoldable pub is_printable : List ℕ → Bool
is_printable [] = true
is_printable (b ∷ l) = leb first_printable b && leb b last_printable && is_printable l

-- ---- a number of at least 1 without leading zeros, up to a line feed; value 0 where there is none

abbrev pub no_line : Line
no_line = record { value = 0; size = 0 }

-- k bytes further on
unfoldable pub further : ℕ → Line → Line
further k x = record { value = x.value; size = if eqb x.size 0 then 0 else k + x.size }

-- a byte with which the number v goes on: a digit that isn't a leading zero, and nothing past 2^64 - 1
unfoldable pub goes_on : ℕ → ℕ → Bool
goes_on v b = is_digit b && leb (with_digit v b) largest_number && not (eqb (with_digit v b) 0)

-- a number v that goes on to a line feed: its value, and how many bytes that takes with the line feed
unfoldable pub line_from : ℕ → List ℕ → Line
line_from v [] = no_line
line_from v (b ∷ l) =
    if eqb b line_feed then record { value = v; size = 1 }
    else if goes_on v b then further 1 (line_from (with_digit v b) l)
    else no_line

abbrev pub line_of : List ℕ → Line
line_of l = line_from 0 l

-- ---- the three lines

abbrev pub settings : List ℕ → ℕ → ℕ → Settings
settings name n limit = record { session = name; next = record { 0 = n }; limit = record { 0 = limit } }

-- what reading settings comes to: 19, or 0; the settings; and how many bytes they take
pub record Opening : Type 0 where
  pub refusal : Refusal
  pub settings : Settings
  pub size : ℕ

-- the answer that says so: a refusal is handed up alone
unfoldable pub opened_of : Opening → Result Opened Refusal
opened_of x = if eqb x.refusal.number 0 then Ok (record { settings = x.settings; size = x.size }) else Err x.refusal

-- our answer to document 01's bad settings: 19 as for a receiver's start, a blank name, and every number 0
abbrev pub refused_opened : Opening
refused_opened = record { refusal = record { number = bad_setting }; settings = settings blank 0 0; size = 0 }

-- the bytes that all settings have: the three keys, the name, and its line feed
abbrev pub fixed_size : ℕ
fixed_size = length session_key + length next_key + length limit_key + session_size + 1

-- the number of the line `next=` in front, and that of the line `limit=` after it
unfoldable pub next_line : List ℕ → Line
next_line l = line_of (past_of next_key l)

unfoldable pub limit_line : List ℕ → Line
limit_line l = line_of (past_of limit_key (drop (next_line l).size (past_of next_key l)))

-- the two numbers in their bounds: those that a receiver's start takes
unfoldable pub numbers_of : List ℕ → List ℕ → Opening
numbers_of name l =
    if ltb (next_line l).value least_number then refused_opened
    else if ltb (limit_line l).value least_limit then refused_opened
    else if ltb largest_limit (limit_line l).value then refused_opened
    else record {
      refusal = record { number = 0 };
      settings = settings name (next_line l).value (limit_line l).value;
      size = fixed_size + (next_line l).size + (limit_line l).size;
    }

-- the name after its key: ten printable bytes, not all of them spaces, and a line feed
unfoldable pub name_line : List ℕ → Opening
name_line l =
    if leb (length l) session_size then refused_opened
    else if not (eqb (get_or l session_size 0) line_feed) then refused_opened
    else if not (is_printable (take session_size l)) then refused_opened
    else if same_bytes (take session_size l) blank then refused_opened
    else numbers_of (take session_size l) (drop (session_size + 1) l)

-- the settings at the front of l, or their refusal
unfoldable pub settings_of : List ℕ → Opening
settings_of l = name_line (past_of session_key l)
