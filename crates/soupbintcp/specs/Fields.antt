-- The fields of a packet that is there whole, by its letter.
use Rattle.std.specs.Prelude.{ℕ, ◌+◌, List, [], ◌∷◌, Bool, true, not, get_or, take, drop, eqb, if◌then◌else◌, Option, Some, None}
use Rattle.wire.specs.Text.{letter}
use Rattle.wire.specs.Bounds.{least_number, session_size}
use Rattle.wire.specs.Words.{Words, Case, answer, refused, says}
use Rattle.text_fields.specs.Session.{good_session}
use Rattle.text_fields.specs.Sound.{username_size, password_size}
use Rattle.text_fields.specs.Number.{NumberKind, value, bad, number_field_size, read_number}
use Rattle.soupbintcp.specs.declared.packet.Packet.{Packet}
use Rattle.soupbintcp.specs.Letters.{PacketKind, accepted, rejected, login, packet_kind, packet_values}
use Rattle.soupbintcp.specs.Letters.{letter_accepted, letter_rejected, letter_login, plain_of}
use Rattle.soupbintcp.specs.Head.{head_size, letter_of}

-- ---- where they stand

-- A and L have a session, and a number after it
unfoldable pub has_fields : ℕ → Bool
has_fields c = if eqb c letter_accepted then true else eqb c letter_login

-- in L the username and the password stand before it
unfoldable pub session_at : ℕ → ℕ
session_at c = if eqb c letter_login then head_size + username_size + password_size else head_size

-- the bytes of the session, and of the number: none but in A and L
unfoldable pub session_bytes : ℕ → List ℕ → List ℕ
session_bytes c l = if has_fields c then take session_size (drop (session_at c) l) else []

unfoldable pub number_bytes : ℕ → List ℕ → List ℕ
number_bytes c l = if has_fields c then take number_field_size (drop (session_at c + session_size) l) else []

-- ---- what they may be

-- all spaces in L and not in A; of every other letter the session is no bytes, which are blank and never bad
unfoldable pub blank_allowed : ℕ → Bool
blank_allowed c = not (eqb c letter_accepted)

-- at least 1 in A
unfoldable pub least_number_of : ℕ → ℕ
least_number_of c = if eqb c letter_accepted then least_number else 0

-- what the fields make: a packet of a kind, or one of them is bad
pub data FieldsKind : Type 0 where
  good : PacketKind → FieldsKind
  bad_field : FieldsKind

unfoldable pub fields_words : Option Packet → Words FieldsKind
fields_words (Some p) = says (good (packet_kind p)) (packet_values p)
fields_words None = says bad_field []

unfoldable pub numbered_of : ℕ → PacketKind
numbered_of c = if eqb c letter_accepted then accepted else login

-- a number that was read
unfoldable pub number_fields : ℕ → Case NumberKind → List ℕ → Words FieldsKind
number_fields c (answer value) vs = says (good (numbered_of c)) (get_or vs 0 0 ∷ [])
number_fields c (answer bad) vs = says bad_field []
number_fields c refused vs = says bad_field []

-- A and L: the session is good, and so is the number; the session is looked at first
unfoldable pub with_number : ℕ → Bool → Words NumberKind → Words FieldsKind
with_number c ok w = if ok then number_fields c w.which w.values else says bad_field []

-- the reasons of J: `A` for the account, `S` for the session or the number
abbrev pub not_authorized : ℕ
not_authorized = letter "A"

abbrev pub session_not_available : ℕ
session_not_available = letter "S"

unfoldable pub good_reason : ℕ → Bool
good_reason b = if eqb b not_authorized then true else eqb b session_not_available

-- J: the reason is good
unfoldable pub reason_fields : ℕ → Words FieldsKind
reason_fields b = if good_reason b then says (good rejected) (b ∷ []) else says bad_field []

-- by the letter
unfoldable pub fields_at : ℕ → ℕ → Bool → Words NumberKind → Words FieldsKind
fields_at c reason ok w =
    if has_fields c then with_number c ok w
    else if eqb c letter_rejected then reason_fields reason
    else says (good (plain_of c)) []

-- those of the packet in front of l
unfoldable pub fields_of : List ℕ → Words FieldsKind
fields_of l =
    fields_at (letter_of l) (get_or l head_size 0) (good_session (blank_allowed (letter_of l)) (session_bytes (letter_of l) l))
    (read_number (least_number_of (letter_of l)) (number_bytes (letter_of l) l))
