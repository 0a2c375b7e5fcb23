-- The missing ranges of a session, from datagram to datagram.
use Rattle.std.specs.Prelude.{ℕ, ◌+◌, List, [], ◌∷◌, Bool, false, ◌≡◌, take, if◌then◌else◌, Result, Ok, is_ok}
use Rattle.wire.specs.Bounds.{session_size}
use Rattle.wire.specs.Bytes.{same_bytes}
use Rattle.wire.specs.declared.refusal.Refusal.{Refusal}
use Rattle.moldudp64.specs.Header.{number_of}
use Rattle.moldudp64.specs.Downstream.{block_count, well_formed}
use Rattle.missing_ranges.specs.Notes.{Lent, lent, start_in, note_of}
use Rattle.missing_records.specs.declared.Notes.{Notes}
use Rattle.missing_records.specs.declared.Said.{Said}

-- document 02's "accepted here": read without refusal, and of the session's name. The receiver's own grounds, 18 and
-- 20, are none
unfoldable pub accepted : List ℕ → List ℕ → Bool
accepted name d = if well_formed d then same_bytes (take session_size d) name else false

-- the next number that it states or implies: data has as many numbers as blocks, from its own on; a heartbeat and an
-- end of session have none, and state theirs
abbrev pub next_in : List ℕ → ℕ
next_in d = number_of d + block_count d

-- ---- with the words that are lent for the edges

pub record LentNotes : Type 0 where
  pub notes : Notes
  pub edges : List ℕ

abbrev pub lent_notes : Notes → List ℕ → LentNotes
lent_notes s l = record { notes = s; edges = l }

-- the missing ranges of some notes, and notes with these ranges
abbrev pub lent_in : LentNotes → Lent
lent_in x = lent x.notes.missing x.edges

abbrev pub notes_with : List ℕ → Lent → LentNotes
notes_with name y = lent_notes (record { session = name; missing = y.missing }) y.edges

-- ---- the start, at a number; and one datagram

abbrev pub start_notes : List ℕ → List ℕ → ℕ → LentNotes
start_notes name l n = notes_with name (start_in l n)

unfoldable pub take_of : LentNotes → List ℕ → LentNotes
take_of x d =
    if accepted x.notes.session d
    then notes_with x.notes.session (note_of (lent_in x) (number_of d) (next_in d))
    else x

-- a list of datagrams
unfoldable pub over : LentNotes → List (List ℕ) → LentNotes
over x [] = x
over x (d ∷ ds) = over (take_of x d) ds

-- ---- for private helpers alone; no public promise uses it

-- numbers noted where the datagram is ours
unfoldable pub noted_if : Bool → LentNotes → ℕ → ℕ → LentNotes
noted_if ours x f e = if ours then notes_with x.notes.session (note_of (lent_in x) f e) else x

-- whether a datagram is read without refusal, and its numbers then
pub record IsSaid (r : Result Said Refusal) (d : List ℕ) : Type 0 where
  pub well : is_ok r ≡ well_formed d
  pub numbers : (s : Said) → r ≡ Ok s → (s.first.0 ≡ number_of d) × (s.next.0 ≡ next_in d)
