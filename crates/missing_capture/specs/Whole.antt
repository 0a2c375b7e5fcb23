-- A whole capture: what is missing from it, and that the pieces it comes in don't matter.
use Rattle.std.specs.Prelude.{ℕ, ◌≤◌, List, [], ◌∷◌, ◌++◌, true, ◌≡◌, length, drop, replicate, eqb, if◌then◌else◌}
use Rattle.wire.specs.Bounds.{session_size}
use Rattle.wire.specs.Bytes.{joined, AreBytes}
use Rattle.capture_settings.specs.Settings.{settings_of}
use Rattle.capture_records.specs.Records.{records_of}
use Rattle.capture_lines.specs.Lines.{settings_refused}
use Rattle.capture_events.specs.declared.place.Place.TheVariants.{Done, Refused}
use Rattle.capture_events.specs.Events.{settings, is_over_at}
use Rattle.capture_events.specs.Next.{at_of}
use Rattle.capture_events.specs.Turns.{Fit, most_kept}
use Rattle.missing_ranges.specs.Edges.{Range, total_from, listed_below}
use Rattle.missing_ranges.specs.Notes as ranges
use Rattle.missing_records.specs.Records.{lent_notes, start_notes, over}
use Rattle.missing_records.specs.Promises.{highest_of, ListsMissing, NeedsMoreWithin}
use Rattle.missing_text.specs.Text.{list_text, too_many_text, room}
use Rattle.missing_capture.specs.Reading.{no_notes, start_reading, LentReading, lent_reading, reading_with}
use Rattle.missing_capture.specs.Reading.{fed_reading, fed_with, feed_of, finish_of, text_of}
use Rattle.missing_capture.specs.Turning.{start_turning, LentTurning, lent_turning, turned_of, by_turns}

-- ---- what a capture means

-- its session, its starting number, and the datagrams of its records
abbrev pub session_in : List ℕ → List ℕ
session_in l = (settings_of l).settings.session

abbrev pub start_number_in : List ℕ → ℕ
start_number_in l = (settings_of l).settings.next.0

abbrev pub datagrams_in : List ℕ → List (List ℕ)
datagrams_in l = records_of (drop (settings_of l).size l)

-- the settings start the notes, in these lent words, and the records follow; bad settings are refused alone
unfoldable pub missing_capture_of : List ℕ → List ℕ → LentReading
missing_capture_of words l =
    if eqb (settings_of l).refusal.number 0
    then reading_with Done (over (start_notes (session_in l) words (start_number_in l)) (datagrams_in l))
    else reading_with Refused (lent_notes no_notes words)

-- what the program prints: its words are zeros at first
unfoldable pub missing_capture_text : List ℕ → List ℕ
missing_capture_text l = text_of (missing_capture_of (replicate ranges.room 0) l)

-- what is printed of every capture, in three cases that exclude each other: that its settings are refused; the list of
-- what is missing, with how many numbers that is; or that after some of its records more ranges are missing than are
-- kept
pub data PrintedMissing (l : List ℕ) : Type 0 where
  bad : ((settings_of l).refusal.number ≡ 0 → ⊥) → missing_capture_text l ≡ settings_refused → PrintedMissing l
  listed : (rs : List Range) → (settings_of l).refusal.number ≡ 0
      → (NeedsMoreWithin (session_in l) (start_number_in l) (datagrams_in l) → ⊥)
      → ListsMissing (session_in l) (start_number_in l) (datagrams_in l) rs
      → total_from 0 rs ≡ listed_below (highest_of (session_in l) (start_number_in l) (datagrams_in l)) rs
      → missing_capture_text l ≡ list_text (session_in l) rs
      → PrintedMissing l
  too_many : (settings_of l).refusal.number ≡ 0 → NeedsMoreWithin (session_in l) (start_number_in l) (datagrams_in l)
      → missing_capture_text l ≡ too_many_text
      → PrintedMissing l

unfoldable pub PrintsWhatIsMissing : Type 0
PrintsWhatIsMissing = (l : List ℕ) → PrintedMissing l

-- what the lent words were at first doesn't matter, so long as there are enough of them
unfoldable pub AnyWords : Type 0
AnyWords = (words l : List ℕ) → ranges.room ≤ length words → text_of (missing_capture_of words l) ≡ missing_capture_text l

-- a fresh reading that is given all bytes at once is the whole capture's: a fold over its events
unfoldable pub IsTheFold : Type 0
IsTheFold = (words l : List ℕ) → finish_of (lent_reading start_reading words) l ≡ missing_capture_of words l

-- ---- pieces

-- what a program does with pieces ps, where it kept the bytes l: each piece is fed behind what was kept, and what
-- isn't used is kept; what is left at the end is finished
unfoldable pub by_pieces : LentReading → List ℕ → List (List ℕ) → LentReading
by_pieces s l [] = finish_of s l
by_pieces s l (p ∷ ps) =
    by_pieces (fed_reading (feed_of s (l ++ p))) (drop (feed_of s (l ++ p)).fed.used (l ++ p)) ps

-- for every cutting of the input into pieces, what is noted is the whole capture's
unfoldable pub AnyCutting : Type 0
AnyCutting = (words : List ℕ) (ps : List (List ℕ))
    → by_pieces (lent_reading start_reading words) [] ps ≡ missing_capture_of words (joined ps)

-- for every buffer and every cutting of the input into pieces that fit, it is the whole capture's
unfoldable pub AnyTurns : Type 0
AnyTurns = (words m : List ℕ) (ps : List (List ℕ)) → Fit settings m 0 ps
    → by_turns (lent_turning start_turning words) m ps ≡ missing_capture_of words (joined ps)

-- a turn that no bytes came for is the last
unfoldable pub EndIsOver : Type 0
EndIsOver = (s : LentTurning) (m : List ℕ) → is_over_at (at_of (turned_of s m 0).turning.reading.place) ≡ true

-- every text fits: what any reading prints whose name has ten bytes, as its type holds
unfoldable pub FitsTheRoom : Type 0
FitsTheRoom = (s : LentReading) → length s.reading.notes.session ≡ session_size → length (text_of s) ≤ room

-- feeding uses what is there but for less than a record, so that the memory needed is constant
pub record KeepsLittle (s : LentReading) (l : List ℕ) : Type 0 where
  pub used_within : (feed_of s l).fed.used ≤ length l
  pub little : AreBytes l → length (drop (feed_of s l).fed.used l) ≤ most_kept

-- what is over stays as it is, and so do the lent words
unfoldable pub OverStays : Type 0
OverStays = (s : LentReading) (l : List ℕ) → is_over_at (at_of s.reading.place) ≡ true
    → (feed_of s l ≡ fed_with s (length l)) × (finish_of s l ≡ s)

pub record MissingCapturePromises : Type 0 where
  pub prints_what_is_missing : PrintsWhatIsMissing
  pub any_words : AnyWords
  pub is_the_fold : IsTheFold
  pub any_cutting : AnyCutting
  pub any_turns : AnyTurns
  pub end_is_over : EndIsOver
  pub keeps_little : (s : LentReading) (l : List ℕ) → KeepsLittle s l
  pub over_stays : OverStays
  pub fits_the_room : FitsTheRoom
