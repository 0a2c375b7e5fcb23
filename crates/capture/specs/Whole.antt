-- A whole capture: what it means, and that the pieces it comes in don't matter.
use Rattle.std.specs.Prelude.{ℕ, ◌≤◌, List, [], ◌∷◌, ◌++◌, true, ◌≡◌, length, drop, replicate, eqb, if◌then◌else◌}
use Rattle.wire.specs.Bounds.{session_size}
use Rattle.wire.specs.Bytes.{joined, AreBytes}
use Rattle.receiver.specs.Receiver.{receiver_start_refusal, refused_receiver}
use Rattle.early_holding.specs.Holding.{slot_bytes, length_bytes, Lent, lent, early}
use Rattle.capture_settings.specs.Settings.{settings_of}
use Rattle.capture_records.specs.Records.{records_of, is_cut}
use Rattle.capture_events.specs.Events.{settings}
use Rattle.capture_events.specs.Turns.{Fit, most_kept}
use Rattle.capture_tally.specs.Report.{fresh_of, LentReport, lent_report}
use Rattle.capture_tally.specs.Sums.{summed, summed_cut}
use Rattle.capture_text.specs.Text.{room}
use Rattle.capture.specs.declared.reading.Stage.TheVariants.{Done, Refused}
use Rattle.capture.specs.declared.reading.Reading.{Reading}
use Rattle.capture.specs.Reading.{start_reading, LentReading, lent_reading, reading_with, fed_with, fed_reading}
use Rattle.capture.specs.Reading.{started_of, is_over, feed_of, finish_of, text_of}
use Rattle.capture.specs.Turning.{start_turning, LentTurning, lent_turning, turned_of, by_turns}

-- ---- what a capture means

-- the report of a receiver over the records in l: the sums of its answers and requests
unfoldable pub records_report : Lent → List ℕ → LentReport
records_report s l = if is_cut l then summed_cut s (records_of l) else summed s (records_of l)

-- the settings start the receiver, which is lent these lengths and slots, and the records follow; bad settings are
-- refused alone
unfoldable pub capture_of : List ℕ → List ℕ → List ℕ → LentReading
capture_of lengths slots l =
    if eqb (settings_of l).refusal.number 0
    then reading_with Done
    (records_report (lent (started_of (settings_of l).settings) lengths slots) (drop (settings_of l).size l))
    else reading_with Refused (lent_report (fresh_of (early refused_receiver 0)) lengths slots)

-- what the capture program prints: its lengths and slots are zeros at first
unfoldable pub capture_text : List ℕ → List ℕ
capture_text l = text_of (capture_of (replicate length_bytes 0) (replicate slot_bytes 0) l).reading

-- what bytes the lengths and slots have at first doesn't matter, so long as they are of their size
unfoldable pub AnySlots : Type 0
AnySlots = (lengths slots l : List ℕ) → length lengths ≡ length_bytes → length slots ≡ slot_bytes
    → text_of (capture_of lengths slots l).reading ≡ capture_text l

-- ---- pieces

-- what a program does with pieces ps, where it kept the bytes l: each piece is fed behind what was kept, and what
-- isn't used is kept; what is left at the end is finished
unfoldable pub by_pieces : LentReading → List ℕ → List (List ℕ) → LentReading
by_pieces s l [] = finish_of s l
by_pieces s l (p ∷ ps) =
    by_pieces (fed_reading (feed_of s (l ++ p))) (drop (feed_of s (l ++ p)).fed.used (l ++ p)) ps

-- for every cutting of the input into pieces, the report is the whole capture's
unfoldable pub AnyCutting : Type 0
AnyCutting = (lengths slots : List ℕ) (ps : List (List ℕ))
    → by_pieces (lent_reading start_reading lengths slots) [] ps ≡ capture_of lengths slots (joined ps)

-- for every buffer and every cutting of the input into pieces that fit, the report is the whole capture's
unfoldable pub AnyTurns : Type 0
AnyTurns = (lengths slots m : List ℕ) (ps : List (List ℕ)) → Fit settings m 0 ps
    → by_turns (lent_turning start_turning lengths slots) m ps ≡ capture_of lengths slots (joined ps)

-- a turn that no bytes came for is the last
unfoldable pub EndIsOver : Type 0
EndIsOver = (s : LentTurning) (m : List ℕ) → is_over (turned_of s m 0).turning.reading.stage ≡ true

-- settings that are read are never refused by the receiver's start: numbers that it would refuse are bad settings
unfoldable pub StartTakesSettings : Type 0
StartTakesSettings = (l : List ℕ) → (settings_of l).refusal.number ≡ 0
    → receiver_start_refusal (settings_of l).settings.next.0 (settings_of l).settings.limit.0 ≡ 0

-- feeding uses what is there but for less than a record, so that the memory needed is constant
pub record KeepsLittle (s : LentReading) (l : List ℕ) : Type 0 where
  pub used_within : (feed_of s l).fed.used ≤ length l
  pub little : AreBytes l → length (drop (feed_of s l).fed.used l) ≤ most_kept

-- what is over stays as it is, and so does what is lent
unfoldable pub OverStays : Type 0
OverStays = (s : LentReading) (l : List ℕ) → is_over s.reading.stage ≡ true
    → (feed_of s l ≡ fed_with s (length l)) × (finish_of s l ≡ s)

-- every report fits: what any reading prints whose receiver's name has ten bytes, as its type holds, and what any
-- capture prints
pub record FitsTheRoom : Type 0 where
  pub any_reading : (s : Reading) → length s.report.receiver.base.session ≡ session_size
      → length (text_of s) ≤ room
  pub any_capture : (lengths slots l : List ℕ) → length (text_of (capture_of lengths slots l).reading) ≤ room

pub record CapturePromises : Type 0 where
  pub any_cutting : AnyCutting
  pub any_turns : AnyTurns
  pub any_slots : AnySlots
  pub end_is_over : EndIsOver
  pub start_takes_settings : StartTakesSettings
  pub keeps_little : (s : LentReading) (l : List ℕ) → KeepsLittle s l
  pub over_stays : OverStays
  pub fits_the_room : FitsTheRoom
