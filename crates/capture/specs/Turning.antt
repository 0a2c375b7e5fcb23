-- A program that reads a capture over one lent buffer: a reading, and how many bytes are kept at the buffer's front.
use Rattle.std.specs.Prelude.{ℕ, List, [], ◌∷◌, length, if◌then◌else◌}
use Rattle.wire.specs.Output.{put}
use Rattle.capture_events.specs.Turns.{Turn, turn_of}
use Rattle.capture.specs.declared.reading.Reading.{Reading}
use Rattle.capture.specs.declared.turning.Turning.{Turning}
use Rattle.capture.specs.Reading.{start_reading, at_of, LentReading, lent_reading, report_in, reading_after, is_over}

abbrev pub turning : Reading → ℕ → Turning
turning s have = record { reading = s; have = have }

-- nothing read and nothing kept
unfoldable pub start_turning : Turning
start_turning = turning start_reading 0

-- with the lengths and the slots that are lent to the receiver
pub record LentTurning : Type 0 where
  pub turning : Turning
  pub lengths : List ℕ
  pub slots : List ℕ

abbrev pub lent_turning : Turning → List ℕ → List ℕ → LentTurning
lent_turning s lengths slots = record { turning = s; lengths = lengths; slots = slots }

-- a turning of this reading, and the reading of a turning
abbrev pub turning_with : LentReading → ℕ → LentTurning
turning_with s have = lent_turning (turning s.reading have) s.lengths s.slots

abbrev pub turned_reading : LentTurning → LentReading
turned_reading s = lent_reading s.turning.reading s.lengths s.slots

-- ---- one turn over the buffer m, behind whose kept bytes so many came

abbrev pub turn_at : Turning → List ℕ → ℕ → Turn
turn_at s m got = turn_of (at_of s.reading) m s.have got

-- what it comes to: the report is a fold over the turn's events
unfoldable pub turned_of : LentTurning → List ℕ → ℕ → LentTurning
turned_of s m got =
    turning_with
    (reading_after (report_in (turned_reading s)) (turn_at s.turning m got).at (turn_at s.turning m got).events)
    (turn_at s.turning m got).have

-- what is kept moves to the front
unfoldable pub buffer_of : Turning → List ℕ → ℕ → List ℕ
buffer_of s m got = (turn_at s m got).buffer

-- ---- all turns

-- a piece is read behind what was kept, and a turn made of it
abbrev pub turned_by : LentTurning → List ℕ → List ℕ → LentTurning
turned_by s m p = turned_of s (put m s.turning.have p) (length p)

-- a program: it turns while something may follow, and once more, with no bytes, at the end of the input
unfoldable pub by_turns : LentTurning → List ℕ → List (List ℕ) → LentReading
by_turns s m [] = turned_reading (turned_of s m 0)
by_turns s m (p ∷ ps) =
    if is_over (turned_by s m p).turning.reading.stage then turned_reading (turned_by s m p)
    else by_turns (turned_by s m p) (buffer_of s.turning (put m s.turning.have p) (length p)) ps
