-- A reading of what is missing from a capture, as bytes: its code while it isn't over, its stage, its session, the
-- highest next number, how many records may still be read, how many ranges have both edges, and whether they are
-- refused.
use Rattle.std.specs.Prelude.{ℕ, ◌+◌, min, List, [], ◌∷◌, ◌++◌, Bool, not, length, get_or, drop, ltb, eqb, if◌then◌else◌}
use Rattle.wire.specs.Bounds.{session_size, number_size}
use Rattle.wire.specs.Parts.{first_bytes}
use Rattle.capture_records.specs.Records.{most_records}
use Rattle.capture_events.specs.declared.place.Place.{Place}
use Rattle.capture_events.specs.declared.place.Place.TheVariants.{Settings, Records, Done, Refused}
use Rattle.capture_events.specs.Events.{is_over_at}
use Rattle.capture_events.specs.Next.{at_of}
use Rattle.missing_ranges.specs.declared.ranges.Missing.{Missing}
use Rattle.missing_ranges.specs.Notes.{missing}
use Rattle.missing_capture.specs.declared.reading.Reading as declared
use Rattle.missing_capture.specs.Reading.{reading, no_notes, LentReading, lent_reading}
use Rattle.host_answers.specs.Answers.{flag}
use Rattle.host_states.specs.Little.{little, little_bytes}
use Rattle.host_states.specs.States.{missing_code, code_size, phase_size, is_open, open_byte, Keeps, Lays}

-- ---- the layout

-- the bytes of a count
abbrev pub count_size : ℕ
count_size = 8

abbrev pub stage_at : ℕ
stage_at = code_size

abbrev pub session_at : ℕ
session_at = stage_at + phase_size

abbrev pub highest_at : ℕ
highest_at = session_at + session_size

abbrev pub left_at : ℕ
left_at = highest_at + number_size

abbrev pub closed_at : ℕ
closed_at = left_at + count_size

abbrev pub refused_at : ℕ
refused_at = closed_at + count_size

abbrev pub missing_size : ℕ
missing_size = refused_at + 1

-- ---- its parts

-- what is open takes records by stage 2, so many at most, and settings by every other one; what isn't is done by stage
-- 3, and else its settings are refused
unfoldable pub place_of : Bool → ℕ → ℕ → Place
place_of opened b left =
    if opened then (if eqb b 2 then Records left else Settings)
    else if eqb b 3 then Done
    else Refused

unfoldable pub stage_byte : Place → ℕ
stage_byte Settings = 1
stage_byte (Records left) = 2
stage_byte Done = 3
stage_byte Refused = 0

unfoldable pub left_of : Place → ℕ
left_of Settings = 0
left_of (Records left) = left
left_of Done = 0
left_of Refused = 0

-- the numbers of the missing ranges, and what may still be read
unfoldable pub range_bytes : ℕ → Missing → List ℕ
range_bytes left m =
    little_bytes number_size m.highest.0 ++ little_bytes count_size left ++ little_bytes count_size m.closed
    ++ (flag m.refused ∷ [])

unfoldable pub missing_bytes : declared.Reading → List ℕ
missing_bytes x =
    open_byte missing_code (not (is_over_at (at_of x.place))) ∷ stage_byte x.place ∷ x.notes.session
    ++ range_bytes (left_of x.place) x.notes.missing

-- ---- read back

-- too few bytes: settings refused, and nothing noted
abbrev pub refused_reading : declared.Reading
refused_reading = reading Refused no_notes

-- any bytes are one; more records than are read count as the most, and ranges are refused by every byte but 0
unfoldable pub reading_in : List ℕ → declared.Reading
reading_in l =
    if ltb (length l) missing_size then refused_reading
    else reading
    (place_of (is_open missing_code l) (get_or l stage_at 0) (min (little l left_at count_size) most_records))
    (record {
      session = first_bytes session_size (drop session_at l);
      missing =
          missing (not (eqb (get_or l refused_at 0) 0)) (little l closed_at count_size) (little l highest_at number_size);
    })

-- the reading in the bytes, with the words es lent beside them
abbrev pub lent_reading_in : List ℕ → List ℕ → LentReading
lent_reading_in l es = lent_reading (reading_in l) es

abbrev pub KeepsMissing : Bool → List ℕ → List ℕ → declared.Reading → Type 0
KeepsMissing lays l m x = Keeps lays l m missing_size reading_in (missing_bytes x) x

-- ---- for private helpers alone; no public promise uses it

-- a reading of its parts
abbrev pub reading_of : Place → List ℕ → Missing → declared.Reading
reading_of p name m = reading p (record { session = name; missing = m })

abbrev pub LaysMissing : List ℕ → List ℕ → declared.Reading → Type 0
LaysMissing l m x = Lays l m reading_in (missing_bytes x) x
