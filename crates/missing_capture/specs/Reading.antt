-- A capture read piece by piece, as a list of bytes: what is noted is a fold over its events.
use Rattle.std.specs.Prelude.{ℕ, ◌≤◌, List, true, ◌≡◌, length, take}
use Rattle.wire.specs.Bounds.{blank}
use Rattle.capture_lines.specs.Lines.{settings_refused}
use Rattle.capture_events.specs.declared.place.Place.{Place}
use Rattle.capture_events.specs.declared.place.Place.TheVariants.{Settings, Records, Done, Refused}
use Rattle.capture_events.specs.Events.{Event, opened, bad_settings, datagram, cut_short, fold}
use Rattle.capture_events.specs.Events.{At, Read, read_piece, End, read_last}
use Rattle.capture_events.specs.Next.{at_of, place_at}
use Rattle.missing_ranges.specs.Notes.{missing}
use Rattle.missing_records.specs.declared.Notes.{Notes}
use Rattle.missing_records.specs.Records.{LentNotes, lent_notes, lent_in, start_notes, take_of}
use Rattle.missing_text.specs.Text.{missing_text, room}
use Rattle.missing_capture.specs.declared.reading.Reading.{Reading}
use Rattle.missing_capture.specs.declared.reading.Fed.{Fed}

abbrev pub reading : Place → Notes → Reading
reading p x = record { place = p; notes = x }

abbrev pub fed : Reading → ℕ → Fed
fed s used = record { reading = s; used = used }

-- nothing noted: no name, and no ranges
abbrev pub no_notes : Notes
no_notes = record { session = blank; missing = missing true 0 0 }

-- nothing read yet
unfoldable pub start_reading : Reading
start_reading = reading Settings no_notes

-- ---- with the words that are lent for the edges

pub record LentReading : Type 0 where
  pub reading : Reading
  pub edges : List ℕ

abbrev pub lent_reading : Reading → List ℕ → LentReading
lent_reading s l = record { reading = s; edges = l }

-- a reading of these notes, and the notes of a reading
abbrev pub reading_with : Place → LentNotes → LentReading
reading_with p x = lent_reading (reading p x.notes) x.edges

abbrev pub notes_in : LentReading → LentNotes
notes_in s = lent_notes s.reading.notes s.edges

-- a reading after some bytes, and how many of them were used
pub record LentFed : Type 0 where
  pub fed : Fed
  pub edges : List ℕ

abbrev pub lent_fed : Fed → List ℕ → LentFed
lent_fed f l = record { fed = f; edges = l }

abbrev pub fed_with : LentReading → ℕ → LentFed
fed_with s used = lent_fed (fed s.reading used) s.edges

abbrev pub fed_reading : LentFed → LentReading
fed_reading f = lent_reading f.fed.reading f.edges

-- ---- what an event makes of some notes

-- settings start them, and bad ones leave them; a datagram is taken; one that is cut short says nothing
unfoldable pub noted_by : LentNotes → Event → LentNotes
noted_by x (opened s) = start_notes s.session x.edges s.next.0
noted_by x bad_settings = x
noted_by x (datagram d) = take_of x d
noted_by x cut_short = x

-- ---- a reading

-- the reading of some notes after some events, and what comes next then
abbrev pub reading_after : LentNotes → At → List Event → LentReading
reading_after x a es = reading_with (place_at a) (fold noted_by x es)

-- what some bytes that were read make of some notes
abbrev pub fed_by : LentNotes → Read → LentFed
fed_by x r = fed_with (reading_after x r.at r.events) r.used

-- some bytes, after which more may come
unfoldable pub feed_of : LentReading → List ℕ → LentFed
feed_of s l = fed_by (notes_in s) (read_piece (at_of s.reading.place) l)

-- the end of the input
abbrev pub ended_by : LentNotes → End → LentReading
ended_by x e = reading_after x e.at e.events

-- the last bytes
unfoldable pub finish_of : LentReading → List ℕ → LentReading
finish_of s l = ended_by (notes_in s) (read_last (at_of s.reading.place) l)

-- what it prints: while no settings were read, that they are refused
unfoldable pub text_at : Place → LentNotes → List ℕ
text_at Settings x = settings_refused
text_at (Records k) x = missing_text x.notes.session (lent_in x)
text_at Done x = missing_text x.notes.session (lent_in x)
text_at Refused x = settings_refused

abbrev pub text_of : LentReading → List ℕ
text_of s = text_at s.reading.place (notes_in s)

-- a text stands whole at the front of the output l, which became m, where that has room for any text; and is no longer
-- than that
pub record PrintsIn (size : ℕ) (l m text : List ℕ) : Type 0 where
  pub whole : room ≤ length l → take size m ≡ text
  pub within : size ≤ length m
