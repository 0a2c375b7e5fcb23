-- A capture read piece by piece, as a list of bytes: the report is a fold over its events.
use Rattle.std.specs.Prelude.{ℕ, ◌-◌, ◌≤◌, List, Bool, true, false, ◌≡◌, take, eqb, if◌then◌else◌}
use Rattle.receiver.specs.Receiver.{refused_receiver}
use Rattle.early_holding.specs.declared.holding.EarlyReceiver.{EarlyReceiver}
use Rattle.early_holding.specs.Holding.{early}
use Rattle.early_receiver.specs.Early.{start_early}
use Rattle.capture_settings.specs.declared.settings.Settings as declared
use Rattle.capture_records.specs.Records.{most_records}
use Rattle.capture_events.specs.Events.{Event, opened, bad_settings, datagram, cut_short, fold}
use Rattle.capture_events.specs.Events.{At, settings, records, done, refused, Read, read_piece, End, read_last}
use Rattle.capture_tally.specs.declared.report.Report.{Report}
use Rattle.capture_tally.specs.Report.{fresh_of, cut_of, LentReport, lent_report, step_of, cut_lent}
use Rattle.capture_lines.specs.Lines.{settings_refused}
use Rattle.capture_text.specs.Text.{report_text, room}
use Rattle.capture.specs.declared.reading.Stage.{Stage}
use Rattle.capture.specs.declared.reading.Stage.TheVariants.{Settings, Records, Done, Refused}
use Rattle.capture.specs.declared.reading.Reading.{Reading}
use Rattle.capture.specs.declared.reading.Fed.{Fed}
use Rattle.capture.specs.declared.reading.Printed.{Printed}

abbrev pub reading : Stage → Report → Reading
reading s x = record { stage = s; report = x }

abbrev pub fed : Reading → ℕ → Fed
fed s used = record { reading = s; used = used }

-- nothing read yet: the receiver is a refused one
unfoldable pub start_reading : Reading
start_reading = reading Settings (fresh_of (early refused_receiver 0))

-- ---- with the lengths and the slots that are lent to the receiver

pub record LentReading : Type 0 where
  pub reading : Reading
  pub lengths : List ℕ
  pub slots : List ℕ

abbrev pub lent_reading : Reading → List ℕ → List ℕ → LentReading
lent_reading s lengths slots = record { reading = s; lengths = lengths; slots = slots }

-- a reading of this report, and the report of a reading
abbrev pub reading_with : Stage → LentReport → LentReading
reading_with s x = lent_reading (reading s x.report) x.lengths x.slots

abbrev pub report_in : LentReading → LentReport
report_in s = lent_report s.reading.report s.lengths s.slots

-- a reading after some bytes, and how many of them were used
pub record LentFed : Type 0 where
  pub fed : Fed
  pub lengths : List ℕ
  pub slots : List ℕ

abbrev pub lent_fed : Fed → List ℕ → List ℕ → LentFed
lent_fed f lengths slots = record { fed = f; lengths = lengths; slots = slots }

abbrev pub fed_with : LentReading → ℕ → LentFed
fed_with s used = lent_fed (fed s.reading used) s.lengths s.slots

abbrev pub fed_reading : LentFed → LentReading
fed_reading f = lent_reading f.fed.reading f.lengths f.slots

-- ---- what an event makes of a report

-- the receiver that settings start
abbrev pub started_of : declared.Settings → EarlyReceiver
started_of s = start_early s.session s.next.0 s.limit.0

-- settings start a fresh one, and bad ones leave it; a datagram is one record more, and so is one that is cut short.
-- Only a datagram changes what is lent
unfoldable pub reported : LentReport → Event → LentReport
reported x (opened s) = lent_report (fresh_of (started_of s)) x.lengths x.slots
reported x bad_settings = x
reported x (datagram d) = step_of x d
reported x cut_short = cut_lent x

-- ---- what comes next of a reading

-- how many records a report still takes
abbrev pub room_of : Report → ℕ
room_of x = most_records - x.records

-- by its stage, where so many records may still be read
unfoldable pub at_stage : Stage → ℕ → At
at_stage Settings k = settings
at_stage Records k = records k
at_stage Done k = done
at_stage Refused k = refused

abbrev pub at_of : Reading → At
at_of s = at_stage s.stage (room_of s.report)

unfoldable pub stage_of : At → Stage
stage_of settings = Settings
stage_of (records k) = Records
stage_of done = Done
stage_of refused = Refused

-- nothing that follows changes it
unfoldable pub is_over : Stage → Bool
is_over Settings = false
is_over Records = false
is_over Done = true
is_over Refused = true

-- ---- a reading

-- the reading of a report after some events, and what comes next then
abbrev pub reading_after : LentReport → At → List Event → LentReading
reading_after x a es = reading_with (stage_of a) (fold reported x es)

-- what some bytes that were read make of a report
abbrev pub fed_by : LentReport → Read → LentFed
fed_by x r = fed_with (reading_after x r.at r.events) r.used

-- some bytes, after which more may come
unfoldable pub feed_of : LentReading → List ℕ → LentFed
feed_of s l = fed_by (report_in s) (read_piece (at_of s.reading) l)

-- the end of the input
abbrev pub ended_by : LentReport → End → LentReading
ended_by x e = reading_after x e.at e.events

-- the last bytes
unfoldable pub finish_of : LentReading → List ℕ → LentReading
finish_of s l = ended_by (report_in s) (read_last (at_of s.reading) l)

-- what it prints: while no settings were read, that they are refused
unfoldable pub text_at : Stage → Report → List ℕ
text_at Settings x = settings_refused
text_at Records x = report_text x
text_at Done x = report_text x
text_at Refused x = settings_refused

abbrev pub text_of : Reading → List ℕ
text_of s = text_at s.stage s.report

-- a text stands whole at the front of what is handed back, and is no longer than that
pub record Prints (r : Printed) (text : List ℕ) : Type 0 where
  pub whole : take r.size r.text ≡ text
  pub within : r.size ≤ room

-- ---- for private helpers alone; no public promise uses it

-- the report at the end of the input, where so many bytes are left
unfoldable pub end_of : Report → ℕ → Report
end_of x left = if eqb left 0 then x else cut_of x
