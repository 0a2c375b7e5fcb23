-- A reading of a capture as bytes: its code while it isn't over, its stage, its receiver with the lengths of the
-- messages in its slots, how many records were read, and its five counts.
use Rattle.std.specs.Prelude.{ℕ, ◌+◌, ◌≤◌, min, List, ◌∷◌, ◌++◌, Bool, not, ◌≡◌, length, get_or, drop, ltb, eqb, if◌then◌else◌}
use Rattle.wire.specs.Output.{put}
use Rattle.receiver.specs.Receiver.{refused_receiver}
use Rattle.early_holding.specs.Holding.{early}
use Rattle.capture_records.specs.Records.{most_records}
use Rattle.capture_tally.specs.declared.tally.Tally.{Tally}
use Rattle.capture_tally.specs.Tally.{tally}
use Rattle.capture_tally.specs.Report.{report, fresh_of}
use Rattle.capture.specs.declared.reading.Stage.{Stage}
use Rattle.capture.specs.declared.reading.Stage.TheVariants.{Settings, Records, Done, Refused}
use Rattle.capture.specs.declared.reading.Reading as declared
use Rattle.capture.specs.Reading.{reading, LentReading, lent_reading, is_over}
use Rattle.host_states.specs.Little.{little, little_bytes}
use Rattle.host_states.specs.States.{reading_code, code_size, phase_size, is_open, open_byte, Keeps}
use Rattle.host_early.specs.Early.{lengths_at, early_size, head_bytes, early_in, lengths_in}

-- the bytes of a count
abbrev pub tally_size : ℕ
tally_size = 8

-- the stage stands behind the code, then the receiver, how many records were read, and the counts
abbrev pub stage_at : ℕ
stage_at = code_size

abbrev pub receiver_at : ℕ
receiver_at = stage_at + phase_size

abbrev pub reading_lengths_at : ℕ
reading_lengths_at = receiver_at + lengths_at

abbrev pub records_at : ℕ
records_at = receiver_at + early_size

abbrev pub delivered_at : ℕ
delivered_at = records_at + tally_size

abbrev pub old_at : ℕ
old_at = delivered_at + tally_size

abbrev pub quiet_at : ℕ
quiet_at = old_at + tally_size

abbrev pub asked_at : ℕ
asked_at = quiet_at + tally_size

abbrev pub refused_at : ℕ
refused_at = asked_at + tally_size

abbrev pub reading_size : ℕ
reading_size = refused_at + tally_size

-- what is open takes records by stage 2, and settings by every other one; what isn't is done by stage 3, and else its
-- settings are refused
unfoldable pub stage_of : Bool → ℕ → Stage
stage_of opened b =
    if opened then (if eqb b 2 then Records else Settings)
    else if eqb b 3 then Done
    else Refused

unfoldable pub stage_byte : Stage → ℕ
stage_byte Settings = 1
stage_byte Records = 2
stage_byte Done = 3
stage_byte Refused = 0

-- the numbers behind the receiver: the records, and the counts
unfoldable pub count_bytes : ℕ → Tally → List ℕ
count_bytes n t =
    little_bytes tally_size n ++ little_bytes tally_size t.delivered ++ little_bytes tally_size t.old
    ++ little_bytes tally_size t.quiet
    ++ little_bytes tally_size t.asked
    ++ little_bytes tally_size t.refused

-- what stands before the lengths
unfoldable pub before_bytes : declared.Reading → List ℕ
before_bytes x =
    open_byte reading_code (not (is_over x.stage)) ∷ stage_byte x.stage ∷ head_bytes x.report.receiver

-- and behind them
abbrev pub behind_bytes : declared.Reading → List ℕ
behind_bytes x = count_bytes x.report.records x.report.tally

-- a reading with its lengths
pub record KeptReading : Type 0 where
  pub reading : declared.Reading
  pub lengths : List ℕ

abbrev pub kept_reading : declared.Reading → List ℕ → KeptReading
kept_reading x lengths = record { reading = x; lengths = lengths }

unfoldable pub reading_bytes : KeptReading → List ℕ
reading_bytes x = before_bytes x.reading ++ x.lengths ++ behind_bytes x.reading

unfoldable pub tally_in : List ℕ → Tally
tally_in l =
    tally (little l delivered_at tally_size) (little l old_at tally_size) (little l quiet_at tally_size)
    (little l asked_at tally_size)
    (little l refused_at tally_size)

-- too few bytes: settings refused, and nothing read
abbrev pub refused_reading : declared.Reading
refused_reading = reading Refused (fresh_of (early refused_receiver 0))

-- any bytes are one; more records than are read count as the most
unfoldable pub reading_in : List ℕ → declared.Reading
reading_in l =
    if ltb (length l) reading_size then refused_reading
    else reading (stage_of (is_open reading_code l) (get_or l stage_at 0))
    (report (early_in (drop receiver_at l)) (min (little l records_at tally_size) most_records) (tally_in l))

-- the receiver's lengths in them
abbrev pub reading_lengths : List ℕ → List ℕ
reading_lengths l = lengths_in (drop receiver_at l)

abbrev pub kept_reading_in : List ℕ → KeptReading
kept_reading_in l = kept_reading (reading_in l) (reading_lengths l)

-- the reading in the bytes, with the slots ss lent beside them
abbrev pub lent_reading_in : List ℕ → List ℕ → LentReading
lent_reading_in l ss = lent_reading (reading_in l) (reading_lengths l) ss

abbrev pub KeepsReading : Bool → List ℕ → List ℕ → KeptReading → Type 0
KeepsReading lays l m x = Keeps lays l m reading_size kept_reading_in (reading_bytes x) x

-- ---- what `write` promises: all but the lengths is laid where there is room for all, and read back

pub record LaysReading (l m : List ℕ) (x : declared.Reading) : Type 0 where
  pub laid : m ≡ if ltb (length l) reading_size then l else put (put l 0 (before_bytes x)) records_at (behind_bytes x)
  pub back : reading_size ≤ length l → reading_in m ≡ x
