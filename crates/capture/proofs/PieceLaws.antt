-- What is kept between two pieces is little, and what is over stays as it is.
use mathlib.Core.Path.{◌≡◌, refl}
use mathlib.Core.List.{List}
use mathlib.Core.Bool.{true}
use Prim.Native.Nat.{ℕ}
use native.Mathlib.Omega.{arith}
use lib.ListN.{length}
use Rattle.capture_events.specs.Events.{fold, waits_at, read_on, read_piece, end_at, read_last}
use Rattle.capture_events.proofs.EventLaws.{piece-used}
use Rattle.capture_events.proofs.TurnLaws.{little-piece}
use Rattle.capture_tally.specs.Report.{LentReport}
use Rattle.capture.specs.declared.reading.Stage.{Stage}
use Rattle.capture.specs.declared.reading.Stage.TheVariants.{Settings, Records, Done, Refused}
use Rattle.capture.specs.Reading.{LentReading, reading_with, report_in, fed_with, at_stage, at_of, stage_of, is_over, feed_of, finish_of}
use Rattle.capture.specs.Whole.{KeepsLittle, OverStays}

pub keeps_little : (s : LentReading) (l : List ℕ) → KeepsLittle s l
unfolding feed_of
keeps_little s l = record { used_within = piece-used (at_of s.reading) l; little = little-piece (at_of s.reading) l }

over-at : (g : Stage) (x : LentReport) (l : List ℕ) → is_over g ≡ true
    → (feed_of (reading_with g x) l ≡ fed_with (reading_with g x) (length l)) × (finish_of (reading_with g x) l ≡ reading_with g x)
unfolding is_over feed_of finish_of at_stage stage_of waits_at read_on read_piece end_at read_last fold
over-at Settings x l e = let z : ◌≡◌ {A = ℕ} 0 1 = cc in absurd (omega arith)
over-at Records x l e = let z : ◌≡◌ {A = ℕ} 0 1 = cc in absurd (omega arith)
over-at Done x l e = (refl, refl)
over-at Refused x l e = (refl, refl)

pub over_stays : OverStays
unfolding OverStays
over_stays s l e = over-at s.reading.stage (report_in s) l e
