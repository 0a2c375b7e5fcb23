-- What the records still to be read make of the report so far is what all of them make of the first.
use Rattle.std.proofs.Common.{◌-◌}
use Rattle.capture_records.specs.Records.{most_records}
use Rattle.capture_tally.specs.Report.{lent_report}
use Rattle.capture.proofs.TakeLaws.{Going}
use Rattle.capture.proofs.reading.take_records.Given as goal

abbrev pub invariant-loop-report : goal.invariant-loop-report
invariant-loop-report l =
    Going (lent_report l.fn.start l.fn.lengths l.fn.slots) l.fn.bytes (lent_report l.report l.lengths l.slots) l.rest
    (most_records - l.report.records)

abbrev pub decreases-loop-report : goal.decreases-loop-report
decreases-loop-report l = most_records - l.report.records
