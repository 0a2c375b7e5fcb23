-- One record more is counted.
use Rattle.capture_tally.proofs.ReportLaws.{step-counted}
use Rattle.capture_tally.proofs.report.Report.step.Goals as goal

pub returns-clause-slots_after : goal.returns-clause-slots_after
returns-clause-slots_after c =
    step-counted c.args.self _ _ _ _ _ _ _ _ c.if-self-eq-MOST_RECORDS.false c.take-taken.ensures.takes_early c.of.ensures c.plus.ensures
