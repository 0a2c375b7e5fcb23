-- The two parts follow each other, so they are one text.
use Rattle.capture_text.proofs.Rules.{reporting}
use Rattle.capture_text.proofs.report_text.put_report.Goals as goal

pub returns : goal.returns
returns c = search reporting
