-- What was laid at the front of the array is the text, and its bytes are copied.
use Rattle.capture_text.proofs.Rules.{reporting}
use Rattle.capture_text.proofs.report_text.write_report.Goals as goal

pub returns : goal.returns
returns c = search reporting
