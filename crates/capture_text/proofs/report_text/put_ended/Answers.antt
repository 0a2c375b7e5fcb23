-- One law for each of the two lines.
use Rattle.capture_text.proofs.Rules.{reporting}
use Rattle.capture_text.proofs.report_text.put_ended.Goals as goal

pub returns-then-ended : goal.returns-then-ended
returns-then-ended c = search reporting

pub returns-else-ended : goal.returns-else-ended
returns-else-ended c = search reporting
