-- A number has at most 20 digits, so the line has room and is never refused.
use Rattle.capture_text.proofs.Rules.{reporting}
use Rattle.capture_text.proofs.report_text.put_count.Goals as goal

pub returns : goal.returns
returns c = search reporting
