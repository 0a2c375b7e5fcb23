-- The output has room for the line, so it is never refused.
use Rattle.capture_text.proofs.Rules.{reporting}
use Rattle.capture_text.proofs.report_text.put_name.Goals as goal

pub returns : goal.returns
returns c = search reporting
