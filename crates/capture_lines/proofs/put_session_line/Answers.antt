-- It is the line of that key.
use Rattle.capture_lines.proofs.Rules.{lines}
use Rattle.capture_lines.proofs.put_session_line.Goals as goal

pub returns : goal.returns
returns c = search lines
