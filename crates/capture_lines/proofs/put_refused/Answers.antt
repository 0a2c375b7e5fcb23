-- It is the line of that key, at the front.
use Rattle.capture_lines.proofs.Rules.{lines}
use Rattle.capture_lines.proofs.put_refused.Goals as goal

pub returns : goal.returns
returns c = search lines
