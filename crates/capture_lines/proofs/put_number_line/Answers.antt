-- The fewest digits that hold a number are its digits without leading zeros.
use Rattle.capture_lines.proofs.Rules.{lines}
use Rattle.capture_lines.proofs.put_number_line.Goals as goal

pub returns : goal.returns
returns c = search lines
