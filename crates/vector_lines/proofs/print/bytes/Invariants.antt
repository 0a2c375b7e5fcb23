-- Each part printed shortens what is left.
use Rattle.std.proofs.Common.{length}
use Rattle.vector_lines.proofs.print.bytes.Given as goal

abbrev pub decreases-loop-rest : goal.decreases-loop-rest
decreases-loop-rest g l = length l.rest
