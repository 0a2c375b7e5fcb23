-- Each field passed shortens what is left of the line.
use Rattle.std.proofs.Common.{length}
use Rattle.vector_lines.proofs.parse.field.Given as goal

abbrev pub decreases-loop-first : goal.decreases-loop-first
decreases-loop-first l = length l.rest
