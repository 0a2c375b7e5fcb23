-- Each byte or run leaves a place within the output, and what is left of the field is shorter.
use Rattle.std.proofs.Common.{length, ◌≤◌}
use Rattle.vector_lines.proofs.parse.bytes.Given as goal

abbrev pub invariant-loop-rest : goal.invariant-loop-rest
invariant-loop-rest l = l.at ≤ length l.out

abbrev pub decreases-loop-rest : goal.decreases-loop-rest
decreases-loop-rest l = length l.rest
