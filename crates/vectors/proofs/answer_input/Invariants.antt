-- What is kept lies within the room.
use Rattle.std.proofs.Common.{length, ◌≤◌}
use Rattle.vectors.proofs.answer_input.Given as goal

abbrev pub invariant-loop : goal.invariant-loop
invariant-loop g l = l.have ≤ length l.room
