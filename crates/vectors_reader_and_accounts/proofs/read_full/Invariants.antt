-- What was read lies within the room, and each piece leaves less of it.
use Rattle.std.proofs.Common.{length, ◌≤◌, ◌-◌}
use Rattle.vectors_reader_and_accounts.proofs.read_full.Given as goal

abbrev pub invariant-loop-have : goal.invariant-loop-have
invariant-loop-have g l = l.have ≤ length l.room

abbrev pub decreases-loop-have : goal.decreases-loop-have
decreases-loop-have g l = length l.room - l.have
