-- What is kept leaves room in the buffer.
use Rattle.std.proofs.Common.{◌≤◌}
use Rattle.capture_events.specs.Turns.{most_kept}
use Rattle.capture_report.proofs.read_all.Given as goal

abbrev pub invariant-loop : goal.invariant-loop
invariant-loop g l = l.state.have ≤ most_kept
