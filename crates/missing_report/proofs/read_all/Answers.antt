-- At first nothing is kept, and a turn at the end of the input is the last.
use Rattle.std.proofs.Common.{arith, ap, ◌∙◌}
use Rattle.capture_events.specs.Events.{is_over_at}
use Rattle.capture_events.specs.Next.{at_of}
use Rattle.missing_capture.specs.Turning.{start_turning, LentTurning}
use Rattle.missing_capture.specs.Whole.{EndIsOver}
use Rattle.missing_report.proofs.read_all.Goals as goal

pub loop-init : goal.loop-init
unfolding start_turning
loop-init g c = rw c.new-state.ensures (omega arith)

pub returns : goal.returns
unfolding EndIsOver
returns g c =
    ap (λ (x : LentTurning). is_over_at (at_of x.turning.reading.place)) c.turn.ensures.edges_after ∙ c.turn.ensures.promises.end_is_over _ _
