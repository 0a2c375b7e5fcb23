-- At first nothing is kept, and a turn at the end of the input is the last.
use Rattle.std.proofs.Common.{arith, ap, ◌∙◌}
use Rattle.capture.specs.Reading.{is_over}
use Rattle.capture.specs.Turning.{start_turning, LentTurning}
use Rattle.capture.specs.Whole.{EndIsOver}
use Rattle.capture_report.proofs.read_all.Goals as goal

pub loop-init : goal.loop-init
unfolding start_turning
loop-init g c = rw c.new-state.ensures (omega arith)

pub returns : goal.returns
unfolding EndIsOver
returns g c =
    ap (λ (x : LentTurning). is_over x.turning.reading.stage) c.turn.ensures.slots_after ∙ c.turn.ensures.promises.end_is_over _ _
