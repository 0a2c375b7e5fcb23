-- Where there is no room the check's refusal is handed up; else the three parts are one line.
use Rattle.std.proofs.Common.{arith}
use Rattle.wire.proofs.Outputs.{room-there}
use Rattle.wire.proofs.Refusing.{handed_up}
use Rattle.capture_lines.proofs.PutLaws.{line-over, line-done}
use Rattle.capture_lines.proofs.put_line.Goals as goal

pub returns-in_err-room : goal.returns-in_err-room
returns-in_err-room c =
    line-over _ _ _ _ c.room.result _ c.in_err-room.field-0.0 c.room.ensures c.in_err-room.was (handed_up _ _ c.from_residual.ensures.1)

pub returns : goal.returns
returns c =
    line-done _ _ _ _ _ _ _ (room-there _ _ _ c.room.result c.in_ok-room.field-0 c.room.ensures c.in_ok-room.was)
    c.lay.ensures.after c.lay-2.ensures.after c.lay-3.ensures.after

pub overflow_add-value_at : goal.overflow_add-value_at
overflow_add-value_at c =
    let h = room-there _ _ _ c.room.result c.in_ok-room.field-0 c.room.ensures c.in_ok-room.was in
    record { fits = omega arith }

pub overflow_add-value_at-2 : goal.overflow_add-value_at-2
overflow_add-value_at-2 c =
    let h = room-there _ _ _ c.room.result c.in_ok-room.field-0 c.room.ensures c.in_ok-room.was in
    record { fits = omega arith }
