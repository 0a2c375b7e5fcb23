-- Where there is no room the check's refusal is handed up.
use mathlib.Core.Path.{refl}
use Rattle.wire.proofs.Outputs.{room-there, lay-over, lay_done}
use Rattle.wire.proofs.Refusing.{handed_up}
use Rattle.wire.proofs.output.put_bytes.Goals as goal

pub returns-in_err-room-clause-writes : goal.returns-in_err-room-clause-writes
returns-in_err-room-clause-writes c =
    lay-over _ _ _ c.room.result _ c.in_err-room.field-0.0 c.room.ensures c.in_err-room.was (handed_up _ _ c.from_residual.ensures.1)

pub returns-clause-writes : goal.returns-clause-writes
returns-clause-writes c =
    lay_done _ _ _ _ _ (room-there _ _ _ c.room.result c.in_ok-room.field-0 c.room.ensures c.in_ok-room.was) refl c.lay.ensures.after
