-- The payload's own ground, then the room for both, then both laid.
use native.Mathlib.Omega.{arith}
use Rattle.wire.proofs.Refusing.{handed_up}
use Rattle.soupbintcp_writer.proofs.WriteLaws.{room-for, payload-refused, payload-short, payload-done}
use Rattle.soupbintcp_writer.proofs.packets.write_payload.Goals as goal

pub returns-then-payload-gt-MOST_PAYLOAD : goal.returns-then-payload-gt-MOST_PAYLOAD
returns-then-payload-gt-MOST_PAYLOAD c = payload-refused _ _ _ c.if-payload-gt-MOST_PAYLOAD.true

pub returns-in_err-room : goal.returns-in_err-room
returns-in_err-room c =
    payload-short _ _ _ _ _ _ _ c.if-payload-gt-MOST_PAYLOAD.false (omega arith) c.room.ensures c.in_err-room.was (handed_up _ _ c.from_residual.ensures.1)

pub put_head-requires : goal.put_head-requires
put_head-requires c =
    let h = room-for _ _ _ c.room.ensures c.in_ok-room.was in
    (omega (arith, h), c.if-payload-gt-MOST_PAYLOAD.false)

pub returns : goal.returns
returns c =
    let h = room-for _ _ _ c.room.ensures c.in_ok-room.was in
    payload-done _ _ _ _ _ c.if-payload-gt-MOST_PAYLOAD.false (omega (arith, h)) c.put_head.ensures c.lay.ensures.after
