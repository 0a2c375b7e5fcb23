-- The grounds of the session and the number, then the room, then the three parts laid.
use native.Mathlib.Omega.{arith}
use borrow.Author.Rules.{rules}
use Rattle.std.proofs.Common.{◌≤◌, ◌∙◌, length, sym}
use Rattle.wire.proofs.Refusing.{handed_up}
use Rattle.soupbintcp_writer.proofs.WriteLaws.{room-for, accepted-good, accepted-no-session, accepted-no-number, accepted-short, accepted-done}
use Rattle.soupbintcp_writer.proofs.server.write_accepted.Goals as goal
use Rattle.soupbintcp_writer.proofs.server.write_accepted.Goals.{then-not-is_session-via-then-not-is_session, then-not-is_session-via-else-not-is_session+then-is_zero}

pub returns-then-not-is_session-clause-writes : goal.returns-then-not-is_session-clause-writes
returns-then-not-is_session-clause-writes c =
    elim c.then-not-is_session.branch [
      | then-not-is_session-via-then-not-is_session w ↦ accepted-no-session _ _ _ c.is_session.ensures _ _ w.if-not-is_session.true
      | then-not-is_session-via-else-not-is_session+then-is_zero w ↦ accepted-no-number _ _ _ c.is_session.ensures _ _ _ w.is_zero.ensures w.if-is_zero.true
    ]

pub returns-in_err-room-clause-writes : goal.returns-in_err-room-clause-writes
returns-in_err-room-clause-writes c =
    accepted-short
    _ _ _ _ _ _ (search rules)
    (accepted-good _ _ _ c.is_session.ensures c.if-not-is_session.false (sym c.is_zero.ensures ∙ c.if-is_zero.false))
    c.room.ensures
    c.in_err-room.was
    (handed_up _ _ c.from_residual.ensures.1)

pub put_head-requires : goal.put_head-requires
put_head-requires c =
    let h : 33 ≤ length c.args.out.now = room-for _ _ _ c.room.ensures c.in_ok-room.was in
    (omega arith, omega arith)

pub returns-clause-writes : goal.returns-clause-writes
returns-clause-writes c =
    let h : 33 ≤ length c.args.out.now = room-for _ _ _ c.room.ensures c.in_ok-room.was in
    accepted-done
    _ _ _ _ _ _ (search rules)
    (accepted-good _ _ _ c.is_session.ensures c.if-not-is_session.false (sym c.is_zero.ensures ∙ c.if-is_zero.false))
    h
    c.put_head.ensures
    c.lay.ensures.after
    (search rules)
