-- The ground of the names, then the room, then the parts laid.
use native.Mathlib.Omega.{arith}
use borrow.Author.Rules.{rules}
use Rattle.std.proofs.Common.{◌≡◌, ◌≤◌, ◌∙◌, ap, length}
use Rattle.wire.proofs.Outputs.{length-put}
use Rattle.wire.proofs.Refusing.{handed_up}
use Rattle.soupbintcp_writer.proofs.WriteLaws.{room-for, login-good, login-refused, login-short, login-done}
use Rattle.soupbintcp_writer.proofs.client.write_login.Goals as goal

pub returns-then-not-is_good-clause-writes : goal.returns-then-not-is_good-clause-writes
returns-then-not-is_good-clause-writes c = login-refused _ _ _ _ _ _ c.is_good.ensures c.if-not-is_good.true

pub returns-in_err-room-clause-writes : goal.returns-in_err-room-clause-writes
returns-in_err-room-clause-writes c =
    login-short
    _ _ _ _ _ _ _ _ (search rules) (search rules) (search rules)
    (login-good _ _ _ _ c.is_good.ensures c.if-not-is_good.false)
    c.room.ensures
    c.in_err-room.was
    (handed_up _ _ c.from_residual.ensures.1)

pub put_head-requires : goal.put_head-requires
put_head-requires c =
    let h : 49 ≤ length c.args.out.now = room-for _ _ _ c.room.ensures c.in_ok-room.was in
    (omega arith, omega arith)

pub put_names-requires : goal.put_names-requires
put_names-requires c =
    let h : 49 ≤ length c.args.out.now = room-for _ _ _ c.room.ensures c.in_ok-room.was in
    let n : length c.put_head.new.out ≡ length c.args.out.now = ap length c.put_head.ensures ∙ length-put _ _ _ in
    omega arith

pub returns-clause-writes : goal.returns-clause-writes
returns-clause-writes c =
    let h : 49 ≤ length c.args.out.now = room-for _ _ _ c.room.ensures c.in_ok-room.was in
    login-done
    _ _ _ _ _ _ _ _ (search rules) (search rules) (search rules)
    (login-good _ _ _ _ c.is_good.ensures c.if-not-is_good.false)
    h
    c.put_head.ensures
    c.put_names.ensures
    (search rules)
