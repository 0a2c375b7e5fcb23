-- One law for each rung of the ladder, and behind it the packet.
use mathlib.Core.Path.{◌≡◌}
use Rattle.wire.proofs.Refusing.{checked}
use Rattle.std.specs.Prelude.{Err}
use Rattle.store.proofs.Rules.{answers}
use borrow.Author.Rules.{rules}
use Rattle.store.proofs.CodeLaws.{refuse-setting, refuse-ask, refuse-lengths, refuse-long, sends}
use Rattle.store.proofs.answer.Goals as goal

pub returns-in_err-check-clause-writes : goal.returns-in_err-check-clause-writes
returns-in_err-check-clause-writes c =
    let k : c.from_residual.result ≡ Err c.in_err-check.field-0.0 = search answers in
    rw k (refuse-setting _ _ _ _ _ _ _ _ _ c.check.ensures c.in_err-check.was)

pub returns-in-Err-clause-writes : goal.returns-in-Err-clause-writes
returns-in-Err-clause-writes c =
    refuse-ask _ _ _ _ _ _ _ (checked _ _ _ c.check.ensures c.in_ok-check.was) _ _ _ c.read.ensures c.in-Err.is c.refuse.ensures

pub returns-in_err-picked-clause-writes : goal.returns-in_err-picked-clause-writes
returns-in_err-picked-clause-writes c =
    let k : c.from_residual-in_err-picked.result ≡ Err (record { number = 44 }) = search answers in
    rw k (refuse-lengths _ _ _ _ _ _ _ (checked _ _ _ c.check.ensures c.in_ok-check.was) _ _ c.read.ensures c.in-Ok.is _ c.room.ensures _ c.pick-picked.ensures (search rules))

pub returns-then-picked-eq0-clause-writes : goal.returns-then-picked-eq0-clause-writes
returns-then-picked-eq0-clause-writes c =
    refuse-long _ _ _ _ _ _ _ (checked _ _ _ c.check.ensures c.in_ok-check.was) _ _ c.read.ensures c.in-Ok.is _ c.room.ensures _ c.pick-picked.ensures c.in_ok-picked.picked (search rules) (search rules)

pub returns-clause-writes : goal.returns-clause-writes
returns-clause-writes c =
    sends _ _ _ _ _ _ _ (checked _ _ _ c.check.ensures c.in_ok-check.was) _ _ c.read.ensures c.in-Ok.is _ c.room.ensures _ c.pick-picked.ensures c.in_ok-picked.picked (search rules) (search rules) _ _ c.send.ensures
