-- Where a part takes more than is left, all of them do.
use mathlib.Core.Path.{sym}
use native.Mathlib.Omega.{arith}
use borrow.Author.Tests.{eqb-true}
use Rattle.moldudp64_writer.proofs.LengthLaws.{left-short, left-next, left_end}
use Rattle.moldudp64_writer.proofs.lengths.left_after.Goals as goal

pub returns-in_err-left : goal.returns-in_err-left
returns-in_err-left c =
    let h = c.in_err-left.ensures in
    rw c.from_residual.ensures (left-short _ _ _ _ c.loop-rest.invariant _ _ (rw c.split_at.ensures.front at c.sum.ensures) (omega arith))

pub loop-rest-preserved : goal.loop-rest-preserved
loop-rest-preserved c =
    let h = c.in_ok-left.ensures in
    rw h.1 (left-next _ _ _ _ c.loop-rest.invariant _ _ _ (rw c.split_at.ensures.front at c.sum.ensures) h.0 c.split_at.ensures.back)

pub returns : goal.returns
returns c = left_end _ _ _ _ c.loop-rest.invariant (eqb-true _ _ (sym c.loop-rest-test.ensures))
