-- Each length is below 2^16.
use Rattle.moldudp64_writer.proofs.LengthLaws.{sum-next, sum-end}
use Rattle.moldudp64_writer.proofs.lengths.sum.Goals as goal

pub loop-length-preserved : goal.loop-length-preserved
loop-length-preserved c =
    rw c.from-sum.ensures (sum-next _ _ _ c.loop-length.invariant c.loop-length-test.true (c.type_inv.lengths c.loop-length.length-index).fits)

pub returns : goal.returns
returns c = sum-end _ _ _ c.loop-length.invariant c.loop-length-test.false
