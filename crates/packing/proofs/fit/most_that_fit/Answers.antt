-- What is taken fits into what is left.
use mathlib.Core.Path.{◌≡◌}
use native.Mathlib.Omega.{arith}
use lib.ListN.{length}
use Rattle.packing.proofs.FitLaws.{packing-promises}
use Rattle.packing.proofs.CountLaws.{counting-next, counting-stop, counting-end}
use Rattle.packing.proofs.fit.most_that_fit.Goals as goal

pub returns-then-left-length-clause-value : goal.returns-then-left-length-clause-value
returns-then-left-length-clause-value c = counting-stop _ _ _ _ _ c.loop-count.invariant c.loop-count-test.true c.if-left-length.true

pub returns-then-left-length-clause-promises : goal.returns-then-left-length-clause-promises
returns-then-left-length-clause-promises c = packing-promises

pub loop-count-preserved : goal.loop-count-preserved
loop-count-preserved c = counting-next _ _ _ _ _ c.loop-count.invariant c.loop-count-test.true c.if-left-length.false

pub returns-clause-value : goal.returns-clause-value
returns-clause-value c =
    let e : length c.args.lengths.now ≡ c.loop-count.count = omega (arith, c.loop-count.auto.count-end, c.loop-count-test.false) in
    rw e (counting-end _ _ _ _ _ c.loop-count.invariant c.loop-count-test.false)

pub returns-clause-promises : goal.returns-clause-promises
returns-clause-promises c = packing-promises
