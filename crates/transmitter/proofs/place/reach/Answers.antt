-- Each pass takes one group off what is left to pass, and a run that ends early is passed whole.
use Prim.Native.Nat.{◌-◌, ◌<◌, ◌+◌}
use mathlib.Core.Path.{◌≡◌}
use native.Mathlib.Omega.{arith}
use Rattle.transmitter.proofs.Rules.{walks}
use Rattle.transmitter.proofs.WalkLaws.{walking-end, walking-stop, walking-next}
use Rattle.transmitter.proofs.place.reach.Goals as goal

pub returns-then-lengths-at : goal.returns-then-lengths-at
returns-then-lengths-at c = walking-stop _ _ _ _ _ c.loop.invariant c.if-lengths-at.true

pub past-at-requires : goal.past-at-requires
past-at-requires c = search walks

pub loop-preserved : goal.loop-preserved
loop-preserved c =
    let k : c.args.place - (c.loop.counter + 1) ≡ c.args.place - c.loop.counter - 1 = omega arith in
    let h : 0 < c.args.place - c.loop.counter = omega (arith, c.loop-test) in
    rw k (walking-next _ _ _ _ _ c.loop.invariant _ c.group.ensures h _ c.past-at.ensures)

pub returns : goal.returns
returns c = walking-end _ _ _ _ _ c.loop.invariant (omega arith)
