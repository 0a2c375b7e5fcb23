-- Each pass lays the place of one message.
use Prim.Native.Nat.{◌-◌, ◌+◌, ◌<◌}
use mathlib.Core.Path.{◌≡◌}
use native.Mathlib.Omega.{arith}
use Rattle.exports_early_deliver.proofs.LayLaws.{laying-start, laying-room, laying-word, laying-step, laying-end}
use Rattle.exports_early_deliver.proofs.lay_places.Goals as goal

pub lay_place-requires : goal.lay_place-requires
lay_place-requires c =
    let h : 0 < c.args.start.left.0 - c.loop.counter = omega (arith, c.loop-test) in
    laying-room _ _ _ _ _ _ _ c.loop.invariant h

pub overflow_add-word : goal.overflow_add-word
overflow_add-word c =
    let h : 0 < c.args.start.left.0 - c.loop.counter = omega (arith, c.loop-test) in
    laying-word _ _ _ _ _ _ _ c.loop.invariant h

pub loop-preserved : goal.loop-preserved
loop-preserved c =
    let k : c.args.start.left.0 - (c.loop.counter + 1) ≡ c.args.start.left.0 - c.loop.counter - 1 = omega arith in
    let h : 0 < c.args.start.left.0 - c.loop.counter = omega (arith, c.loop-test) in
    rw k (laying-step _ _ _ _ _ _ _ _ _ _ c.loop.invariant h c.locate-part.ensures c.lay_place.ensures c.next-here.ensures)

pub returns : goal.returns
returns c = laying-end _ _ _ _ _ _ _ c.loop.invariant (omega arith)

pub loop-init : goal.loop-init
loop-init c =
    let k : c.args.start.left.0 - 0 ≡ c.args.start.left.0 = omega arith in
    rw k (laying-start _ _ _ _ c.requires.0 c.requires.1)
