-- Where the lengths behind those taken don't use up what is left of the data, not all of them add up.
use Prim.Native.Nat.{◌-◌}
use mathlib.Core.Path.{◌≡◌}
use Rattle.store.proofs.Rules.{picks}
use Rattle.store.proofs.PickLaws.{pick-behind}
use Rattle.store.proofs.pick.pick.Goals as goal

pub returns-then-ne : goal.returns-then-ne
returns-then-ne c =
    let k : c.in_ok-behind.behind ≡ c.in_ok-left.left - c.fit_from-fit.result.bytes = search picks in
    pick-behind _ _ _ _ _ _ c.left_before.ensures _ c.in_ok-left.was _ c.fit_from-fit.ensures (search picks) _ k _ c.left_behind.ensures (search picks)
