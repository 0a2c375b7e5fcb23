-- What is still to pass makes the whole.
use Prim.Native.Nat.{◌-◌}
use Rattle.transmitter.proofs.WalkLaws.{Walking}
use Rattle.transmitter.proofs.place.reach.Given as goal

abbrev pub invariant-loop : goal.invariant-loop
invariant-loop l = Walking l.fn.room l.lengths l.fn.place l.at (l.fn.place - l.counter)
