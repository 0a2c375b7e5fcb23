-- What the walk answers from any block on is what it answers from the first.
use mathlib.Core.Path.{◌≡◌}
use Prim.Native.Nat.{◌-◌}
use Rattle.moldudp64.specs.Blocks.{blocks_refusal}
use Rattle.moldudp64.proofs.blocks.walk.Given as goal

abbrev pub invariant-loop : goal.invariant-loop
invariant-loop l = blocks_refusal (l.end - l.counter) l.rest ≡ blocks_refusal l.fn.count.0 l.blocks
