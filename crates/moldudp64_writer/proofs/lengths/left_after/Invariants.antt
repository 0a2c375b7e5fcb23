-- What is left of the bytes and the lengths that are left stand to each other as all do.
use mathlib.Core.Path.{◌≡◌}
use Prim.Native.Nat.{◌+◌}
use lib.ListN.{length}
use Rattle.moldudp64_writer.specs.Writer.{total}
use Rattle.moldudp64_writer.proofs.lengths.left_after.Given as goal

abbrev pub invariant-loop-rest : goal.invariant-loop-rest
invariant-loop-rest l = l.bytes + total l.rest ≡ l.left + total l.lengths

abbrev pub decreases-loop-rest : goal.decreases-loop-rest
decreases-loop-rest l = length l.rest
