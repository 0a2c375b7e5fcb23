-- The bytes that were read make the number so far.
use mathlib.Core.Path.{◌≡◌}
use Rattle.wire.specs.Bytes.{number}
use Rattle.wire.proofs.number.at_the_end.Given as goal

abbrev pub invariant-loop-place : goal.invariant-loop-place
invariant-loop-place l = l.value ≡ number l.s l.i l.place
