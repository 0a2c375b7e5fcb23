-- What is still to be looked through has the place.
use Rattle.std.proofs.Common.{◌-◌}
use Rattle.missing_ranges.proofs.PlaceLaws.{Halving}
use Rattle.missing_ranges.proofs.edges.place_past.Given as goal

abbrev pub invariant-loop-low : goal.invariant-loop-low
invariant-loop-low l = Halving l.e l.edges l.n l.low l.high

abbrev pub decreases-loop-low : goal.decreases-loop-low
decreases-loop-low l = l.high - l.low
