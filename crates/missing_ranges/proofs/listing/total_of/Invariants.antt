-- What is still to be counted makes the whole.
use Rattle.std.proofs.Common.{length}
use Rattle.missing_ranges.proofs.ListingLaws.{Counting}
use Rattle.missing_ranges.proofs.listing.total_of.Given as goal

abbrev pub invariant-loop-rest : goal.invariant-loop-rest
invariant-loop-rest l = Counting l.top l.edges l.n l.rest

abbrev pub decreases-loop-rest : goal.decreases-loop-rest
decreases-loop-rest l = length l.rest
