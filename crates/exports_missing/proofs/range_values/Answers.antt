-- By what is found.
use Rattle.missing_ranges.specs.Listing.{first_of, last_of}
use Rattle.exports_missing.proofs.range_values.Goals as goal

pub returns-in-Some : goal.returns-in-Some
unfolding first_of last_of
returns-in-Some c = rw c.in-Some.is

pub returns-in-None : goal.returns-in-None
unfolding first_of last_of
returns-in-None c = rw c.in-None.is
