-- The laws that the functions' proofs need, for `search`: one set for each task.
use borrow.Author.Rules.{rules}
use Rattle.wire.proofs.TestLaws.{tests}
use Rattle.early_holding.proofs.HoldingLaws.{move-none, move-far, run_fits, above-not, above-so, place_is, holds-below, holds-bit, keeps_below, keeps-far, keeps-long, keeps-new, store-above, store_length, slot-fits, length-fits, store-done, one_kept, one_left, one-asks, laid-length}

pub ruleset moves = (move-none, move-far, run_fits, above-not, above-so, tests, rules)

pub ruleset places = (above-not, above-so, place_is, holds-below, holds-bit, keeps_below, keeps-far, keeps-long, keeps-new, tests, rules)

pub ruleset stores = (place_is, store-above, store_length, slot-fits, length-fits, store-done, one_kept, one_left, one-asks, laid-length, rules)
