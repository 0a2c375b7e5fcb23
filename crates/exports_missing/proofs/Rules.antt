-- The laws that the functions' proofs need, for `search`: one set for each task.
use borrow.Author.Rules.{rules}
use Rattle.exports_missing.proofs.LentLaws.{check-short, check-edges, check-good, short-only, none_only}
use Rattle.exports_missing.proofs.FeedLaws.{starts-only, starts-missing}
use Rattle.exports_missing.proofs.ListLaws.{opened-settings, opened-records, opened-done, opened-refused, listed-some, listed-none}

pub ruleset lending = (check-short, check-edges, check-good, short-only, none_only, rules)

pub ruleset starts = (starts-only, starts-missing, rules)

pub ruleset listing = (opened-settings, opened-records, opened-done, opened-refused, listed-some, listed-none, rules)
