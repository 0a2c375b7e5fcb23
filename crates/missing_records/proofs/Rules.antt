-- The laws that the functions' proofs need, for `search`.
use borrow.Author.Rules.{rules}
use Rattle.missing_records.proofs.TakeLaws.{start-noted, ours-noted, not_ours}
use Rattle.missing_records.proofs.OverLaws.{datagram-promises}

pub ruleset taking = (start-noted, ours-noted, not_ours, datagram-promises, rules)
