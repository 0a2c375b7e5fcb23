-- The laws that the functions' proofs need, for `search`: one set for each.
use borrow.Author.Rules.{rules}
use Rattle.exports_scan.proofs.ScanLaws.{scan-answers, scan-only}

pub ruleset answers = (scan-answers, scan-only, rules)
