-- The laws that the functions' proofs need, for `search`: one set for each file of src/.
use borrow.Author.Rules.{rules}
use Rattle.capture_tally.proofs.TallyLaws.{asks-so, parts-deliver, parts-old, parts-quiet, parts-none, parts-refused, plus-all}
use Rattle.capture_tally.proofs.ReportLaws.{step-most, cut-full, step-counted, cut-counted}
use Rattle.capture_tally.proofs.SumLaws.{sums}

pub ruleset tallies = (asks-so, parts-deliver, parts-old, parts-quiet, parts-none, parts-refused, plus-all, rules)

pub ruleset reports = (step-most, cut-full, step-counted, cut-counted, sums, rules)
