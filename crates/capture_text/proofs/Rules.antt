-- The laws that the functions' proofs need, for `search`.
use borrow.Author.Rules.{rules}
use Rattle.capture_text.proofs.TextLaws.{name-laid, count-laid, ended-written, not-ended-written, receiver-laid, report-laid, report-there, report-written}

pub ruleset reporting = (name-laid, count-laid, ended-written, not-ended-written, receiver-laid, report-laid, report-there, report-written, rules)
