-- The laws that the function's proof needs, for `search`.
use borrow.Author.Rules.{rules}
use Rattle.host_answers.proofs.WritingLaws.{lent-within}

pub ruleset replies = (lent-within, rules)
