-- The laws that the start's proof needs, for `search`.
use borrow.Author.Rules.{rules}
use Rattle.early_condition_3.proofs.StartLaws.{start_is}

pub ruleset starts = (start_is, rules)
