-- The laws that the functions' proofs need, for `search`.
use borrow.Author.Rules.{rules}
use Rattle.early_word.proofs.WordLaws.{trailing-fits, run_is, zeros-count, has-is, has-none, past_is, past_all, marked-is, marked-none}

pub ruleset words = (trailing-fits, run_is, zeros-count, has-is, has-none, past_is, past_all, marked-is, marked-none, rules)
