-- The laws that the proofs of the covered functions need, for `search`.
use borrow.Author.Rules.{rules}
use Rattle.soupbintcp_server.proofs.ServerLaws.{server-step}
use Rattle.soupbintcp_server.proofs.StatementLaws.{only-by-the-rules}
use Rattle.accounts.proofs.AccountsLaws.{used-least}

pub ruleset accounts = (used-least, server-step, only-by-the-rules, rules)
