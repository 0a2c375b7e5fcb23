-- The laws that the functions' proofs need, for `search`.
use borrow.Author.Rules.{rules}
use mathlib.Core.Path.{refl}
use Rattle.soupbintcp_reply.proofs.StatementLaws.{reply-promises}
use Rattle.soupbintcp_reply.proofs.ReplyLaws.{reply-A, reply-J, reply-none}

pub ruleset replies = (reply-A, reply-J, reply-none, reply-promises, refl, rules)
