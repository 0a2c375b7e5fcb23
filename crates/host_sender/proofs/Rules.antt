-- The laws that the function's proof needs, for `search`.
use borrow.Author.Rules.{rules}
use Rattle.host_sender.proofs.SenderLaws.{from-server, from-client}

pub ruleset senders = (from-server, from-client, rules)
