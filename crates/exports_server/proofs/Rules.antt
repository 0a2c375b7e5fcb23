-- The laws that the functions' proofs need, for `search`.
use borrow.Author.Rules.{rules}
use Rattle.exports_server.proofs.ServerLaws.{server-starts, last-above, last-short, last-moves}

pub ruleset servers = (server-starts, last-above, last-short, last-moves, rules)
