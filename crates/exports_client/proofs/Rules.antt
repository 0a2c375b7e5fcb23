-- The laws that the functions' proofs need, for `search`.
use borrow.Author.Rules.{rules}
use Rattle.exports_client.proofs.ClientLaws.{client-starts, client-waits, client-moves}

pub ruleset clients = (client-starts, client-waits, client-moves, rules)
