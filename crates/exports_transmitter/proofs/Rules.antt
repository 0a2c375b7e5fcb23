-- The laws that the functions' proofs need, for `search`: one set for each task.
use borrow.Author.Rules.{rules}
use Rattle.host_answers.proofs.WritingLaws.{lent-within}
use Rattle.exports_transmitter.proofs.RefusalLaws.{start-only, short-only, unsized-only, packet-only, next-only}
use Rattle.exports_transmitter.proofs.CallLaws.{starts-transmitter, next-sized, next-unsized, next-packet, packet-reported}

pub ruleset packets = (lent-within, packet-reported, packet-only, rules)

pub ruleset starts = (starts-transmitter, start-only, rules)

pub ruleset nexts = (lent-within, next-sized, next-unsized, next-packet, short-only, unsized-only, next-only, rules)
