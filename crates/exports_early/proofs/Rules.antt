-- The laws that the functions' proofs need, for `search`: one set for each task.
use borrow.Author.Rules.{rules}
use Rattle.host_receiver.proofs.RefusalLaws.{start-only}
use Rattle.exports_early.proofs.RunLaws.{hands_on, host-gets-true}
use Rattle.host_cursor.proofs.DatagramLaws.{read-not-refused}
use Rattle.exports_early.proofs.TakeLaws.{starts-keeper, keep-refused, keep-done, refuse-words, refuse-own, takes-unread, takes-short, takes-few, takes-there, takes-settled, takes-only, unread-only, short-only}

pub ruleset starts = (hands_on, host-gets-true, starts-keeper, start-only, rules)

pub ruleset keeps = (keep-refused, keep-done, rules)

pub ruleset refuses = (refuse-words, refuse-own, rules)

pub ruleset takes = (read-not-refused, takes-unread, takes-short, takes-few, takes-there, takes-settled, takes-only, unread-only, short-only, rules)
