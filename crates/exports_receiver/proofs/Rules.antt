-- The laws that the functions' proofs need, for `search`: one set for each task.
use borrow.Author.Rules.{rules}
use Rattle.host_cursor.proofs.CallLaws.{sets-cursor, sets-only}
use Rattle.host_receiver.proofs.RefusalLaws.{start-only}
use Rattle.host_receiver.proofs.ReplyLaws.{answers_apart}
use Rattle.exports_receiver.proofs.LadderLaws.{unread-only, short-only, take-only}
use Rattle.exports_receiver.proofs.ReceiverLaws.{starts-receiver, takes-unread, takes-short, takes-datagram}

pub ruleset receivers = (answers_apart, starts-receiver, start-only, takes-unread, unread-only, takes-short, short-only, takes-datagram, take-only, rules)

pub ruleset cursors = (sets-cursor, sets-only, rules)
