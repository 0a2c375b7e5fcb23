-- The laws that the functions' proofs need, for `search`: one set for each task.
use borrow.Author.Rules.{rules}
use Rattle.host_answers.proofs.WritingLaws.{lent-within}
use Rattle.host_cursor.proofs.CallLaws.{sets-cursor, sets-only, next-short, next-message, next-none, short-only, next-only, next-none-only}
use Rattle.exports_moldudp64.proofs.WordLaws.{datagram-read, reads_request, datagrams-apart}
use Rattle.exports_moldudp64.proofs.MessageLaws.{ok-answers, located-answers}
use Rattle.exports_moldudp64.proofs.NameLaws.{data-reported, heartbeat-reported, end-reported, request-reported}
use Rattle.exports_moldudp64.proofs.RefusalLaws.{read_only, read-request-only, locate-only, data-only, heartbeat-only, end-only, request-written-only}

pub ruleset reads = (datagrams-apart, datagram-read, reads_request, read_only, read-request-only, rules)

pub ruleset messages = (ok-answers, located-answers, locate-only, sets-cursor, sets-only, next-short, next-message, next-none, short-only, next-only, next-none-only, rules)

pub ruleset names = (lent-within, data-reported, heartbeat-reported, end-reported, request-reported, data-only, heartbeat-only, end-only, request-written-only, rules)
