-- The laws that the functions' proofs need, for `search`: one set for each task.
use borrow.Author.Rules.{rules}
use Rattle.exports_deliver.proofs.FindLaws.{finds-deliver, finds-none}
use Rattle.exports_deliver.proofs.LayLaws.{length-read, passing-start, passing-here, passing-within, passing_step, passing-end, laying-start, laying-here, laying-place, laying-behind, laying-first, laying-second, laying-kept, laying-step, laying-end}
use Rattle.exports_deliver.proofs.AnswerLaws.{lay-long, lay-there, lay-room, behind-skipped, behind-counted, behind-laid, lays-not, lays_all}
use Rattle.exports_deliver.proofs.OnlyLaws.{short-only, refused-only, deliver-only}
use Rattle.exports_deliver.proofs.DeliverLaws.{deliver-there, delivers-datagram}

pub ruleset finding = (finds-deliver, finds-none, rules)

pub ruleset passing = (length-read, passing-start, passing-here, passing-within, passing_step, passing-end, rules)

pub ruleset laying = (laying-start, laying-here, laying-place, laying-behind, laying-first, laying-second, laying-kept, laying-step, laying-end, rules)

pub ruleset behind = (behind-skipped, behind-counted, behind-laid, rules)

pub ruleset answering = (lay-long, lay-there, lay-room, lays-not, lays_all, rules)

pub ruleset delivering = (deliver-there, delivers-datagram, deliver-only, short-only, refused-only, rules)
