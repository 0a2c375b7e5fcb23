-- The laws that the functions' proofs need, for `search`: one set for each task.
use borrow.Author.Rules.{rules}
use borrow.Author.Tests.{not-true, not-false}
use Rattle.missing_text.proofs.TextLaws.{write-short}
use Rattle.missing_capture.proofs.ReadLaws.{start-reading, datagram-none, datagram-some, note-bad, note-opened, note-datagram, loop-start, loop-used, loop-part, loop-shorter, loop-long, loop-fits, loop-next, loop-less, loop-end, feed-waits, feed-advances, finish-so, finish-long, write-refused, write-ranges}
use Rattle.missing_capture.proofs.TurningLaws.{start-turning, there-length, turn-ends, turn-keeps-all, turn-goes, turn-keeps, turn-little}
use Rattle.missing_capture.proofs.WholeLaws.{missing-capture-promises, printed-all}

pub ruleset noting = (start-reading, datagram-none, datagram-some, note-bad, note-opened, note-datagram, rules)

pub ruleset looping = (loop-start, loop-used, loop-part, loop-shorter, loop-long, loop-fits, loop-next, loop-less, loop-end, not-true, not-false, rules)

pub ruleset feeding = (feed-waits, feed-advances, finish-so, finish-long, missing-capture-promises, rules)

pub ruleset writing = (write-short, write-refused, write-ranges, rules)

pub ruleset printing = (printed-all, rules)

pub ruleset turning = (start-turning, there-length, turn-ends, turn-keeps-all, turn-goes, turn-keeps, turn-little, missing-capture-promises, rules)

pub ruleset readings = (feeding, noting, printing, writing)
