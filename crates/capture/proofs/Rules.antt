-- The laws that the functions' proofs need, for `search`: one set for each task.
use mathlib.Core.Path.{refl}
use borrow.Author.Rules.{rules}
use Rattle.capture_records.proofs.FrontLaws.{whole-least, whole-most}
use Rattle.capture.proofs.TakeLaws.{going_start, going-next, going-fewer, going-stop, going-most, going-shorter, going-lengths, going-slots}
use Rattle.capture.proofs.StageLaws.{start-reading, start-fresh, open-within, open-refused, open-good, open-fits, advance-settings, advance-records, advance-over, waits-settings, waits-records, waits-done, waits-refused, over-settings, over-records, over_done, over-refused, feed-waits, feed-advances, advance-used, end_none, end-cut, finish-records, finish-other, write-refused, write-report}
use Rattle.capture.proofs.TurningLaws.{start-turning, there-length, turn-ends, turn-keeps-all, turn-goes, turn-keeps, turn-little}
use Rattle.capture.proofs.WholeLaws.{capture-promises, whole-report, printed-all}
use Rattle.capture.proofs.ExampleLaws.{printed_example}

pub ruleset taking = (whole-least, whole-most, going_start, going-next, going-fewer, going-stop, going-most, going-shorter, going-lengths, going-slots, rules)

pub ruleset starting = (start-reading, start-fresh, rules)

pub ruleset opening = (open-within, open-refused, open-good, open-fits, rules)

pub ruleset advancing = (advance-settings, advance-records, advance-over, rules)

pub ruleset telling = (waits-settings, waits-records, waits-done, waits-refused, over-settings, over-records, over_done, over-refused, rules)

pub ruleset feeding = (feed-waits, feed-advances, capture-promises, rules)

pub ruleset finishing = (advance-used, end_none, end-cut, finish-records, finish-other, rules)

pub ruleset writing = (write-refused, write-report, whole-report, printed_example, rules)

pub ruleset turning = (start-turning, there-length, turn-ends, turn-keeps-all, turn-goes, turn-keeps, turn-little, capture-promises, rules)

pub ruleset printing = (printed-all, refl, rules)

pub ruleset readings = (advancing, feeding, finishing, printing, starting, telling, writing)
