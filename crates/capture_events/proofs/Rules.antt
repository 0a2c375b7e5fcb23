-- The laws that the functions' proofs need, for `search`.
use borrow.Author.Rules.{rules}
use Rattle.capture_events.proofs.TurnLaws.{turn-promises}
use Rattle.capture_events.proofs.NextLaws.{look-bad, look-good, look-most, look-short, look-whole, look-settings, look-records, look-done, look-refused, over-settings, over-records, over_done, over-refused, waits-settings, waits-records, waits-done, waits-refused, end-settings, end-records, end-done, end_refused, one_by_one}

pub ruleset turning = (turn-promises, rules)

pub ruleset looking = (look-bad, look-good, look-most, look-short, look-whole, look-settings, look-records, look-done, look-refused, one_by_one, rules)

pub ruleset telling = (over-settings, over-records, over_done, over-refused, waits-settings, waits-records, waits-done, waits-refused, end-settings, end-records, end-done, end_refused, rules)
