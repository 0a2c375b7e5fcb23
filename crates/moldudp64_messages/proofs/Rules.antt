-- The laws that the functions' proofs need, for `search`.
use borrow.Author.Rules.{rules}
use Rattle.wire.proofs.TestLaws.{tests}
use Rattle.moldudp64_messages.proofs.CursorLaws.{whole-none, whole-stub, whole-over, whole-there, whole-within, located-beyond, located-none, located-there, size-two, offset-fits, found_within, found-fits, found_part, moved-stays, moved_on, skip-beyond, skip-start, skip_step, skip-within, skip-stuck, skip-end, start-refused, start-heartbeat, start-end, start-data, count-is-messages, walks-the-messages, part-is-message, place-cursor, place-located, place-message}

pub ruleset blocks = (whole-none, whole-stub, whole-over, whole-there, tests, rules)

pub ruleset locating = (located-beyond, located-none, located-there, size-two, offset-fits, found_within, found-fits, found_part, rules)

pub ruleset moving = (found-fits, moved-stays, moved_on, rules)

pub ruleset skipping = (whole-within, skip-beyond, skip-start, skip_step, skip-within, skip-stuck, skip-end, tests, rules)

pub ruleset starting = (start-refused, start-heartbeat, start-end, start-data, count-is-messages, walks-the-messages, part-is-message, rules)

pub ruleset placing = (place-cursor, place-located, place-message, part-is-message, rules)
