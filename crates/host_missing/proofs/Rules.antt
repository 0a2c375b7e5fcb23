-- The laws that the functions' proofs need, for `search`: one set for each task.
use mathlib.Core.Path.{refl}
use borrow.Author.Rules.{rules}
use Rattle.host_answers.proofs.AnswerLaws.{has_room}
use Rattle.host_missing.proofs.ReadingLaws.{byte-settings, byte-records, byte-done, byte-refused, left-settings, left-records, left-done, left-refused, place-records, place-settings, place-done, place-refused, refused-start, reading-short, reading-read, session-within, head-put, still-room, ranges-put, reading-lays, reading-not, reading-kept, reading-promises}

pub ruleset places = (byte-settings, byte-records, byte-done, byte-refused, left-settings, left-records, left-done, left-refused, place-records, place-settings, place-done, place-refused, rules)

pub ruleset readings = (refused-start, reading-short, reading-read, session-within, head-put, still-room, ranges-put, reading-lays, reading-not, reading-kept, reading-promises, has_room, refl, rules)
