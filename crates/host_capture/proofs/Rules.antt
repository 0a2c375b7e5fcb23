-- The laws that the functions' proofs need, for `search`: one set for each task.
use mathlib.Core.Path.{refl}
use borrow.Author.Rules.{rules}
use Rattle.host_answers.proofs.AnswerLaws.{has_room}
use Rattle.host_capture.proofs.ReadingLaws.{byte-settings, byte-records, byte-done, byte-refused, stage-records, stage-settings, stage-done, stage-refused, tally-read, refused-start, reading-short, reading-read, receiver-within, counts-put, receiver-put, still-room, reading-lays, reading-stays, reading-promises, fresh_kept, fresh-not}

pub ruleset stages = (byte-settings, byte-records, byte-done, byte-refused, stage-records, stage-settings, stage-done, stage-refused, rules)

pub ruleset readings = (tally-read, refused-start, reading-short, reading-read, receiver-within, counts-put, receiver-put, still-room, reading-lays, reading-stays, reading-promises, fresh_kept, fresh-not, has_room, refl, rules)
