-- The laws that the functions' proofs need, for `search`: one set for each task.
use borrow.Author.Rules.{rules}
use mathlib.Core.Path.{refl}
use Rattle.wire.proofs.Refusing.{refusals}
use Rattle.wire.proofs.Outputs.{writes-refused}
use Rattle.transmitter.proofs.RunLaws.{longest_none, longest_next, longest-fits, longest-passes, run-19, run-44, run-13, run-14, run-52, run-good, start-refused, start-good}
use Rattle.transmitter.proofs.GroundLaws.{group-none, group-some, group-room, ground-54, ground-44, ground-14, ground-13, ground-52, ground-good, next-19, next-behind}
use Rattle.transmitter.proofs.TurnLaws.{moved-wrote, moved-refused, stays, stays-19, group-few, turn-there, turn-number, turn_end, turn-to, turn-counts, turn-sums, turn-done, turns-go-by-place}
use Rattle.transmitter.proofs.WalkLaws.{walking_start, walking-end, walking-stop, walking-counts, walking-sums, walking-next, place-refused, run_fits, place-written}
use Rattle.transmitter.proofs.WitnessLaws.{not_vacuous}
use Rattle.transmitter.proofs.StatementLaws.{transmitter-promises}

pub ruleset runs = (longest_none, longest_next, longest-fits, longest-passes, run-19, run-44, run-13, run-14, run-52, run-good, start-refused, start-good, turns-go-by-place, not_vacuous, refl, refusals, rules)

pub ruleset groups = (group-none, group-some, ground-54, ground-44, ground-14, ground-13, ground-52, ground-good, next-behind, group-few, refusals, rules)

pub ruleset turns = (group-room, next-19, writes-refused, stays, stays-19, group-few, refusals, rules)

pub ruleset writes = (turn-there, turn-number, turn_end, turn-to, turn-counts, turn-sums, turn-done, rules)

pub ruleset walks = (walking_start, walking-end, walking-stop, walking-counts, walking-sums, walking-next, rules)

pub ruleset places = (place-refused, run_fits, place-written, writes-refused, transmitter-promises, refusals, rules)

pub ruleset moves = (moved-wrote, moved-refused, rules)
