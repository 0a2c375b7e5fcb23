-- The laws that the functions' proofs need, for `search`: one set for each file of src/.
use borrow.Author.Rules.{rules}
use mathlib.Core.Path.{refl}
use Rattle.host_answers.proofs.AnswerLaws.{has_room}
use Rattle.host_receiver.proofs.ReceiverLaws.{receiver-short, receiver-read, name-within, receiver-lays, receiver-not, receiver-laid, receiver-promises}

pub ruleset receivers = (receiver-short, receiver-read, name-within, receiver-lays, receiver-not, receiver-laid, has_room, receiver-promises, refl, rules)
