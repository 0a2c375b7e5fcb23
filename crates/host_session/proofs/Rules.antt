-- The laws that the functions' proofs need, for `search`: one set for each task.
use borrow.Author.Rules.{rules}
use mathlib.Core.Path.{refl}
use Rattle.host_answers.proofs.AnswerLaws.{has_room}
use Rattle.host_session.proofs.SessionLaws.{session-lays, session-not, session-laid, there-lays, there-not, there-laid}
use Rattle.host_session.proofs.ReplyLaws.{answers_apart}

pub ruleset sessions = (session-lays, session-not, session-laid, there-lays, there-not, there-laid, has_room, rules)

pub ruleset words = (answers_apart, refl, rules)
