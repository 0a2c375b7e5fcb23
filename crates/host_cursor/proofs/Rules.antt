-- The laws that the functions' proofs need, for `search`.
use borrow.Author.Rules.{rules}
use Rattle.host_answers.proofs.AnswerLaws.{has_room}
use Rattle.host_cursor.proofs.CursorLaws.{cursor-short, cursor-closed, cursor-read, cursor-lays, cursor-not, cursor-laid, cursor-promises}

pub ruleset cursors = (cursor-short, cursor-closed, cursor-read, cursor-lays, cursor-not, cursor-laid, has_room, cursor-promises, rules)
