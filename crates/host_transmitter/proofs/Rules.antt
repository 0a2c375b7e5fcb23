-- The laws that the functions' proofs need, for `search`.
use borrow.Author.Rules.{rules}
use Rattle.host_answers.proofs.AnswerLaws.{has_room}
use Rattle.host_transmitter.proofs.ProgressLaws.{progress-short, progress-closed, progress-read, progress-lays, progress-not, progress-laid, progress-promises}

pub ruleset progresses = (progress-short, progress-closed, progress-read, progress-lays, progress-not, progress-laid, has_room, progress-promises, rules)
