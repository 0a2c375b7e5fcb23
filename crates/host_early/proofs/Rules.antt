-- The laws that the functions' proofs need, for `search`: one set for each file of src/.
use borrow.Author.Rules.{rules}
use mathlib.Core.Path.{refl}
use Rattle.host_answers.proofs.AnswerLaws.{has_room}
use Rattle.host_early.proofs.EarlyLaws.{early-short, early-read, name-within, head-lays, head-short, kept_fresh, fresh-not, lengths-put, kept-promises}
use Rattle.host_early.proofs.WalkLaws.{walk-short, walk-closed, walk-read, coming-put, block-put, still-room, walk-lays, walk-not, walk-laid, walk-promises}
use Rattle.host_early.proofs.ReplyLaws.{words-apart}

pub ruleset receivers = (early-short, early-read, name-within, head-lays, head-short, kept_fresh, fresh-not, lengths-put, kept-promises, has_room, refl, rules)

pub ruleset walks = (walk-short, walk-closed, walk-read, coming-put, block-put, still-room, walk-lays, walk-not, walk-laid, walk-promises, has_room, refl, rules)

pub ruleset words = (words-apart, refl, rules)
