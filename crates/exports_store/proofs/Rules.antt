-- What every need of the crate is answered with.
use borrow.Author.Rules.{rules}
use Rattle.host_answers.proofs.WritingLaws.{lent-within}
use Rattle.exports_store.proofs.RefusalLaws.{answer-only, nameless-only}
use Rattle.exports_store.proofs.AnswerLaws.{named-reported, nameless-reported}

pub ruleset answers = (lent-within, named-reported, nameless-reported, answer-only, nameless-only, rules)
