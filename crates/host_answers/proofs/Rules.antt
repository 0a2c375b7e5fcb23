-- The laws that the functions' proofs need, for `search`: one set for each task.
use borrow.Author.Rules.{rules}
use mathlib.Core.Path.{refl}
use Rattle.host_answers.proofs.AnswerLaws.{rung-own, rung-short, rung-none, sized-own, sized-not, behind-has, behind-zero, behind-above, behind-own, lent_none, lent-all, has_room, answered-refused, answered-short, answered, no-refusal, its-refusal}
use Rattle.host_answers.proofs.PromiseLaws.{host-promises}

pub ruleset ladders = (rung-own, rung-short, rung-none, sized-own, sized-not, behind-has, behind-zero, behind-above, behind-own, lent_none, lent-all, no-refusal, its-refusal, refl, rules)

pub ruleset answers = (host-promises, has_room, answered-refused, answered-short, answered, rules)
