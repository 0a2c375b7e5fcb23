-- The laws that the functions' proofs need, for `search`: one set for each task.
use borrow.Author.Rules.{rules}
use Rattle.exports_early_messages.proofs.PartLaws.{slots-right, slots-wrong, short-part, counts-so, counts-short, locates-so, locates-short, sized-right, sized-wrong, walk-so, walk-short, walk-only, step-only, next-short, next-state, next-stays, next-moves, told-only, part-told, part-there}

pub ruleset parts = (slots-right, slots-wrong, sized-right, sized-wrong, short-part, counts-so, counts-short, locates-so, locates-short, told-only, rules)

pub ruleset walks = (walk-so, walk-short, walk-only, short-part, rules)

pub ruleset steps = (next-short, next-state, next-stays, next-moves, told-only, step-only, part-told, part-there, short-part, rules)
