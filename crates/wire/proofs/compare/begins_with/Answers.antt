-- The first eight bytes as a number, and then the other two: bytes make one number alone.
use borrow.Author.Tests.{ne_eqb}
use Rattle.wire.proofs.Rules.{names}
use Rattle.wire.proofs.compare.begins_with.Goals as goal

pub returns-then-first_eight : goal.returns-then-first_eight
returns-then-first_eight c = search names

pub returns-else-first_eight : goal.returns-else-first_eight
returns-else-first_eight c = rw (ne_eqb _ _ c.if-first_eight.false) (search names)
