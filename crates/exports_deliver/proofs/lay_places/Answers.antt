use mathlib.Core.Path.{◌∙◌}
use native.Mathlib.Omega.{arith}
use borrow.Author.Rules.{rules}
use Rattle.exports_deliver.proofs.LayLaws.{laying-here, laying-place, laying-behind, laying-step, laying-end}
use Rattle.exports_deliver.proofs.lay_places.Goals as goal

pub returns-then-places-word : goal.returns-then-places-word
returns-then-places-word c = let h = c.loop-index-test.true in let r = c.loop-index.invariant.room in absurd (omega arith)

pub length_at-requires : goal.length_at-requires
length_at-requires c = laying-here _ _ _ _ _ _ _ _ c.loop-index.invariant (let h = c.loop-index-test.true in omega arith)

pub overflow_add-at : goal.overflow_add-at
overflow_add-at c = laying-place _ _ _ _ _ _ _ _ c.loop-index.invariant (let h = c.loop-index-test.true in omega arith) (search rules)

pub overflow_add-at-in-loop-index : goal.overflow_add-at-in-loop-index
overflow_add-at-in-loop-index c =
    laying-behind _ _ _ _ _ _ _ _ _ c.loop-index.invariant (let h = c.loop-index-test.true in omega arith) (c.from-length.ensures ∙ c.length_at.ensures) (search rules)

pub loop-index-preserved : goal.loop-index-preserved
loop-index-preserved c =
    rw c.from-word.ensures
    (laying-step _ _ _ _ _ _ _ _ _ _ _ c.loop-index.invariant (let h = c.loop-index-test.true in omega arith) (c.from-length.ensures ∙ c.length_at.ensures) (omega arith) (omega arith))

pub returns : goal.returns
returns c = laying-end _ _ _ _ _ _ _ _ c.loop-index.invariant (let h = c.loop-index-test.false in omega arith)
