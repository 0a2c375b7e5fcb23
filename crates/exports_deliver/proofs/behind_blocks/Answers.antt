use mathlib.Core.Path.{◌∙◌}
use native.Mathlib.Omega.{arith}
use Rattle.exports_deliver.proofs.LayLaws.{passing_step}
use Rattle.exports_deliver.proofs.behind_blocks.Goals as goal

pub loop-preserved : goal.loop-preserved
loop-preserved c =
    passing_step _ _ _ _ _ _ c.loop.invariant (let h = c.loop-test.true in omega arith) (c.from.ensures ∙ c.length_at.ensures) (omega arith)
