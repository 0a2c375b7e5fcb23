-- Eight bytes more are laid.
use mathlib.Core.Path.{ap, ◌∙◌}
use Rattle.wire.specs.Output.{put}
use Rattle.wire.proofs.Copy.{copied-more}
use Rattle.wire.proofs.Rules.{copies}
use Rattle.wire.proofs.output.lay.Goals as goal

pub loop-i-preserved : goal.loop-i-preserved
loop-i-preserved c =
    copied-more 8 _ c.loop-i.invariant c.loop-i-test.true (search copies) (search copies) (c.lay_there.ensures ∙ ap (put _ _) c.first.ensures)
