-- What is promised is a theorem of `LayoutLaws`.
use Rattle.acceptance.proofs.LayoutLaws.{every-layout}
use Rattle.acceptance.proofs.layouts.Statement.{statement}
use Rattle.acceptance.proofs.layouts.Tie as tie

pub layouts_spec : {M : Type 1} → statement M
layouts_spec =
    tie.close (tie.spec (λ c. every-layout))
