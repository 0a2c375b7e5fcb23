-- What is promised is a theorem of `ExampleLaws`.
use Rattle.acceptance.proofs.ExampleLaws.{every-example}
use Rattle.acceptance.proofs.examples.Statement.{statement}
use Rattle.acceptance.proofs.examples.Tie as tie

pub examples_spec : {M : Type 1} → statement M
examples_spec =
    tie.close (tie.spec (λ c. every-example))
