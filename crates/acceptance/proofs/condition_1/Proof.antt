-- What is promised is a theorem of `ConditionLaws`.
use Rattle.acceptance.proofs.ConditionLaws.{condition-1}
use Rattle.acceptance.proofs.condition_1.Statement.{statement}
use Rattle.acceptance.proofs.condition_1.Tie as tie

pub condition_1_spec : {M : Type 1} → statement M
condition_1_spec =
    tie.close (tie.spec (λ c. condition-1))
