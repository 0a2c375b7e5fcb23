-- What is promised are theorems of `ConditionLaws`.
use Rattle.acceptance.proofs.ConditionLaws.{condition-2, condition-2-is-meant}
use Rattle.acceptance.proofs.condition_2.Statement.{statement}
use Rattle.acceptance.proofs.condition_2.Tie as tie

pub condition_2_spec : {M : Type 1} → statement M
condition_2_spec =
    tie.close (tie.spec (λ c. (condition-2, condition-2-is-meant)))
