-- What is promised are theorems of `ConditionLaws`.
use Rattle.receiver.proofs.CallLaws.{calls-deliver-true}
use Rattle.exports_receiver.proofs.RunLaws.{host-gets-true}
use Rattle.acceptance.proofs.ConditionLaws.{condition_3, refused-change-nothing, condition-3-is-meant}
use Rattle.acceptance.proofs.condition_3.Statement.{statement}
use Rattle.acceptance.proofs.condition_3.Tie as tie

pub condition_3_spec : {M : Type 1} → statement M
condition_3_spec =
    tie.close (tie.spec (λ c. (condition_3, (refused-change-nothing, (calls-deliver-true, (host-gets-true, condition-3-is-meant))))))
