-- The plain receiver's start; the rule, condition 3 and order 13 are theorems of their own.
use Rattle.early_condition_3.proofs.ConditionLaws.{early-condition-3}
use Rattle.early_condition_3.proofs.PlainLaws.{never_less}
use Rattle.early_condition_3.proofs.RuleLaws.{sound_throughout, one_message, follows_the_rule}
use Rattle.early_condition_3.proofs.AskLaws.{asks_well}
use Rattle.early_condition_3.proofs.SwappedLaws.{swapped-neighbours}
use Rattle.early_condition_3.proofs.ExampleLaws.{not_vacuous, swapped-example}
use Rattle.early_condition_3.proofs.WitnessLaws.{not_weak}
use Rattle.early_condition_3.proofs.Rules.{starts}
use Rattle.early_condition_3.proofs.start.Statement.{statement}
use Rattle.early_condition_3.proofs.start.Tie as tie

pub start_spec : {M : Type 1} → statement M
start_spec =
    tie.close
    (tie.spec
    (λ c κs. search starts)  -- new-requires
    (λ c. ((search starts, search starts), (early-condition-3, (swapped-neighbours, (never_less, (sound_throughout, (one_message, (follows_the_rule, (asks_well, (not_vacuous, (not_weak, swapped-example)))))))))))  -- returns
    )
