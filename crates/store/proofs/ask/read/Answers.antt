-- What the request says is what is asked, or what refuses it.
use Rattle.store.proofs.Rules.{steps}
use Rattle.store.proofs.StepLaws.{read-refused, read-differs}
use Rattle.store.proofs.ask.read.Goals as goal

pub returns-in_err-wanted : goal.returns-in_err-wanted
returns-in_err-wanted c =
    read-refused _ _ _ _ _ c.read.ensures.result_value _ _ c.in_err-wanted.was (search steps)

pub returns-then-not-is_name : goal.returns-then-not-is_name
returns-then-not-is_name c =
    read-differs _ _ _ _ _ c.read.ensures.result_value _ _ _ _ c.in_ok-wanted.was c.session.ensures c.is_name.ensures (search steps) (search steps)
