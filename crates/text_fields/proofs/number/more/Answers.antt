-- What `append` answers tells the state.
use Rattle.text_fields.proofs.StepLaws.{more-value, more-none}
use Rattle.text_fields.proofs.number.more.Goals as goal

pub returns-in-Ok : goal.returns-in-Ok
returns-in-Ok c = more-value _ _ _ c.in-Ok.ensures.result_value

pub returns-in-Err : goal.returns-in-Err
returns-in-Err c = more-none _ _ _ c.in-Err.ensures.result_value
