-- The fresh receiver is kept, and none on a refusal.
use Rattle.exports_receiver.proofs.RunLaws.{hands_on, host-gets-true}
use Rattle.exports_receiver.proofs.ExampleLaws.{handed-example}
use Rattle.exports_receiver.proofs.eiderwagon_receiver_start.Goals as goal

pub returns-clause-hands_on : goal.returns-clause-hands_on
returns-clause-hands_on c = hands_on

pub returns-clause-condition_3 : goal.returns-clause-condition_3
returns-clause-condition_3 c = host-gets-true

pub returns-clause-not_vacuous : goal.returns-clause-not_vacuous
returns-clause-not_vacuous c = handed-example
