use Rattle.exports_transmitter.proofs.RunLaws.{hands_on}
use Rattle.exports_transmitter.proofs.ExampleLaws.{handed-example}
use Rattle.exports_transmitter.proofs.eiderwagon_transmitter_start.Goals as goal

pub returns-clause-hands_on : goal.returns-clause-hands_on
returns-clause-hands_on c = hands_on

pub returns-clause-not_vacuous : goal.returns-clause-not_vacuous
returns-clause-not_vacuous c = handed-example
