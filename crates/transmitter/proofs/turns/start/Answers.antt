use Rattle.transmitter.proofs.Rules.{runs}
use Rattle.transmitter.proofs.turns.start.Goals as goal

pub returns-in-Err-clause-by_place : goal.returns-in-Err-clause-by_place
returns-in-Err-clause-by_place c = search runs

pub returns-clause-by_place : goal.returns-clause-by_place
returns-clause-by_place c = search runs
