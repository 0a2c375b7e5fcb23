-- The fewest digits that hold a number are its digits without leading zeros.
use Rattle.decimal.proofs.Rules.{writings}
use Rattle.decimal.proofs.writing.put.Goals as goal

pub returns-clause-writes : goal.returns-clause-writes
returns-clause-writes c = search writings
