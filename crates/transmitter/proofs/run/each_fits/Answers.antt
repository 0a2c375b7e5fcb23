-- Of no messages each fits.
use mathlib.Core.Path.{◌∙◌}
use Rattle.transmitter.proofs.RunLaws.{each_none}
use Rattle.transmitter.proofs.Rules.{runs}
use Rattle.transmitter.proofs.run.each_fits.Goals as goal

pub returns-then-is_empty : goal.returns-then-is_empty
returns-then-is_empty c = c.if-is_empty.true ∙ each_none _ _ (search runs)
