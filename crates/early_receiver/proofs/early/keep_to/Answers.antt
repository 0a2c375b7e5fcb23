-- What is left to take is the same at every turn.
use Rattle.early_receiver.proofs.Rules.{keeping}
use Rattle.early_receiver.proofs.early.keep_to.Goals as goal

pub loop-end-preserved : goal.loop-end-preserved
loop-end-preserved c = search keeping

pub returns : goal.returns
returns c = search keeping
