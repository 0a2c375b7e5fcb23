use Rattle.early_receiver.proofs.Rules.{refusals}
use Rattle.early_receiver.proofs.early.check.Goals as goal

pub returns : goal.returns
returns c = search refusals
