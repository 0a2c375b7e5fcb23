use Rattle.transmitter.proofs.Rules.{writes}
use Rattle.transmitter.proofs.turns.Progress.write.Goals as goal

pub returns : goal.returns
returns c = search writes
