use Rattle.host_receiver.proofs.Rules.{receivers}
use Rattle.host_receiver.proofs.read.Goals as goal

pub returns : goal.returns
returns c = search receivers
