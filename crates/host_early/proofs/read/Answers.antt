use Rattle.host_early.proofs.Rules.{receivers}
use Rattle.host_early.proofs.read.Goals as goal

pub returns : goal.returns
returns c = search receivers
