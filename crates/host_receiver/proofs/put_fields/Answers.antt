use Rattle.host_receiver.proofs.Rules.{receivers}
use Rattle.host_receiver.proofs.put_fields.Goals as goal

pub returns : goal.returns
returns c = search receivers
