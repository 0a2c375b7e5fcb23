use Rattle.host_transmitter.proofs.Rules.{progresses}
use Rattle.host_transmitter.proofs.put_fields.Goals as goal

pub returns : goal.returns
returns c = search progresses
