use Rattle.host_early.proofs.Rules.{walks}
use Rattle.host_early.proofs.walk.put_fields.Goals as goal

pub returns : goal.returns
returns c = search walks
