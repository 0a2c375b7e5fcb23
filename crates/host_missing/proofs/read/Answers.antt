-- By its size, and then its fields.
use Rattle.host_missing.proofs.Rules.{readings}
use Rattle.host_missing.proofs.read.Goals as goal

pub returns : goal.returns
returns c = search readings
