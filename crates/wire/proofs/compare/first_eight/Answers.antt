-- Eight bytes, the last of them the most significant.
use Rattle.wire.proofs.Rules.{names}
use Rattle.wire.proofs.compare.first_eight.Goals as goal

pub returns : goal.returns
returns c = search names
