-- Where the code is 0 there is room.
use Rattle.host_missing.proofs.Rules.{readings}
use Rattle.host_missing.proofs.write.Goals as goal

pub returns-then-kept-eq0-clause-keeps : goal.returns-then-kept-eq0-clause-keeps
returns-then-kept-eq0-clause-keeps c = search readings

pub returns-else-kept-eq0-clause-keeps : goal.returns-else-kept-eq0-clause-keeps
returns-else-kept-eq0-clause-keeps c = search readings
