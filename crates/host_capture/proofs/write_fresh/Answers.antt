-- Lengths of zero, and all else around them.
use Rattle.host_capture.proofs.Rules.{readings}
use Rattle.host_capture.proofs.write_fresh.Goals as goal

pub returns-then-kept-eq0-clause-keeps : goal.returns-then-kept-eq0-clause-keeps
returns-then-kept-eq0-clause-keeps c = search readings

pub returns-else-kept-eq0-clause-keeps : goal.returns-else-kept-eq0-clause-keeps
returns-else-kept-eq0-clause-keeps c = search readings
