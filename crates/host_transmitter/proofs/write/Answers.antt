use Rattle.host_transmitter.proofs.Rules.{progresses}
use Rattle.host_transmitter.proofs.write.Goals as goal

pub returns-then-kept-ne0-clause-keeps : goal.returns-then-kept-ne0-clause-keeps
returns-then-kept-ne0-clause-keeps c = search progresses

pub returns-clause-keeps : goal.returns-clause-keeps
returns-clause-keeps c = search progresses
