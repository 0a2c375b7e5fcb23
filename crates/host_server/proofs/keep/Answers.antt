use Rattle.host_server.proofs.Rules.{servers}
use Rattle.host_server.proofs.keep.Goals as goal

pub returns-clause-keeps : goal.returns-clause-keeps
returns-clause-keeps c = search servers
