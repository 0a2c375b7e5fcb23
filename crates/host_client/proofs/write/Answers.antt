use Rattle.host_client.proofs.Rules.{clients}
use Rattle.host_client.proofs.write.Goals as goal

pub returns-clause-keeps : goal.returns-clause-keeps
returns-clause-keeps c = search clients
