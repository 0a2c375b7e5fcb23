-- Another packet has no entry.
use Rattle.soupbintcp_server.proofs.ServerLaws.{found-other}
use Rattle.soupbintcp_server.proofs.server.found_for.Goals as goal

pub returns-in_default : goal.returns-in_default
returns-in_default c = found-other _ _ _ c.requires.0 c.requires.1 c.in_default.not-Login
