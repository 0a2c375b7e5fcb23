use Rattle.exports_soupbintcp.proofs.Rules.{answers}
use Rattle.exports_soupbintcp.proofs.packets.eiderwagon_soup_read.Goals as goal

pub returns-clause-refuses : goal.returns-clause-refuses
returns-clause-refuses c = search answers
