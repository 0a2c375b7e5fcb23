use Rattle.soupbintcp.proofs.Rules.{fronts}
use Rattle.soupbintcp.proofs.front.read.Goals as goal

pub returns-in-None-clause-result_value : goal.returns-in-None-clause-result_value
returns-in-None-clause-result_value c = search fronts
