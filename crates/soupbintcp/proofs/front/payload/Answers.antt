-- What follows the head within the packet's size, and no bytes where there is no packet.
use Rattle.soupbintcp.proofs.FrontLaws.{payload-none}
use Rattle.soupbintcp.proofs.Rules.{within}
use Rattle.soupbintcp.proofs.front.payload.Goals as goal

pub returns-in-Whole : goal.returns-in-Whole
returns-in-Whole c = search within

pub returns-in_default : goal.returns-in_default
returns-in_default c = payload-none _ _ _ c.read.ensures.result_value c.in_default.not-Whole
