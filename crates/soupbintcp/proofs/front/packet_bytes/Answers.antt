-- As many bytes as the packet takes, and else none.
use Rattle.soupbintcp.proofs.FrontLaws.{bytes-none}
use Rattle.soupbintcp.proofs.Rules.{within}
use Rattle.soupbintcp.proofs.front.packet_bytes.Goals as goal

pub returns-in-Whole : goal.returns-in-Whole
returns-in-Whole c = search within

pub returns-in_default : goal.returns-in_default
returns-in_default c = bytes-none _ _ _ c.read.ensures.result_value c.in_default.not-Whole
