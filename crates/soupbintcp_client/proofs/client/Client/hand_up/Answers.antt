-- The largest number is the last: it isn't handed up, and every other one is.
use Rattle.std.proofs.Common.{sym, ◌∙◌}
use Rattle.soupbintcp_client.proofs.ClientLaws.{used-up, hands_up}
use Rattle.soupbintcp_client.proofs.client.Client.hand_up.Goals as goal

pub returns-then-eq : goal.returns-then-eq
returns-then-eq c = used-up _ _ _ (sym c.eq.ensures ∙ c.if-eq.true) c.stay.ensures

pub returns : goal.returns
returns c = hands_up _ _ _ (sym c.eq.ensures ∙ c.if-eq.false) c.goes.ensures
