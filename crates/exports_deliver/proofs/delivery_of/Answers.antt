use Rattle.exports_deliver.proofs.FindLaws.{finds-deliver, finds-none}
use Rattle.exports_deliver.proofs.delivery_of.Goals as goal

pub returns-in-Deliver : goal.returns-in-Deliver
returns-in-Deliver c = finds-deliver _ _ _ _ c.in-Deliver.is

pub returns-in_default : goal.returns-in_default
returns-in_default c = finds-none _ c.in_default.not-Deliver
