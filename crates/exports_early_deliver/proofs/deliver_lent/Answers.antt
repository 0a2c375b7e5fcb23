use Rattle.exports_early_deliver.proofs.Rules.{delivering, lacking, laying}
use Rattle.exports_early_deliver.proofs.deliver_lent.Goals as goal

pub returns-then-lacks : goal.returns-then-lacks
returns-then-lacks c = search (delivering, lacking, laying)

pub returns : goal.returns
returns c = search (delivering, lacking, laying)
