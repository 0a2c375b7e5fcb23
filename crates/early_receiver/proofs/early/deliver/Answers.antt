-- With nothing held the receiver stays as it is, and otherwise it moves past what is held.
use Rattle.early_receiver.proofs.Rules.{delivers}
use Rattle.early_receiver.proofs.early.deliver.Goals as goal

pub returns-then-is_nothing : goal.returns-then-is_nothing
returns-then-is_nothing c = search delivers

pub returns : goal.returns
returns c = search delivers
