-- An open receiver keeps its name, and refuses neither data nor heartbeats.
use Rattle.early_receiver.proofs.Rules.{settles}
use Rattle.early_receiver.proofs.early.settle.Goals as goal

pub settle_row-requires-clause-receiver_value : goal.settle_row-requires-clause-receiver_value
settle_row-requires-clause-receiver_value c = search settles

pub returns : goal.returns
returns c = search settles
