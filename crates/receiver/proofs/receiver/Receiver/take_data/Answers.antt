-- What the datagram has from the expected number on is delivered.
use Rattle.receiver.proofs.Rules.{rows}
use Rattle.receiver.proofs.receiver.Receiver.take_data.Goals as goal

pub returns-then-lt-2 : goal.returns-then-lt-2
returns-then-lt-2 c = search rows
