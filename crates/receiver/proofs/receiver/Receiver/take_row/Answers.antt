-- A row for each kind of packet.
use Rattle.receiver.proofs.Rules.{found}
use Rattle.receiver.proofs.receiver.Receiver.take_row.Goals as goal

pub returns-in-Err : goal.returns-in-Err
returns-in-Err c = search found
