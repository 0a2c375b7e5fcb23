use Rattle.exports_receiver.proofs.Rules.{receivers}
use Rattle.exports_receiver.proofs.take_read.Goals as goal

pub returns-clause-takes_datagram : goal.returns-clause-takes_datagram
returns-clause-takes_datagram c = search receivers

pub returns-clause-refuses : goal.returns-clause-refuses
returns-clause-refuses c = search receivers
