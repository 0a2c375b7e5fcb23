-- Settled, or taken by what the reader finds, which is answered as the datagram is.
use Rattle.early_receiver.proofs.Rules.{wholes}
use Rattle.early_receiver.proofs.early.take.Goals as goal

pub returns-then-settled-clause-takes_early : goal.returns-then-settled-clause-takes_early
returns-then-settled-clause-takes_early c = search wholes
