use Rattle.moldudp64_writer.proofs.Rules.{ends}
use Rattle.moldudp64_writer.proofs.downstream.write_end_of_session.Goals as goal

pub returns-then-is_zero-clause-writes : goal.returns-then-is_zero-clause-writes
returns-then-is_zero-clause-writes c = search ends

pub returns-then-out-lt-SIZE-clause-writes : goal.returns-then-out-lt-SIZE-clause-writes
returns-then-out-lt-SIZE-clause-writes c = search ends

pub returns-clause-writes : goal.returns-clause-writes
returns-clause-writes c = search ends
