-- No ground applies, so the header is laid where it has room.
use Rattle.wire.proofs.Refusing.{checked}
use Rattle.moldudp64_writer.proofs.WriterLaws.{write-short, write_done}
use Rattle.moldudp64_writer.proofs.Rules.{requests}
use Rattle.moldudp64_writer.proofs.request.write.Goals as goal

pub returns-then-out-lt-SIZE-clause-writes : goal.returns-then-out-lt-SIZE-clause-writes
returns-then-out-lt-SIZE-clause-writes c = write-short _ _ _ 20 (checked _ _ _ c.check.ensures c.in_ok-check.was) (search requests) (search requests)

pub returns-clause-writes : goal.returns-clause-writes
returns-clause-writes c = write_done _ _ _ _ 20 (checked _ _ _ c.check.ensures c.in_ok-check.was) (search requests) (search requests) c.put_header.ensures
