-- No ground applies, so the packet is laid where it has room.
use Rattle.wire.proofs.Refusing.{checked}
use Rattle.moldudp64_writer.proofs.WriterLaws.{packet-short, packet-done}
use Rattle.moldudp64_writer.proofs.Rules.{packets}
use Rattle.moldudp64_writer.proofs.downstream.write_messages.Goals as goal

pub returns-then-out-size-clause-writes : goal.returns-then-out-size-clause-writes
returns-then-out-size-clause-writes c = packet-short _ _ _ (checked _ _ _ c.check.ensures c.in_ok-check.was) _ _ (search packets) (search packets)

pub returns-clause-writes : goal.returns-clause-writes
returns-clause-writes c =
    packet-done _ _ _ (checked _ _ _ c.check.ensures c.in_ok-check.was) _ _ _ _ (search packets) (search packets) c.put_header.ensures c.put_blocks.ensures
