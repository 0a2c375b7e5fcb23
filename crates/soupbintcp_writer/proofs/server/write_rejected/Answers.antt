-- The reason's ground, and then a payload of one byte.
use Rattle.soupbintcp_writer.proofs.WriteLaws.{reason-refused, reason-done}
use Rattle.soupbintcp_writer.proofs.server.write_rejected.Goals as goal

pub returns-then-not-is_reason-clause-writes : goal.returns-then-not-is_reason-clause-writes
returns-then-not-is_reason-clause-writes c = reason-refused _ _ _ _ c.is_reason.ensures c.if-not-is_reason.true

pub returns-clause-writes : goal.returns-clause-writes
returns-clause-writes c = reason-done _ _ _ _ _ _ c.is_reason.ensures c.if-not-is_reason.false c.write_payload.ensures
