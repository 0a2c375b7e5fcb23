-- No bytes have no ground of their own.
use Rattle.soupbintcp_writer.proofs.WriteLaws.{letter-done}
use Rattle.soupbintcp_writer.proofs.packets.write_letter.Goals as goal

pub returns : goal.returns
returns c = letter-done _ _ _ _ c.write_payload.ensures
