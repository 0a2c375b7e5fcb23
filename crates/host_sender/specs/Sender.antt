-- Who sends a stream, by number.
use Rattle.std.specs.Prelude.{ℕ, eqb, if◌then◌else◌}
use Rattle.soupbintcp.specs.declared.packet.Sender.{Sender}
use Rattle.soupbintcp.specs.declared.packet.Sender.TheVariants.{Server, Client}

-- 0 is the server, every other number the client
unfoldable pub sender_of : ℕ → Sender
sender_of n = if eqb n 0 then Server else Client
