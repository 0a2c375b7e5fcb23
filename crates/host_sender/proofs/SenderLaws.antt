-- A sender by its number.
use Prim.Native.Nat.{ℕ}
use mathlib.Core.Path.{◌≡◌}
use borrow.Author.Tests.{eq-eqb, ne_eqb}
use Rattle.soupbintcp.specs.declared.packet.Sender.TheVariants.{Server, Client}
use Rattle.host_sender.specs.Sender.{sender_of}

pub from-server : (n : ℕ) → n ≡ 0 → Server ≡ sender_of n
unfolding sender_of
from-server n e = rw (eq-eqb n 0 e)

pub from-client : (n : ℕ) → (n ≡ 0 → ⊥) → Client ≡ sender_of n
unfolding sender_of
from-client n e = rw (ne_eqb n 0 e)
