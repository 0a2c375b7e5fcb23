-- The arm of a `match` that takes what is left knows which letters it doesn't have: p is a kind, x a packet, ts the tags of such an arm.
use mathlib.Core.Path.{◌≡◌, refl}
use mathlib.Core.List.{List}
use mathlib.Core.Bool.{false, not}
use Prim.Native.Nat.{ℕ}
use lib.Dec.{T, eqb}
use borrow.Author.Tests.{ne_eqb}
use types.Run.{OneOf, miss}
use mir.Val.{has_key}
use denote.Enum.Declared.{tag_of}
use Rattle.soupbintcp.specs.declared.packet.Packet.{Packet}
use Rattle.soupbintcp.specs.declared.packet.Packet.TheVariants as packet
use Rattle.soupbintcp.specs.Letters.{PacketKind, debug, accepted, rejected, sequenced, server_heartbeat, end_of_session, login, unsequenced, client_heartbeat, logout, letter_for, packet_kind}
use Rattle.soupbintcp.proofs.KindLaws.{same_kind}
use Rattle.soupbintcp.specs.contracts.packet.Packet.{the_type}

unfoldable pub tag_for : PacketKind → ℕ
tag_for debug = 0
tag_for accepted = 1
tag_for rejected = 2
tag_for sequenced = 3
tag_for server_heartbeat = 4
tag_for end_of_session = 5
tag_for login = 6
tag_for unsequenced = 7
tag_for client_heartbeat = 8
tag_for logout = 9

its-tag : (x : Packet) → tag_of the_type x ≡ tag_for (packet_kind x)
unfolding tag_for packet_kind
its-tag packet.Debug = refl
its-tag (packet.Accepted n) = refl
its-tag (packet.Rejected reason) = refl
its-tag packet.Sequenced = refl
its-tag packet.ServerHeartbeat = refl
its-tag packet.EndOfSession = refl
its-tag (packet.Login n) = refl
its-tag packet.Unsequenced = refl
its-tag packet.ClientHeartbeat = refl
its-tag packet.Logout = refl

pub other-letter : (ts : List ℕ) (p : PacketKind) (x : Packet) → T (not (has_key ts (tag_for p))) → OneOf ts (tag_of the_type x)
    → eqb (letter_for (packet_kind x)) (letter_for p) ≡ false
other-letter ts p x h o = ne_eqb _ _ (λ e. miss ts (tag_for p) h (rw (its-tag x, same_kind (packet_kind x) p e) at o))
