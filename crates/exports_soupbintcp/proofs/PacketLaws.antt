-- The words of what stands at the front of a stream, and of a scan.
use Prim.Native.Nat.{ℕ, ◌<◌}
use mathlib.Core.List.{List, ◌∷◌}
use mathlib.Core.Path.{◌≡◌, refl}
use native.Mathlib.Omega.{arith}
use lib.ListN.{length}
use lib.Dec.{eqb}
use Rattle.std.specs.Prelude.{if◌then◌else◌}
use Rattle.wire.proofs.Words.{read_back}
use Rattle.soupbintcp.specs.declared.packet.Sender.{Sender}
use Rattle.soupbintcp.specs.declared.packet.Packet.{Packet}
use Rattle.soupbintcp.specs.declared.packet.Packet.TheVariants as case
use Rattle.soupbintcp.specs.declared.front.Front.{Front}
use Rattle.soupbintcp.specs.declared.front.Front.TheVariants.{Whole, NeedMore, Refused}
use Rattle.soupbintcp.specs.Letters.{debug, accepted, rejected, sequenced, server_heartbeat, end_of_session, login, unsequenced, client_heartbeat, logout, packet_kind, packet_values, letter_for, letter_debug, letter_accepted, letter_rejected, letter_sequenced, letter_server_heartbeat, letter_end, letter_login, letter_unsequenced, letter_client_heartbeat, letter_logout}
use Rattle.soupbintcp.specs.Front.{FrontKind, packet, wants_more, front_words, front_of}
use Rattle.host_answers.specs.Answers.{padded, words_of, AnswersWith}
use Rattle.host_sender.specs.Sender.{sender_of}
use Rattle.exports_soupbintcp.specs.Packets.{front_number, FrontsApart}

-- a packet of a known kind
pub packet-words : {x y : Packet} {ws : List ℕ} (size : ℕ) → x ≡ y → ws ≡ padded 3 (letter_for (packet_kind y) ∷ size ∷ packet_values y)
    → ws ≡ padded 3 (letter_for (packet_kind x) ∷ size ∷ packet_values x)
packet-words size e h = rw e h

module _ (n : ℕ) (s : Sender) (l : List ℕ) (r : ℕ) (ws ws' : List ℕ) (e : s ≡ sender_of n) where
  pub read-answers : (x : Front) (g : ℕ) (vs : List ℕ) → front_words x ≡ front_of s l → g ≡ (front_words x).refusal → vs ≡ words_of front_number 3 (front_words x)
      → AnswersWith r ws ws' g vs → AnswersWith r ws ws' (front_of (sender_of n) l).refusal (words_of front_number 3 (front_of (sender_of n) l))
  read-answers x g vs f a b h = rw (← e, ← f, ← a, ← b) h

-- ---- the numbers tell fronts apart: each is read back

unfoldable front_at : ℕ → FrontKind
front_at n =
    if eqb n letter_debug then packet debug else if eqb n letter_accepted then packet accepted else if eqb n letter_rejected then packet rejected else if eqb n letter_sequenced then packet sequenced else if eqb n letter_server_heartbeat then packet server_heartbeat else if eqb n letter_end then packet end_of_session else if eqb n letter_login then packet login else if eqb n letter_unsequenced then packet unsequenced else if eqb n letter_client_heartbeat then packet client_heartbeat else if eqb n letter_logout then packet logout else wants_more

front-back : (f : FrontKind) → front_at (front_number f) ≡ f
unfolding front_at front_number letter_for
front-back (packet debug) = refl
front-back (packet accepted) = refl
front-back (packet rejected) = refl
front-back (packet sequenced) = refl
front-back (packet server_heartbeat) = refl
front-back (packet end_of_session) = refl
front-back (packet login) = refl
front-back (packet unsequenced) = refl
front-back (packet client_heartbeat) = refl
front-back (packet logout) = refl
front-back wants_more = refl

one_value : (p : Packet) → length (packet_values p) < 2
unfolding packet_values
one_value case.Debug = omega arith
one_value (case.Accepted n) = omega arith
one_value (case.Rejected b) = omega arith
one_value case.Sequenced = omega arith
one_value case.ServerHeartbeat = omega arith
one_value case.EndOfSession = omega arith
one_value (case.Login n) = omega arith
one_value case.Unsequenced = omega arith
one_value case.ClientHeartbeat = omega arith
one_value case.Logout = omega arith

values-in-three : (x : Front) → length (front_words x).values < 3
unfolding front_words
values-in-three (Whole p size) = omega (arith, one_value p)
values-in-three NeedMore = omega arith
values-in-three (Refused r) = omega arith

pub fronts-apart : FrontsApart
fronts-apart = record { numbers = read_back front_number front_at front-back; values_fit = values-in-three }
