-- A session, its messages, and the datagrams that condition 3 speaks of.
use Rattle.std.specs.Prelude.{ℕ, ◌+◌, ◌-◌, ◌<◌, ◌≤◌, ◌≡◌, length, take, drop, get_or}
use mathlib.Core.List.{List, [], Memᴰ}
use Rattle.wire.specs.Bounds.{session_size}
use Rattle.moldudp64.specs.Header.{number_of}
use Rattle.moldudp64.specs.Downstream.{data_packet, heartbeat, end_of_session, kind_of, refusal_of, messages_of}
use Rattle.moldudp64.specs.Downstream.{message_number}

abbrev pub Message : Type 0
Message = List ℕ

abbrev pub Datagram : Type 0
Datagram = List ℕ

-- a session is a name and its list of messages, the first numbered 1, perhaps none: its last is then 0
pub record Session : Type 0 where
  pub name : List ℕ
  pub messages : List Message

-- the number of its last message
abbrev pub last_of : Session → ℕ
last_of s = length s.messages

-- m is the session's message with number k, byte for byte
pub record IsMessage (s : Session) (k : ℕ) (m : Message) : Type 0 where
  pub from_one : 1 ≤ k
  pub to_last : k ≤ last_of s
  pub bytes : m ≡ get_or s.messages (k - 1) []

-- the session's messages from number a to just below number b, in order, each once
unfoldable pub messages_from : Session → ℕ → ℕ → List Message
messages_from s a b = take (b - a) (drop (a - 1) s.messages)

-- condition 3's kind; document 01's "well-formed": none of 11 to 16 applies
pub data OfKind (s : Session) (d : Datagram) : Type 0 where
  not_well_formed : (refusal_of d ≡ 0 → ⊥) → OfKind s d
  another_name : (take session_size d ≡ s.name → ⊥) → OfKind s d
  any_heartbeat : kind_of d ≡ heartbeat → OfKind s d
  true_data : kind_of d ≡ data_packet
      → ((i : ℕ) → i < length (messages_of d) → IsMessage s (message_number d i) (get_or (messages_of d) i []))
      → OfKind s d
  true_end : kind_of d ≡ end_of_session → number_of d ≡ last_of s + 1 → OfKind s d

-- each element of the list is of the kind
abbrev pub All : {E : Type 0} → (E → Type 0) → List E → Type 0
All {E} Kind es = (e : E) → Memᴰ e es → Kind e

abbrev pub AllOfKind : Session → List Datagram → Type 0
AllOfKind s ds = All (OfKind s) ds
