-- The packets, and document 01's table of letters.
use Rattle.std.specs.Prelude.{ℕ, ◌+◌, List, [], ◌∷◌, Bool, true, false, ltb, leb, eqb, if◌then◌else◌}
use Rattle.wire.specs.Text.{letter}
use Rattle.wire.specs.Bounds.{session_size}
use Rattle.text_fields.specs.Number.{number_field_size}
use Rattle.text_fields.specs.Sound.{username_size, password_size}
use Rattle.soupbintcp.specs.declared.packet.Sender.{Sender}
use Rattle.soupbintcp.specs.declared.packet.Sender.TheVariants.{Server, Client}
use Rattle.soupbintcp.specs.declared.packet.Packet.{Packet}
use Rattle.soupbintcp.specs.declared.packet.Packet.TheVariants.{Debug, Accepted, Rejected, Sequenced}
use Rattle.soupbintcp.specs.declared.packet.Packet.TheVariants.{ServerHeartbeat, EndOfSession, Login}
use Rattle.soupbintcp.specs.declared.packet.Packet.TheVariants.{Unsequenced, ClientHeartbeat, Logout}
use Rattle.soupbintcp.specs.declared.letters.Row.{Row}

-- the kinds of packet
pub data PacketKind : Type 0 where
  debug accepted rejected sequenced server_heartbeat end_of_session : PacketKind
  login unsequenced client_heartbeat logout : PacketKind

unfoldable pub packet_kind : Packet → PacketKind
packet_kind Debug = debug
packet_kind (Accepted n) = accepted
packet_kind (Rejected reason) = rejected
packet_kind Sequenced = sequenced
packet_kind ServerHeartbeat = server_heartbeat
packet_kind EndOfSession = end_of_session
packet_kind (Login n) = login
packet_kind Unsequenced = unsequenced
packet_kind ClientHeartbeat = client_heartbeat
packet_kind Logout = logout

-- the number of A and L, the reason of J
unfoldable pub packet_values : Packet → List ℕ
packet_values Debug = []
packet_values (Accepted n) = n.0 ∷ []
packet_values (Rejected reason) = reason ∷ []
packet_values Sequenced = []
packet_values ServerHeartbeat = []
packet_values EndOfSession = []
packet_values (Login n) = n.0 ∷ []
packet_values Unsequenced = []
packet_values ClientHeartbeat = []
packet_values Logout = []

-- ---- the letters

abbrev pub letter_debug : ℕ
letter_debug = letter "+"

abbrev pub letter_accepted : ℕ
letter_accepted = letter "A"

abbrev pub letter_rejected : ℕ
letter_rejected = letter "J"

abbrev pub letter_sequenced : ℕ
letter_sequenced = letter "S"

abbrev pub letter_server_heartbeat : ℕ
letter_server_heartbeat = letter "H"

abbrev pub letter_end : ℕ
letter_end = letter "Z"

abbrev pub letter_login : ℕ
letter_login = letter "L"

abbrev pub letter_unsequenced : ℕ
letter_unsequenced = letter "U"

abbrev pub letter_client_heartbeat : ℕ
letter_client_heartbeat = letter "R"

abbrev pub letter_logout : ℕ
letter_logout = letter "O"

unfoldable pub letter_for : PacketKind → ℕ
letter_for debug = letter_debug
letter_for accepted = letter_accepted
letter_for rejected = letter_rejected
letter_for sequenced = letter_sequenced
letter_for server_heartbeat = letter_server_heartbeat
letter_for end_of_session = letter_end
letter_for login = letter_login
letter_for unsequenced = letter_unsequenced
letter_for client_heartbeat = letter_client_heartbeat
letter_for logout = letter_logout

-- ---- the table: letter, sender, length

-- the most bytes of a payload
abbrev pub most_payload : ℕ
most_payload = 4096

-- the bytes of the payload of A: session and number; of J: the reason; of L: username, password, session and number
abbrev pub accepted_payload_size : ℕ
accepted_payload_size = session_size + number_field_size

abbrev pub rejected_payload_size : ℕ
rejected_payload_size = 1

abbrev pub login_payload_size : ℕ
login_payload_size = username_size + password_size + session_size + number_field_size

-- whether the server and the client send it, and the fewest and most bytes of its payload, which is the length
-- without the letter
abbrev pub row : Bool → Bool → ℕ → ℕ → Row
row server client least most = record { server = server; client = client; least = least; most = most }

unfoldable pub letter_row : ℕ → Row
letter_row c =
    if eqb c letter_debug then row true true 0 most_payload
    else if eqb c letter_accepted then row true false accepted_payload_size accepted_payload_size
    else if eqb c letter_rejected then row true false rejected_payload_size rejected_payload_size
    else if eqb c letter_sequenced then row true false 0 most_payload
    else if eqb c letter_server_heartbeat then row true false 0 0
    else if eqb c letter_end then row true false 0 0
    else if eqb c letter_login then row false true login_payload_size login_payload_size
    else if eqb c letter_unsequenced then row false true 0 most_payload
    else if eqb c letter_client_heartbeat then row false true 0 0
    else if eqb c letter_logout then row false true 0 0
    else row false false 0 0

-- by its row: who sends it, and whether a payload of k bytes has a length that is right for it
abbrev pub sent_in : Sender → Row → Bool
sent_in Server r = r.server
sent_in Client r = r.client

abbrev pub allowed_in : Row → ℕ → Bool
allowed_in r k = if ltb k r.least then false else leb k r.most

unfoldable pub sends : Sender → ℕ → Bool
sends s c = sent_in s (letter_row c)

unfoldable pub allows : ℕ → ℕ → Bool
allows c k = allowed_in (letter_row c) k

-- the letters that say all: S H Z U R O, and else +
unfoldable pub plain_of : ℕ → PacketKind
plain_of c =
    if eqb c letter_sequenced then sequenced
    else if eqb c letter_server_heartbeat then server_heartbeat
    else if eqb c letter_end then end_of_session
    else if eqb c letter_unsequenced then unsequenced
    else if eqb c letter_client_heartbeat then client_heartbeat
    else if eqb c letter_logout then logout
    else debug
