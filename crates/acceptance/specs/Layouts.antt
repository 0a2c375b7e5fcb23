-- One packet of each published layout, byte by byte, as source documents 003 and 002 give them. Nothing here is built
-- by a writer of ours, so that a field at a wrong place or in the wrong byte order, in both directions alike, breaks these
-- rows.
use Rattle.std.specs.Prelude.{ℕ, List, [], ◌∷◌, ◌≡◌, replicate}
use Rattle.wire.specs.Words.{says}
use Rattle.moldudp64.specs.Header.{header}
use Rattle.moldudp64.specs.Downstream.{data_packet, heartbeat, end_of_session, downstream_of, downstream_session}
use Rattle.moldudp64.specs.Downstream.{messages_of}
use Rattle.moldudp64.specs.Request.{wanted, request_of, request_session}
use Rattle.moldudp64.specs.Written as mold
use Rattle.soupbintcp.specs.declared.packet.Sender.TheVariants.{Server, Client}
use Rattle.soupbintcp.specs.Letters.{debug, accepted, rejected, sequenced, server_heartbeat, login, unsequenced}
use Rattle.soupbintcp.specs.Letters.{client_heartbeat, logout, letter_debug, letter_accepted, letter_rejected}
use Rattle.soupbintcp.specs.Letters.{letter_sequenced, letter_server_heartbeat, letter_end, letter_login, letter_unsequenced}
use Rattle.soupbintcp.specs.Letters.{letter_client_heartbeat, letter_logout}
use Rattle.soupbintcp.specs.Letters as letters
use Rattle.soupbintcp.specs.Front.{packet, front_of, session_of, username_of, password_of}
use Rattle.soupbintcp_writer.specs.Packets as soup

-- READROOM01
abbrev pub room : List ℕ
room = 82 ∷ 69 ∷ 65 ∷ 68 ∷ 82 ∷ 79 ∷ 79 ∷ 77 ∷ 48 ∷ 49 ∷ []

-- `hi`, and a message of no bytes
abbrev pub messages : List (List ℕ)
messages = (104 ∷ 105 ∷ []) ∷ [] ∷ []

-- session (10), sequence number 258 (8), message count 2 (2); then each length (2) and its bytes
abbrev pub data_bytes : List ℕ
data_bytes =
    82 ∷ 69 ∷ 65 ∷ 68 ∷ 82 ∷ 79 ∷ 79 ∷ 77 ∷ 48 ∷ 49 ∷ 0 ∷ 0 ∷ 0 ∷ 0 ∷ 0 ∷ 0 ∷ 1 ∷ 2 ∷ 0 ∷ 2
    ∷ 0 ∷ 2 ∷ 104 ∷ 105 ∷ 0 ∷ 0 ∷ []

-- count 0 is a heartbeat, here with a number of eight different bytes; 65,535 is an end of session
abbrev pub heartbeat_bytes : List ℕ
heartbeat_bytes = 82 ∷ 69 ∷ 65 ∷ 68 ∷ 82 ∷ 79 ∷ 79 ∷ 77 ∷ 48 ∷ 49 ∷ 1 ∷ 2 ∷ 3 ∷ 4 ∷ 5 ∷ 6 ∷ 7 ∷ 8 ∷ 0 ∷ 0 ∷ []

abbrev pub end_bytes : List ℕ
end_bytes = 82 ∷ 69 ∷ 65 ∷ 68 ∷ 82 ∷ 79 ∷ 79 ∷ 77 ∷ 48 ∷ 49 ∷ 0 ∷ 0 ∷ 0 ∷ 0 ∷ 0 ∷ 0 ∷ 1 ∷ 2 ∷ 255 ∷ 255 ∷ []

-- a request: session, first number 258, how many 3
abbrev pub request_bytes : List ℕ
request_bytes = 82 ∷ 69 ∷ 65 ∷ 68 ∷ 82 ∷ 79 ∷ 79 ∷ 77 ∷ 48 ∷ 49 ∷ 0 ∷ 0 ∷ 0 ∷ 0 ∷ 0 ∷ 0 ∷ 1 ∷ 2 ∷ 0 ∷ 3 ∷ []

-- L: length 47 (2), the letter, `ann` (6), `cafe7` (10), READROOM01 (10), and 5 behind nineteen spaces (20)
abbrev pub ann : List ℕ
ann = 97 ∷ 110 ∷ 110 ∷ 32 ∷ 32 ∷ 32 ∷ []

abbrev pub cafe7 : List ℕ
cafe7 = 99 ∷ 97 ∷ 102 ∷ 101 ∷ 55 ∷ 32 ∷ 32 ∷ 32 ∷ 32 ∷ 32 ∷ []

abbrev pub login_bytes : List ℕ
login_bytes =
    0 ∷ 47 ∷ 76 ∷ 97 ∷ 110 ∷ 110 ∷ 32 ∷ 32 ∷ 32
    ∷ 99 ∷ 97 ∷ 102 ∷ 101 ∷ 55 ∷ 32 ∷ 32 ∷ 32 ∷ 32 ∷ 32
    ∷ 82 ∷ 69 ∷ 65 ∷ 68 ∷ 82 ∷ 79 ∷ 79 ∷ 77 ∷ 48 ∷ 49
    ∷ 32 ∷ 32 ∷ 32 ∷ 32 ∷ 32 ∷ 32 ∷ 32 ∷ 32 ∷ 32 ∷ 32 ∷ 32 ∷ 32 ∷ 32 ∷ 32 ∷ 32 ∷ 32 ∷ 32 ∷ 32 ∷ 32 ∷ 53 ∷ []

-- A: length 31 (2), the letter, READROOM01 (10), and 17 behind eighteen spaces (20)
abbrev pub accepted_bytes : List ℕ
accepted_bytes =
    0 ∷ 31 ∷ 65 ∷ 82 ∷ 69 ∷ 65 ∷ 68 ∷ 82 ∷ 79 ∷ 79 ∷ 77 ∷ 48 ∷ 49
    ∷ 32 ∷ 32 ∷ 32 ∷ 32 ∷ 32 ∷ 32 ∷ 32 ∷ 32 ∷ 32 ∷ 32 ∷ 32 ∷ 32 ∷ 32 ∷ 32 ∷ 32 ∷ 32 ∷ 32 ∷ 32 ∷ 49 ∷ 55 ∷ []

-- the others: a length that counts all but itself, a letter, and a payload: `hi`, the reason `A`, or none
abbrev pub hi : List ℕ
hi = 104 ∷ 105 ∷ []

abbrev pub debug_bytes : List ℕ
debug_bytes = 0 ∷ 3 ∷ 43 ∷ 104 ∷ 105 ∷ []

abbrev pub rejected_bytes : List ℕ
rejected_bytes = 0 ∷ 2 ∷ 74 ∷ 65 ∷ []

abbrev pub sequenced_bytes : List ℕ
sequenced_bytes = 0 ∷ 3 ∷ 83 ∷ 104 ∷ 105 ∷ []

abbrev pub server_heartbeat_bytes : List ℕ
server_heartbeat_bytes = 0 ∷ 1 ∷ 72 ∷ []

abbrev pub session_end_bytes : List ℕ
session_end_bytes = 0 ∷ 1 ∷ 90 ∷ []

abbrev pub unsequenced_bytes : List ℕ
unsequenced_bytes = 0 ∷ 3 ∷ 85 ∷ 104 ∷ 105 ∷ []

abbrev pub client_heartbeat_bytes : List ℕ
client_heartbeat_bytes = 0 ∷ 1 ∷ 82 ∷ []

abbrev pub logout_bytes : List ℕ
logout_bytes = 0 ∷ 1 ∷ 79 ∷ []

-- lengths of two bytes, 258 and 259: a message of 258 bytes `x`, in a datagram and in S
abbrev pub long : List ℕ
long = replicate 258 120

abbrev pub long_data_bytes : List ℕ
long_data_bytes =
    82 ∷ 69 ∷ 65 ∷ 68 ∷ 82 ∷ 79 ∷ 79 ∷ 77 ∷ 48 ∷ 49 ∷ 0 ∷ 0 ∷ 0 ∷ 0 ∷ 0 ∷ 0 ∷ 1 ∷ 2 ∷ 0 ∷ 1 ∷ 1 ∷ 2 ∷ long

abbrev pub long_sequenced_bytes : List ℕ
long_sequenced_bytes = 1 ∷ 3 ∷ 83 ∷ long

-- each is read as what it says, and written to these bytes
pub record EveryLayout : Type 0 where
  pub data_read : downstream_of data_bytes ≡ says data_packet (258 ∷ 2 ∷ [])
  pub data_session : downstream_session data_bytes ≡ room
  pub data_messages : messages_of data_bytes ≡ messages
  pub data_written : mold.encoded room 258 messages ≡ data_bytes
  pub long_data_read : downstream_of long_data_bytes ≡ says data_packet (258 ∷ 1 ∷ [])
  pub long_data_messages : messages_of long_data_bytes ≡ long ∷ []
  pub long_data_written : mold.encoded room 258 (long ∷ []) ≡ long_data_bytes
  pub heartbeat_read : downstream_of heartbeat_bytes ≡ says heartbeat (72623859790382856 ∷ [])
  pub heartbeat_written : mold.encoded room 72623859790382856 [] ≡ heartbeat_bytes
  pub end_read : downstream_of end_bytes ≡ says end_of_session (258 ∷ [])
  pub end_written : mold.encoded_end room 258 ≡ end_bytes
  pub reads_request : request_of request_bytes ≡ says wanted (258 ∷ 3 ∷ [])
  pub session_of_request : request_session request_bytes ≡ room
  pub request_written : header room 258 3 ≡ request_bytes
  pub login_read : front_of Client login_bytes ≡ says (packet login) (49 ∷ 5 ∷ [])
  pub login_username : username_of Client login_bytes ≡ ann
  pub login_password : password_of Client login_bytes ≡ cafe7
  pub login_session : session_of Client login_bytes ≡ room
  pub login_written : soup.encoded letter_login (soup.login_payload ann cafe7 room 5) ≡ login_bytes
  pub accepted_read : front_of Server accepted_bytes ≡ says (packet accepted) (33 ∷ 17 ∷ [])
  pub accepted_session : session_of Server accepted_bytes ≡ room
  pub accepted_written : soup.encoded letter_accepted (soup.accepted_payload room 17) ≡ accepted_bytes
  pub debug_read : front_of Server debug_bytes ≡ says (packet debug) (5 ∷ [])
  pub debug_of_client : front_of Client debug_bytes ≡ says (packet debug) (5 ∷ [])
  pub debug_written : soup.encoded letter_debug hi ≡ debug_bytes
  pub rejected_read : front_of Server rejected_bytes ≡ says (packet rejected) (4 ∷ 65 ∷ [])
  pub rejected_written : soup.encoded letter_rejected (65 ∷ []) ≡ rejected_bytes
  pub sequenced_read : front_of Server sequenced_bytes ≡ says (packet sequenced) (5 ∷ [])
  pub sequenced_written : soup.encoded letter_sequenced hi ≡ sequenced_bytes
  pub long_sequenced_read : front_of Server long_sequenced_bytes ≡ says (packet sequenced) (261 ∷ [])
  pub long_sequenced_written : soup.encoded letter_sequenced long ≡ long_sequenced_bytes
  pub server_heartbeat_read : front_of Server server_heartbeat_bytes ≡ says (packet server_heartbeat) (3 ∷ [])
  pub server_heartbeat_written : soup.encoded letter_server_heartbeat [] ≡ server_heartbeat_bytes
  pub session_end_read : front_of Server session_end_bytes ≡ says (packet letters.end_of_session) (3 ∷ [])
  pub session_end_written : soup.encoded letter_end [] ≡ session_end_bytes
  pub unsequenced_read : front_of Client unsequenced_bytes ≡ says (packet unsequenced) (5 ∷ [])
  pub unsequenced_written : soup.encoded letter_unsequenced hi ≡ unsequenced_bytes
  pub client_heartbeat_read : front_of Client client_heartbeat_bytes ≡ says (packet client_heartbeat) (3 ∷ [])
  pub client_heartbeat_written : soup.encoded letter_client_heartbeat [] ≡ client_heartbeat_bytes
  pub logout_read : front_of Client logout_bytes ≡ says (packet logout) (3 ∷ [])
  pub logout_written : soup.encoded letter_logout [] ≡ logout_bytes
