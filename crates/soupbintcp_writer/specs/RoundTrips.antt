-- What is written reads back as itself; what is accepted writes back to its own bytes, but for the exceptions that
-- document 01 names.
use Rattle.std.specs.Prelude.{ℕ, ◌+◌, ◌≤◌, List, [], ◌∷◌, ◌++◌, true, ◌≡◌, length, take}
use Rattle.wire.specs.Bounds.{largest_number, session_size}
use Rattle.wire.specs.Words.{says}
use Rattle.wire.specs.Bytes.{AreBytes}
use Rattle.text_fields.specs.Number.{NoLeadingZero}
use Rattle.text_fields.specs.Sound.{username_size, password_size, sound_username, sound_password}
use Rattle.soupbintcp.specs.declared.packet.Sender.{Sender}
use Rattle.soupbintcp.specs.declared.packet.Sender.TheVariants.{Server, Client}
use Rattle.soupbintcp.specs.Letters.{PacketKind, debug, accepted, rejected, sequenced, server_heartbeat}
use Rattle.soupbintcp.specs.Letters.{end_of_session, login, unsequenced, client_heartbeat, logout, letter_accepted}
use Rattle.soupbintcp.specs.Letters.{letter_rejected, letter_login, letter_for, most_payload, accepted_payload_size}
use Rattle.soupbintcp.specs.Letters.{rejected_payload_size, login_payload_size, letter_row, sends}
use Rattle.soupbintcp.specs.Head.{head_size}
use Rattle.soupbintcp.specs.Fields.{number_bytes}
use Rattle.soupbintcp.specs.Front.{packet, front_of, payload_of, session_of, username_of, password_of}
use Rattle.soupbintcp_writer.specs.Packets as written
use Rattle.soupbintcp_writer.specs.Packets.{payload_ground, accepted_ground, accepted_payload, reason_ground}
use Rattle.soupbintcp_writer.specs.Packets.{login_ground, login_payload}

-- a packet that a sender sends with a payload of none to n bytes, as the table of letters has it
pub record PayloadUpTo (s : Sender) (k : PacketKind) (n : ℕ) : Type 0 where
  pub sent : sends s (letter_for k) ≡ true
  pub least : (letter_row (letter_for k)).least ≡ 0
  pub most : (letter_row (letter_for k)).most ≡ n

-- + S U: with any payload; H Z R O: the letter alone
abbrev pub WithPayload : Sender → PacketKind → Type 0
WithPayload s k = PayloadUpTo s k most_payload

abbrev pub LetterAlone : Sender → PacketKind → Type 0
LetterAlone s k = PayloadUpTo s k 0

-- l in front of a stream reads as this packet, with this payload
pub record ReadsAs (s : Sender) (l : List ℕ) (k : PacketKind) (values : List ℕ) (payload : List ℕ) : Type 0 where
  pub front : front_of s l ≡ says (packet k) values
  pub its_payload : payload_of s l ≡ payload

-- the packets that are meant: the round trips below speak of each
pub record PayloadKinds : Type 0 where
  pub server_debug : WithPayload Server debug
  pub client_debug : WithPayload Client debug
  pub is_a_sequenced : WithPayload Server sequenced
  pub is_an_unsequenced : WithPayload Client unsequenced

pub record AloneKinds : Type 0 where
  pub is_server_heartbeat : LetterAlone Server server_heartbeat
  pub is_end_of_session : LetterAlone Server end_of_session
  pub is_client_heartbeat : LetterAlone Client client_heartbeat
  pub is_logout : LetterAlone Client logout

-- every packet that is read, of any kind, is its kind's letter and its payload written
unfoldable pub EveryPacketWritesBack : Type 0
EveryPacketWritesBack = (s : Sender) (l : List ℕ) (k : PacketKind) (size : ℕ) (vs : List ℕ) → AreBytes l
    → front_of s l ≡ says (packet k) (size ∷ vs) → written.encoded (letter_for k) (payload_of s l) ≡ take size l

-- + S U
pub record PayloadRoundTrip : Type 0 where
  pub of : PayloadKinds
  pub reads_back : (s : Sender) (k : PacketKind) → WithPayload s k → (p rest : List ℕ) → payload_ground p ≡ 0
      → ReadsAs s (written.encoded (letter_for k) p ++ rest) k ((length p + head_size) ∷ []) p
  pub writes_back : (s : Sender) (k : PacketKind) → WithPayload s k → (l : List ℕ) (size : ℕ) → AreBytes l
      → front_of s l ≡ says (packet k) (size ∷ []) → written.encoded (letter_for k) (payload_of s l) ≡ take size l
  pub may_be_written : (s : Sender) (k : PacketKind) → WithPayload s k → (l : List ℕ) (size : ℕ)
      → front_of s l ≡ says (packet k) (size ∷ []) → payload_ground (payload_of s l) ≡ 0

-- H Z R O
pub record LetterRoundTrip : Type 0 where
  pub of : AloneKinds
  pub reads_back : (s : Sender) (k : PacketKind) → LetterAlone s k → (rest : List ℕ)
      → ReadsAs s (written.encoded (letter_for k) [] ++ rest) k (head_size ∷ []) []
  pub writes_back : (s : Sender) (k : PacketKind) → LetterAlone s k → (l : List ℕ) (size : ℕ) → AreBytes l
      → front_of s l ≡ says (packet k) (size ∷ []) → written.encoded (letter_for k) [] ≡ take size l

-- J
pub record RejectedRoundTrip : Type 0 where
  pub reads_back : (reason : ℕ) (rest : List ℕ) → reason_ground reason ≡ 0
      → ReadsAs Server (written.encoded letter_rejected (reason ∷ []) ++ rest) rejected
      ((head_size + rejected_payload_size) ∷ reason ∷ []) (reason ∷ [])
  pub writes_back : (l : List ℕ) (size reason : ℕ) → AreBytes l
      → front_of Server l ≡ says (packet rejected) (size ∷ reason ∷ [])
      → written.encoded letter_rejected (reason ∷ []) ≡ take size l
  pub may_be_written : (l : List ℕ) (size reason : ℕ)
      → front_of Server l ≡ says (packet rejected) (size ∷ reason ∷ []) → reason_ground reason ≡ 0

-- ---- A

-- what was read of an A can be handed to its writer
pub record AcceptedFits (l : List ℕ) (n : ℕ) : Type 0 where
  pub size_of_session : length (session_of Server l) ≡ session_size
  pub number_fits : n ≤ largest_number
  pub no_ground : accepted_ground (session_of Server l) n ≡ 0

-- the bytes of an A that is written
abbrev pub accepted_bytes : List ℕ → ℕ → List ℕ
accepted_bytes session n = written.encoded letter_accepted (accepted_payload session n)

pub record AcceptedReads (session : List ℕ) (n : ℕ) (rest : List ℕ) : Type 0 where
  pub front : front_of Server (accepted_bytes session n ++ rest)
      ≡ says (packet accepted) ((head_size + accepted_payload_size) ∷ n ∷ [])
  pub its_session : session_of Server (accepted_bytes session n ++ rest) ≡ session

-- an A that is read writes back to its own bytes, save a number with leading zeros
pub record AcceptedRoundTrip : Type 0 where
  pub reads_back : (session : List ℕ) (n : ℕ) (rest : List ℕ) → length session ≡ session_size → n ≤ largest_number
      → accepted_ground session n ≡ 0
      → AcceptedReads session n rest
  pub writes_back : (l : List ℕ) (size n : ℕ) → AreBytes l → front_of Server l ≡ says (packet accepted) (size ∷ n ∷ [])
      → NoLeadingZero (number_bytes letter_accepted l) → accepted_bytes (session_of Server l) n ≡ take size l
  pub may_be_written : (l : List ℕ) (size n : ℕ) → front_of Server l ≡ says (packet accepted) (size ∷ n ∷ [])
      → AcceptedFits l n

-- ---- L

-- what was read of an L can be handed to its writer
pub record LoginFits (l : List ℕ) (n : ℕ) : Type 0 where
  pub size_of_username : length (username_of Client l) ≡ username_size
  pub size_of_password : length (password_of Client l) ≡ password_size
  pub size_of_session : length (session_of Client l) ≡ session_size
  pub number_fits : n ≤ largest_number
  pub no_ground : login_ground (username_of Client l) (password_of Client l) (session_of Client l) ≡ 0

-- the bytes of an L that is written
abbrev pub login_bytes : List ℕ → List ℕ → List ℕ → ℕ → List ℕ
login_bytes username password session n = written.encoded letter_login (login_payload username password session n)

pub record LoginReads (username password session : List ℕ) (n : ℕ) (rest : List ℕ) : Type 0 where
  pub front : front_of Client (login_bytes username password session n ++ rest)
      ≡ says (packet login) ((head_size + login_payload_size) ∷ n ∷ [])
  pub its_username : username_of Client (login_bytes username password session n ++ rest) ≡ username
  pub its_password : password_of Client (login_bytes username password session n ++ rest) ≡ password
  pub its_session : session_of Client (login_bytes username password session n ++ rest) ≡ session

-- an L that is read writes back to its own bytes, save a number with leading zeros; it may be written, save an
-- unsound username or password
pub record LoginRoundTrip : Type 0 where
  pub reads_back : (username password session : List ℕ) (n : ℕ) (rest : List ℕ) → length username ≡ username_size
      → length password ≡ password_size
      → length session ≡ session_size → n ≤ largest_number → login_ground username password session ≡ 0
      → LoginReads username password session n rest
  pub writes_back : (l : List ℕ) (size n : ℕ) → AreBytes l → front_of Client l ≡ says (packet login) (size ∷ n ∷ [])
      → NoLeadingZero (number_bytes letter_login l)
      → login_bytes (username_of Client l) (password_of Client l) (session_of Client l) n ≡ take size l
  pub may_be_written : (l : List ℕ) (size n : ℕ) → front_of Client l ≡ says (packet login) (size ∷ n ∷ [])
      → sound_username (username_of Client l) ≡ true → sound_password (password_of Client l) ≡ true → LoginFits l n
