-- What is written reads back as itself, and what is accepted writes back to its own bytes.
-- A session is ten bytes, a number is below 2^64, a length and a count are below 2^16: what the writers' types hold.
use Rattle.std.specs.Prelude.{ℕ, ◌≤◌, ◌<◌, ◌^◌, List, [], ◌∷◌, ◌≡◌, length, get_or, take}
use Rattle.wire.specs.Bounds.{session_size}
use Rattle.wire.specs.Words.{says}
use Rattle.wire.specs.Bytes.{joined, AreBytes}
use Rattle.wire.specs.Output.{wrote, put, write_answer, write_output}
use Rattle.moldudp64.specs.Header.{number_of, count_of, header}
use Rattle.moldudp64.specs.Downstream.{DownstreamKind, data_packet, heartbeat, end_of_session, kind_of, refusal_of}
use Rattle.moldudp64.specs.Downstream.{downstream_of, downstream_session, messages_of}
use Rattle.moldudp64.specs.Written.{encoded_end}
use Rattle.moldudp64_writer.specs.Writer.{encoded_cut, cut, lengths_of, packet_ground, end_ground}
use Rattle.moldudp64.specs.Request.{wanted, request_ground, request_refusal, request_of, request_session}

-- the bytes p read as a datagram of this session, kind, values and messages
pub record DatagramReadsAs (p session : List ℕ) (kind : DownstreamKind) (values : List ℕ)
    (ms : List (List ℕ)) : Type 0 where
  pub says_so : downstream_of p ≡ says kind values
  pub its_session : downstream_session p ≡ session
  pub its_messages : messages_of p ≡ ms

-- a writer with ground g and bytes bs writes the bytes l: into any output with room for them, and nothing else
pub record WritesTo (l : List ℕ) (g : ℕ) (bs : List ℕ) : Type 0 where
  pub answers : (o : List ℕ) → length l ≤ length o → write_answer g o 0 bs ≡ says wrote (length l ∷ [])
  pub leaves : (o : List ℕ) → length l ≤ length o → write_output g o 0 bs ≡ put o 0 l

-- ---- data and heartbeat: ks are the lengths, d the joined data, l any lent output

-- a packet of messages says its first number and how many; one of none is a heartbeat with the next number
abbrev pub kind_of_messages : List (List ℕ) → DownstreamKind
kind_of_messages [] = heartbeat
kind_of_messages (m ∷ ms) = data_packet

abbrev pub values_of_messages : ℕ → List (List ℕ) → List ℕ
values_of_messages n [] = n ∷ []
values_of_messages n (m ∷ ms) = n ∷ length (m ∷ ms) ∷ []

-- the bytes that the writer reports are a datagram of just those messages
unfoldable pub PacketReadsBack : Type 0
PacketReadsBack = (l session : List ℕ) (n : ℕ) (ks d : List ℕ) (size : ℕ)
    → length session ≡ session_size → n < 2 ^ 64 → ((i : ℕ) → get_or ks i 0 < 2 ^ 16)
    → write_answer (packet_ground n ks d) l 0 (encoded_cut session n ks d) ≡ says wrote (size ∷ [])
    → DatagramReadsAs (take size (write_output (packet_ground n ks d) l 0 (encoded_cut session n ks d))) session
    (kind_of_messages (cut ks d)) (values_of_messages n (cut ks d)) (cut ks d)

-- a packet's bytes, whatever output they stand in, are a datagram of just those messages
unfoldable pub PacketBytesReadBack : Type 0
PacketBytesReadBack = (session : List ℕ) (n : ℕ) (ks d : List ℕ) → length session ≡ session_size → n < 2 ^ 64
    → ((i : ℕ) → get_or ks i 0 < 2 ^ 16) → packet_ground n ks d ≡ 0
    → DatagramReadsAs (encoded_cut session n ks d) session (kind_of_messages (cut ks d)) (values_of_messages n (cut ks d))
    (cut ks d)

-- a datagram that is accepted and is no end of session is what the writer writes of its parts
unfoldable pub PacketWritesBack : Type 0
PacketWritesBack = (l : List ℕ) → AreBytes l → refusal_of l ≡ 0 → (kind_of l ≡ end_of_session → ⊥)
    → WritesTo l (packet_ground (number_of l) (lengths_of (messages_of l)) (joined (messages_of l)))
    (encoded_cut (downstream_session l) (number_of l) (lengths_of (messages_of l)) (joined (messages_of l)))

-- what was read of data or a heartbeat can be handed to its writer
pub record PacketFits (l : List ℕ) : Type 0 where
  pub size_of_session : length (downstream_session l) ≡ session_size
  pub number_fits : number_of l < 2 ^ 64
  pub each_length : (i : ℕ) → get_or (lengths_of (messages_of l)) i 0 < 2 ^ 16

-- ---- end of session

-- the bytes that the writer reports are an end of session with that number
unfoldable pub EndReadsBack : Type 0
EndReadsBack = (l session : List ℕ) (n size : ℕ) → length session ≡ session_size → n < 2 ^ 64
    → write_answer (end_ground n) l 0 (encoded_end session n) ≡ says wrote (size ∷ [])
    → DatagramReadsAs (take size (write_output (end_ground n) l 0 (encoded_end session n))) session end_of_session
    (n ∷ []) []

-- the bytes of an end of session, whatever output they stand in, are an end of session with that number
unfoldable pub EndBytesReadBack : Type 0
EndBytesReadBack = (session : List ℕ) (n : ℕ) → length session ≡ session_size → n < 2 ^ 64 → end_ground n ≡ 0
    → DatagramReadsAs (encoded_end session n) session end_of_session (n ∷ []) []

-- an end of session that is accepted is what the writer writes of its parts
unfoldable pub EndWritesBack : Type 0
EndWritesBack = (l : List ℕ) → AreBytes l → refusal_of l ≡ 0 → kind_of l ≡ end_of_session
    → WritesTo l (end_ground (number_of l)) (encoded_end (downstream_session l) (number_of l))

-- what was read of an end of session can be handed to its writer
pub record EndFits (l : List ℕ) : Type 0 where
  pub size_of_session : length (downstream_session l) ≡ session_size
  pub number_fits : number_of l < 2 ^ 64

-- ---- requests

-- the bytes p read as a request of this session, number and count
pub record AsksFor (p session : List ℕ) (n c : ℕ) : Type 0 where
  pub says_so : request_of p ≡ says wanted (n ∷ c ∷ [])
  pub its_session : request_session p ≡ session

-- the bytes that the writer reports are that request
unfoldable pub RequestReadsBack : Type 0
RequestReadsBack = (l session : List ℕ) (n c size : ℕ) → length session ≡ session_size → n < 2 ^ 64 → c < 2 ^ 16
    → write_answer (request_ground n c) l 0 (header session n c) ≡ says wrote (size ∷ [])
    → AsksFor (take size (write_output (request_ground n c) l 0 (header session n c))) session n c

-- a request's bytes, whatever output they stand in, are that request
unfoldable pub RequestBytesReadBack : Type 0
RequestBytesReadBack = (session : List ℕ) (n c : ℕ) → length session ≡ session_size → n < 2 ^ 64 → c < 2 ^ 16
    → request_ground n c ≡ 0 → AsksFor (header session n c) session n c

-- a request that is accepted is what the writer writes of its parts
unfoldable pub RequestWritesBack : Type 0
RequestWritesBack = (l : List ℕ) → AreBytes l → request_refusal l ≡ 0
    → WritesTo l (request_ground (number_of l) (count_of l)) (header (request_session l) (number_of l) (count_of l))

-- what was read of a request can be handed to its writer
pub record RequestFits (l : List ℕ) : Type 0 where
  pub size_of_session : length (request_session l) ≡ session_size
  pub number_fits : number_of l < 2 ^ 64
  pub count_fits : count_of l < 2 ^ 16

-- ---- each writer promises both ways, and that its types hold the parts that it writes back

pub record PacketRoundTrip : Type 0 where
  pub reads_back : PacketReadsBack
  pub bytes_read_back : PacketBytesReadBack
  pub writes_back : PacketWritesBack
  pub may_be_given : (l : List ℕ) → AreBytes l → refusal_of l ≡ 0 → PacketFits l

pub record EndRoundTrip : Type 0 where
  pub reads_back : EndReadsBack
  pub bytes_read_back : EndBytesReadBack
  pub writes_back : EndWritesBack
  pub may_be_given : (l : List ℕ) → AreBytes l → refusal_of l ≡ 0 → EndFits l

pub record RequestRoundTrip : Type 0 where
  pub reads_back : RequestReadsBack
  pub bytes_read_back : RequestBytesReadBack
  pub writes_back : RequestWritesBack
  pub may_be_given : (l : List ℕ) → AreBytes l → request_refusal l ≡ 0 → RequestFits l
