-- Downstream packets: what a datagram says, or the number of its refusal.
use Rattle.std.specs.Prelude.{ℕ, ◌+◌, List, [], ◌∷◌, Bool, length, get_or, take, drop, ltb, eqb, if◌then◌else◌, Result, Ok, Err}
use Rattle.wire.specs.Refusals.{datagram_short, datagram_long, number_zero, numbers_run_out}
use Rattle.wire.specs.Bounds.{largest_number, session_size}
use Rattle.wire.specs.Words.{Words, says, refuses, refused_words}
use Rattle.moldudp64.specs.Header.{header_size, largest_datagram, end_count, number_of, count_of}
use Rattle.moldudp64.specs.Blocks.{messages, blocks_refusal}
use Rattle.moldudp64.specs.declared.downstream.Downstream.{Downstream}
use Rattle.moldudp64.specs.declared.downstream.Downstream.TheVariants.{Data, Heartbeat, EndOfSession}
use Rattle.wire.specs.declared.refusal.Refusal.{Refusal}

-- the kinds of downstream packet
pub data DownstreamKind : Type 0 where
  data_packet heartbeat end_of_session : DownstreamKind

-- count 0 is a heartbeat, 65,535 is end of session, any other count is data
unfoldable pub kind_of_count : ℕ → DownstreamKind
kind_of_count c = if eqb c 0 then heartbeat else if eqb c end_count then end_of_session else data_packet

-- the kind of a datagram
abbrev pub kind_of : List ℕ → DownstreamKind
kind_of l = kind_of_count (count_of l)

-- how many blocks follow the header: heartbeat and end of session have none
abbrev pub block_count_of : DownstreamKind → ℕ → ℕ
block_count_of data_packet c = c
block_count_of heartbeat c = 0
block_count_of end_of_session c = 0

-- how many blocks a datagram has
unfoldable pub block_count : List ℕ → ℕ
block_count l = block_count_of (kind_of l) (count_of l)

-- the ground of 14: the numbers of c messages from n on, with the one after them, pass 2^64 - 1
abbrev pub run_out : ℕ → ℕ → Bool
run_out n c = ltb largest_number (n + c)

-- the lowest of 11 to 16 that applies, or 0
-- (14 is for data alone: with no blocks there is nothing to add, and a number of eight bytes is never above 2^64 - 1)
unfoldable pub refusal_of : List ℕ → ℕ
refusal_of l =
    if ltb (length l) header_size then datagram_short
    else if ltb largest_datagram (length l) then datagram_long
    else if eqb (number_of l) 0 then number_zero
    else if run_out (number_of l) (block_count l) then numbers_run_out
    else blocks_refusal (block_count l) (drop header_size l)

-- document 01's "well-formed": none of 11 to 16 applies
abbrev pub well_formed : List ℕ → Bool
well_formed l = eqb (refusal_of l) 0

-- data says its first number and its count; heartbeat and end of session the next expected number
abbrev pub values_of : DownstreamKind → List ℕ → List ℕ
values_of data_packet l = number_of l ∷ count_of l ∷ []
values_of heartbeat l = number_of l ∷ []
values_of end_of_session l = number_of l ∷ []

-- what a datagram says
unfoldable pub downstream_of : List ℕ → Words DownstreamKind
downstream_of l = if well_formed l then says (kind_of l) (values_of (kind_of l) l) else refuses (refusal_of l)

-- the reader's answer in these words
unfoldable pub downstream_words : Result Downstream Refusal → Words DownstreamKind
downstream_words (Ok (Data first count)) = says data_packet (first.0 ∷ count.0 ∷ [])
downstream_words (Ok (Heartbeat next)) = says heartbeat (next.0 ∷ [])
downstream_words (Ok (EndOfSession next)) = says end_of_session (next.0 ∷ [])
downstream_words (Err r) = refused_words r

-- the session: no bytes where the datagram is refused
unfoldable pub downstream_session : List ℕ → List ℕ
downstream_session l = if well_formed l then take session_size l else []

-- the messages in order, one of no bytes included: none where the datagram is refused
unfoldable pub messages_of : List ℕ → List (List ℕ)
messages_of l = if well_formed l then messages (block_count l) (drop header_size l) else []

-- the first message has the header's number, later ones follow by one: the number of the message at a place from 0
abbrev pub message_number : List ℕ → ℕ → ℕ
message_number l i = number_of l + i

-- the message at a place from 0: no bytes where there is none
unfoldable pub message_of : List ℕ → ℕ → List ℕ
message_of l i = get_or (messages_of l) i []
