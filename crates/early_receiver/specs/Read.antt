-- The same by what a reader found, in its words w; l is the datagram whose session and whose blocks are looked at.
-- Anyone can make the words up, or take another datagram's: a message that isn't there then has no bytes, and a refusal
-- of number 0 is none, so that it may name and ask.
use Rattle.std.specs.Prelude.{ℕ, zero, suc, List, [], ◌∷◌, ◌≡◌, eqb, if◌then◌else◌}
use Rattle.wire.specs.Words.{Words, Case, answer, refused, refuses}
use Rattle.moldudp64.specs.Downstream.{DownstreamKind, data_packet, heartbeat, end_of_session, downstream_of}
use Rattle.moldudp64_messages.specs.declared.cursor.Cursor.{Cursor}
use Rattle.moldudp64_messages.specs.Cursor.{part, located, advanced, first_of}
use Rattle.receiver.specs.Table.{AnswerKind}
use Rattle.receiver.specs.Receiver.{number_read, count_read, refusal_read, row_read}
use Rattle.early_holding.specs.Holding.{Lent, lent, next_of, take_all}
use Rattle.early_receiver.specs.declared.early.Taken.{Taken}
use Rattle.early_receiver.specs.Answers.{early_words, request_words}
use Rattle.early_receiver.specs.Early.{right_size, with_slots, named_lent, end_at, wanted, answer_by, early_answer}
use Rattle.early_receiver.specs.Early.{early_refusal, request_of, lent_after}

-- k messages from a cursor on
unfoldable pub messages_from_cursor : List ℕ → Cursor → ℕ → List (List ℕ)
messages_from_cursor l c zero = []
messages_from_cursor l c (suc k) = part l (located l c) ∷ messages_from_cursor l (advanced l c) k

-- so many messages of a datagram
abbrev pub messages_read : List ℕ → ℕ → List (List ℕ)
messages_read l count = messages_from_cursor l (first_of count) count

unfoldable pub early_refusal_read : Lent → List ℕ → Words DownstreamKind → ℕ
early_refusal_read s l w = with_slots (right_size s) (refusal_read s.receiver.base l w)

unfoldable pub take_read_at : Lent → List ℕ → Words DownstreamKind → Case DownstreamKind → Lent
take_read_at s l w (answer data_packet) = take_all s (number_read w) (messages_read l (count_read w))
take_read_at s l w (answer heartbeat) = s
take_read_at s l w (answer end_of_session) = end_at s (number_read w)
take_read_at s l w refused = s

unfoldable pub lent_after_read : Lent → List ℕ → Words DownstreamKind → Lent
lent_after_read s l w = if eqb (early_refusal_read s l w) 0 then take_read_at (named_lent s l) l w w.which else s

unfoldable pub request_read : Lent → List ℕ → Words DownstreamKind → List ℕ
request_read s l w =
    if eqb (early_refusal_read s l w) 0 then wanted (lent_after_read s l w).receiver (number_read w) else []

unfoldable pub early_answer_read : Lent → List ℕ → Words DownstreamKind → Words AnswerKind
early_answer_read s l w =
    if eqb (early_refusal_read s l w) 0
    then answer_by (row_read s.receiver.base w).reply.which (next_of s.receiver) (number_read w)
    (next_of (lent_after_read s l w).receiver)
    else refuses (early_refusal_read s l w)

-- what a reader finds in a datagram is answered as the datagram is
pub record EarlyReadAsWhole : Type 0 where
  pub refuses : (s : Lent) (l : List ℕ) → early_refusal_read s l (downstream_of l) ≡ early_refusal s l
  pub answers : (s : Lent) (l : List ℕ) → early_answer_read s l (downstream_of l) ≡ early_answer s l
  pub asks : (s : Lent) (l : List ℕ) → request_read s l (downstream_of l) ≡ request_of s l
  pub leaves : (s : Lent) (l : List ℕ) → lent_after_read s l (downstream_of l) ≡ lent_after s l

-- of `take_read`, which returned x and left the lengths ls and the slots ss
pub record TakesEarlyRead (x : Taken) (ls ss : List ℕ) (s : Lent) (l : List ℕ) (w : Words DownstreamKind) : Type 0 where
  pub answers : early_words x.answer ≡ early_answer_read s l w
  pub asks : request_words x.request ≡ request_read s l w
  pub leaves : lent x.receiver ls ss ≡ lent_after_read s l w
