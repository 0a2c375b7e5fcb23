-- The receiver: its start, its refusals, and what it answers to a datagram.
use Rattle.std.specs.Prelude.{ℕ, ◌-◌, List, Bool, true, false, not, ◌≡◌, get_or, take, ltb, eqb, if◌then◌else◌}
use Rattle.wire.specs.Refusals.{bad_setting, session_differs, session_ended, end_below_expected}
use Rattle.wire.specs.Bounds.{least_number, largest_number, least_limit, largest_limit, session_size, blank}
use Rattle.wire.specs.Words.{Words, Case, answer, refused, refuses}
use Rattle.wire.specs.Text.{letter}
use Rattle.wire.specs.Bytes.{same_bytes}
use Rattle.wire.specs.Parts.{first_bytes}
use Rattle.moldudp64.specs.Header.{number_of, count_of}
use Rattle.moldudp64.specs.Downstream.{DownstreamKind, data_packet, heartbeat, end_of_session, kind_of, well_formed}
use Rattle.moldudp64.specs.Downstream.{refusal_of, downstream_of}
use Rattle.receiver.specs.declared.receiver.Receiver.{Receiver}
use Rattle.receiver.specs.declared.receiver.Started.{Started}
use Rattle.receiver.specs.declared.receiver.Taken.{Taken}
use Rattle.receiver.specs.Table.{AnswerKind, Outcome, table, numbered, answer_words}

-- a receiver of this name, number, limit, ended or not
abbrev pub receiver : List ℕ → ℕ → ℕ → Bool → Receiver
receiver name n limit over =
    record { session = name; next = record { 0 = n }; limit = record { 0 = limit }; ended = over }

-- ---- the start

-- 19 where the number or the limit is out of its bounds
unfoldable pub receiver_start_refusal : ℕ → ℕ → ℕ
receiver_start_refusal n limit =
    if ltb n least_number then bad_setting
    else if ltb largest_number n then bad_setting
    else if ltb limit least_limit then bad_setting
    else if ltb largest_limit limit then bad_setting
    else 0

-- a refused start gives an ended receiver, its name blank, its numbers 1
abbrev pub refused_receiver : Receiver
refused_receiver = receiver blank 1 1 true

-- a fresh receiver, or the refused one
unfoldable pub start_receiver : List ℕ → ℕ → ℕ → Receiver
start_receiver name n limit =
    if eqb (receiver_start_refusal n limit) 0 then receiver name n limit false else refused_receiver

-- ---- the name

-- a blank name is none yet
abbrev pub unnamed : List ℕ → Bool
unnamed name = same_bytes name blank

-- the name by an accepted datagram l: where there was none, the one in front of it
unfoldable pub name_by : List ℕ → List ℕ → List ℕ
name_by name l = if unnamed name then first_bytes session_size l else name

-- the receiver under that name
abbrev pub named_by : Receiver → List ℕ → Receiver
named_by r l = receiver (name_by r.session l) r.next.0 r.limit.0 r.ended

-- ---- a datagram l

-- the ground of 17: the session is another one; while the receiver has no name, a blank one instead
unfoldable pub other_session : Receiver → List ℕ → Bool
other_session r l =
    if unnamed r.session then unnamed (take session_size l) else not (same_bytes (take session_size l) r.session)

-- it isn't ended and has the datagram's session for its name. One that ends in a space may be no name yet, and doesn't
-- count here
unfoldable pub open_for : Receiver → List ℕ → Bool
open_for r l =
    if r.ended then false
    else if eqb (get_or r.session (session_size - 1) 0) (letter " ") then false
    else same_bytes (take session_size l) r.session

-- the ground of 20: an end of session below the expected number
unfoldable pub end_below : DownstreamKind → ℕ → ℕ → Bool
end_below end_of_session f n = ltb f n
end_below data_packet f n = false
end_below heartbeat f n = false

-- the receiver's own rungs: 17, 18, and 20 for an end of session that lies below
unfoldable pub own_refusal : Receiver → List ℕ → Bool → ℕ
own_refusal r l below =
    if other_session r l then session_differs
    else if r.ended then session_ended
    else if below then end_below_expected
    else 0

-- the lowest of 11 to 16, 17, 18 and 20 that applies, or 0
unfoldable pub refusal_for : Receiver → List ℕ → ℕ
refusal_for r l =
    if well_formed l then own_refusal r l (end_below (kind_of l) (number_of l) r.next.0)
    else refusal_of l

-- document 01's "accepted": none of them applies
abbrev pub accepted : Receiver → List ℕ → Bool
accepted r l = eqb (refusal_for r l) 0

-- the row of the table
abbrev pub table_row : Receiver → List ℕ → Outcome
table_row r l = table r.limit.0 r.next.0 (kind_of l) (number_of l) (count_of l)

-- the receiver after a row: its number moved, and ended where the row ends it
abbrev pub after_row : Receiver → Outcome → Receiver
after_row r o = receiver r.session o.next r.limit.0 (if o.ends then true else r.ended)

-- what it answers
unfoldable pub answer_of : Receiver → List ℕ → Words AnswerKind
answer_of r l = if accepted r l then (table_row r l).reply else refuses (refusal_for r l)

-- what it is then: named where it wasn't, and moved by the row; a refusal leaves it as it was
unfoldable pub receiver_after : Receiver → List ℕ → Receiver
receiver_after r l = if accepted r l then after_row (named_by r l) (table_row r l) else r

-- ---- the same by what a reader found, in its words w; l is the datagram whose session is compared and taken. Anyone can
-- make the words up, or take another datagram's: data then has as many messages as can be numbered, a refusal of
-- number 0 is handed up as a row, and a name that is too short is taken as ten zeros. A datagram's own words come to none
-- of that

-- the number and the count in them
abbrev pub number_read : Words DownstreamKind → ℕ
number_read w = get_or w.values 0 0

abbrev pub count_read : Words DownstreamKind → ℕ
count_read w = numbered (number_read w) (get_or w.values 1 0)

-- the ground of 20
unfoldable pub below_read_at : Receiver → Words DownstreamKind → Case DownstreamKind → Bool
below_read_at r w (answer k) = end_below k (number_read w) r.next.0
below_read_at r w refused = false

abbrev pub below_read : Receiver → Words DownstreamKind → Bool
below_read r w = below_read_at r w w.which

-- what the reader refused, then 17, 18, 20, or 0
unfoldable pub refusal_read : Receiver → List ℕ → Words DownstreamKind → ℕ
refusal_read r l w = if eqb w.refusal 0 then own_refusal r l (below_read r w) else w.refusal

-- the row of the table; a refusal of number 0, which no reader gives, is handed up
unfoldable pub row_read_at : Receiver → Words DownstreamKind → Case DownstreamKind → Outcome
row_read_at r w (answer k) = table r.limit.0 r.next.0 k (number_read w) (count_read w)
row_read_at r w refused = record { reply = refuses 0; next = r.next.0; ends = false }

abbrev pub row_read : Receiver → Words DownstreamKind → Outcome
row_read r w = row_read_at r w w.which

unfoldable pub answer_read : Receiver → List ℕ → Words DownstreamKind → Words AnswerKind
answer_read r l w =
    if eqb (refusal_read r l w) 0 then (row_read r w).reply else refuses (refusal_read r l w)

unfoldable pub after_read : Receiver → List ℕ → Words DownstreamKind → Receiver
after_read r l w = if eqb (refusal_read r l w) 0 then after_row (named_by r l) (row_read r w) else r

-- what a reader finds in a datagram is answered as the datagram is
pub record ReadAsWhole : Type 0 where
  pub answers : (r : Receiver) (l : List ℕ) → answer_read r l (downstream_of l) ≡ answer_of r l
  pub leaves : (r : Receiver) (l : List ℕ) → after_read r l (downstream_of l) ≡ receiver_after r l

-- ---- what a call promises

-- of `new`, which returned x
abbrev pub Starts : Started → List ℕ → ℕ → ℕ → Type 0
Starts x name n limit =
    (x.refusal.number ≡ receiver_start_refusal n limit) × (x.receiver ≡ start_receiver name n limit)

-- of `take`, which returned x
abbrev pub Takes : Taken → Receiver → List ℕ → Type 0
Takes x r l = (answer_words x.answer ≡ answer_of r l) × (x.receiver ≡ receiver_after r l)

-- of `take_read`, which returned x
abbrev pub TakesRead : Taken → Receiver → List ℕ → Words DownstreamKind → Type 0
TakesRead x r l w = (answer_words x.answer ≡ answer_read r l w) × (x.receiver ≡ after_read r l w)

-- of a function that takes one row of the table, which returned x: the answer with the next receiver
pub record TakesRow (x : Taken) (r : Receiver) (o : Outcome) : Type 0 where
  pub answers : answer_words x.answer ≡ o.reply
  pub leaves : x.receiver ≡ after_row r o
