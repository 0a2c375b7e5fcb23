-- The receiver that keeps early messages: its start, its refusals, what it is after a datagram, what it answers, and
-- what it asks for.
use Rattle.std.specs.Prelude.{ℕ, ◌+◌, ◌-◌, min, List, [], ◌∷◌, Bool, true, ◌&&◌, ◌≡◌, length, ltb, eqb, if◌then◌else◌}
use Rattle.wire.specs.Bounds.{largest_count}
use Rattle.wire.specs.Refusals.{bad_setting}
use Rattle.wire.specs.Words.{Words, Case, answer, refused, says, refuses}
use Rattle.moldudp64.specs.Header.{number_of}
use Rattle.moldudp64.specs.Downstream.{DownstreamKind, data_packet, heartbeat, end_of_session, kind_of, messages_of}
use Rattle.receiver.specs.Table.{AnswerKind, deliver, old, quiet, ask, ended, ask_for}
use Rattle.receiver.specs.Receiver.{receiver, start_receiver, named_by, refusal_for, table_row}
use Rattle.early_word.specs.Word.{lowest}
use Rattle.early_holding.specs.declared.holding.EarlyReceiver.{EarlyReceiver}
use Rattle.early_holding.specs.Holding.{slot_bytes, length_bytes, Lent, lent, early, next_of, take_all}
use Rattle.early_receiver.specs.declared.early.Taken.{Taken}
use Rattle.early_receiver.specs.Answers.{early_words, request_words}

-- ---- the start: the plain receiver's, with nothing held

unfoldable pub start_early : List ℕ → ℕ → ℕ → EarlyReceiver
start_early name n limit = early (start_receiver name n limit) 0

-- ---- the refusals

-- the slots, with their lengths, are of their size
abbrev pub right_size : Lent → Bool
right_size s = eqb (length s.slots) slot_bytes && eqb (length s.lengths) length_bytes

-- k is the lowest of 11 to 18 and 20 that applies, or 0: 19, for slots of another size, stands before 20
unfoldable pub with_slots : Bool → ℕ → ℕ
with_slots right k =
    if right then k
    else if eqb k 0 then bad_setting
    else if ltb bad_setting k then bad_setting
    else k

-- the lowest of 11 to 16, 17, 18, 19 and 20 that applies, or 0
unfoldable pub early_refusal : Lent → List ℕ → ℕ
early_refusal s l = with_slots (right_size s) (refusal_for s.receiver.base l)

-- ---- what it is after an accepted datagram

-- under the name that the datagram gives, where it had none
abbrev pub named_lent : Lent → List ℕ → Lent
named_lent s l = lent (early (named_by s.receiver.base l) s.receiver.held.0) s.lengths s.slots

-- the session ends: it holds nothing
abbrev pub ended_now : EarlyReceiver → EarlyReceiver
ended_now r = early (receiver r.base.session (next_of r) r.base.limit.0 true) 0

-- an end of session with number f: at the expected number it ends, and one that is ahead asks
unfoldable pub end_at : Lent → ℕ → Lent
end_at s f =
    if eqb f (next_of s.receiver) then lent (ended_now s.receiver) s.lengths s.slots else s

unfoldable pub take_kind : Lent → DownstreamKind → List ℕ → Lent
take_kind s data_packet l = take_all s (number_of l) (messages_of l)
take_kind s heartbeat l = s
take_kind s end_of_session l = end_at s (number_of l)

-- the receiver, the lengths and the slots after a datagram: a refusal leaves all as they were
unfoldable pub lent_after : Lent → List ℕ → Lent
lent_after s l = if eqb (early_refusal s l) 0 then take_kind (named_lent s l) (kind_of l) l else s

-- ---- the request

-- the lowest held number, or the datagram's, f, if none is held
unfoldable pub wanted_to : EarlyReceiver → ℕ → ℕ
wanted_to r f = if eqb r.held.0 0 then f else next_of r + 1 + lowest r.held.0

-- after the step it asks exactly when the datagram's number is above n or something is held: from n to just below that
-- number, within the limit. An ended receiver asks for nothing
unfoldable pub wanted : EarlyReceiver → ℕ → List ℕ
wanted r f =
    if r.base.ended then []
    else if ltb (next_of r) (wanted_to r f) then next_of r ∷ ask_for r.base.limit.0 (next_of r) (wanted_to r f) ∷ []
    else []

-- the first number wanted and how many, or nothing
unfoldable pub request_of : Lent → List ℕ → List ℕ
request_of s l = if eqb (early_refusal s l) 0 then wanted (lent_after s l).receiver (number_of l) else []

-- ---- the answer: the table's row at n before the step, f being the datagram's number; a deliver answer counts all
-- that the step delivers, held messages too, up to the number after it. A count holds that of every datagram

unfoldable pub answer_by : Case AnswerKind → ℕ → ℕ → ℕ → Words AnswerKind
answer_by (answer deliver) n f after = says deliver (n ∷ min largest_count (after - n) ∷ (n - f) ∷ [])
answer_by (answer old) n f after = says old []
answer_by (answer quiet) n f after = says quiet []
answer_by (answer ask) n f after = says ask []
answer_by (answer ended) n f after = says ended []
answer_by refused n f after = refuses 0

unfoldable pub early_answer : Lent → List ℕ → Words AnswerKind
early_answer s l =
    if eqb (early_refusal s l) 0
    then answer_by (table_row s.receiver.base l).reply.which (next_of s.receiver) (number_of l)
    (next_of (lent_after s l).receiver)
    else refuses (early_refusal s l)

-- ---- what `take` promises, which returned x and left the lengths ls and the slots ss

pub record TakesEarly (x : Taken) (ls ss : List ℕ) (s : Lent) (l : List ℕ) : Type 0 where
  pub answers : early_words x.answer ≡ early_answer s l
  pub asks : request_words x.request ≡ request_of s l
  pub leaves : lent x.receiver ls ss ≡ lent_after s l
