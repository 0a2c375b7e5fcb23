-- Condition 3 speaks of something, and rules something out.
use Rattle.std.specs.Prelude.{ℕ, ◌≡◌, List, [], ◌∷◌, ◌++◌, Bool, true, false, replicate, ltb, eqb, if◌then◌else◌}
use Rattle.wire.specs.Refusals.{datagram_short, session_differs}
use Rattle.wire.specs.Words.{says, refuses}
use Rattle.moldudp64.specs.Header.{number_of, count_of}
use Rattle.moldudp64.specs.Downstream.{DownstreamKind, data_packet, heartbeat, end_of_session, kind_of}
use Rattle.moldudp64.specs.Written.{encoded, encoded_end}
use Rattle.receiver.specs.declared.receiver.Receiver.{Receiver}
use Rattle.receiver.specs.Table.{deliver, old, ask, deliver_outcome}
use Rattle.wire.specs.Text.{ascii, readroom}
use Rattle.wire.specs.Bounds.{blank}
use Rattle.receiver.specs.Receiver.{receiver, receiver_start_refusal, start_receiver, unnamed, named_by, refusal_for}
use Rattle.receiver.specs.Receiver.{accepted, after_row, answer_of, receiver_after}
use Rattle.receiver.specs.Statements.{AnswerRule, StepRule, Follows}
use Rattle.feed.specs.Session.{Datagram, Message, Session, AllOfKind}
use Rattle.feed.specs.Machine.{after, delivered}
use Rattle.feed.specs.Faithful.{Opens}
use Rattle.receiver.specs.Condition3.{plain, Condition3For}

-- ---- a session of three messages, one of them empty, and datagrams of it

-- READROOM01
abbrev pub name : List ℕ
name = readroom

abbrev pub a : Message
a = ascii "a"

abbrev pub b : Message
b = []

abbrev pub c : Message
c = ascii "cd"

abbrev pub session : Session
session = record { name = name; messages = a ∷ b ∷ c ∷ [] }

abbrev pub data_at : ℕ → List Message → Datagram
data_at f ms = encoded name f ms

abbrev pub heartbeat_at : ℕ → Datagram
heartbeat_at f = encoded name f []

abbrev pub end_at : ℕ → Datagram
end_at f = encoded_end name f

abbrev pub fresh : Receiver
fresh = receiver name 1 100 false

-- another session's name
abbrev pub other_name : List ℕ
other_name = ascii "OTHERROOM1"

-- ---- one list of condition 3's kind: a datagram lost because it came early, a doubled one, another session's data,
-- a heartbeat that is far off, broken bytes and an end; and what it delivers

abbrev pub feed : List Datagram
feed =
    data_at 3 (c ∷ [])
    ∷ data_at 1 (a ∷ b ∷ [])
    ∷ encoded other_name 1 (c ∷ [])
    ∷ heartbeat_at 9
    ∷ replicate 19 0
    ∷ data_at 1 (a ∷ b ∷ [])
    ∷ end_at 4
    ∷ data_at 2 (b ∷ c ∷ [])
    ∷ end_at 4
    ∷ []

-- ---- a receiver that is started blank, at number 2: what it refuses before it has a name, a blank session, broken
-- bytes and an end below its number; the heartbeat that names it, at which it asks; and what follows

abbrev pub unnamed_fresh : Receiver
unnamed_fresh = receiver blank 2 100 false

-- 20: an end of another session, below its number
abbrev pub end_below_it : Datagram
end_below_it = encoded_end other_name 1

abbrev pub refused_first : List Datagram
refused_first = encoded blank 1 (c ∷ []) ∷ replicate 19 0 ∷ end_below_it ∷ []

abbrev pub naming : Datagram
naming = heartbeat_at 9

abbrev pub behind_naming : List Datagram
behind_naming = encoded other_name 2 (a ∷ []) ∷ data_at 1 (a ∷ b ∷ []) ∷ data_at 3 (c ∷ []) ∷ end_at 4 ∷ []

-- a list that begins so
abbrev pub learnt : List Datagram
learnt = refused_first ++ naming ∷ behind_naming

pub record NotVacuous : Type 0 where
  pub not_refused : receiver_start_refusal 1 100 ≡ 0
  pub starts : start_receiver name 1 100 ≡ fresh
  pub opens : Opens session name (refusal_for fresh) [] []
  pub of_kind : AllOfKind session feed
  pub delivers : delivered plain fresh feed ≡ a ∷ b ∷ c ∷ []
  pub ends : after plain fresh feed ≡ receiver name 4 100 true
  pub not_refused_blank : receiver_start_refusal 2 100 ≡ 0
  pub starts_blank : start_receiver blank 2 100 ≡ unnamed_fresh
  pub opens_blank : Opens session blank (refusal_for unnamed_fresh) refused_first (naming ∷ [])
  pub of_kind_behind : AllOfKind session (naming ∷ behind_naming)
  pub delivers_behind : delivered plain unnamed_fresh learnt ≡ b ∷ c ∷ []
  pub ends_behind : after plain unnamed_fresh learnt ≡ receiver name 4 100 true

-- ---- receivers that idle: they stay as they are, and deliver nothing

abbrev pub stays_put : StepRule
stays_put r d = r

-- refuses everything
abbrev pub refuses_all : AnswerRule
refuses_all r d = refuses datagram_short

-- says old to everything
abbrev pub old_to_all : AnswerRule
old_to_all r d = says old []

-- asks at everything, and never moves its number
abbrev pub asks_always : AnswerRule
asks_always r d = says ask (r.next.0 ∷ r.limit.0 ∷ [])

-- ---- receivers that do too much or too little

-- answers at the first datagram that it delivers all three messages, as a receiver that gives everything at once
-- would; its number is then past them, and from there it goes by the table (what an answer delivers is the datagram's
-- own messages, so this one claims more than it gives)
abbrev pub all_at_once : AnswerRule
all_at_once r d = if eqb r.next.0 1 then says deliver (1 ∷ 3 ∷ 0 ∷ []) else answer_of r d

abbrev pub moves_past_all : StepRule
moves_past_all r d = if eqb r.next.0 1 then receiver r.session 4 r.limit.0 r.ended else receiver_after r d

-- treats a datagram that begins before n as wholly old
abbrev pub overlap_old : AnswerRule
overlap_old r d = if ltb (number_of d) r.next.0 then says old [] else answer_of r d

abbrev pub overlap_stays : StepRule
overlap_stays r d = if ltb (number_of d) r.next.0 then r else receiver_after r d

-- whether a kind is data
abbrev pub is_data : DownstreamKind → Bool
is_data data_packet = true
is_data heartbeat = false
is_data end_of_session = false

-- data ahead of n that it accepts
abbrev pub ahead : Receiver → Datagram → Bool
ahead r d = if accepted r d then (if is_data (kind_of d) then ltb r.next.0 (number_of d) else false) else false

-- delivers data ahead, and jumps over the gap before it
abbrev pub jump_delivers : AnswerRule
jump_delivers r d = if ahead r d then says deliver (number_of d ∷ count_of d ∷ 0 ∷ []) else answer_of r d

abbrev pub jumps : StepRule
jumps r d = if ahead r d then after_row r (deliver_outcome (number_of d) (number_of d) (count_of d)) else receiver_after r d

-- ---- receivers that learn the name wrongly

-- never learns it: refuses all that comes without one
abbrev pub refuses_blank : AnswerRule
refuses_blank r d = if unnamed r.session then refuses session_differs else answer_of r d

abbrev pub stays_blank : StepRule
stays_blank r d = if unnamed r.session then r else receiver_after r d

-- learns it from a datagram that is refused
abbrev pub learns_refused : StepRule
learns_refused r d = if accepted r d then receiver_after r d else named_by r d

-- learns it from each datagram anew, as if it never had one
abbrev pub forgets_name : Receiver → Receiver
forgets_name r = receiver blank r.next.0 r.limit.0 r.ended

abbrev pub answers_all : AnswerRule
answers_all r d = answer_of (forgets_name r) d

abbrev pub learns_twice : StepRule
learns_twice r d = receiver_after (forgets_name r) d

-- ---- what condition 3 lets through and what it stops

-- the table's row at a fresh receiver and the first message
abbrev pub FollowsAtFirst : AnswerRule → StepRule → Type 0
FollowsAtFirst answers step = Follows answers step fresh (data_at 1 (a ∷ []))

-- the idle receivers meet condition 3 and break the table's row at the first message; the one that claims everything
-- there breaks that row, and the one that never learns the name breaks the row at the naming datagram; the one that
-- delivers and never moves its number, the one that calls an overlap old, the one that jumps, and those that learn the
-- name from a refused datagram, or twice, break condition 3
pub record NotWeak : Type 0 where
  pub always_refuses : Condition3For refuses_all stays_put
  pub refuses_all_breaks : FollowsAtFirst refuses_all stays_put → ⊥
  pub always_old : Condition3For old_to_all stays_put
  pub old_to_all_breaks : FollowsAtFirst old_to_all stays_put → ⊥
  pub asking_always : Condition3For asks_always stays_put
  pub asks_always_breaks : FollowsAtFirst asks_always stays_put → ⊥
  pub all_at_once_breaks : FollowsAtFirst all_at_once moves_past_all → ⊥
  pub never_learns_breaks : Follows refuses_blank stays_blank unnamed_fresh naming → ⊥
  pub never_moves_breaks : Condition3For answer_of stays_put → ⊥
  pub overlap_old_breaks : Condition3For overlap_old overlap_stays → ⊥
  pub jumps_breaks : Condition3For jump_delivers jumps → ⊥
  pub learns_refused_breaks : Condition3For answer_of learns_refused → ⊥
  pub learns_twice_breaks : Condition3For answers_all learns_twice → ⊥
