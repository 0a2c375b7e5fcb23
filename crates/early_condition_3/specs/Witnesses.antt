-- The statements of orders 6 and 13 speak of something, and rule something out.
use Rattle.std.specs.Prelude.{ℕ, ◌+◌, ◌≡◌, List, [], ◌∷◌, true, false, length, replicate, ltb, leb, if◌then◌else◌}
use Rattle.moldudp64.specs.Header.{number_of}
use Rattle.moldudp64.specs.Downstream.{messages_of}
use Rattle.feed.specs.Session.{Datagram, Message, Session, AllOfKind}
use Rattle.feed.specs.Machine.{after, delivered}
use Rattle.feed.specs.Faithful.{Opens}
use Rattle.receiver.specs.Receiver.{receiver, receiver_start_refusal, answer_of, receiver_after}
use Rattle.receiver.specs.Delivery.{messages_delivered}
use Rattle.receiver.specs.Condition3.{plain}
use Rattle.receiver.specs.Witnesses.{name, a, b, c, data_at, end_at, ahead}
use Rattle.early_holding.specs.Holding.{slot_count, slot_size, slot_bytes, length_bytes, Lent, lent, early, next_of, is_held}
use Rattle.early_holding.specs.Holding.{held_message, keep}
use Rattle.early_receiver.specs.Early.{start_early, early_refusal, named_lent, lent_after, request_of}
use Rattle.early_messages.specs.Delivery.{delivery}
use Rattle.early_condition_3.specs.Condition3.{StepRule, GivesRule, keeper, EarlyCondition3For}
use Rattle.early_condition_3.specs.Rule.{FollowsTheRule}
use Rattle.early_condition_3.specs.Swapped.{Near}

-- ---- a session of seventy messages, the first three of them those of the plain receiver's example and the others
-- empty, and datagrams of it

abbrev pub others : List Message
others = replicate 67 []

abbrev pub seventy : Session
seventy = record { name = name; messages = a ∷ b ∷ c ∷ others }

abbrev pub first : Datagram
first = data_at 1 (a ∷ [])

abbrev pub second : Datagram
second = data_at 2 (b ∷ [])

abbrev pub third : Datagram
third = data_at 3 (c ∷ [])

-- what is left after the third, in one datagram
abbrev pub from_four : Datagram
from_four = data_at 4 others

-- the last alone, which no slot holds while number 1 is expected
abbrev pub last_one : Datagram
last_one = data_at 70 ([] ∷ [])

abbrev pub ending : Datagram
ending = end_at 71

-- started on its name at number 1, with a limit of 100, and lent any bytes
abbrev pub begun : List ℕ → List ℕ → Lent
begun lengths slots = lent (early (receiver name 1 100 false) 0) lengths slots

-- ---- one list of condition 3's kind: the third, the last and the second come early, the third is doubled, and the
-- first delivers three at once; an end that is ahead, the rest, broken bytes, and the end

abbrev pub early_ones : List Datagram
early_ones = third ∷ last_one ∷ second ∷ []

abbrev pub up_to_first : List Datagram
up_to_first = third ∷ last_one ∷ second ∷ third ∷ first ∷ []

abbrev pub feed : List Datagram
feed =
    third
    ∷ last_one
    ∷ second
    ∷ third
    ∷ first
    ∷ ending
    ∷ from_four
    ∷ replicate 19 0
    ∷ ending
    ∷ []

-- what the receiver makes of it, lent these bytes
pub record KeepsThem (lengths slots : List ℕ) : Type 0 where
  pub opens : Opens seventy name (early_refusal (begun lengths slots)) [] []
  -- the third draws a request up to it
  pub asks_first : request_of (begun lengths slots) third ≡ 1 ∷ 2 ∷ []
  -- the second and the third are held, the last isn't, and none is delivered
  pub still_one : next_of (after keeper (begun lengths slots) early_ones).receiver ≡ 1
  pub holds_second : is_held (after keeper (begun lengths slots) early_ones).receiver 2 ≡ true
  pub holds_third : is_held (after keeper (begun lengths slots) early_ones).receiver 3 ≡ true
  pub left_last : is_held (after keeper (begun lengths slots) early_ones).receiver 70 ≡ false
  pub has_second : held_message (after keeper (begun lengths slots) early_ones) 2 ≡ b
  pub has_third : held_message (after keeper (begun lengths slots) early_ones) 3 ≡ c
  pub three_at_once : delivered keeper (begun lengths slots) up_to_first ≡ a ∷ b ∷ c ∷ []
  -- the end that is ahead draws a request up to it
  pub asks_to_end : request_of (after keeper (begun lengths slots) up_to_first) ending ≡ 4 ∷ 67 ∷ []
  pub delivers_all : delivered keeper (begun lengths slots) feed ≡ seventy.messages
  pub ends : (after keeper (begun lengths slots) feed).receiver ≡ early (receiver name 71 100 true) 0

pub record NotVacuous : Type 0 where
  pub not_refused : receiver_start_refusal 1 100 ≡ 0
  pub starts : start_early name 1 100 ≡ early (receiver name 1 100 false) 0
  pub of_kind : AllOfKind seventy feed
  pub keeps_them : (lengths slots : List ℕ) → length lengths ≡ length_bytes → length slots ≡ slot_bytes
      → KeepsThem lengths slots
  -- the plain receiver asks for the second in vain, and delivers the first alone
  pub plain_delivers : delivered plain (receiver name 1 100 false) feed ≡ a ∷ []

-- ---- two neighbours that swap places: the first and the third

-- both leave number 2 with the third held, and deliver the first
pub record LeavesThird (r : Lent) (ds : List Datagram) : Type 0 where
  pub number : next_of (after keeper r ds).receiver ≡ 2
  pub holds_third : is_held (after keeper r ds).receiver 3 ≡ true
  pub has_third : held_message (after keeper r ds) 3 ≡ c
  pub delivers_first : delivered keeper r ds ≡ a ∷ []

pub record SwappedExample : Type 0 where
  pub first_near : Near seventy 1 first
  pub third_near : Near seventy 1 third
  pub in_order : (lengths slots : List ℕ) → length lengths ≡ length_bytes → length slots ≡ slot_bytes
      → LeavesThird (begun lengths slots) (first ∷ third ∷ [])
  pub swapped : (lengths slots : List ℕ) → length lengths ≡ length_bytes → length slots ≡ slot_bytes
      → LeavesThird (begun lengths slots) (third ∷ first ∷ [])

-- ---- receivers that deliver wrongly

-- holds, and never delivers what it held: a datagram's own messages alone, as the plain receiver delivers them
abbrev pub own_alone : GivesRule
own_alone s d = messages_delivered (answer_of s.receiver.base d) d

-- delivers a message when it comes early, and again in its turn
abbrev pub at_once_too : GivesRule
at_once_too s d = if ahead s.receiver.base d then messages_of d else delivery s d

-- ---- receivers that hold wrongly

-- holds a number again that is held already, so that its first bytes are lost
unfoldable pub keep_again : Lent → ℕ → Message → Lent
keep_again s j m =
    if leb j (next_of s.receiver) then s
    else if ltb (next_of s.receiver + slot_count) j then s
    else if ltb slot_size (length m) then s
    else keep s j m

unfoldable pub keep_all_again : Lent → ℕ → List Message → Lent
keep_all_again s f [] = s
keep_all_again s f (m ∷ ms) = keep_all_again (keep_again s f m) (f + 1) ms

abbrev pub overwrites : StepRule
overwrites s d =
    if ahead s.receiver.base d then keep_all_again (named_lent s d) (number_of d) (messages_of d) else lent_after s d

-- keeps its word at the end of the session, as if it still held something
abbrev pub stays_marked : StepRule
stays_marked s d =
    if (lent_after s d).receiver.base.ended
    then lent (early (lent_after s d).receiver.base s.receiver.held.0) s.lengths s.slots
    else lent_after s d

-- never holds anything: the plain receiver
abbrev pub holds_nothing : StepRule
holds_nothing s d = lent (early (receiver_after s.receiver.base d) 0) s.lengths s.slots

-- ---- what the statements let through and what they stop

-- the two that deliver wrongly break condition 3; those that hold wrongly, or nothing, break order 6's rule, though the
-- one that holds nothing meets condition 3
pub record NotWeak : Type 0 where
  pub own_alone_breaks : EarlyCondition3For lent_after own_alone → ⊥
  pub at_once_too_breaks : EarlyCondition3For lent_after at_once_too → ⊥
  pub overwrites_breaks : FollowsTheRule overwrites delivery → ⊥
  pub stays_marked_breaks : FollowsTheRule stays_marked delivery → ⊥
  pub never_holds : EarlyCondition3For holds_nothing own_alone
  pub holds_nothing_breaks : FollowsTheRule holds_nothing own_alone → ⊥
