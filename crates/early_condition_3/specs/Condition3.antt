-- Condition 3 for the receiver that keeps early messages, its lengths and slots of any bytes at first.
use Rattle.std.specs.Prelude.{ℕ, ◌+◌, ◌≤◌, List, ◌≡◌, length}
use Rattle.feed.specs.Session.{Datagram, Session, last_of}
use Rattle.feed.specs.Machine.{Machine}
use Rattle.feed.specs.Faithful.{Opens, Faithful}
use Rattle.receiver.specs.Receiver.{receiver_start_refusal}
use Rattle.early_holding.specs.Holding.{slot_bytes, length_bytes, Lent, lent, next_of}
use Rattle.early_receiver.specs.Early.{start_early, early_refusal, lent_after}
use Rattle.early_messages.specs.Delivery.{delivery}

-- how such a receiver goes on, and what a datagram delivers
abbrev pub StepRule : Type 0
StepRule = Lent → Datagram → Lent

abbrev pub GivesRule : Type 0
GivesRule = Lent → Datagram → List (List ℕ)

-- the receiver with its lengths and slots, lent to each call as the one before left them
abbrev pub machine_of : StepRule → GivesRule → Machine Datagram
machine_of step gives =
    record {
      State = Lent;
      step = step;
      gives = gives;
      number = λ s. next_of s.receiver;
      ended = λ s. s.receiver.base.ended;
    }

-- the receiver of order 6: what a datagram delivers is had by place before its step
abbrev pub keeper : Machine Datagram
keeper = machine_of lent_after delivery

-- for every session, and every receiver that is started without refusal at a number from 1 to one past the last, on the
-- session's name or blank and then named, with lengths and slots of any bytes, of their size
unfoldable pub EarlyCondition3For : StepRule → GivesRule → Type 0
EarlyCondition3For step gives = (s : Session) (name : List ℕ) (start limit : ℕ) (lengths slots : List ℕ)
    (refused naming : List Datagram)
    → receiver_start_refusal start limit ≡ 0 → 1 ≤ start
    → start ≤ last_of s + 1
    → length lengths ≡ length_bytes
    → length slots ≡ slot_bytes
    → Opens s name (early_refusal (lent (start_early name start limit) lengths slots)) refused naming
    → Faithful (machine_of step gives) s start (lent (start_early name start limit) lengths slots) refused naming

abbrev pub EarlyCondition3 : Type 0
EarlyCondition3 = EarlyCondition3For lent_after delivery
