-- Condition 3, whole, for the plain receiver.
use Rattle.std.specs.Prelude.{ℕ, ◌+◌, ◌≤◌, ◌≡◌, List, []}
use Rattle.feed.specs.Session.{Datagram, Session, last_of, All}
use Rattle.feed.specs.Machine.{Machine, after, delivered}
use Rattle.feed.specs.Faithful.{Opens, Faithful}
use Rattle.receiver.specs.declared.receiver.Receiver.{Receiver}
use Rattle.receiver.specs.Receiver.{receiver_start_refusal, start_receiver, refusal_for, answer_of, receiver_after}
use Rattle.receiver.specs.Delivery.{messages_delivered}
use Rattle.receiver.specs.Statements.{AnswerRule, StepRule}

-- a receiver by how it answers and what it is then: its answers deliver, and its next number is its number
abbrev pub machine_of : AnswerRule → StepRule → Machine Datagram
machine_of answers step =
    record {
      State = Receiver;
      step = step;
      gives = λ r d. messages_delivered (answers r d) d;
      number = λ r. r.next.0;
      ended = λ r. r.ended;
    }

-- the receiver of the table
abbrev pub plain : Machine Datagram
plain = machine_of answer_of receiver_after

-- for every session, and every receiver that is started without refusal at a number from 1 to one past the last: on the
-- session's name, or blank and then named by its first accepted datagram. Which datagrams are refused before that one
-- is document 01's ladder at the fresh receiver, whatever this one answers
unfoldable pub Condition3For : AnswerRule → StepRule → Type 0
Condition3For answers step = (s : Session) (name : List ℕ) (start limit : ℕ) (refused naming : List Datagram)
    → receiver_start_refusal start limit ≡ 0 → 1 ≤ start
    → start ≤ last_of s + 1
    → Opens s name (refusal_for (start_receiver name start limit)) refused naming
    → Faithful (machine_of answers step) s start (start_receiver name start limit) refused naming

-- condition 3 of the receiver of the table
abbrev pub Condition3 : Type 0
Condition3 = Condition3For answer_of receiver_after

-- a list of datagrams that are all refused, as those before the naming one, changes nothing and delivers nothing
pub record ChangesNothing (r : Receiver) (ds : List Datagram) : Type 0 where
  pub stays : after plain r ds ≡ r
  pub nothing : delivered plain r ds ≡ []

unfoldable pub RefusedChangeNothing : Type 0
RefusedChangeNothing = (r : Receiver) (ds : List Datagram) → All (λ d. refusal_for r d ≡ 0 → ⊥) ds → ChangesNothing r ds
