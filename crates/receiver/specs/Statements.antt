-- What is promised of a receiver at one datagram. A receiver is how it answers and what it is then.
use Rattle.std.specs.Prelude.{ℕ, ◌<◌, ◌≤◌, List, [], ◌∷◌, true, ◌≡◌, take}
use Rattle.wire.specs.Bounds.{session_size, blank}
use Rattle.wire.specs.Refusals.{session_differs, session_ended}
use Rattle.wire.specs.Words.{Words, answer, says, refuses, Injective}
use Rattle.moldudp64.specs.Header.{number_of, count_of}
use Rattle.moldudp64.specs.Downstream.{kind_of, refusal_of}
use Rattle.moldudp64.specs.Request.{request_ground}
use Rattle.receiver.specs.declared.receiver.Receiver.{Receiver}
use Rattle.receiver.specs.Table.{AnswerKind, ask, ask_for, Outcome, Row, answer_words}
use Rattle.receiver.specs.Receiver.{receiver_start_refusal, named_by, refusal_for, after_row, answer_of, receiver_after}

-- how a receiver answers
abbrev pub AnswerRule : Type 0
AnswerRule = Receiver → List ℕ → Words AnswerKind

-- what a receiver is then
abbrev pub StepRule : Type 0
StepRule = Receiver → List ℕ → Receiver

-- a refusal: its number, and nothing changed
pub record Refuses (answers : AnswerRule) (step : StepRule) (r : Receiver) (l : List ℕ) : Type 0 where
  pub its_number : answers r l ≡ refuses (refusal_for r l)
  pub unchanged : step r l ≡ r

-- a row of the table, for the receiver that the datagram names where it had no name
pub record Follows (answers : AnswerRule) (step : StepRule) (r : Receiver) (l : List ℕ) : Type 0 where
  pub outcome : Outcome
  pub its_row : Row r.limit.0 r.next.0 (kind_of l) (number_of l) (count_of l) outcome
  pub its_answer : answers r l ≡ outcome.reply
  pub its_receiver : step r l ≡ after_row (named_by r l) outcome

-- at every receiver and datagram: the ladder's refusal with nothing changed, or the table's row
pub record FollowsTheTable (answers : AnswerRule) (step : StepRule) : Type 0 where
  pub refused : (r : Receiver) (l : List ℕ) → (refusal_for r l ≡ 0 → ⊥) → Refuses answers step r l
  pub accepts : (r : Receiver) (l : List ℕ) → refusal_for r l ≡ 0 → Follows answers step r l

-- an accepted datagram draws a request exactly when its number lies above the expected one: then from that one, for
-- the smaller of the distance and the limit
pub record RequestExactlyWhen (answers : AnswerRule) : Type 0 where
  pub when : (r : Receiver) (l : List ℕ) → refusal_for r l ≡ 0 → r.next.0 < number_of l
      → answers r l ≡ says ask (r.next.0 ∷ ask_for r.limit.0 r.next.0 (number_of l) ∷ [])
  pub only_when : (r : Receiver) (l : List ℕ) → refusal_for r l ≡ 0 → (answers r l).which ≡ answer ask
      → r.next.0 < number_of l

-- the number never falls
abbrev pub NumberNeverFalls : StepRule → Type 0
NumberNeverFalls step = (r : Receiver) (l : List ℕ) → r.next.0 ≤ (step r l).next.0

-- the request for an ask of a receiver whose settings are good is never refused
abbrev pub AskIsARequest : AnswerRule → Type 0
AskIsARequest answers = (r : Receiver) (l : List ℕ) (from count : ℕ)
    → receiver_start_refusal r.next.0 r.limit.0 ≡ 0
    → answers r l ≡ says ask (from ∷ count ∷ []) → request_ground from count ≡ 0

-- settings that are good stay good, so that this holds after any list
abbrev pub StaysGood : StepRule → Type 0
StaysGood step = (r : Receiver) (l : List ℕ) → receiver_start_refusal r.next.0 r.limit.0 ≡ 0
    → receiver_start_refusal (step r l).next.0 (step r l).limit.0 ≡ 0

-- a blank name becomes the name of an accepted datagram, which isn't blank
pub record LearnsName (x : Receiver) (l : List ℕ) : Type 0 where
  pub its_name : x.session ≡ take session_size l
  pub not_blank : x.session ≡ blank → ⊥

-- the limit stays; the name changes once, from blank, by an accepted datagram
pub record KeepsSettings (step : StepRule) : Type 0 where
  pub limit : (r : Receiver) (l : List ℕ) → (step r l).limit ≡ r.limit
  pub name : (r : Receiver) (l : List ℕ) → (r.session ≡ blank → ⊥) → (step r l).session ≡ r.session
  pub refused : (r : Receiver) (l : List ℕ) → (refusal_for r l ≡ 0 → ⊥) → (step r l).session ≡ r.session
  pub learns : (r : Receiver) (l : List ℕ) → r.session ≡ blank → refusal_for r l ≡ 0 → LearnsName (step r l) l

-- 17: a receiver refuses a well-formed datagram of another session; while it has no name, one of a blank session
pub record RefusesOtherSessions (answers : AnswerRule) : Type 0 where
  pub named : (r : Receiver) (l : List ℕ) → (r.session ≡ blank → ⊥) → refusal_of l ≡ 0
      → (take session_size l ≡ r.session → ⊥) → answers r l ≡ refuses session_differs
  pub unnamed : (r : Receiver) (l : List ℕ) → r.session ≡ blank → refusal_of l ≡ 0
      → take session_size l ≡ blank → answers r l ≡ refuses session_differs

-- an ended receiver refuses every datagram and stays as it is: 11 to 16 where it isn't well-formed, 17 as ever, else 18;
-- one without a name, as a refused start leaves it, has 18 for every name that isn't blank
pub record RefusesOnceEnded (answers : AnswerRule) (step : StepRule) : Type 0 where
  pub not_well_formed : (r : Receiver) (l : List ℕ) → r.ended ≡ true → (refusal_of l ≡ 0 → ⊥)
      → answers r l ≡ refuses (refusal_of l)
  pub named : (r : Receiver) (l : List ℕ) → r.ended ≡ true → (r.session ≡ blank → ⊥) → refusal_of l ≡ 0
      → take session_size l ≡ r.session → answers r l ≡ refuses session_ended
  pub unnamed : (r : Receiver) (l : List ℕ) → r.ended ≡ true → r.session ≡ blank → refusal_of l ≡ 0
      → (take session_size l ≡ blank → ⊥) → answers r l ≡ refuses session_ended
  pub stays : (r : Receiver) (l : List ℕ) → r.ended ≡ true → step r l ≡ r

-- what taking a datagram promises beside its answer
pub record ReceiverPromises : Type 0 where
  pub follows_the_table : FollowsTheTable answer_of receiver_after
  pub request_exactly_when : RequestExactlyWhen answer_of
  pub refuses_other_sessions : RefusesOtherSessions answer_of
  pub refuses_once_ended : RefusesOnceEnded answer_of receiver_after
  pub number_never_falls : NumberNeverFalls receiver_after
  pub ask_is_a_request : AskIsARequest answer_of
  pub stays_good : StaysGood receiver_after
  pub keeps_settings : KeepsSettings receiver_after
  pub tells_apart : Injective answer_words
