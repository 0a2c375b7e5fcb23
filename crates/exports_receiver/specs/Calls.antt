-- What the exported functions of the receiver promise: the lent bytes l become m, and the lent words ws become ws'.
use Rattle.std.specs.Prelude.{ℕ, List, ◌≡◌, length, ltb}
use Rattle.wire.specs.Bounds.{session_size}
use Rattle.wire.specs.Refusals.{bad_setting}
use Rattle.wire.specs.Parts.{first_bytes}
use Rattle.moldudp64.specs.Downstream.{refusal_of}
use Rattle.receiver.specs.Receiver.{receiver_start_refusal, start_receiver, answer_of, receiver_after}
use Rattle.host_answers.specs.Answers.{or_else, short, unless_sized, StateAnswers}
use Rattle.host_states.specs.States.{on_code}
use Rattle.host_receiver.specs.Receiver.{receiver_size, receiver_in, KeepsReceiver}
use Rattle.host_receiver.specs.Replies.{answer_number}

-- a receiver is started on a session's name, or on a blank one; 19 where that isn't ten bytes too
pub record StartsReceiver (r : ℕ) (name : List ℕ) (n limit : ℕ) (l m : List ℕ) : Type 0 where
  pub returns : r ≡ or_else (unless_sized (length name) session_size bad_setting (receiver_start_refusal n limit))
      (short (ltb (length l) receiver_size))
  pub keeps : KeepsReceiver (on_code r) l m (start_receiver (first_bytes session_size name) n limit)

-- the receiver in the bytes takes the datagram d: 11 to 16 need no receiver
pub record TakesDatagram (r : ℕ) (l m d ws ws' : List ℕ) : Type 0 where
  pub answers : StateAnswers r ws ws' (refusal_of d) (ltb (length l) receiver_size) answer_number 4
      (answer_of (receiver_in l) d)
  pub keeps : KeepsReceiver (on_code r) l m (receiver_after (receiver_in l) d)
