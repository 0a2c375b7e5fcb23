-- What `eiderwagon_receiver_deliver` promises: the state's bytes l become m, the words ws become ws', and the lent
-- array ps becomes ps'.
use Rattle.std.specs.Prelude.{ℕ, ◌+◌, ◌≤◌, List, true, ◌≡◌, length, drop, ltb}
use Rattle.wire.specs.Output.{put}
use Rattle.wire.specs.Words.{Words}
use Rattle.moldudp64.specs.Header.{header_size}
use Rattle.moldudp64.specs.Blocks.{all_fit}
use Rattle.moldudp64.specs.Downstream.{refusal_of}
use Rattle.receiver.specs.Table.{AnswerKind}
use Rattle.receiver.specs.Receiver.{answer_of, receiver_after}
use Rattle.host_answers.specs.Answers.{or_else, short, state_ladder, on_success, words_of, AnswersWith}
use Rattle.host_states.specs.States.{on_code}
use Rattle.host_receiver.specs.Receiver.{receiver_size, receiver_in, KeepsReceiver}
use Rattle.host_receiver.specs.Replies.{answer_number}
use Rattle.exports_deliver.specs.Places.{places_delivered, Finds}

-- the receiver in the bytes takes the datagram d: an array that is too short for the places is 41, behind every other
-- ground, and a refusal changes nothing
pub record DeliversDatagram (r : ℕ) (l m d ws ws' ps ps' : List ℕ) : Type 0 where
  pub answers : AnswersWith r ws ws'
      (or_else (state_ladder (refusal_of d) (ltb (length l) receiver_size) (answer_of (receiver_in l) d).refusal)
      (short (ltb (length ps) (length (places_delivered (answer_of (receiver_in l) d) d)))))
      (words_of answer_number 4 (answer_of (receiver_in l) d))
  pub places : ps' ≡ on_success r (put ps 0 (places_delivered (answer_of (receiver_in l) d) d)) ps
  pub keeps : KeepsReceiver (on_code r) l m (receiver_after (receiver_in l) d)

-- ---- for private helpers alone: no exported function promises it

-- the blocks that an answer w delivers of the datagram d are there, with those before them
pub record BlocksThere (w : Words AnswerKind) (d : List ℕ) : Type 0 where
  pub long : header_size ≤ length d
  pub there : (count skipped : ℕ) → Finds count skipped w → all_fit (skipped + count) (drop header_size d) ≡ true

-- an answer w laid as words, and the places of what it delivers; too few places are the ground behind its own
pub record LaysAnswer (r : ℕ) (w : Words AnswerKind) (d ws ws' ps ps' : List ℕ) : Type 0 where
  pub answers : AnswersWith r ws ws' (or_else w.refusal (short (ltb (length ps) (length (places_delivered w d)))))
      (words_of answer_number 4 w)
  pub places : ps' ≡ on_success r (put ps 0 (places_delivered w d)) ps
