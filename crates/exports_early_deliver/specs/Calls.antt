-- What `eiderwagon_early_deliver` promises: the state's bytes l become m, the slots ss become ss', the words ws become
-- ws', and the lent array ps becomes ps'.
use Rattle.std.specs.Prelude.{ℕ, List, ◌≡◌, length, ltb}
use Rattle.wire.specs.Output.{put}
use Rattle.moldudp64.specs.Downstream.{refusal_of}
use Rattle.early_receiver.specs.Early.{early_refusal, lent_after, request_of, early_answer}
use Rattle.host_answers.specs.Answers.{or_else, short, state_ladder, on_success, AnswersWith}
use Rattle.host_states.specs.States.{on_code}
use Rattle.host_early.specs.Early.{early_size, lent_in, KeepsKept}
use Rattle.host_early.specs.Replies.{said_words}
use Rattle.exports_early.specs.Calls.{kept_after}
use Rattle.exports_early_deliver.specs.Places.{places_delivered}

-- the receiver in the bytes takes the datagram d: an array that is too short for the places is 41, behind every other
-- ground, and a refusal changes nothing
pub record DeliversLent (r : ℕ) (l m ss ss' d ws ws' ps ps' : List ℕ) : Type 0 where
  pub answers : AnswersWith r ws ws'
      (or_else (state_ladder (refusal_of d) (ltb (length l) early_size) (early_refusal (lent_in l ss) d))
      (short (ltb (length ps) (length (places_delivered (lent_in l ss) d)))))
      (said_words (early_answer (lent_in l ss) d) (request_of (lent_in l ss) d))
  pub places : ps' ≡ on_success r (put ps 0 (places_delivered (lent_in l ss) d)) ps
  pub keeps : KeepsKept (on_code r) l m (kept_after l ss d)
  pub slots : ss' ≡ on_success r (lent_after (lent_in l ss) d).slots ss
