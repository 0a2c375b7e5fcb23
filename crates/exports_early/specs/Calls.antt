-- What the exported functions of the receiver that keeps early messages promise: the lent bytes l become m, the slots ss
-- become ss', and the lent words ws become ws'.
use Rattle.std.specs.Prelude.{ℕ, List, ◌≡◌, length, ltb}
use Rattle.wire.specs.Bounds.{session_size}
use Rattle.wire.specs.Refusals.{bad_setting}
use Rattle.wire.specs.Parts.{first_bytes}
use Rattle.wire.specs.Output.{put}
use Rattle.moldudp64.specs.Downstream.{refusal_of}
use Rattle.receiver.specs.Receiver.{receiver_start_refusal}
use Rattle.early_receiver.specs.declared.early.Taken.{Taken}
use Rattle.early_receiver.specs.Answers.{early_words, request_words}
use Rattle.early_receiver.specs.Early.{start_early, early_refusal, lent_after, request_of, early_answer}
use Rattle.host_answers.specs.Answers.{or_else, short, unless_sized, state_ladder, on_success, AnswersWith}
use Rattle.host_states.specs.States.{on_code}
use Rattle.host_early.specs.Early.{early_size, Kept, kept, lent_in, no_lengths, KeepsKept, LaysHead}
use Rattle.host_early.specs.Replies.{said_words}

-- a receiver is started on a session's name, or on a blank one; 19 where that isn't ten bytes too
pub record StartsKeeper (r : ℕ) (name : List ℕ) (n limit : ℕ) (l m : List ℕ) : Type 0 where
  pub returns : r ≡ or_else (unless_sized (length name) session_size bad_setting (receiver_start_refusal n limit))
      (short (ltb (length l) early_size))
  pub keeps : KeepsKept (on_code r) l m (kept (start_early (first_bytes session_size name) n limit) no_lengths)

-- ---- a datagram d taken

-- the receiver and its lengths after it
abbrev pub kept_after : List ℕ → List ℕ → List ℕ → Kept
kept_after l ss d = kept (lent_after (lent_in l ss) d).receiver (lent_after (lent_in l ss) d).lengths

-- the receiver in the bytes takes it: 11 to 16 need no receiver
pub record TakesLent (r : ℕ) (l m ss ss' d ws ws' : List ℕ) : Type 0 where
  pub answers : AnswersWith r ws ws'
      (state_ladder (refusal_of d) (ltb (length l) early_size) (early_refusal (lent_in l ss) d))
      (said_words (early_answer (lent_in l ss) d) (request_of (lent_in l ss) d))
  pub keeps : KeepsKept (on_code r) l m (kept_after l ss d)
  pub slots : ss' ≡ on_success r (lent_after (lent_in l ss) d).slots ss

-- ---- for private helpers alone: no exported function promises it

-- x is answered by words that have room: its refusal, or its words and the bytes of its receiver before the lengths
pub record Answered (r : ℕ) (l m ws ws' : List ℕ) (x : Taken) : Type 0 where
  pub returns : r ≡ (early_words x.answer).refusal
  pub words : ws' ≡ on_success r (put ws 0 (said_words (early_words x.answer) (request_words x.request))) ws
  pub lays : r ≡ 0 → LaysHead l m x.receiver
  pub stays : (r ≡ 0 → ⊥) → m ≡ l
