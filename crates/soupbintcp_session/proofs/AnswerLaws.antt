-- Laws of the answers: a is an answer, l the stream that was answered, y the part of it that is handed up.
use mathlib.Core.Path.{◌≡◌, refl, ◌∙◌}
use mathlib.Core.List.{List, []}
use Prim.Native.Nat.{ℕ}
use lib.ListN.{get_or, take, drop}
use Rattle.wire.specs.Words.{Case, answer, refused}
use Rattle.wire.specs.declared.kinds.SequenceNumber.{SequenceNumber}
use Rattle.wire.specs.declared.kinds.ByteOffset.{ByteOffset}
use Rattle.wire.proofs.Words.{read_back}
use Rattle.soupbintcp_session.specs.declared.answer.Answer.{Answer}
use Rattle.soupbintcp_session.specs.declared.answer.Answer.TheVariants.{NeedMore, Accepted, Rejected, Sequenced, Unsequenced, Heartbeat, Debug, LoggedOut, EndOfSession, Refused}
use Rattle.soupbintcp_session.specs.Answer.{SessionAnswerKind, wants_more, accepted, rejected, sequenced, unsequenced, heartbeat, debug, logged_out, end_of_session, session_answer_words, SessionAnswersApart, answer_message_at, answer_message}

-- ---- the message

module _ (a : Answer) (at : ByteOffset) (k : ℕ) (l y : List ℕ) where
  pub message-sequenced : (n : SequenceNumber) → a ≡ Sequenced n at k → y ≡ take k (drop at.0 l) → y ≡ answer_message (session_answer_words a) l
  unfolding session_answer_words answer_message_at
  message-sequenced n e f = f ∙ rw e refl

  pub message-unsequenced : a ≡ Unsequenced at k → y ≡ take k (drop at.0 l) → y ≡ answer_message (session_answer_words a) l
  unfolding session_answer_words answer_message_at
  message-unsequenced e f = f ∙ rw e refl

-- every other answer hands up none
pub message-none : (a : Answer) (l : List ℕ) → ((n : SequenceNumber) (at : ByteOffset) (k : ℕ) → a ≡ Sequenced n at k → ⊥)
    → ((at : ByteOffset) (k : ℕ) → a ≡ Unsequenced at k → ⊥) → [] ≡ answer_message (session_answer_words a) l
unfolding session_answer_words answer_message_at
message-none NeedMore l e f = refl
message-none (Accepted n) l e f = refl
message-none (Rejected reason) l e f = refl
message-none (Sequenced n at size) l e f = absurd (e n at size refl)
message-none (Unsequenced at size) l e f = absurd (f at size refl)
message-none Heartbeat l e f = refl
message-none Debug l e f = refl
message-none LoggedOut l e f = refl
message-none EndOfSession l e f = refl
message-none (Refused r) l e f = refl

-- ---- the words of an answer read back

answer-of : Case SessionAnswerKind → ℕ → List ℕ → Answer
answer-of (answer wants_more) r vs = NeedMore
answer-of (answer accepted) r vs = Accepted (record { 0 = get_or vs 0 0 })
answer-of (answer rejected) r vs = Rejected (get_or vs 0 0)
answer-of (answer sequenced) r vs = Sequenced (record { 0 = get_or vs 0 0 }) (record { 0 = get_or vs 1 0 }) (get_or vs 2 0)
answer-of (answer unsequenced) r vs = Unsequenced (record { 0 = get_or vs 0 0 }) (get_or vs 1 0)
answer-of (answer heartbeat) r vs = Heartbeat
answer-of (answer debug) r vs = Debug
answer-of (answer logged_out) r vs = LoggedOut
answer-of (answer end_of_session) r vs = EndOfSession
answer-of refused r vs = Refused (record { number = r })

pub answers_apart : SessionAnswersApart
unfolding SessionAnswersApart session_answer_words answer-of
answers_apart = read_back session_answer_words (λ w. answer-of w.which w.refusal w.values) back
  where
    back : (a : Answer) → answer-of (session_answer_words a).which (session_answer_words a).refusal (session_answer_words a).values ≡ a
    back NeedMore = refl
    back (Accepted n) = refl
    back (Rejected reason) = refl
    back (Sequenced n at size) = refl
    back (Unsequenced at size) = refl
    back Heartbeat = refl
    back Debug = refl
    back LoggedOut = refl
    back EndOfSession = refl
    back (Refused r) = refl
