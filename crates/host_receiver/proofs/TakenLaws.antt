-- A receiver that took a datagram d, and what a call leaves of it in the bytes l.
use Prim.Native.Nat.{ℕ, ◌≤◌}
use mathlib.Core.List.{List}
use mathlib.Core.Path.{◌≡◌, refl, ap, ◌∙◌}
use lib.ListN.{length}
use lib.Dec.{ltb}
use borrow.Author.Tests.{le-ltb, eq-eqb, ne_eqb}
use Rattle.wire.specs.Output.{put}
use Rattle.wire.proofs.Cases.{zero_or_not}
use Rattle.wire.proofs.Outputs.{length-put}
use Rattle.wire.proofs.Words.{refusal-of}
use Rattle.std.specs.Prelude.{Result}
use Rattle.wire.specs.declared.refusal.Refusal.{Refusal}
use Rattle.moldudp64.specs.declared.downstream.Downstream.{Downstream}
use Rattle.moldudp64.specs.Downstream.{refusal_of, downstream_of, downstream_words}
use Rattle.receiver.specs.declared.receiver.Receiver.{Receiver}
use Rattle.receiver.specs.declared.receiver.Taken.{Taken}
use Rattle.receiver.specs.Table.{answer_words}
use Rattle.receiver.specs.Receiver.{refusal_for, answer_of, receiver_after, answer_read, after_read}
use Rattle.receiver.proofs.ReadLaws.{read-as-whole}
use Rattle.receiver.proofs.Promises.{after-ten}
use Rattle.receiver.proofs.TableLaws.{refused-stays}
use Rattle.host_answers.specs.Answers.{short, state_ladder}
use Rattle.host_answers.proofs.AnswerLaws.{or-next}
use Rattle.host_states.specs.States.{Keeps, on_code}
use Rattle.host_receiver.specs.Receiver.{receiver_size, receiver_in, KeepsReceiver}
use Rattle.host_receiver.proofs.ReceiverLaws.{receiver-not, receiver-ten}

-- a call that is refused leaves the bytes as they are: the receiver after the datagram has a name of ten bytes too
pub not_taken : (d l : List ℕ) (r : ℕ) → (r ≡ 0 → ⊥) → KeepsReceiver (on_code r) l l (receiver_after (receiver_in l) d)
not_taken d l r z = receiver-not (receiver_after (receiver_in l) d) l r (after-ten (receiver_in l) d (receiver-ten l)) z

-- the reader read the datagram as p, and the receiver in the bytes took that
module _ (d l : List ℕ) (p : Result Downstream Refusal) (e : downstream_words p ≡ downstream_of d) (x : Receiver) (is : x ≡ receiver_in l) (t : Taken) where
  pub taken-answer : answer_words t.answer ≡ answer_read x d (downstream_words p) → answer_words t.answer ≡ answer_of (receiver_in l) d
  taken-answer g = rw (← is) (g ∙ rw e (read-as-whole.answers x d))

  pub taken-left : t.receiver ≡ after_read x d (downstream_words p) → t.receiver ≡ receiver_after (receiver_in l) d
  taken-left h = rw (← is) (h ∙ rw e (read-as-whole.leaves x d))

  -- its refusal by the ladder of a call that is lent a state, which is long enough
  pub taken-ladder : (q : ℕ) → refusal_of d ≡ 0 → receiver_size ≤ length l → answer_words t.answer ≡ answer_read x d (downstream_words p) → q ≡ (answer_words t.answer).refusal
      → q ≡ state_ladder (refusal_of d) (ltb (length l) receiver_size) (answer_of (receiver_in l) d).refusal
  unfolding short
  taken-ladder q well room g a = a ∙ refusal-of (taken-answer g) ∙ rw (le-ltb (length l) receiver_size room) (or-next 0 _ refl ∙ or-next (refusal_of d) _ well)

-- ---- from call to call

-- a state that is kept has as many bytes
pub kept-size : {S : Type 0} {r : ℕ} {l m bs : List ℕ} {size : ℕ} {reads : List ℕ → S} {x : S} → Keeps (on_code r) l m size reads bs x → r ≡ 0 → length m ≡ length l
kept-size {S} {r} {l} {m} {bs} k z =
    let laid : m ≡ put l 0 bs = rw (eq-eqb r 0 z) at k.leaves in
    rw laid (length-put l 0 bs)

module _ (d l m : List ℕ) (r : ℕ) (k : KeepsReceiver (on_code r) l m (receiver_after (receiver_in l) d)) where
  pub same_size : length m ≡ length l
  same_size = zero_or_not _ r (λ z. kept-size k z) (λ z. ap length (rw (ne_eqb r 0 z) at k.leaves))

  -- the receiver in the bytes that are left, where the code is the receiver's refusal
  pub takes-on : receiver_size ≤ length l → r ≡ refusal_for (receiver_in l) d → receiver_in m ≡ receiver_after (receiver_in l) d
  takes-on h e =
      zero_or_not _ r (λ z. k.reads_back (eq-eqb r 0 z) h)
      (λ z. ap receiver_in (stays z) ∙ refused-stays (receiver_in l) d r e z)
    where
      stays : (r ≡ 0 → ⊥) → m ≡ l
      stays z = rw (ne_eqb r 0 z) at k.leaves
