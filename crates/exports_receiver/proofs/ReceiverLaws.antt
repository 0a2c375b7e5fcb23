-- A receiver started, and one that took a datagram.
use Prim.Native.Nat.{ℕ, ◌≤◌, ◌<◌}
use mathlib.Core.List.{List}
use mathlib.Core.Path.{◌≡◌, refl, ap, sym, ◌∙◌}
use native.Mathlib.Omega.{arith}
use lib.ListN.{length}
use lib.Dec.{ltb}
use borrow.Author.Tests.{ne_eqb, lt-ltb, le-ltb}
use Rattle.wire.specs.Bounds.{session_size}
use Rattle.wire.specs.Refusals.{bad_setting}
use Rattle.wire.specs.Parts.{first_bytes}
use Rattle.std.specs.Prelude.{Result, Ok, Err}
use Rattle.wire.specs.declared.refusal.Refusal.{Refusal}
use Rattle.moldudp64.specs.declared.downstream.Downstream.{Downstream}
use Rattle.moldudp64.specs.Downstream.{refusal_of, downstream_of, downstream_words}
use Rattle.moldudp64.proofs.DownstreamLaws.{refusal-found, no_refusal, read-badly}
use Rattle.receiver.specs.declared.receiver.Receiver.{Receiver}
use Rattle.receiver.specs.declared.receiver.Taken.{Taken}
use Rattle.receiver.specs.Table.{answer_words}
use Rattle.receiver.specs.Receiver.{receiver_start_refusal, start_receiver, answer_of, answer_read, after_read}
use Rattle.host_answers.specs.Answers.{or_else, short, on_success, unless_sized, state_ladder, words_of, AnswersWith}
use Rattle.host_answers.proofs.AnswerLaws.{or-first, or-short-no}
use Rattle.host_states.specs.States.{on_code}
use Rattle.host_receiver.proofs.TakenLaws.{not_taken, taken-answer, taken-left, taken-ladder}
use Rattle.host_receiver.specs.Receiver.{receiver_size, receiver_in, KeepsReceiver}
use Rattle.host_receiver.specs.Replies.{answer_number}
use Rattle.exports_receiver.specs.Calls.{StartsReceiver, TakesDatagram}

pub starts-receiver : (s name : List ℕ) (n limit g h : ℕ) (x : Receiver) (r : ℕ) (l m : List ℕ) → name ≡ first_bytes session_size s → h ≡ receiver_start_refusal n limit
    → x ≡ start_receiver name n limit → g ≡ unless_sized (length s) session_size bad_setting h → r ≡ or_else g (short (ltb (length l) receiver_size))
    → KeepsReceiver (on_code r) l m x → StartsReceiver r s n limit l m
starts-receiver s name n limit g h x r l m a b c e f k = record { returns = f ∙ rw (e, b); keeps = rw (← a, ← c) k }

-- ---- a datagram d, which the reader read as p, with the refusal k

module _ (d l ws : List ℕ) (p : Result Downstream Refusal) (k : ℕ) (e : downstream_words p ≡ downstream_of d) (f : k ≡ (downstream_words p).refusal) where
  unread : k ≡ refusal_of d
  unread = refusal-found d p k f e

  pub takes-unread : (k ≡ 0 → ⊥) → TakesDatagram k l l d ws ws
  unfolding on_success
  takes-unread z =
      let n : refusal_of d ≡ 0 → ⊥ = λ y. z (unread ∙ y) in
      let first : refusal_of d ≡ state_ladder (refusal_of d) (ltb (length l) receiver_size) (answer_of (receiver_in l) d).refusal = or-first (refusal_of d) _ n in
      record {
        answers = record { returns = unread ∙ or-first (refusal_of d) (short (ltb (length ws) (length (words_of answer_number 4 (answer_of (receiver_in l) d))))) n ∙ ap (λ (g : ℕ). or_else g (short (ltb (length ws) (length (words_of answer_number 4 (answer_of (receiver_in l) d)))))) first; words = rw (ne_eqb _ _ z) };
        keeps = not_taken d l k z;
      }

  pub takes-short : k ≡ 0 → length l < receiver_size → TakesDatagram 41 l l d ws ws
  unfolding on_success or_else short
  takes-short z h =
      record {
        answers = record { returns = rw (← unread, z, lt-ltb (length l) receiver_size h); words = refl };
        keeps = not_taken d l 41 (λ n. omega arith);
      }

-- what was read as a refusal has one
pub takes-refused : (d l ws : List ℕ) (x : Refusal) (k : ℕ) → downstream_words (Err x) ≡ downstream_of d → k ≡ x.number → TakesDatagram k l l d ws ws
unfolding downstream_words
takes-refused d l ws x k e f = takes-unread d l ws (Err x) k e f (λ z. read-badly d (Err x) e x refl (sym (refusal-found d (Err x) k f e) ∙ z))

module _ (d l ws : List ℕ) (packet : Downstream) (e : downstream_words (Ok packet) ≡ downstream_of d) where
  abbrev p : Result Downstream Refusal
  p = Ok packet

  well : refusal_of d ≡ 0
  well = sym (refusal-found d p _ refl e) ∙ no_refusal packet

  module _ (x : Receiver) (is : x ≡ receiver_in l) (t : Taken) (room : receiver_size ≤ length l)
      (g : answer_words t.answer ≡ answer_read x d (downstream_words p)) (h : t.receiver ≡ after_read x d (downstream_words p)) where
    answered : answer_words t.answer ≡ answer_of (receiver_in l) d
    answered = taken-answer d l p e x is t g

    pub takes-datagram : (r : ℕ) (m ws' vs : List ℕ) (code q : ℕ) → q ≡ (answer_words t.answer).refusal
        → vs ≡ words_of answer_number 4 (answer_words t.answer)
        → AnswersWith code ws ws' q vs
        → r ≡ or_else code (short (ltb (length l) receiver_size))
        → KeepsReceiver (on_code r) l m t.receiver
        → TakesDatagram r l m d ws ws'
    unfolding short
    takes-datagram r m ws' vs code q a v y b kept =
        let one : r ≡ code = b ∙ rw (le-ltb (length l) receiver_size room) (sym (or-short-no code)) in
        let ladder = taken-ladder d l p e x is t q well room g a in
        record {
          answers = rw (one, ← ladder, ← answered, ← v) y;
          keeps = rw (taken-left d l p e x is t h) at kept;
        }
