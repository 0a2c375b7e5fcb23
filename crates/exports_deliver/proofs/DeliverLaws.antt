-- A datagram d taken by the receiver in the bytes l, with the words ws and the places ps lent.
use Prim.Native.Nat.{ℕ, ◌≤◌, ◌<◌}
use mathlib.Core.List.{List}
use mathlib.Core.Path.{◌≡◌, refl, sym, ◌∙◌}
use native.Mathlib.Omega.{arith}
use lib.ListN.{length}
use lib.Dec.{ltb}
use borrow.Author.Tests.{lt-ltb, le-ltb}
use Rattle.wire.proofs.Words.{refusal-of}
use Rattle.std.specs.Prelude.{Result, Ok, Err}
use Rattle.wire.specs.declared.refusal.Refusal.{Refusal}
use Rattle.moldudp64.specs.declared.downstream.Downstream.{Downstream}
use Rattle.moldudp64.specs.Downstream.{refusal_of, downstream_of, downstream_words}
use Rattle.moldudp64.proofs.DownstreamLaws.{refusal-found, no_refusal, read-badly, sound}
use Rattle.receiver.specs.declared.receiver.Receiver.{Receiver}
use Rattle.receiver.specs.declared.receiver.Taken.{Taken}
use Rattle.receiver.specs.Table.{answer_words}
use Rattle.receiver.specs.Receiver.{answer_of, answer_read, after_read}
use Rattle.host_answers.specs.Answers.{or_else, short, state_ladder}
use Rattle.host_answers.proofs.AnswerLaws.{or-first, or-next, or-short-no, short-yes, no-success}
use Rattle.host_states.specs.States.{on_code}
use Rattle.host_receiver.specs.Receiver.{receiver_size, receiver_in, KeepsReceiver}
use Rattle.host_receiver.proofs.TakenLaws.{not_taken, taken-answer, taken-left, taken-ladder}
use Rattle.exports_deliver.specs.Calls.{DeliversDatagram, BlocksThere, LaysAnswer}
use Rattle.exports_deliver.proofs.FindLaws.{found-there}

-- a ground comes before those behind it
before-both : (r g h k : ℕ) → (r ≡ 0 → ⊥) → r ≡ g → r ≡ or_else (or_else g h) k
before-both r g h k z e =
    let n : g ≡ 0 → ⊥ = λ y. z (e ∙ y) in
    e ∙ or-first g h n ∙ or-first (or_else g h) k (λ y. n (or-first g h n ∙ y))

-- a ground of the datagram, or 41 for the state: nothing changes
not-delivered : (d l ws ps : List ℕ) (r : ℕ) → (r ≡ 0 → ⊥) → r ≡ state_ladder (refusal_of d) (ltb (length l) receiver_size) (answer_of (receiver_in l) d).refusal
    → DeliversDatagram r l l d ws ws ps ps
not-delivered d l ws ps r z e =
    record {
      answers = record { returns = before-both r _ _ _ z e; words = no-success r _ ws z };
      places = no-success r _ ps z;
      keeps = not_taken d l r z;
    }

module _ (d l ws ps : List ℕ) (p : Result Downstream Refusal) (k : ℕ) (e : downstream_words p ≡ downstream_of d) (f : k ≡ (downstream_words p).refusal) where
  unread : k ≡ refusal_of d
  unread = refusal-found d p k f e

  pub delivers-unread : (k ≡ 0 → ⊥) → DeliversDatagram k l l d ws ws ps ps
  delivers-unread z = not-delivered d l ws ps k z (unread ∙ or-first (refusal_of d) _ (λ y. z (unread ∙ y)))

  pub delivers-short : k ≡ 0 → length l < receiver_size → DeliversDatagram 41 l l d ws ws ps ps
  delivers-short z h =
      let lacks : 41 ≡ short (ltb (length l) receiver_size) = short-yes _ (lt-ltb (length l) receiver_size h) in
      not-delivered d l ws ps 41 (λ n. omega arith)
      (lacks ∙ or-first _ _ (λ y. let n : ◌≡◌ {A = ℕ} 41 0 = lacks ∙ y in omega arith) ∙ or-next (refusal_of d) _ (sym unread ∙ z))

-- what was read as a refusal has one
pub delivers-refused : (d l ws ps : List ℕ) (x : Refusal) (k : ℕ) → downstream_words (Err x) ≡ downstream_of d → k ≡ x.number → DeliversDatagram k l l d ws ws ps ps
unfolding downstream_words
delivers-refused d l ws ps x k e f = delivers-unread d l ws ps (Err x) k e f (λ z. read-badly d (Err x) e x refl (sym (refusal-found d (Err x) k f e) ∙ z))

-- ---- one that was read, and taken as t

module _ (d : List ℕ) (packet : Downstream) (e : downstream_words (Ok packet) ≡ downstream_of d) where
  abbrev p : Result Downstream Refusal
  p = Ok packet

  none : (downstream_words p).refusal ≡ 0
  none = no_refusal packet

  module _ (l : List ℕ) (x : Receiver) (is : x ≡ receiver_in l) (t : Taken)
      (g : answer_words t.answer ≡ answer_read x d (downstream_words p)) where
    well : refusal_of d ≡ 0
    well = sym (refusal-found d p _ refl e) ∙ none

    answered : answer_words t.answer ≡ answer_of (receiver_in l) d
    answered = taken-answer d l p e x is t g

    pub deliver-there : BlocksThere (answer_words t.answer) d
    deliver-there =
        record { long = (sound d well).long; there = λ count skipped f. found-there (receiver_in l) d (answer_words t.answer) well answered count skipped f }

    pub delivers-datagram : (r code : ℕ) (m ws ws' ps ps' : List ℕ) → receiver_size ≤ length l → LaysAnswer code (answer_words t.answer) d ws ws' ps ps'
        → t.receiver ≡ after_read x d (downstream_words p) → r ≡ or_else code (short (ltb (length l) receiver_size))
        → KeepsReceiver (on_code r) l m t.receiver
        → DeliversDatagram r l m d ws ws' ps ps'
    unfolding short
    delivers-datagram r code m ws ws' ps ps' room y h b kept =
        let one : r ≡ code = b ∙ rw (le-ltb (length l) receiver_size room) (sym (or-short-no code)) in
        let said : LaysAnswer code (answer_of (receiver_in l) d) d ws ws' ps ps' = rw answered at y in
        let ladder = taken-ladder d l p e x is t (answer_of (receiver_in l) d).refusal well room g (sym (refusal-of answered)) in
        record { answers = rw (one, ← ladder) said.answers; places = rw one said.places; keeps = rw (taken-left d l p e x is t h) at kept }
