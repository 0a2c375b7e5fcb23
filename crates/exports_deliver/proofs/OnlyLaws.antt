-- Which refusals there are.
use Prim.Native.Nat.{ℕ}
use mathlib.Core.List.{List, [], ◌∷◌}
use mathlib.Core.Bool.{Bool}
use mathlib.Core.Path.{◌≡◌, refl, ◌∙◌}
use Rattle.wire.proofs.Words.{refusal-of}
use Rattle.std.specs.Prelude.{Result, Err}
use Rattle.wire.specs.declared.refusal.Refusal.{Refusal}
use Rattle.moldudp64.specs.declared.downstream.Downstream.{Downstream}
use Rattle.moldudp64.specs.Downstream.{refusal_of, downstream_of, downstream_words}
use Rattle.moldudp64.proofs.DownstreamLaws.{refusal-found}
use Rattle.receiver.specs.declared.receiver.Receiver.{Receiver}
use Rattle.receiver.specs.declared.receiver.Answer.{Answer}
use Rattle.receiver.specs.Table.{answer_words}
use Rattle.receiver.specs.Receiver.{refusal_for, answer_of, answer_read}
use Rattle.receiver.proofs.ReadLaws.{read-as-whole}
use Rattle.host_answers.specs.Answers.{or_else, short, is_one_of, RefusesOnly}
use Rattle.host_answers.proofs.OnlyLaws.{only_ending, answers-only, only-within, within}
use Rattle.host_cursor.proofs.DatagramLaws.{datagram_grounds, datagram-only}
use Rattle.exports_deliver.specs.Calls.{LaysAnswer}
use Rattle.host_receiver.proofs.RefusalLaws.{take_grounds, said-refusal, receiver-only}

read_only : (d : List ℕ) → RefusesOnly (refusal_of d) take_grounds
unfolding within is_one_of
read_only d = only-within (refusal_of d) datagram_grounds take_grounds (datagram-only d) refl

pub short-only : RefusesOnly 41 (11 ∷ 12 ∷ 13 ∷ 14 ∷ 15 ∷ 16 ∷ 17 ∷ 18 ∷ 20 ∷ 41 ∷ [])
unfolding is_one_of
short-only = refl

-- of a datagram d, which the reader read as p
module _ (d : List ℕ) (p : Result Downstream Refusal) (e : downstream_words p ≡ downstream_of d) where
  pub unread-only : (k : ℕ) → k ≡ (downstream_words p).refusal → RefusesOnly k (11 ∷ 12 ∷ 13 ∷ 14 ∷ 15 ∷ 16 ∷ 17 ∷ 18 ∷ 20 ∷ 41 ∷ [])
  unread-only k f = rw (refusal-found d p k f e) (read_only d)

  -- the answer's refusal, 41 for too few places or words, and 41 for the state once more
  pub deliver-only : (r code : ℕ) (c : Bool) (x : Receiver) (ws ws' ps ps' : List ℕ) (k : Answer) → answer_words k ≡ answer_read x d (downstream_words p)
      → LaysAnswer code (answer_words k) d ws ws' ps ps' → r ≡ or_else code (short c) → RefusesOnly r (11 ∷ 12 ∷ 13 ∷ 14 ∷ 15 ∷ 16 ∷ 17 ∷ 18 ∷ 20 ∷ 41 ∷ [])
  deliver-only r code c x ws ws' ps ps' k q t y =
      let said : answer_words k ≡ answer_of x d = q ∙ rw e (read-as-whole.answers x d) in
      let same : (answer_words k).refusal ≡ refusal_for x d = refusal-of said ∙ said-refusal x d in
      let few = only_ending _ (answer_words k).refusal _ take_grounds refl (rw same (receiver-only x d (read_only d))) short-only in
      only_ending r code c take_grounds y (answers-only code _ ws ws' _ take_grounds t.answers few short-only) short-only

pub refused-only : (d : List ℕ) (x : Refusal) (k : ℕ) → downstream_words (Err x) ≡ downstream_of d → k ≡ x.number
    → RefusesOnly k (11 ∷ 12 ∷ 13 ∷ 14 ∷ 15 ∷ 16 ∷ 17 ∷ 18 ∷ 20 ∷ 41 ∷ [])
unfolding downstream_words
refused-only d x k e f = unread-only d (Err x) e k f
