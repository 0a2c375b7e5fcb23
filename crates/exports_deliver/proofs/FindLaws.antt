-- How much an answer delivers, and that so many blocks of its datagram are there.
use Prim.Native.Nat.{ℕ, ◌+◌}
use mathlib.Core.List.{List, [], ◌∷◌}
use mathlib.Core.Bool.{true}
use mathlib.Core.Path.{◌≡◌, refl, ap, sym, ◌∙◌}
use native.Mathlib.Omega.{arith}
use lib.ListN.{get_or, drop}
use Rattle.wire.specs.Words.{Words, Case, answer, refused, says}
use Rattle.wire.proofs.Cases.{zero_or_not}
use Rattle.wire.proofs.Words.{which-of, values-of}
use Rattle.wire.specs.declared.kinds.SequenceNumber.{SequenceNumber}
use Rattle.wire.specs.declared.kinds.MessageCount.{MessageCount}
use Rattle.wire.specs.declared.kinds.MessagePlace.{MessagePlace}
use Rattle.moldudp64.specs.Header.{count_of}
use Rattle.moldudp64.specs.Blocks.{all_fit, messages}
use Rattle.moldudp64.specs.Downstream.{data_packet, kind_of, block_count, refusal_of, messages_of}
use Rattle.moldudp64.proofs.BlockLaws.{sound-fit}
use Rattle.moldudp64.proofs.DownstreamLaws.{sound, kind-blocks, messages-sound}
use Rattle.receiver.specs.declared.receiver.Receiver.{Receiver}
use Rattle.receiver.specs.declared.receiver.Answer.{Answer}
use Rattle.receiver.specs.declared.receiver.Answer.TheVariants.{Deliver, Old, Quiet, Ask, Ended, Refused}
use Rattle.receiver.specs.Table.{AnswerKind, deliver, old, quiet, ask, ended, answer_words}
use Rattle.receiver.specs.Receiver.{refusal_for, answer_of}
use Rattle.feed.specs.Session.{Datagram}
use Rattle.receiver.proofs.Promises.{refused-answers}
use Rattle.host_answers.specs.Answers.{padded, words_at}
use Rattle.host_receiver.specs.Replies.{answer_number}
use Rattle.host_receiver.proofs.SaidLaws.{Says, delivers, gives_none, said}
use Rattle.exports_deliver.specs.Places.{places_at, places_behind, places_delivered_at, places_delivered, Finds, finds, finds_none}

-- its places are those behind the skipped
pub found-places : (w : Words AnswerKind) (count skipped : ℕ) (d : List ℕ) → Finds count skipped w → places_delivered w d ≡ places_behind count skipped d
unfolding places_delivered_at places_at
found-places w count skipped d (finds first e) = rw e
found-places w count skipped d (finds_none c s n) = n d ∙ rw c

-- no words but those of deliver have places
pub none-but-deliver : (c : Case AnswerKind) (vs d : List ℕ) → (get_or (words_at answer_number 4 c vs) 0 0 ≡ 1 → ⊥) → places_delivered_at c vs d ≡ []
unfolding places_delivered_at words_at padded answer_number
none-but-deliver (answer deliver) vs d n = absurd (n refl)
none-but-deliver (answer old) vs d n = refl
none-but-deliver (answer quiet) vs d n = refl
none-but-deliver (answer ask) vs d n = refl
none-but-deliver (answer ended) vs d n = refl
none-but-deliver refused vs d n = refl

-- ---- the blocks of a deliver answer are those of its datagram

all_blocks : (d : Datagram) (count skipped : ℕ) → kind_of d ≡ data_packet → skipped + count ≡ count_of d → block_count d ≡ skipped + count
all_blocks d count skipped k e = kind-blocks d data_packet k ∙ sym e

pub all-fit : (d : Datagram) (count skipped : ℕ) → refusal_of d ≡ 0 → kind_of d ≡ data_packet → skipped + count ≡ count_of d → all_fit (skipped + count) (drop 20 d) ≡ true
all-fit d count skipped well k e = rw (all_blocks d count skipped k e) at (sound-fit (block_count d) (drop 20 d) (sound d well).blocks-good)

pub all-messages : (d : Datagram) (count skipped : ℕ) → refusal_of d ≡ 0 → kind_of d ≡ data_packet → skipped + count ≡ count_of d → messages_of d ≡ messages (skipped + count) (drop 20 d)
all-messages d count skipped well k e = messages-sound d well ∙ ap (λ (n : ℕ). messages n (drop 20 d)) (all_blocks d count skipped k e)

module _ (x : Receiver) (d : Datagram) (w : Words AnswerKind) (well : refusal_of d ≡ 0) (is : w ≡ answer_of x d) (count skipped : ℕ) where
  by_said : (first : ℕ) → w ≡ says deliver (first ∷ count ∷ skipped ∷ []) → Says (answer_of x d) d → all_fit (skipped + count) (drop 20 d) ≡ true
  unfolding words_at padded answer_number
  by_said first e (delivers f c s g k n) =
      let v : f ∷ c ∷ s ∷ [] ≡ first ∷ count ∷ skipped ∷ [] = values-of (sym g ∙ sym is ∙ e) in
      let p : c ≡ count = cc in
      let q : s ≡ skipped = cc in
      all-fit d count skipped well k (rw (← p, ← q) n)
  by_said first e (gives_none n m) = absurd (n (rw (← is, e)))

  pub found-there : Finds count skipped w → all_fit (skipped + count) (drop 20 d) ≡ true
  unfolding all_fit
  found-there (finds first e) =
      zero_or_not _ (refusal_for x d) (λ z. by_said first e (said x d z))
      (λ z. let c = which-of (sym e ∙ is ∙ refused-answers x d z) in let k : ◌≡◌ {A = ℕ} 0 1 = cc in absurd (omega arith))
  found-there (finds_none c s n) = rw (c, s)

-- ---- an answer of a known case

module _ (a : Answer) where
  pub finds-deliver : (first : SequenceNumber) (count : MessageCount) (skipped : MessagePlace) → a ≡ Deliver first count skipped → Finds count.0 skipped.0 (answer_words a)
  unfolding answer_words
  finds-deliver first count skipped e = rw e (finds first.0 refl)

  pub finds-none : ((first : SequenceNumber) (count : MessageCount) (skipped : MessagePlace) → a ≡ Deliver first count skipped → ⊥) → Finds 0 0 (answer_words a)
  unfolding answer_words places_delivered_at
  finds-none n = go a refl
    where
      go : (b : Answer) → a ≡ b → Finds 0 0 (answer_words a)
      go (Deliver first count skipped) e = absurd (n first count skipped e)
      go Old e = rw e (finds_none refl refl (λ d. refl))
      go Quiet e = rw e (finds_none refl refl (λ d. refl))
      go (Ask from count) e = rw e (finds_none refl refl (λ d. refl))
      go Ended e = rw e (finds_none refl refl (λ d. refl))
      go (Refused r) e = rw e (finds_none refl refl (λ d. refl))
