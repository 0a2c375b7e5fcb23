-- What the reader finds in a datagram is answered as the datagram is; and the refusals, as `take_read` has them.
use Rattle.std.specs.Prelude.{Result, Ok, Err, ⊤}
use mathlib.Core.Path.{◌≡◌, refl, sym, ap, ◌∙◌}
use mathlib.Core.List.{List, [], ◌∷◌}
use mathlib.Core.Bool.{Bool, false, ◌&&◌}
use Prim.Native.Nat.{ℕ, suc}
use lib.ListN.{length, get_or}
use lib.Dec.{eqb}
use borrow.Author.Tests.{ne_eqb}
use Rattle.wire.specs.Words.{Words, says}
use Rattle.wire.specs.declared.refusal.Refusal.{Refusal}
use Rattle.wire.proofs.Cases.{zero_or_not}
use Rattle.moldudp64.specs.Header.{number_of, count_of}
use Rattle.moldudp64.specs.declared.downstream.Downstream.{Downstream}
use Rattle.moldudp64.specs.Downstream.{DownstreamKind, data_packet, heartbeat, end_of_session, kind_of, refusal_of, values_of, downstream_of, downstream_words, messages_of, message_of}
use Rattle.moldudp64.proofs.DownstreamLaws.{count-sound, kind-blocks}
use Rattle.moldudp64_messages.specs.declared.cursor.Cursor.{Cursor}
use Rattle.moldudp64_messages.specs.Cursor.{part, located, advanced, advanced_by, start_of, WalksTheMessages, PartIsMessage}
use Rattle.moldudp64_messages.proofs.CursorLaws.{walks-the-messages, part-is-message}
use Rattle.receiver.specs.declared.receiver.Receiver.{Receiver}
use Rattle.receiver.specs.declared.receiver.Taken.{Taken as PlainTaken}
use Rattle.receiver.specs.Table.{AnswerKind, answer_words}
use Rattle.receiver.specs.Receiver.{named_by, table_row, after_row, number_read, refusal_read, row_read, answer_read, after_read}
use Rattle.receiver.proofs.ReadLaws.{refused-read, refuses-it, reads, count-of, number-of, refusal-as, row_as, by-reader}
use Rattle.early_holding.specs.declared.holding.EarlyReceiver.{EarlyReceiver}
use Rattle.early_holding.specs.Holding.{Lent, lent}
use Rattle.early_receiver.specs.declared.early.Answer.TheVariants.{Refused}
use Rattle.std.specs.Prelude.{None}
use Rattle.early_receiver.specs.declared.early.Taken.{Taken}
use Rattle.early_receiver.specs.Answers.{early_words, request_words}
use Rattle.wire.specs.Words.{refused_by}
use Rattle.wire.proofs.Refusing.{checked, ground-of, has-ground}
use Rattle.early_receiver.specs.Early.{right_size, with_slots, early_refusal, named_lent, take_kind, lent_after, request_of, early_answer, TakesEarly}
use Rattle.early_receiver.specs.Read.{messages_from_cursor, messages_read, early_refusal_read, take_read_at, lent_after_read, request_read, early_answer_read, EarlyReadAsWhole, TakesEarlyRead}
use Rattle.early_receiver.specs.Steps.{Accepts}
use Rattle.early_receiver.proofs.AnswerLaws.{slots-open}
use Rattle.early_receiver.proofs.ArmLaws.{row_open}

-- ---- the cursor's messages are the datagram's

from_list : (xs : List (List ℕ)) (l : List ℕ) (c : Cursor) → ((i : ℕ) → part l (located l (advanced_by i l c)) ≡ get_or xs i [])
    → messages_from_cursor l c (length xs) ≡ xs
unfolding messages_from_cursor advanced_by
from_list [] l c e = refl
from_list (x ∷ xs) l c e = rw (e 0) (ap (λ (y : List (List ℕ)). x ∷ y) (from_list xs l (advanced l c) (λ i. e (suc i))))

all_read : (l : List ℕ) → messages_read l (length (messages_of l)) ≡ messages_of l
unfolding WalksTheMessages PartIsMessage message_of
all_read l = from_list (messages_of l) l (start_of l) (λ i. ap (part l) (walks-the-messages l i) ∙ part-is-message l i)

data_read : (l : List ℕ) → refusal_of l ≡ 0 → kind_of l ≡ data_packet → messages_read l (count_of l) ≡ messages_of l
data_read l w k = let n : length (messages_of l) ≡ count_of l = count-sound l w ∙ kind-blocks l data_packet k in ap (messages_read l) (sym n) ∙ all_read l

-- ---- a datagram's own words

module _ (s : Lent) (l : List ℕ) where
  -- a refusal of the reader's is the receiver's
  module _ (bad : refusal_of l ≡ 0 → ⊥) where
    not-open : (b : Bool) → eqb (with_slots b (refusal_of l)) 0 ≡ false
    not-open b = ne_eqb _ _ (λ z. bad (slots-open b (refusal_of l) z).1)

    refused-same : early_refusal_read s l (downstream_of l) ≡ with_slots (right_size s) (refusal_of l)
    unfolding early_refusal_read
    refused-same = rw (refused-read s.receiver.base l bad, refuses-it s.receiver.base l bad)

    refused-so : early_refusal s l ≡ with_slots (right_size s) (refusal_of l)
    unfolding early_refusal
    refused-so = rw (refuses-it s.receiver.base l bad)

    bad-answer : early_answer_read s l (downstream_of l) ≡ early_answer s l
    unfolding early_answer_read early_answer
    bad-answer = rw (refused-same, refused-so, not-open (right_size s))

    bad-request : request_read s l (downstream_of l) ≡ request_of s l
    unfolding request_read request_of
    bad-request = rw (refused-same, refused-so, not-open (right_size s))

    bad-after : lent_after_read s l (downstream_of l) ≡ lent_after s l
    unfolding lent_after_read lent_after
    bad-after = rw (refused-same, refused-so, not-open (right_size s))

  module _ (well : refusal_of l ≡ 0) where
    well-refusal : early_refusal_read s l (downstream_of l) ≡ early_refusal s l
    unfolding early_refusal_read early_refusal
    well-refusal = rw (reads s.receiver.base l well, refusal-as s.receiver.base l well (kind_of l) refl)

    taken-so : (t : Lent) (k : DownstreamKind) → kind_of l ≡ k → take_read_at t l (says k (values_of k l)) (says k (values_of k l)).which ≡ take_kind t k l
    unfolding take_read_at take_kind
    taken-so t data_packet e = rw (count-of s.receiver.base l well e, data_read l well e)
    taken-so t heartbeat e = refl
    taken-so t end_of_session e = refl

    well-after : lent_after_read s l (downstream_of l) ≡ lent_after s l
    unfolding lent_after_read lent_after
    well-after = rw (well-refusal, reads s.receiver.base l well, taken-so (named_lent s l) (kind_of l) refl)

    well-number : number_read (downstream_of l) ≡ number_of l
    well-number = rw (reads s.receiver.base l well, number-of s.receiver.base l well (kind_of l))

    well-request : request_read s l (downstream_of l) ≡ request_of s l
    unfolding request_read request_of
    well-request = rw (well-refusal, well-after, well-number)

    well-row : row_read s.receiver.base (downstream_of l) ≡ table_row s.receiver.base l
    well-row = rw (reads s.receiver.base l well, row_as s.receiver.base l well (kind_of l) refl)

    well-answer : early_answer_read s l (downstream_of l) ≡ early_answer s l
    unfolding early_answer_read early_answer
    well-answer = rw (well-refusal, well-after, well-number, well-row)

pub early-read-as-whole : EarlyReadAsWhole
early-read-as-whole =
    record {
      refuses = λ s l. by-reader s.receiver.base l (λ bad. refused-same s l bad ∙ sym (refused-so s l bad)) (well-refusal s l);
      answers = λ s l. by-reader s.receiver.base l (bad-answer s l) (well-answer s l);
      asks = λ s l. by-reader s.receiver.base l (bad-request s l) (well-request s l);
      leaves = λ s l. by-reader s.receiver.base l (bad-after s l) (well-after s l);
    }

pub whole_takes : (x : Taken) (ls ss : List ℕ) (s : Lent) (l : List ℕ) (p : Result Downstream Refusal) → downstream_words p ≡ downstream_of l
    → TakesEarlyRead x ls ss s l (downstream_words p) → TakesEarly x ls ss s l
whole_takes x ls ss s l p e t =
    record {
      answers = rw e at t.answers ∙ early-read-as-whole.answers s l;
      asks = rw e at t.asks ∙ early-read-as-whole.asks s l;
      leaves = rw e at t.leaves ∙ early-read-as-whole.leaves s l;
    }

-- ---- as `take_read` has them: y is what the plain receiver returned, k its refusal, x the refusal with 19

answer-refusal : (r : Receiver) (l : List ℕ) (w : Words DownstreamKind) → (answer_read r l w).refusal ≡ refusal_read r l w
unfolding answer_read
answer-refusal r l w =
    zero_or_not _ (refusal_read r l w) (λ z. rw z (row_open r w w.which)) (λ z. rw (ne_eqb _ _ z))

module _ (r : EarlyReceiver) (ls ss l : List ℕ) (p : Result Downstream Refusal) (y : PlainTaken) (b : Bool) (s x : Result ⊤ Refusal)
    (a : answer_words y.answer ≡ answer_read r.base l (downstream_words p)) (e : s ≡ refused_by (answer_words y.answer).refusal)
    (c : b ≡ (eqb (length ss) 65536 && eqb (length ls) 128)) (f : (k : ℕ) → s ≡ refused_by k → x ≡ refused_by (with_slots b k)) where
  k-is : (answer_words y.answer).refusal ≡ refusal_read r.base l (downstream_words p)
  k-is = ap (λ (w : Words AnswerKind). w.refusal) a ∙ answer-refusal r.base l (downstream_words p)

  x-is : x ≡ refused_by (early_refusal_read (lent r ls ss) l (downstream_words p))
  unfolding early_refusal_read
  x-is = f _ e ∙ rw (k-is, c) refl

  pub take-refused : (q : Refusal) → x ≡ Err q
      → TakesEarlyRead (record { answer = Refused q; request = None; receiver = r }) ls ss (lent r ls ss) l (downstream_words p)
  unfolding early_words request_words early_answer_read request_read lent_after_read
  take-refused q d =
      let n = ground-of x q _ x-is d in
      let z = has-ground x q _ x-is d in
      record { answers = rw (n, ne_eqb _ _ z) refl; asks = rw (ne_eqb _ _ z) refl; leaves = rw (ne_eqb _ _ z) refl }

  module _ (u : ⊤) (d : x ≡ Ok u) where
    none : early_refusal_read (lent r ls ss) l (downstream_words p) ≡ 0
    none = checked x u _ x-is d

    pub take_open : refusal_read r.base l (downstream_words p) ≡ 0
    unfolding early_refusal_read
    take_open = (slots-open b (refusal_read r.base l (downstream_words p)) (rw (← c) at none)).1

    pub take_row : answer_words y.answer ≡ (row_read r.base (downstream_words p)).reply
    unfolding answer_read
    take_row = rw take_open at a

    pub take-moved : y.receiver ≡ after_read r.base l (downstream_words p)
        → y.receiver ≡ after_row (named_by r.base l) (row_read r.base (downstream_words p))
    unfolding after_read
    take-moved g = rw take_open at g

    pub take_done : (v : Taken) (lt st : List ℕ) → Accepts v lt st (lent r ls ss) l (downstream_words p)
        → TakesEarlyRead v lt st (lent r ls ss) l (downstream_words p)
    unfolding early_answer_read request_read lent_after_read
    take_done v lt st t = record { answers = rw none t.answers; asks = rw none t.asks; leaves = rw none t.leaves }
