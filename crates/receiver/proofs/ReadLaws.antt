-- What the reader finds in a datagram l is answered by the receiver r as the datagram is.
use mathlib.Core.Path.{◌≡◌, refl, ◌∙◌}
use mathlib.Core.List.{List}
use mathlib.Core.Bool.{Bool, true, false}
use Prim.Native.Nat.{ℕ}
use native.Mathlib.Omega.{arith}
use lib.Dec.{eqb}
use borrow.Author.Tests.{eqb-true, eqb-false, ne_eqb}
use Rattle.wire.specs.Words.{says, refuses}
use Rattle.moldudp64.specs.Header.{number_of, count_of}
use Rattle.std.specs.Prelude.{Result}
use Rattle.wire.specs.declared.refusal.Refusal.{Refusal}
use Rattle.moldudp64.specs.declared.downstream.Downstream.{Downstream}
use Rattle.moldudp64.specs.Downstream.{DownstreamKind, data_packet, heartbeat, end_of_session, kind_of, block_count, refusal_of, values_of, downstream_of, downstream_words}
use Rattle.moldudp64.proofs.DownstreamLaws.{sound}
use Rattle.receiver.specs.declared.receiver.Receiver.{Receiver}
use Rattle.receiver.specs.declared.receiver.Taken.{Taken}
use Rattle.receiver.specs.Table.{table, numbered, answer_words}
use Rattle.receiver.specs.Receiver.{refusal_for, answer_of, receiver_after, number_read, below_read_at, refusal_read, row_read_at, row_read, answer_read, after_read, ReadAsWhole}
use Rattle.receiver.proofs.LadderLaws.{past-16}

module _ (r : Receiver) (l : List ℕ) where
  -- a datagram that the reader refuses
  module _ (bad : refusal_of l ≡ 0 → ⊥) where
    reads-refused : downstream_of l ≡ refuses (refusal_of l)
    unfolding downstream_of
    reads-refused = rw (ne_eqb _ _ bad)

    pub refuses-it : refusal_for r l ≡ refusal_of l
    unfolding refusal_for
    refuses-it = rw (ne_eqb _ _ bad)

    pub refused-read : refusal_read r l (downstream_of l) ≡ refusal_for r l
    unfolding refusal_read
    refused-read = rw (reads-refused, refuses-it, ne_eqb _ _ bad)

    refused_as : answer_read r l (downstream_of l) ≡ answer_of r l
    unfolding answer_read answer_of
    refused_as = rw (refused-read, refuses-it, ne_eqb _ _ bad)

    refused-left : after_read r l (downstream_of l) ≡ receiver_after r l
    unfolding after_read receiver_after
    refused-left = rw (refused-read, refuses-it, ne_eqb _ _ bad)

  -- one that is well-formed, by its kind
  module _ (well : refusal_of l ≡ 0) where
    pub reads : downstream_of l ≡ says (kind_of l) (values_of (kind_of l) l)
    unfolding downstream_of
    reads = rw well

    -- all of its messages can be numbered
    pub count-of : kind_of l ≡ data_packet → numbered (number_of l) (count_of l) ≡ count_of l
    unfolding block_count
    count-of e = let s = rw e at (sound l well).numbers_fit in omega arith

    pub number-of : (k : DownstreamKind) → number_read (says k (values_of k l)) ≡ number_of l
    number-of data_packet = refl
    number-of heartbeat = refl
    number-of end_of_session = refl

    pub refusal-as : (k : DownstreamKind) → kind_of l ≡ k → refusal_read r l (says k (values_of k l)) ≡ refusal_for r l
    unfolding refusal_read below_read_at
    refusal-as k e = rw (number-of k) (rw e at (past-16 r l well))

    pub row_as : (k : DownstreamKind) → kind_of l ≡ k → row_read r (says k (values_of k l)) ≡ table r.limit.0 r.next.0 k (number_of l) (count_of l)
    unfolding row_read_at table
    row_as data_packet e = rw (count-of e)
    row_as heartbeat e = refl
    row_as end_of_session e = refl

    well-as : answer_read r l (downstream_of l) ≡ answer_of r l
    unfolding answer_read answer_of
    well-as = rw (reads, refusal-as (kind_of l) refl, row_as (kind_of l) refl)

    well-left : after_read r l (downstream_of l) ≡ receiver_after r l
    unfolding after_read receiver_after
    well-left = rw (reads, refusal-as (kind_of l) refl, row_as (kind_of l) refl)

  pub by-reader : {P : Type 0} → ((refusal_of l ≡ 0 → ⊥) → P) → (refusal_of l ≡ 0 → P) → P
  by-reader {P} f g = go (eqb (refusal_of l) 0) refl
    where
      go : (t : Bool) → eqb (refusal_of l) 0 ≡ t → P
      go true e = g (eqb-true _ _ e)
      go false e = f (eqb-false _ _ e)

pub read-as-whole : ReadAsWhole
read-as-whole =
    record { answers = λ r l. by-reader r l (refused_as r l) (well-as r l); leaves = λ r l. by-reader r l (refused-left r l) (well-left r l) }

module _ (r : Receiver) (l : List ℕ) (p : Result Downstream Refusal) (x : Taken) (e : downstream_words p ≡ downstream_of l) where
  pub whole-answer : answer_words x.answer ≡ answer_read r l (downstream_words p) → answer_words x.answer ≡ answer_of r l
  whole-answer f = rw e at f ∙ read-as-whole.answers r l

  pub whole-after : x.receiver ≡ after_read r l (downstream_words p) → x.receiver ≡ receiver_after r l
  whole-after f = rw e at f ∙ read-as-whole.leaves r l
