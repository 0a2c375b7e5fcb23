-- What is promised of a store's answers.
use Rattle.std.specs.Prelude.{ℕ, ◌-◌, ◌≤◌, ◌<◌, true, false, ◌≡◌, length, take, drop}
use mathlib.Core.List.{List, [], ◌∷◌, Memᴰ}
use Rattle.wire.specs.Bounds.{session_size, blank}
use Rattle.wire.specs.Words.{says}
use Rattle.wire.specs.Output.{wrote}
use Rattle.moldudp64.specs.Header.{number_of, count_of}
use Rattle.moldudp64.specs.Downstream.{data_packet, heartbeat, kind_of, refusal_of}
use Rattle.moldudp64_writer.specs.RoundTrips.{DatagramReadsAs}
use Rattle.receiver.specs.declared.receiver.Receiver.{Receiver}
use Rattle.receiver.specs.Receiver.{receiver_start_refusal}
use Rattle.packing.specs.Fit.{room_of, fits_alone, Most}
use Rattle.store.specs.Store.{Store, messages_in, store_ground, place_of, in_store, length_at, how_many, chosen}
use Rattle.store.specs.Rounds.{replied, sent, after_round, after_rounds, given_in_all}

-- ---- an answer

-- the bytes that are reported are one downstream packet from the wanted number on, of at most the size, with the
-- store's messages there, at least one, the most that fit up to the count wanted
pub record IsAnswer (st : Store) (size : ℕ) (q : List ℕ) (bytes : ℕ) (p : List ℕ) : Type 0 where
  pub small : bytes ≤ size
  pub some : 1 ≤ how_many st size (number_of q) (count_of q)
  pub most : Most (room_of size) (take (count_of q) (drop (place_of st (number_of q)) st.lengths))
      (how_many st size (number_of q) (count_of q))
  pub reads : DatagramReadsAs p st.session data_packet (number_of q ∷ how_many st size (number_of q) (count_of q) ∷ [])
      (chosen st size (number_of q) (count_of q))

abbrev pub EveryAnswerReadsBack : Type 0
EveryAnswerReadsBack = (st : Store) (size : ℕ) (q o : List ℕ) (bytes : ℕ) → length st.session ≡ session_size
    → replied st size q o ≡ says wrote (bytes ∷ []) → IsAnswer st size q bytes (sent st size q o)

-- ---- progress

-- a number is in the store, and its message fits
pub record Had (st : Store) (size n : ℕ) : Type 0 where
  pub there : in_store st n ≡ true
  pub fits : fits_alone (room_of size) (length_at st n) ≡ true

-- a heartbeat of the store's session, which is read without refusal
pub record HeartbeatOf (st : Store) (h : List ℕ) : Type 0 where
  pub is_well_formed : refusal_of h ≡ 0
  pub kind : kind_of h ≡ heartbeat
  pub name : take session_size h ≡ st.session

-- a started, unended receiver of the store's session, whose name isn't blank; a store and a size not refused 19 or 44;
-- every missing number, from the receiver's to just below the heartbeat's, is in the store and fits
pub record Serves (st : Store) (size : ℕ) (h : List ℕ) (r : Receiver) : Type 0 where
  pub ten : length st.session ≡ session_size
  pub named : st.session ≡ blank → ⊥
  pub good : store_ground st size ≡ 0
  pub beat : HeartbeatOf st h
  pub started : receiver_start_refusal r.next.0 r.limit.0 ≡ 0
  pub unended : r.ended ≡ false
  pub same : r.session ≡ st.session
  pub had : (n : ℕ) → r.next.0 ≤ n → n < number_of h → Had st size n

-- a round moves the receiver on, not past the heartbeat's number, and leaves all of that true
pub record MovesOn (st : Store) (size : ℕ) (h : List ℕ) (r x : Receiver) : Type 0 where
  pub on : r.next.0 < x.next.0
  pub not_past : x.next.0 ≤ number_of h
  pub still : Serves st size h x

abbrev pub EachRoundMovesOn : Type 0
EachRoundMovesOn = (st : Store) (size : ℕ) (h : List ℕ) (r : Receiver) (o : List ℕ) → Serves st size h r
    → r.next.0 < number_of h → size ≤ length o
    → MovesOn st size h r (after_round st size h r o)

-- so k missing messages need at most k rounds, and what the rounds deliver is the store's messages of the missing
-- numbers, in order, each once
pub record Recovers (st : Store) (size : ℕ) (h : List ℕ) (r : Receiver) (os : List (List ℕ)) : Type 0 where
  pub reached : (after_rounds st size h r os).next.0 ≡ number_of h
  pub delivered : given_in_all st size h r os
      ≡ take (number_of h - r.next.0) (drop (place_of st r.next.0) (messages_in st))

abbrev pub AtMostAsManyRounds : Type 0
AtMostAsManyRounds = (st : Store) (size : ℕ) (h : List ℕ) (r : Receiver) (os : List (List ℕ)) → Serves st size h r
    → r.next.0 ≤ number_of h
    → ((o : List ℕ) → Memᴰ o os → size ≤ length o)
    → number_of h - r.next.0 ≤ length os
    → Recovers st size h r os

pub record StorePromises : Type 0 where
  pub every_answer_reads_back : EveryAnswerReadsBack
  pub each_round_moves_on : EachRoundMovesOn
  pub at_most_as_many_rounds : AtMostAsManyRounds
