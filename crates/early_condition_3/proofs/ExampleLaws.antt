-- A feed of seventy messages, some of them early, and two neighbours that swap places.
use Prim.Native.Nat.{ℕ, zero, suc, ◌+◌, ◌-◌, ◌<◌, ◌≤◌}
use mathlib.Core.Path.{◌≡◌, refl, ap, ◌∙◌}
use mathlib.Core.List.Memᴰ
use mathlib.Core.List.{List, [], ◌∷◌}
use mathlib.Core.Bool.{true, false}
use native.Mathlib.Omega.{arith}
use lib.ListN.{length, get_or, take, replicate}
use borrow.Author.Tests.{eq-eqb}
use Rattle.wire.specs.Bounds.{blank}
use Rattle.wire.specs.Bytes.{number, bytes, same_bytes}
use Rattle.wire.specs.Parts.{first_bytes}
use Rattle.moldudp64.specs.Header.{number_of, count_of, header}
use Rattle.moldudp64.specs.Blocks.{block_length, fits, all_fit, after_blocks, messages, blocks_refusal, blocks_of}
use Rattle.moldudp64.specs.Downstream.{data_packet, kind_of_count, kind_of, block_count, refusal_of, messages_of}
use Rattle.moldudp64.specs.Written.{encoded, encoded_end}
use Rattle.receiver.specs.Table.{table}
use Rattle.receiver.specs.Receiver.{receiver, name_by, other_session, end_below, own_refusal, refusal_for, receiver_start_refusal, start_receiver, answer_of, receiver_after}
use Rattle.receiver.specs.Delivery.{messages_delivered_at}
use Rattle.receiver.specs.Condition3.{plain}
use Rattle.receiver.specs.Witnesses.{name, a, b, c, data_at}
use Rattle.feed.specs.Session.{Datagram, Message, IsMessage, messages_from, OfKind, not_well_formed, true_data, true_end, AllOfKind}
use Rattle.feed.specs.Machine.{after, delivered}
use Rattle.feed.specs.Faithful.{on_its_name}
use Rattle.feed.proofs.FeedLaws.{inv-after, exact-after}
use Rattle.early_word.specs.Word.{bit, ones_of, zeros_of, past, marked}
use Rattle.early_holding.specs.declared.holding.EarlyReceiver.{EarlyReceiver}
use Rattle.early_holding.specs.Holding.{next_of, number_past, is_held, held_message, keeps, early}
use Rattle.early_receiver.specs.Early.{start_early, right_size, wanted_to, wanted, request_of}
use Rattle.early_receiver.proofs.AloneLaws.{keep_alone, one_alone, all_alone, kind_alone, after_alone, request_alone, request-alone}
use Rattle.early_messages.specs.Delivery.{delivery}
use Rattle.early_condition_3.specs.Condition3.{keeper}
use Rattle.early_condition_3.specs.Swapped.{Near}
use Rattle.early_condition_3.specs.Witnesses.{others, seventy, first, second, third, from_four, last_one, ending, begun, early_ones, up_to_first, feed, KeepsThem, NotVacuous, LeavesThird, SwappedExample}
use Rattle.early_condition_3.proofs.RunLaws.{cases}
use Rattle.early_condition_3.proofs.Reading.{of-held}
use Rattle.early_condition_3.proofs.NamedLaws.{Inv, Behind, keeps as keeps-named}
use Rattle.early_condition_3.proofs.ConditionLaws.{fresh-inv}
use Rattle.early_condition_3.proofs.ListLaws.{list_alone, list-alone, list-size}

-- ---- datagrams of the session

data-true : (f : ℕ) (ms : List Message) → kind_of (data_at f ms) ≡ data_packet → messages_of (data_at f ms) ≡ ms → number_of (data_at f ms) ≡ f
    → ((i : ℕ) → i < length ms → IsMessage seventy (f + i) (get_or ms i [])) → OfKind seventy (data_at f ms)
data-true f ms k m n t = true_data k (λ i h. rw (n, m) (t i (rw m at h)))

one-true : (f : ℕ) (m : Message) → IsMessage seventy f m → (i : ℕ) → i < 1 → IsMessage seventy (f + i) (get_or (m ∷ []) i [])
one-true f m t zero h = let z : f + 0 ≡ f = omega arith in rw z t
one-true f m t (suc i) h = absurd (omega arith)

pub first-true : OfKind seventy first
unfolding number bytes header blocks_of encoded number_of count_of kind_of_count block_count block_length fits all_fit after_blocks messages blocks_refusal refusal_of messages_of
first-true = data-true 1 (a ∷ []) refl refl refl (one-true 1 a (record { from_one = omega arith; to_last = omega arith; bytes = refl }))

pub second-true : OfKind seventy second
unfolding number bytes header blocks_of encoded number_of count_of kind_of_count block_count block_length fits all_fit after_blocks messages blocks_refusal refusal_of messages_of
second-true = data-true 2 (b ∷ []) refl refl refl (one-true 2 b (record { from_one = omega arith; to_last = omega arith; bytes = refl }))

third-true : OfKind seventy third
unfolding number bytes header blocks_of encoded number_of count_of kind_of_count block_count block_length fits all_fit after_blocks messages blocks_refusal refusal_of messages_of
third-true = data-true 3 (c ∷ []) refl refl refl (one-true 3 c (record { from_one = omega arith; to_last = omega arith; bytes = refl }))

last-true : OfKind seventy last_one
unfolding number bytes header blocks_of encoded number_of count_of kind_of_count block_count block_length fits all_fit after_blocks messages blocks_refusal refusal_of messages_of
last-true = data-true 70 ([] ∷ []) refl refl refl (one-true 70 [] (record { from_one = omega arith; to_last = omega arith; bytes = refl }))

four-true : OfKind seventy from_four
unfolding number bytes header blocks_of encoded number_of count_of kind_of_count block_count block_length fits all_fit after_blocks messages blocks_refusal refusal_of messages_of
four-true = data-true 4 others refl refl refl go
  where
    go : (i : ℕ) → i < 67 → IsMessage seventy (4 + i) (get_or others i [])
    go i h =
        let z : 4 + i - 1 ≡ suc (suc (suc i)) = omega arith in
        record { from_one = omega arith; to_last = omega arith; bytes = rw z refl }

end-true : OfKind seventy ending
unfolding number bytes header encoded_end number_of count_of kind_of_count
end-true = true_end refl refl

broken-true : OfKind seventy (replicate 19 0)
unfolding refusal_of
broken-true = not_well_formed (λ e. let z : ◌≡◌ {A = ℕ} 11 0 = e in omega arith)

-- ---- lists of them

pub in-front : {x : Datagram} {xs : List Datagram} → OfKind seventy x → AllOfKind seventy xs → AllOfKind seventy (x ∷ xs)
in-front o f d m = cases (Memᴰ.cases_cons m) (λ e. rw e o) (λ t. f d t)

pub none : AllOfKind seventy []
none d m = absurd (Memᴰ.not-nil m)

early-true : AllOfKind seventy early_ones
early-true = in-front third-true (in-front last-true (in-front second-true none))

first-too : AllOfKind seventy up_to_first
first-too = in-front third-true (in-front last-true (in-front second-true (in-front third-true (in-front first-true none))))

feed-true : AllOfKind seventy feed
feed-true =
    in-front third-true (in-front last-true (in-front second-true (in-front third-true (in-front first-true (in-front end-true (in-front four-true (in-front broken-true (in-front end-true none))))))))

pub not_blank : seventy.name ≡ blank → ⊥
not_blank e = let z : ◌≡◌ {A = ℕ} 82 32 = ap (λ (l : List ℕ). get_or l 0 0) e in omega arith

-- ---- the receiver alone, computed

abbrev alone : EarlyReceiver
alone = early (receiver name 1 100 false) 0

-- numbers 2 and 3 are held
early-alone : list_alone alone early_ones ≡ early (receiver name 1 100 false) 3
unfolding number bytes header blocks_of encoded encoded_end number_of count_of kind_of_count block_count block_length fits all_fit after_blocks messages blocks_refusal refusal_of messages_of same_bytes name_by first_bytes other_session end_below own_refusal refusal_for list_alone after_alone kind_alone all_alone one_alone keep_alone keeps is_held bit ones_of past marked number_past
early-alone = refl

first_alone : list_alone alone up_to_first ≡ early (receiver name 4 100 false) 0
unfolding number bytes header blocks_of encoded encoded_end number_of count_of kind_of_count block_count block_length fits all_fit after_blocks messages blocks_refusal refusal_of messages_of same_bytes name_by first_bytes other_session end_below own_refusal refusal_for list_alone after_alone kind_alone all_alone one_alone keep_alone keeps is_held bit ones_of past marked number_past
first_alone = refl

feed-alone : list_alone alone feed ≡ early (receiver name 71 100 true) 0
unfolding number bytes header blocks_of encoded encoded_end number_of count_of kind_of_count block_count block_length fits all_fit after_blocks messages blocks_refusal refusal_of messages_of same_bytes name_by first_bytes other_session end_below own_refusal refusal_for list_alone after_alone kind_alone all_alone one_alone keep_alone keeps is_held bit ones_of past marked number_past
feed-alone = refl

-- number 3 is held
swapped-alone : list_alone alone (third ∷ first ∷ []) ≡ early (receiver name 2 100 false) 1
unfolding number bytes header blocks_of encoded encoded_end number_of count_of kind_of_count block_count block_length fits all_fit after_blocks messages blocks_refusal refusal_of messages_of same_bytes name_by first_bytes other_session end_below own_refusal refusal_for list_alone after_alone kind_alone all_alone one_alone keep_alone keeps is_held bit ones_of past marked number_past
swapped-alone = refl

in-order-alone : list_alone alone (first ∷ third ∷ []) ≡ early (receiver name 2 100 false) 1
unfolding number bytes header blocks_of encoded encoded_end number_of count_of kind_of_count block_count block_length fits all_fit after_blocks messages blocks_refusal refusal_of messages_of same_bytes name_by first_bytes other_session end_below own_refusal refusal_for list_alone after_alone kind_alone all_alone one_alone keep_alone keeps is_held bit ones_of past marked number_past
in-order-alone = refl

third-asks : request_alone alone third ≡ 1 ∷ 2 ∷ []
unfolding number bytes header blocks_of encoded encoded_end number_of count_of kind_of_count block_count block_length fits all_fit after_blocks messages blocks_refusal refusal_of messages_of same_bytes name_by first_bytes other_session end_below own_refusal refusal_for list_alone after_alone kind_alone all_alone one_alone keep_alone keeps is_held bit ones_of past marked number_past request_alone wanted wanted_to zeros_of
third-asks = refl

end-asks : request_alone (early (receiver name 4 100 false) 0) ending ≡ 4 ∷ 67 ∷ []
unfolding number bytes header blocks_of encoded encoded_end number_of count_of kind_of_count block_count block_length fits all_fit after_blocks messages blocks_refusal refusal_of messages_of same_bytes name_by first_bytes other_session end_below own_refusal refusal_for list_alone after_alone kind_alone all_alone one_alone keep_alone keeps is_held bit ones_of past marked number_past request_alone wanted wanted_to zeros_of
end-asks = refl

plain-alone : delivered plain (receiver name 1 100 false) feed ≡ a ∷ []
unfolding number bytes header blocks_of encoded encoded_end number_of count_of kind_of_count block_count block_length fits all_fit after_blocks messages blocks_refusal refusal_of messages_of same_bytes name_by first_bytes other_session end_below own_refusal refusal_for table answer_of receiver_after messages_delivered_at delivered
plain-alone = refl

-- ---- and with what is lent to it

module _ (lengths slots : List ℕ) (g : length lengths ≡ 128) (k : length slots ≡ 65536) where
  pub size : right_size (begun lengths slots) ≡ true
  size = rw (eq-eqb _ _ g, eq-eqb _ _ k)

  -- what a list leaves of the receiver
  module _ (ds : List Datagram) (q : EarlyReceiver) (e : list_alone alone ds ≡ q) (o : AllOfKind seventy ds) where
    leaves : (after keeper (begun lengths slots) ds).receiver ≡ q
    leaves = list-alone delivery ds (begun lengths slots) size ∙ e

    brought : Inv seventy not_blank (after keeper (begun lengths slots) ds)
    brought =
        inv-after keeper seventy (OfKind seventy) (Inv seventy not_blank) (Behind seventy not_blank) (keeps-named seventy not_blank) (begun lengths slots) ds
        (fresh-inv seventy 1 100 lengths slots not_blank (omega arith) (omega arith) g k) o

    holds : (j : ℕ) → is_held q j ≡ true → is_held (after keeper (begun lengths slots) ds).receiver j ≡ true
    holds j h = ap (λ (r : EarlyReceiver). is_held r j) leaves ∙ h

    has : (j : ℕ) → is_held q j ≡ true → held_message (after keeper (begun lengths slots) ds) j ≡ get_or seventy.messages (j - 1) []
    has j h =
        let t = after keeper (begun lengths slots) ds in
        (brought.hold.is_true j (held_message t j) (of-held t j (holds j h))).bytes

    gives : delivered keeper (begun lengths slots) ds ≡ messages_from seventy 1 (next_of q)
    gives =
        exact-after keeper seventy (OfKind seventy) (Inv seventy not_blank) (Behind seventy not_blank) (keeps-named seventy not_blank) (begun lengths slots) ds
        (fresh-inv seventy 1 100 lengths slots not_blank (omega arith) (omega arith) g k) o
        ∙ ap (λ (r : EarlyReceiver). messages_from seventy 1 (next_of r)) leaves

  asks : (ds : List Datagram) (q : EarlyReceiver) (d : Datagram) (w : List ℕ) → list_alone alone ds ≡ q → request_alone q d ≡ w
      → request_of (after keeper (begun lengths slots) ds) d ≡ w
  asks ds q d w e f =
      request-alone (after keeper (begun lengths slots) ds) d (list-size delivery ds (begun lengths slots) size)
      ∙ ap (λ (r : EarlyReceiver). request_alone r d) (list-alone delivery ds (begun lengths slots) size ∙ e) ∙ f

  keeps_them : KeepsThem lengths slots
  unfolding is_held bit messages_from
  keeps_them =
      record {
        opens = on_its_name not_blank refl;
        asks_first = request-alone (begun lengths slots) third size ∙ third-asks;
        still_one = ap next_of (leaves early_ones _ early-alone early-true);
        holds_second = holds early_ones _ early-alone early-true 2 refl;
        holds_third = holds early_ones _ early-alone early-true 3 refl;
        left_last = ap (λ (r : EarlyReceiver). is_held r 70) (leaves early_ones _ early-alone early-true);
        has_second = has early_ones _ early-alone early-true 2 refl;
        has_third = has early_ones _ early-alone early-true 3 refl;
        three_at_once = gives up_to_first _ first_alone first-too;
        asks_to_end = asks up_to_first _ ending _ first_alone end-asks;
        delivers_all = gives feed _ feed-alone feed-true;
        ends = leaves feed _ feed-alone feed-true;
      }

  leaves-third : (ds : List Datagram) → list_alone alone ds ≡ early (receiver name 2 100 false) 1 → AllOfKind seventy ds → LeavesThird (begun lengths slots) ds
  unfolding is_held bit messages_from
  leaves-third ds e o =
      record {
        number = ap next_of (leaves ds _ e o);
        holds_third = holds ds _ e o 3 refl;
        has_third = has ds _ e o 3 refl;
        delivers_first = gives ds _ e o;
      }

pub not_vacuous : NotVacuous
unfolding receiver_start_refusal start_receiver start_early
not_vacuous =
    record {
      not_refused = refl;
      starts = refl;
      of_kind = feed-true;
      keeps_them = keeps_them;
      plain_delivers = plain-alone;
    }

-- ---- two neighbours

near_by : (d : Datagram) (f : ℕ) (m : Message) → refusal_of d ≡ 0 → take 10 d ≡ name → kind_of d ≡ data_packet → OfKind seventy d → number_of d ≡ f → count_of d ≡ 1
    → messages_of d ≡ m ∷ [] → 1 ≤ f → f ≤ 65 → length m ≤ 1024 → Near seventy 1 d
near_by d f m w n k o e h ms lo hi s =
    record {
      is_well_formed = w;
      name = n;
      is_of_data = k;
      of_kind = o;
      from_next = omega arith;
      to_reach = omega arith;
      short = λ i b. rw ms (only i (rw ms at b));
    }
  where
    only : (i : ℕ) → i < 1 → length (get_or (m ∷ []) i []) ≤ 1024
    only zero b = s
    only (suc i) b = absurd (omega arith)

first_near : Near seventy 1 first
unfolding number bytes header blocks_of encoded number_of count_of kind_of_count block_count block_length fits all_fit after_blocks messages blocks_refusal refusal_of messages_of
first_near = near_by first 1 a refl refl refl first-true refl refl refl (omega arith) (omega arith) (omega arith)

third_near : Near seventy 1 third
unfolding number bytes header blocks_of encoded number_of count_of kind_of_count block_count block_length fits all_fit after_blocks messages blocks_refusal refusal_of messages_of
third_near = near_by third 3 c refl refl refl third-true refl refl refl (omega arith) (omega arith) (omega arith)

pub swapped-example : SwappedExample
swapped-example =
    record {
      first_near = first_near;
      third_near = third_near;
      in_order = λ lengths slots g k. leaves-third lengths slots g k (first ∷ third ∷ []) in-order-alone (in-front first-true (in-front third-true none));
      swapped = λ lengths slots g k. leaves-third lengths slots g k (third ∷ first ∷ []) swapped-alone (in-front third-true (in-front first-true none));
    }
