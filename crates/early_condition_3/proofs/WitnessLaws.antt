-- What the statements rule out: receivers that deliver or hold wrongly, each caught at a few datagrams.
use Prim.Native.Nat.{ℕ, suc}
use mathlib.Core.Path.{◌≡◌, refl, ap, sym, ◌∙◌}
use mathlib.Core.List.{List, [], ◌∷◌, ◌++◌}
use mathlib.Core.Bool.{true, false, true≢false}
use native.Mathlib.Omega.{arith}
use lib.ListN.{length, replicate, length-replicate, length-append}
use borrow.Author.Tests.{eq-eqb}
use Rattle.wire.specs.Bytes.{number, bytes, same_bytes}
use Rattle.wire.specs.Parts.{first_bytes}
use Rattle.moldudp64.specs.Header.{number_of, count_of, header}
use Rattle.moldudp64.specs.Blocks.{block_length, fits, all_fit, after_blocks, messages, blocks_refusal, blocks_of}
use Rattle.moldudp64.specs.Downstream.{kind_of_count, block_count, refusal_of, messages_of}
use Rattle.moldudp64.specs.Written.{encoded, encoded_end}
use Rattle.receiver.specs.declared.receiver.Receiver.{Receiver}
use Rattle.receiver.specs.Table.{table}
use Rattle.receiver.specs.Receiver.{receiver, name_by, other_session, end_below, own_refusal, refusal_for, receiver_start_refusal, start_receiver, answer_of, receiver_after}
use Rattle.receiver.specs.Delivery.{messages_delivered_at, messages_delivered}
use Rattle.receiver.specs.Condition3.{plain, Condition3For}
use Rattle.receiver.specs.Witnesses.{name, a, c, data_at, end_at}
use Rattle.receiver.proofs.ConditionLaws.{condition_3}
use Rattle.feed.specs.Session.{Datagram, Session, messages_from, AllOfKind}
use Rattle.feed.specs.Machine.{after, delivered}
use Rattle.feed.specs.Faithful.{on_its_name, Faithful}
use Rattle.early_word.specs.Word.{bit, ones_of, past, marked}
use Rattle.early_holding.specs.declared.holding.EarlyReceiver.{EarlyReceiver}
use Rattle.early_holding.specs.Holding.{Lent, lent, early, next_of, number_past, is_held, held_message, keeps, keep, keep_one, take_one, take_all}
use Rattle.early_receiver.specs.Early.{start_early, right_size, early_refusal, named_lent, lent_after}
use Rattle.early_receiver.proofs.AloneLaws.{keep_alone, one_alone, all_alone, kind_alone, after_alone, all-alone, refusal-alone, after-alone, size-stays}
use Rattle.early_messages.specs.Delivery.{delivered_count, delivery}
use Rattle.early_condition_3.specs.Condition3.{StepRule, GivesRule, machine_of, EarlyCondition3For}
use Rattle.early_condition_3.specs.Rule.{Sound, FollowsTheRule}
use Rattle.early_condition_3.specs.Witnesses.{seventy, first, second, third, begun, own_alone, at_once_too, keep_again, keep_all_again, overwrites, stays_marked, holds_nothing, NotWeak}
use Rattle.early_condition_3.proofs.KeepLaws.{keep-own, keep-sound}
use Rattle.early_condition_3.proofs.StepLaws.{empty-sound}
use Rattle.early_condition_3.proofs.PlaceLaws.{places-length}
use Rattle.early_condition_3.proofs.PlainLaws.{plain-opens}
use Rattle.early_condition_3.proofs.ListLaws.{list_alone, list-alone}
use Rattle.early_condition_3.proofs.ExampleLaws.{first-true, second-true, in-front, none, not_blank, size}

-- ---- what condition 3 says at the session, of a receiver that goes on as ours does

abbrev two : List Datagram
two = second ∷ first ∷ []

two-true : AllOfKind seventy two
two-true = in-front second-true (in-front first-true none)

module _ (lengths slots : List ℕ) (g : length lengths ≡ 128) (k : length slots ≡ 65536) where
  at-session : (step : StepRule) (gives : GivesRule) → EarlyCondition3For step gives → Faithful (machine_of step gives) seventy 1 (begun lengths slots) [] []
  unfolding EarlyCondition3For receiver_start_refusal start_receiver start_early
  at-session step gives f = f seventy name 1 100 lengths slots [] [] refl (omega arith) (omega arith) g k (on_its_name not_blank refl)

  -- the second comes early, and with the first the number is 3
  after_two : list_alone (begun lengths slots).receiver two ≡ early (receiver name 3 100 false) 0
  unfolding number bytes header blocks_of encoded encoded_end number_of count_of kind_of_count block_count block_length fits all_fit after_blocks messages blocks_refusal refusal_of messages_of same_bytes name_by first_bytes other_session end_below own_refusal refusal_for list_alone after_alone kind_alone all_alone one_alone keep_alone keeps is_held bit ones_of past marked number_past
  after_two = refl

  two-delivered : (gives : GivesRule) → EarlyCondition3For lent_after gives → length (delivered (machine_of lent_after gives) (begun lengths slots) two) ≡ 2
  unfolding messages_from
  two-delivered gives f =
      ap length ((at-session lent_after gives f).delivers_true two two-true).exactly
      ∙ ap (λ (r : EarlyReceiver). length (messages_from seventy 1 (next_of r))) (list-alone gives two (begun lengths slots) (size lengths slots g k) ∙ after_two)

  -- after the second alone
  abbrev later : Lent
  later = lent_after (begun lengths slots) second

  later-is : later.receiver ≡ early (receiver name 1 100 false) 1
  unfolding number bytes header blocks_of encoded encoded_end number_of count_of kind_of_count block_count block_length fits all_fit after_blocks messages blocks_refusal refusal_of messages_of same_bytes name_by first_bytes other_session end_below own_refusal refusal_for list_alone after_alone kind_alone all_alone one_alone keep_alone keeps is_held bit ones_of past marked number_past
  later-is = after-alone (begun lengths slots) second (size lengths slots g k)

  own-one : length (delivered (machine_of lent_after own_alone) (begun lengths slots) two) ≡ 1
  unfolding number bytes header blocks_of encoded encoded_end number_of count_of kind_of_count block_count block_length fits all_fit after_blocks messages blocks_refusal refusal_of messages_of same_bytes name_by first_bytes other_session end_below own_refusal refusal_for table answer_of messages_delivered_at delivered
  own-one = rw later-is refl

  own_alone_breaks : EarlyCondition3For lent_after own_alone → ⊥
  own_alone_breaks f = let e = two-delivered own_alone f in let h = own-one in omega arith

  -- the first delivers two
  later-two : delivered_count later first ≡ 2
  unfolding number bytes header blocks_of encoded encoded_end number_of count_of kind_of_count block_count block_length fits all_fit after_blocks messages blocks_refusal refusal_of messages_of same_bytes name_by first_bytes other_session end_below own_refusal refusal_for list_alone after_alone kind_alone all_alone one_alone keep_alone keeps is_held bit ones_of past marked number_past delivered_count
  later-two =
      rw (after-alone later first (size-stays (begun lengths slots) second (size lengths slots g k)), later-is) refl

  later-gives : at_once_too later first ≡ delivery later first
  unfolding number bytes header blocks_of encoded encoded_end number_of count_of kind_of_count block_count block_length fits all_fit after_blocks messages blocks_refusal refusal_of messages_of same_bytes name_by first_bytes other_session end_below own_refusal refusal_for
  later-gives = rw later-is refl

  at-once-three : length (delivered (machine_of lent_after at_once_too) (begun lengths slots) two) ≡ 3
  unfolding number bytes header blocks_of encoded encoded_end number_of count_of kind_of_count block_count block_length fits all_fit after_blocks messages blocks_refusal refusal_of messages_of same_bytes name_by first_bytes other_session end_below own_refusal refusal_for delivered
  at-once-three =
      let e : length (at_once_too later first ++ []) ≡ 2 =
      length-append (at_once_too later first) [] ∙ rw (later-gives, places-length later first 0 (delivered_count later first), later-two) refl in
      ap suc e

  at_once_too_breaks : EarlyCondition3For lent_after at_once_too → ⊥
  at_once_too_breaks f = let e = two-delivered at_once_too f in let h = at-once-three in omega arith

  -- ---- the third is held, and another message of its number comes

  abbrev held : Lent
  held = keep (begun lengths slots) 3 c

  abbrev another : Datagram
  another = data_at 3 (a ∷ [])

  begun-sound : Sound (begun lengths slots)
  begun-sound = empty-sound (receiver name 1 100 false) lengths slots g k

  held-sound : Sound held
  unfolding keeps is_held bit
  held-sound = keep-sound (begun lengths slots) 3 c begun-sound refl (omega arith)

  held-open : early_refusal held another ≡ 0
  unfolding number bytes header blocks_of encoded encoded_end number_of count_of kind_of_count block_count block_length fits all_fit after_blocks messages blocks_refusal refusal_of messages_of same_bytes name_by first_bytes other_session end_below own_refusal refusal_for keep
  held-open = refusal-alone held another (rw (eq-eqb _ _ held-sound.size, eq-eqb _ _ held-sound.noted))

  written_over : overwrites held another ≡ keep held 3 a
  unfolding number bytes header blocks_of encoded encoded_end number_of count_of kind_of_count block_count block_length fits all_fit after_blocks messages blocks_refusal refusal_of messages_of same_bytes name_by first_bytes other_session end_below own_refusal refusal_for keep keep_again keep_all_again
  written_over = refl

  left_alone : take_all (named_lent held another) (number_of another) (messages_of another) ≡ held
  unfolding number bytes header blocks_of encoded encoded_end number_of count_of kind_of_count block_count block_length fits all_fit after_blocks messages blocks_refusal refusal_of messages_of same_bytes name_by first_bytes other_session end_below own_refusal refusal_for keep take_all take_one keep_one keeps is_held bit marked
  left_alone = refl

  overwrites_breaks : FollowsTheRule overwrites delivery → ⊥
  unfolding number bytes header blocks_of encoded count_of kind_of_count
  overwrites_breaks f =
      let e : keep held 3 a ≡ held = sym written_over ∙ f.data_taken held another held-open refl ∙ left_alone in
      let x : a ≡ c =
      sym (keep-own held 3 a held-sound (omega arith)) ∙ ap (λ (t : Lent). held_message t 3) e
      ∙ keep-own (begun lengths slots) 3 c begun-sound (omega arith) in
      let z : ◌≡◌ {A = ℕ} 1 2 = ap length x in
      omega arith

  -- ---- number 3 is held, and the session ends at 1

  abbrev waiting : Lent
  waiting = lent (early (receiver name 1 100 false) 2) lengths slots

  waiting-size : right_size waiting ≡ true
  waiting-size = rw (eq-eqb _ _ g, eq-eqb _ _ k)

  waiting-open : early_refusal waiting (end_at 1) ≡ 0
  unfolding number bytes header blocks_of encoded encoded_end number_of count_of kind_of_count block_count block_length fits all_fit after_blocks messages blocks_refusal refusal_of messages_of same_bytes name_by first_bytes other_session end_below own_refusal refusal_for
  waiting-open = refusal-alone waiting (end_at 1) waiting-size

  waiting-ends : (lent_after waiting (end_at 1)).receiver ≡ early (receiver name 1 100 true) 0
  unfolding number bytes header blocks_of encoded encoded_end number_of count_of kind_of_count block_count block_length fits all_fit after_blocks messages blocks_refusal refusal_of messages_of same_bytes name_by first_bytes other_session end_below own_refusal refusal_for list_alone after_alone kind_alone all_alone one_alone keep_alone keeps is_held bit ones_of past marked number_past
  waiting-ends = after-alone waiting (end_at 1) waiting-size

  still_marked : is_held (stays_marked waiting (end_at 1)).receiver 3 ≡ true
  unfolding is_held bit
  still_marked = rw waiting-ends refl

  stays_marked_breaks : FollowsTheRule stays_marked delivery → ⊥
  unfolding number bytes header encoded_end number_of count_of kind_of_count
  stays_marked_breaks f =
      true≢false (sym still_marked ∙ (f.end_ends waiting (end_at 1) waiting-open refl refl).0.nothing_held 3)

  -- ---- nothing is ever held

  begun-open : early_refusal (begun lengths slots) third ≡ 0
  unfolding number bytes header blocks_of encoded encoded_end number_of count_of kind_of_count block_count block_length fits all_fit after_blocks messages blocks_refusal refusal_of messages_of same_bytes name_by first_bytes other_session end_below own_refusal refusal_for
  begun-open = refusal-alone (begun lengths slots) third (size lengths slots g k)

  third-held : (take_all (named_lent (begun lengths slots) third) (number_of third) (messages_of third)).receiver.held.0 ≡ 2
  unfolding number bytes header blocks_of encoded encoded_end number_of count_of kind_of_count block_count block_length fits all_fit after_blocks messages blocks_refusal refusal_of messages_of same_bytes name_by first_bytes other_session end_below own_refusal refusal_for list_alone after_alone kind_alone all_alone one_alone keep_alone keeps is_held bit ones_of past marked number_past
  third-held =
      ap (λ (r : EarlyReceiver). r.held.0) (all-alone (messages_of third) (named_lent (begun lengths slots) third) (number_of third))

  holds_nothing_breaks : FollowsTheRule holds_nothing own_alone → ⊥
  unfolding number bytes header blocks_of encoded count_of kind_of_count
  holds_nothing_breaks f =
      let e = ap (λ (t : Lent). t.receiver.held.0) (f.data_taken (begun lengths slots) third begun-open refl) in
      let z : ◌≡◌ {A = ℕ} 0 2 = e ∙ third-held in
      omega arith

-- ---- the one that holds nothing is the plain receiver: condition 3 is that one's

module _ (lengths slots : List ℕ) where
  abbrev with-lent : Receiver → Lent
  with-lent r = lent (early r 0) lengths slots

  same_after : (ds : List Datagram) (r : Receiver) → after (machine_of holds_nothing own_alone) (with-lent r) ds ≡ with-lent (after plain r ds)
  unfolding after
  same_after [] r = refl
  same_after (d ∷ ds) r = same_after ds (receiver_after r d)

  same-delivered : (ds : List Datagram) (r : Receiver) → delivered (machine_of holds_nothing own_alone) (with-lent r) ds ≡ delivered plain r ds
  unfolding delivered
  same-delivered [] r = refl
  same-delivered (d ∷ ds) r = ap (λ (l : List (List ℕ)). messages_delivered (answer_of r d) d ++ l) (same-delivered ds (receiver_after r d))

  as_plain : (s : Session) (start : ℕ) (r : Receiver) (refused naming : List Datagram) → Faithful plain s start r refused naming
      → Faithful (machine_of holds_nothing own_alone) s start (with-lent r) refused naming
  as_plain s start r refused naming f =
      record {
        delivers_true = λ ds o.
            let t = f.delivers_true ds o in
            let all = refused ++ (naming ++ ds) in
            let n : next_of (after (machine_of holds_nothing own_alone) (with-lent r) all).receiver ≡ (after plain r all).next.0 =
            ap (λ (x : Lent). next_of x.receiver) (same_after all r) in
            record {
              from_start = rw n t.from_start;
              to_last = rw n t.to_last;
              exactly = same-delivered all r ∙ t.exactly ∙ ap (messages_from s start) (sym n);
            };
        one_more = λ before rest d o p.
            let t = f.one_more before rest d o p in
            let shorter = refused ++ (naming ++ (before ++ rest)) in
            let longer = refused ++ (naming ++ (before ++ d ∷ rest)) in
            record {
              as_many = rw (same-delivered shorter r, same-delivered longer r) t.as_many;
              ended_too = λ e.
                  ap (λ (x : Lent). x.receiver.base.ended) (same_after longer r)
                  ∙ t.ended_too (sym (ap (λ (x : Lent). x.receiver.base.ended) (same_after shorter r)) ∙ e);
            };
      }

never_holds : EarlyCondition3For holds_nothing own_alone
unfolding EarlyCondition3For Condition3For start_early
never_holds s name start limit lengths slots refused naming e h l g k o =
    as_plain lengths slots s start (start_receiver name start limit) refused naming
    (condition_3 s name start limit refused naming e h l (plain-opens s name start limit lengths slots g k o))

-- ---- lent some bytes of their size

-- what some list of a length breaks is broken
with-zeros : (n : ℕ) (P : Type 0) → ((l : List ℕ) → length l ≡ n → P) → P
with-zeros n P f = f (replicate n 0) (length-replicate {A = ℕ} n 0)

with-lists : (P : Type 0) → ((lengths slots : List ℕ) → length lengths ≡ 128 → length slots ≡ 65536 → P) → P
with-lists P f = with-zeros 128 P (λ lengths g. with-zeros 65536 P (λ slots k. f lengths slots g k))

pub not_weak : NotWeak
not_weak =
    record {
      own_alone_breaks = λ f. with-lists ⊥ (λ lengths slots g k. own_alone_breaks lengths slots g k f);
      at_once_too_breaks = λ f. with-lists ⊥ (λ lengths slots g k. at_once_too_breaks lengths slots g k f);
      overwrites_breaks = λ f. with-lists ⊥ (λ lengths slots g k. overwrites_breaks lengths slots g k f);
      stays_marked_breaks = λ f. with-lists ⊥ (λ lengths slots g k. stays_marked_breaks lengths slots g k f);
      never_holds = never_holds;
      holds_nothing_breaks = λ f. with-lists ⊥ (λ lengths slots g k. holds_nothing_breaks lengths slots g k f);
    }
