-- Condition 3 speaks of something, and rules something out: one feed, and receivers that idle, do too much or too little.
use Prim.Native.Nat.{ℕ, zero, suc, ◌+◌, ◌<◌, ◌≤◌}
use mathlib.Core.Path.{◌≡◌, refl, ap, sym, ◌∙◌}
use mathlib.Core.List.Memᴰ
use mathlib.Core.List.{List, [], ◌∷◌, Memᴰ}
use mathlib.Core.Logic.{⊎_elim}
use mathlib.Core.Bool.{true, false}
use native.Mathlib.Omega.{arith}
use lib.ListN.{length, get_or, take, replicate}
use Rattle.wire.specs.Bytes.{number, bytes, same_bytes}
use Rattle.wire.specs.Parts.{first_bytes}
use Rattle.wire.proofs.Words.{which-of}
use Rattle.moldudp64.specs.Header.{number_of, count_of, header}
use Rattle.moldudp64.specs.Blocks.{block_length, fits, all_fit, after_blocks, messages, blocks_refusal, blocks_of}
use Rattle.moldudp64.specs.Downstream.{DownstreamKind, data_packet, kind_of_count, kind_of, block_count, refusal_of, messages_of}
use Rattle.moldudp64.specs.Written.{encoded, encoded_end}
use Rattle.receiver.specs.declared.receiver.Receiver.{Receiver}
use Rattle.receiver.specs.Table.{Outcome, Row, data_reaches, data_below, heartbeat_below, heartbeat_there, any_above, end_there, deliver_outcome, ask_outcome, table}
use Rattle.wire.specs.Bounds.{blank}
use Rattle.receiver.specs.Receiver.{receiver, name_by, other_session, end_below, own_refusal, refusal_for, after_row, receiver_start_refusal, start_receiver, answer_of, receiver_after}
use Rattle.receiver.proofs.StartLaws.{started}
use Rattle.receiver.specs.Statements.{AnswerRule, StepRule, Follows}
use Rattle.receiver.specs.Delivery.{messages_delivered_at, messages_delivered}
use Rattle.feed.specs.Session.{Datagram, Message, Session, last_of, IsMessage, messages_from, OfKind, not_well_formed, another_name, any_heartbeat, true_data, true_end, All, AllOfKind}
use Rattle.feed.specs.Machine.{after, delivered}
use Rattle.feed.specs.Faithful.{Opens, on_its_name, learns_it, Faithful}
use Rattle.receiver.specs.Condition3.{machine_of, Condition3For}
use Rattle.receiver.specs.Witnesses.{name, a, b, c, session, data_at, heartbeat_at, end_at, fresh, feed, unnamed_fresh, other_name, end_below_it, refused_first, naming, behind_naming, NotVacuous, stays_put, refuses_all, old_to_all, asks_always, all_at_once, moves_past_all, overlap_old, overlap_stays, jump_delivers, jumps, refuses_blank, stays_blank, learns_refused, answers_all, learns_twice, FollowsAtFirst, NotWeak}
use Rattle.feed.proofs.FeedLaws.{none_from, Keeps, faithful, led}

-- ---- datagrams of the session

-- data whose messages are the session's, at a place from 0
pub data-true : (f : ℕ) (ms : List Message) → kind_of (data_at f ms) ≡ data_packet → messages_of (data_at f ms) ≡ ms → number_of (data_at f ms) ≡ f
    → ((i : ℕ) → i < length ms → IsMessage session (f + i) (get_or ms i [])) → OfKind session (data_at f ms)
data-true f ms k m n t = true_data k (λ i h. rw (n, m) (t i (rw m at h)))

two-true : OfKind session (data_at 1 (a ∷ b ∷ []))
unfolding number bytes header blocks_of encoded number_of count_of kind_of_count block_count block_length fits all_fit after_blocks messages blocks_refusal refusal_of messages_of
two-true = data-true 1 (a ∷ b ∷ []) refl refl refl go
  where
    go : (i : ℕ) → i < 2 → IsMessage session (1 + i) (get_or (a ∷ b ∷ []) i [])
    go zero h = record { from_one = omega arith; to_last = omega arith; bytes = refl }
    go (suc zero) h = record { from_one = omega arith; to_last = omega arith; bytes = refl }
    go (suc (suc i)) h = absurd (omega arith)

three-true : OfKind session (data_at 1 (a ∷ b ∷ c ∷ []))
unfolding number bytes header blocks_of encoded number_of count_of kind_of_count block_count block_length fits all_fit after_blocks messages blocks_refusal refusal_of messages_of
three-true = data-true 1 (a ∷ b ∷ c ∷ []) refl refl refl go
  where
    go : (i : ℕ) → i < 3 → IsMessage session (1 + i) (get_or (a ∷ b ∷ c ∷ []) i [])
    go zero h = record { from_one = omega arith; to_last = omega arith; bytes = refl }
    go (suc zero) h = record { from_one = omega arith; to_last = omega arith; bytes = refl }
    go (suc (suc zero)) h = record { from_one = omega arith; to_last = omega arith; bytes = refl }
    go (suc (suc (suc i))) h = absurd (omega arith)

overlap-true : OfKind session (data_at 2 (b ∷ c ∷ []))
unfolding number bytes header blocks_of encoded number_of count_of kind_of_count block_count block_length fits all_fit after_blocks messages blocks_refusal refusal_of messages_of
overlap-true = data-true 2 (b ∷ c ∷ []) refl refl refl go
  where
    go : (i : ℕ) → i < 2 → IsMessage session (2 + i) (get_or (b ∷ c ∷ []) i [])
    go zero h = record { from_one = omega arith; to_last = omega arith; bytes = refl }
    go (suc zero) h = record { from_one = omega arith; to_last = omega arith; bytes = refl }
    go (suc (suc i)) h = absurd (omega arith)

last-true : OfKind session (data_at 3 (c ∷ []))
unfolding number bytes header blocks_of encoded number_of count_of kind_of_count block_count block_length fits all_fit after_blocks messages blocks_refusal refusal_of messages_of
last-true = data-true 3 (c ∷ []) refl refl refl go
  where
    go : (i : ℕ) → i < 1 → IsMessage session (3 + i) (get_or (c ∷ []) i [])
    go zero h = record { from_one = omega arith; to_last = omega arith; bytes = refl }
    go (suc i) h = absurd (omega arith)

end-true : OfKind session (end_at 4)
unfolding number bytes header encoded_end number_of count_of kind_of_count
end-true = true_end refl refl

heartbeat-true : OfKind session (heartbeat_at 9)
unfolding number bytes header blocks_of encoded count_of kind_of_count
heartbeat-true = any_heartbeat refl

broken-true : OfKind session (replicate 19 0)
unfolding refusal_of
broken-true = not_well_formed (λ e. let z : ◌≡◌ {A = ℕ} 11 0 = e in omega arith)

other-true : (f : ℕ) (m : Message) → OfKind session (encoded other_name f (m ∷ []))
unfolding header bytes blocks_of encoded
other-true f m = another_name (λ e. let z : ◌≡◌ {A = ℕ} 79 82 = ap (λ (l : List ℕ). get_or l 0 0) e in omega arith)

-- ---- the feed

in-front : {d x : Datagram} {xs : List Datagram} → OfKind session x → (Memᴰ d xs → OfKind session d) → Memᴰ d (x ∷ xs) → OfKind session d
in-front o f m = ⊎_elim (λ e. rw e o) f (Memᴰ.cases_cons m)

none : {d : Datagram} → Memᴰ d [] → OfKind session d
none m = absurd (Memᴰ.not-nil m)

feed-true : AllOfKind session feed
feed-true d m =
    in-front last-true (in-front two-true (in-front (other-true 1 c) (in-front heartbeat-true (in-front broken-true (in-front two-true (in-front end-true (in-front overlap-true (in-front end-true none)))))))) m

-- ---- the blank start

not_blank : session.name ≡ blank → ⊥
not_blank e = let z : ◌≡◌ {A = ℕ} 82 32 = ap (λ (l : List ℕ). get_or l 0 0) e in omega arith

naming-name : take 10 naming ≡ session.name
unfolding number bytes header blocks_of encoded
naming-name = refl

naming-taken : refusal_for unnamed_fresh naming ≡ 0
unfolding number bytes header blocks_of encoded number_of count_of kind_of_count block_count block_length fits all_fit after_blocks messages blocks_refusal refusal_of messages_of same_bytes other_session end_below own_refusal refusal_for
naming-taken = refl

end_refused : refusal_for unnamed_fresh end_below_it ≡ 0 → ⊥
unfolding number bytes header encoded_end number_of count_of kind_of_count block_count block_length fits all_fit after_blocks messages blocks_refusal refusal_of messages_of same_bytes other_session end_below own_refusal refusal_for
end_refused e = let z : ◌≡◌ {A = ℕ} 20 0 = e in omega arith

blank-refused : refusal_for unnamed_fresh (encoded blank 1 (c ∷ [])) ≡ 0 → ⊥
unfolding number bytes header blocks_of encoded number_of count_of kind_of_count block_count block_length fits all_fit after_blocks messages blocks_refusal refusal_of messages_of same_bytes other_session end_below own_refusal refusal_for
blank-refused e = let z : ◌≡◌ {A = ℕ} 17 0 = e in omega arith

broken-refused : refusal_for unnamed_fresh (replicate 19 0) ≡ 0 → ⊥
unfolding refusal_of refusal_for
broken-refused e = let z : ◌≡◌ {A = ℕ} 11 0 = e in omega arith

abbrev IsRefused : Datagram → Type 0
IsRefused d = refusal_for unnamed_fresh d ≡ 0 → ⊥

and_first : {x : Datagram} {xs : List Datagram} → IsRefused x → All IsRefused xs → All IsRefused (x ∷ xs)
and_first o f d m = ⊎_elim (λ e. rw e o) (λ t. f d t) (Memᴰ.cases_cons m)

and_none : All IsRefused []
and_none d m = absurd (Memᴰ.not-nil m)

first-refused : All IsRefused refused_first
first-refused = and_first blank-refused (and_first broken-refused (and_first end_refused and_none))

behind-true : AllOfKind session (naming ∷ behind_naming)
behind-true d m = in-front heartbeat-true (in-front (other-true 2 a) (in-front two-true (in-front last-true (in-front end-true none)))) m

pub not_vacuous : NotVacuous
unfolding number bytes header blocks_of encoded encoded_end number_of count_of kind_of_count block_count block_length fits all_fit after_blocks messages blocks_refusal refusal_of messages_of same_bytes name_by first_bytes other_session end_below own_refusal refusal_for table answer_of receiver_after messages_delivered_at after delivered receiver_start_refusal start_receiver
not_vacuous =
    record {
      not_refused = refl;
      starts = refl;
      opens = on_its_name not_blank refl;
      of_kind = feed-true;
      delivers = refl;
      ends = refl;
      not_refused_blank = refl;
      starts_blank = refl;
      opens_blank = learns_it refl first-refused naming-taken naming-name;
      of_kind_behind = behind-true;
      delivers_behind = refl;
      ends_behind = refl;
    }

-- ---- idle receivers: the receiver stays, and nothing is delivered

module _ (answers : AnswerRule) (nothing : (r : Receiver) (d : Datagram) → messages_delivered (answers r d) d ≡ []) (s : Session) where
  record InRange (r : Receiver) : Type 0 where
    from_one : 1 ≤ r.next.0
    to_last : r.next.0 ≤ last_of s + 1

  record NotAhead (r q : Receiver) : Type 0 where
    number-too : r.next.0 ≤ q.next.0
    ended_too : r.ended ≡ true → q.ended ≡ true

  -- over any list
  still : (r : Receiver) (ds : List Datagram) → after (machine_of answers stays_put) r ds ≡ r
  unfolding after
  still r [] = refl
  still r (d ∷ ds) = still r ds

  none_at_all : (r : Receiver) (ds : List Datagram) → delivered (machine_of answers stays_put) r ds ≡ []
  unfolding delivered
  none_at_all r [] = refl
  none_at_all r (d ∷ ds) = rw (nothing r d) (none_at_all r ds)

  keeps : Keeps (machine_of answers stays_put) s (OfKind s) InRange NotAhead
  keeps =
      record {
        in-range = λ r i. (i.from_one, i.to_last);
        kept = λ r d i o. i;
        rises = λ r d i o. omega arith;
        exact = λ r d i o. nothing r d ∙ sym (none_from s r.next.0);
        ahead = λ r d i o. record { number-too = omega arith; ended_too = λ e. e };
        still-behind = λ r q d i j x o. x;
        behind-number = λ r q x. x.number-too;
        behind-ended = λ r q x. x.ended_too;
      }

idle : (answers : AnswerRule) → ((r : Receiver) (d : Datagram) → messages_delivered (answers r d) d ≡ []) → Condition3For answers stays_put
unfolding Condition3For
idle answers nothing s name start limit refused first e h l o = rw (started name start limit e) (by-opening o)
  where
    r : Receiver
    r = receiver name start limit false

    of_kind : Faithful (machine_of answers stays_put) s start r [] []
    of_kind =
        faithful (machine_of answers stays_put) s (InRange answers nothing s) (NotAhead answers nothing s) (keeps answers nothing s) r (record { from_one = h; to_last = l })

    by-opening : {refusal : Datagram → ℕ} {refused first : List Datagram} → Opens s name refusal refused first
        → Faithful (machine_of answers stays_put) s start r refused first
    by-opening (on_its_name b n) = of_kind
    by-opening (learns_it {refused} {d} n a f m) =
        led (machine_of answers stays_put) s start r r refused d (still answers nothing s r refused) (none_at_all answers nothing s r refused) refl refl of_kind

-- ---- the table at a fresh receiver and the first message

one-delivered : (limit n : ℕ) (k : DownstreamKind) (f x : ℕ) (o : Outcome) → Row limit n k f x o → k ≡ data_packet → f ≤ n → n < f + x → o ≡ deliver_outcome n f x
one-delivered limit n k f x o (data_reaches p q r e) g h i = e
one-delivered limit n k f x o (data_below p q e) g h i = absurd (omega arith)
one-delivered limit n k f x o (heartbeat_below p q e) g h i = let z : ◌≡◌ {A = ℕ} 0 1 = cc in absurd (omega arith)
one-delivered limit n k f x o (heartbeat_there p q e) g h i = let z : ◌≡◌ {A = ℕ} 0 1 = cc in absurd (omega arith)
one-delivered limit n k f x o (any_above q e) g h i = absurd (omega arith)
one-delivered limit n k f x o (end_there p q e) g h i = let z : ◌≡◌ {A = ℕ} 0 1 = cc in absurd (omega arith)

first-row : (answers : AnswerRule) (step : StepRule) → FollowsAtFirst answers step
    → (answers fresh (data_at 1 (a ∷ [])) ≡ (deliver_outcome 1 1 1).reply) × (step fresh (data_at 1 (a ∷ [])) ≡ after_row fresh (deliver_outcome 1 1 1))
unfolding number bytes header blocks_of encoded number_of count_of kind_of_count same_bytes name_by
first-row answers step f =
    let e = one-delivered 100 1 data_packet 1 1 f.outcome f.its_row refl (omega arith) (omega arith) in
    (f.its_answer ∙ ap (λ (o : Outcome). o.reply) e, f.its_receiver ∙ ap (after_row fresh) e)

-- ---- receivers that double or lose messages: what condition 3 says of them at the session

one_of : (x : Datagram) → OfKind session x → AllOfKind session (x ∷ [])
one_of x o d m = in-front o none m

at-session : (answers : AnswerRule) (step : StepRule) → Condition3For answers step → Faithful (machine_of answers step) session 1 fresh [] []
unfolding Condition3For receiver_start_refusal start_receiver
at-session answers step f = f session name 1 100 [] [] refl (omega arith) (omega arith) (on_its_name not_blank refl)

-- and of one that is started blank, and named by the heartbeat
from-blank : (answers : AnswerRule) (step : StepRule) (refused : List Datagram) → All (λ d. refusal_for unnamed_fresh d ≡ 0 → ⊥) refused → Condition3For answers step
    → Faithful (machine_of answers step) session 2 unnamed_fresh refused (naming ∷ [])
unfolding Condition3For receiver_start_refusal start_receiver
from-blank answers step refused all f =
    f session blank 2 100 refused (naming ∷ []) refl (omega arith) (omega arith) (learns_it refl all naming-taken naming-name)

never_moves_breaks : Condition3For answer_of stays_put → ⊥
unfolding number bytes header blocks_of encoded number_of count_of kind_of_count block_count block_length fits all_fit after_blocks messages blocks_refusal refusal_of messages_of same_bytes other_session end_below own_refusal refusal_for table answer_of messages_delivered_at after delivered messages_from
never_moves_breaks f =
    let e : a ∷ b ∷ [] ≡ [] = ((at-session answer_of stays_put f).delivers_true (data_at 1 (a ∷ b ∷ []) ∷ []) (one_of _ two-true)).exactly in
    let w : ◌≡◌ {A = ℕ} 2 0 = ap length e in
    omega arith

overlap-breaks : Condition3For overlap_old overlap_stays → ⊥
unfolding number bytes header blocks_of encoded number_of count_of kind_of_count block_count block_length fits all_fit after_blocks messages blocks_refusal refusal_of messages_of same_bytes name_by first_bytes other_session end_below own_refusal refusal_for table answer_of receiver_after messages_delivered_at after delivered
overlap-breaks f =
    let w : 3 ≤ 2 = ((at-session overlap_old overlap_stays f).one_more [] (data_at 1 (a ∷ b ∷ c ∷ []) ∷ []) (data_at 1 (a ∷ b ∷ [])) (one_of _ three-true) two-true).as_many in
    omega arith

jump-breaks : Condition3For jump_delivers jumps → ⊥
unfolding number bytes header blocks_of encoded number_of count_of kind_of_count block_count block_length fits all_fit after_blocks messages blocks_refusal refusal_of messages_of same_bytes name_by first_bytes other_session end_below own_refusal refusal_for table answer_of receiver_after messages_delivered_at after delivered messages_from
jump-breaks f =
    let e : c ∷ [] ≡ a ∷ b ∷ c ∷ [] = ((at-session jump_delivers jumps f).delivers_true (data_at 3 (c ∷ []) ∷ []) (one_of _ last-true)).exactly in
    let w : ◌≡◌ {A = ℕ} 1 3 = ap length e in
    omega arith

-- the foreign message is delivered as the session's second, which has no bytes
foreign-behind : AllOfKind session (naming ∷ encoded other_name 2 (a ∷ []) ∷ [])
foreign-behind d m = in-front heartbeat-true (in-front (other-true 2 a) none) m

learns_refused_breaks : Condition3For answer_of learns_refused → ⊥
unfolding number bytes header blocks_of encoded encoded_end number_of count_of kind_of_count block_count block_length fits all_fit after_blocks messages blocks_refusal refusal_of messages_of same_bytes name_by first_bytes other_session end_below own_refusal refusal_for table answer_of receiver_after messages_delivered_at after delivered messages_from
learns_refused_breaks f =
    let e : a ∷ [] ≡ b ∷ [] = ((from-blank answer_of learns_refused (end_below_it ∷ []) (and_first end_refused and_none) f).delivers_true (encoded other_name 2 (a ∷ []) ∷ []) foreign-behind).exactly in
    let w : ◌≡◌ {A = ℕ} 1 0 = ap (λ (l : List Message). length (get_or l 0 [])) e in
    omega arith

learns_twice_breaks : Condition3For answers_all learns_twice → ⊥
unfolding number bytes header blocks_of encoded number_of count_of kind_of_count block_count block_length fits all_fit after_blocks messages blocks_refusal refusal_of messages_of same_bytes name_by first_bytes other_session end_below own_refusal refusal_for table answer_of receiver_after messages_delivered_at after delivered messages_from
learns_twice_breaks f =
    let e : a ∷ [] ≡ b ∷ [] = ((from-blank answers_all learns_twice [] and_none f).delivers_true (encoded other_name 2 (a ∷ []) ∷ []) foreign-behind).exactly in
    let w : ◌≡◌ {A = ℕ} 1 0 = ap (λ (l : List Message). length (get_or l 0 [])) e in
    omega arith

-- one that never learns the name refuses the heartbeat that asks
asked : (limit n : ℕ) (k : DownstreamKind) (f x : ℕ) (o : Outcome) → Row limit n k f x o → n < f → o ≡ ask_outcome limit n f
asked limit n k f x o (data_reaches p q r e) h = absurd (omega arith)
asked limit n k f x o (data_below p q e) h = absurd (omega arith)
asked limit n k f x o (heartbeat_below p q e) h = absurd (omega arith)
asked limit n k f x o (heartbeat_there p q e) h = absurd (omega arith)
asked limit n k f x o (any_above q e) h = e
asked limit n k f x o (end_there p q e) h = absurd (omega arith)

never_learns_breaks : Follows refuses_blank stays_blank unnamed_fresh naming → ⊥
unfolding number bytes header blocks_of encoded number_of same_bytes
never_learns_breaks t =
    let e = asked 100 2 (kind_of naming) 9 (count_of naming) t.outcome t.its_row (omega arith) in
    let w = which-of (t.its_answer ∙ ap (λ (o : Outcome). o.reply) e) in
    let z : ◌≡◌ {A = ℕ} 0 1 = cc in
    omega arith

pub not_weak : NotWeak
unfolding messages_delivered_at
not_weak =
    record {
      always_refuses = idle refuses_all (λ r d. refl);
      refuses_all_breaks = λ t. let w = which-of (first-row refuses_all stays_put t).0 in let z : ◌≡◌ {A = ℕ} 0 1 = cc in omega arith;
      always_old = idle old_to_all (λ r d. refl);
      old_to_all_breaks = λ t. let w = which-of (first-row old_to_all stays_put t).0 in let z : ◌≡◌ {A = ℕ} 0 1 = cc in omega arith;
      asking_always = idle asks_always (λ r d. refl);
      asks_always_breaks = λ t. let w = which-of (first-row asks_always stays_put t).0 in let z : ◌≡◌ {A = ℕ} 0 1 = cc in omega arith;
      all_at_once_breaks = λ t. let n : ◌≡◌ {A = ℕ} 4 2 = ap (λ (r : Receiver). r.next.0) (first-row all_at_once moves_past_all t).1 in omega arith;
      never_learns_breaks = never_learns_breaks;
      never_moves_breaks = never_moves_breaks;
      overlap_old_breaks = overlap-breaks;
      jumps_breaks = jump-breaks;
      learns_refused_breaks = learns_refused_breaks;
      learns_twice_breaks = learns_twice_breaks;
    }
