-- A receiver that has the session's name: what one datagram of condition 3's kind does to it, and to two of which one is behind.
use Prim.Native.Nat.{ℕ, ◌+◌, ◌-◌, ◌<◌, ◌≤◌}
use mathlib.Core.Path.{◌≡◌, refl, sym, ap, ◌∙◌}
use mathlib.Core.List.{[]}
use mathlib.Core.Bool.{Bool, true, false, true≢false}
use native.Mathlib.Omega.{arith}
use lib.ListN.{drop}
use lib.Seq.{drop_at}
use borrow.Author.Tests.{le-ltb}
use Rattle.wire.specs.Bounds.{blank}
use Rattle.wire.specs.Words.{Words}
use Rattle.wire.proofs.Cases.{below_or_not}
use Rattle.moldudp64.specs.Header.{number_of, count_of}
use Rattle.moldudp64.specs.Downstream.{DownstreamKind, data_packet, heartbeat, end_of_session, kind_of, refusal_of, messages_of}
use Rattle.receiver.specs.declared.receiver.Receiver.{Receiver}
use Rattle.receiver.specs.Table.{AnswerKind, Outcome, deliver_outcome, old_outcome, quiet_outcome, ask_outcome, ended_outcome, table}
use Rattle.receiver.specs.Receiver.{other_session, end_below, refusal_for, table_row, after_row, answer_of, receiver_after}
use Rattle.receiver.specs.Delivery.{messages_delivered_at, messages_delivered}
use Rattle.feed.specs.Session.{Datagram, Session, last_of, messages_from, OfKind}
use Rattle.receiver.specs.Condition3.{plain}
use Rattle.receiver.proofs.LadderLaws.{other_name, own_name}
use Rattle.receiver.proofs.TableLaws.{refused-stays, row-answer, row_named}
use Rattle.receiver.proofs.Promises.{row-above, row-reaches, row_below, row-beat-below, row-beat-at, row-end, refused-answers, ladder-bad, ladder-other, ladder-ended, ladder-open}
use Rattle.feed.proofs.FeedLaws.{join, length_from, none_from, Keeps}
use Rattle.feed.proofs.Sorts.{Named, TrueData, TrueEnd, Sort, is-bad, is-other, is-heartbeat, is_of_data, is-end, sort, data-begin, data-end, data-run}

-- ---- what a datagram of each sort does to a receiver

-- nothing: it delivers none, and the receiver stays
pub record Stays (r : Receiver) (d : Datagram) : Type 0 where
  pub same : receiver_after r d ≡ r
  pub nothing : messages_delivered (answer_of r d) d ≡ []

-- a refusal
pub refusal-stays : (r : Receiver) (d : Datagram) → (refusal_for r d ≡ 0 → ⊥) → Stays r d
unfolding messages_delivered_at
refusal-stays r d z = record { same = sym (refused-stays r d (refusal_for r d) refl z); nothing = rw (refused-answers r d z) }

-- the ladder's rungs

bad_stays : (r : Receiver) (d : Datagram) → (refusal_of d ≡ 0 → ⊥) → Stays r d
bad_stays r d z = refusal-stays r d (λ e. z (sym (ladder-bad r d z) ∙ e))

other-stays : (r : Receiver) (d : Datagram) → refusal_of d ≡ 0 → other_session r d ≡ true → Stays r d
other-stays r d w o = let k = ladder-other r d w o in refusal-stays r d (λ e. omega arith)

ended-stays : (r : Receiver) (d : Datagram) → refusal_of d ≡ 0 → other_session r d ≡ false → r.ended ≡ true → Stays r d
ended-stays r d w o e = let k = ladder-ended r d w o e in refusal-stays r d (λ z. omega arith)

pub not-below : (k : DownstreamKind) (f n : ℕ) → n ≤ f → end_below k f n ≡ false
unfolding end_below
not-below data_packet f n h = refl
not-below heartbeat f n h = refl
not-below end_of_session f n h = le-ltb _ _ h

pub no_end : (k : DownstreamKind) (f n : ℕ) → (k ≡ end_of_session → ⊥) → end_below k f n ≡ false
unfolding end_below
no_end data_packet f n z = refl
no_end heartbeat f n z = refl
no_end end_of_session f n z = absurd (z refl)

-- a receiver that has a name, and a datagram of it
record Own (r : Receiver) (d : Datagram) : Type 0 where
  named : r.session ≡ blank → ⊥
  its_session : other_session r d ≡ false

-- rows that leave the receiver as it is and deliver nothing
row_stays : (r : Receiver) (d : Datagram) (o : Outcome) → Own r d → refusal_for r d ≡ 0 → table_row r d ≡ o → after_row r o ≡ r → messages_delivered o.reply d ≡ [] → Stays r d
row_stays r d o n e f m g =
    record {
      same = row_named r d n.named e ∙ ap (after_row r) f ∙ m;
      nothing = ap (λ (w : Words AnswerKind). messages_delivered w d) (row-answer r d e ∙ ap (λ (x : Outcome). x.reply) f) ∙ g;
    }

ahead-stays : (r : Receiver) (d : Datagram) → refusal_of d ≡ 0 → Own r d → r.ended ≡ false → r.next.0 < number_of d → Stays r d
unfolding messages_delivered_at
ahead-stays r d w n o h =
    row_stays r d (ask_outcome r.limit.0 r.next.0 (number_of d)) n (ladder-open r d w n.its_session o (not-below (kind_of d) _ _ (omega arith)))
    (row-above r.limit.0 r.next.0 (number_of d) (count_of d) (kind_of d) h) refl refl

kind_row : (r : Receiver) (d : Datagram) (k : DownstreamKind) (o : Outcome) → kind_of d ≡ k → table r.limit.0 r.next.0 k (number_of d) (count_of d) ≡ o → table_row r d ≡ o
kind_row r d k o e f = ap (λ (x : DownstreamKind). table r.limit.0 r.next.0 x (number_of d) (count_of d)) e ∙ f

pub heartbeat-end : (k : DownstreamKind) → k ≡ heartbeat → k ≡ end_of_session → ⊥
heartbeat-end k e f = let z : ◌≡◌ {A = ℕ} 0 1 = cc in omega arith

pub data-end-not : (k : DownstreamKind) → k ≡ data_packet → k ≡ end_of_session → ⊥
data-end-not k e f = let z : ◌≡◌ {A = ℕ} 0 1 = cc in omega arith

heartbeat-stays : (r : Receiver) (d : Datagram) → refusal_of d ≡ 0 → Own r d → r.ended ≡ false → kind_of d ≡ heartbeat → Stays r d
unfolding messages_delivered_at
heartbeat-stays r d w n o k =
    let a = ladder-open r d w n.its_session o (no_end (kind_of d) _ _ (heartbeat-end (kind_of d) k)) in
    below_or_not _ r.next.0 (number_of d) (λ h. ahead-stays r d w n o h)
    (λ h.
    below_or_not _ (number_of d) r.next.0
    (λ i. row_stays r d (old_outcome r.next.0) n a (kind_row r d heartbeat _ k (row-beat-below r.limit.0 r.next.0 (number_of d) (count_of d) i)) refl refl)
    (λ i.
    let e : number_of d ≡ r.next.0 = omega arith in
    row_stays r d (quiet_outcome r.next.0) n a (kind_row r d heartbeat _ k (row-beat-at r.limit.0 r.next.0 (number_of d) (count_of d) e)) refl refl))

module _ (r : Receiver) (d : Datagram) (w : refusal_of d ≡ 0) (n : Own r d) (o : r.ended ≡ false) where
  data-open : kind_of d ≡ data_packet → refusal_for r d ≡ 0
  data-open k = ladder-open r d w n.its_session o (no_end (kind_of d) _ _ (data-end-not (kind_of d) k))

  old-stays : kind_of d ≡ data_packet → number_of d + count_of d ≤ r.next.0 → Stays r d
  unfolding messages_delivered_at
  old-stays k h =
      row_stays r d (old_outcome r.next.0) n (data-open k) (kind_row r d data_packet _ k (row_below r.limit.0 r.next.0 (number_of d) (count_of d) h)) refl refl

  -- data that reaches n
  module _ (k : kind_of d ≡ data_packet) (g : number_of d ≤ r.next.0) (h : r.next.0 < number_of d + count_of d) where
    deliver-row : table_row r d ≡ deliver_outcome r.next.0 (number_of d) (count_of d)
    deliver-row = kind_row r d data_packet _ k (row-reaches r.limit.0 r.next.0 (number_of d) (count_of d) g h)

    take-moves : receiver_after r d ≡ after_row r (deliver_outcome r.next.0 (number_of d) (count_of d))
    take-moves = row_named r d n.named (data-open k) ∙ ap (after_row r) deliver-row

    take-delivers : messages_delivered (answer_of r d) d ≡ drop (r.next.0 - number_of d) (messages_of d)
    unfolding messages_delivered_at
    take-delivers = ap (λ (x : Words AnswerKind). messages_delivered x d) (row-answer r d (data-open k) ∙ ap (λ (x : Outcome). x.reply) deliver-row)

  -- an end of session at n
  module _ (k : kind_of d ≡ end_of_session) (e : number_of d ≡ r.next.0) where
    end-open : refusal_for r d ≡ 0
    end-open = ladder-open r d w n.its_session o (not-below (kind_of d) _ _ (omega arith))

    end_row : table_row r d ≡ ended_outcome r.next.0
    end_row = kind_row r d end_of_session _ k (row-end r.limit.0 r.next.0 (number_of d) (count_of d) (omega arith))

    take_ends : receiver_after r d ≡ after_row r (ended_outcome r.next.0)
    take_ends = row_named r d n.named end-open ∙ ap (after_row r) end_row

    end-delivers : messages_delivered (answer_of r d) d ≡ []
    unfolding messages_delivered_at
    end-delivers = ap (λ (x : Words AnswerKind). messages_delivered x d) (row-answer r d end-open ∙ ap (λ (x : Outcome). x.reply) end_row)

-- ---- every datagram of the kind

module _ (s : Session) (named : s.name ≡ blank → ⊥) where
  -- what holds of the receiver at every datagram
  pub record Inv (r : Receiver) : Type 0 where
    pub name : r.session ≡ s.name
    pub from_one : 1 ≤ r.next.0
    pub to_last : r.next.0 ≤ last_of s + 1
    pub at-end : r.ended ≡ true → r.next.0 ≡ last_of s + 1

  -- q has got at least as far as r
  pub record Behind (r q : Receiver) : Type 0 where
    pub number : r.next.0 ≤ q.next.0
    pub ended : r.ended ≡ true → q.ended ≡ true

  ended-or-not : (P : Type 0) (r : Receiver) → (r.ended ≡ true → P) → (r.ended ≡ false → P) → P
  ended-or-not P r f g = go r.ended refl
    where
      go : (b : Bool) → r.ended ≡ b → P
      go true e = f e
      go false e = g e

  module _ (d : Datagram) where
    -- true data at a receiver that it reaches delivers the session's messages from its number on
    skipped : (t : TrueData s d) (r : Receiver) → Inv r → number_of d ≤ r.next.0 → r.next.0 < number_of d + count_of d
        → drop (r.next.0 - number_of d) (messages_of d) ≡ messages_from s r.next.0 (number_of d + count_of d)
    skipped t r i g h =
        let some : 0 < count_of d = omega arith in
        let b = data-begin s d t some in
        rw (data-run s d t some, ← join s (number_of d) r.next.0 (number_of d + count_of d) b g (omega arith))
        (drop_at (messages_from s (number_of d) r.next.0) _ _ (length_from s _ _ b g i.to_last))

    -- what the datagram does to a receiver of the session
    data Effect (r : Receiver) : Type 0 where
      nothing : Stays r d → Effect r
      delivers-now : TrueData s d → number_of d ≤ r.next.0 → r.next.0 < number_of d + count_of d → r.ended ≡ false
          → receiver_after r d ≡ after_row r (deliver_outcome r.next.0 (number_of d) (count_of d))
          → messages_delivered (answer_of r d) d ≡ drop (r.next.0 - number_of d) (messages_of d) → Effect r
      ends_now : TrueEnd s d → r.next.0 ≡ last_of s + 1 → receiver_after r d ≡ after_row r (ended_outcome r.next.0) → messages_delivered (answer_of r d) d ≡ [] → Effect r

    -- its name is the session's, and no blank one
    has-name : (r : Receiver) → Inv r → r.session ≡ blank → ⊥
    has-name r i e = named (sym i.name ∙ e)

    own : (r : Receiver) → Inv r → Named s d → Own r d
    own r i n = record { named = has-name r i; its_session = own_name r d (has-name r i) (n.name ∙ sym i.name) }

    module _ (r : Receiver) (i : Inv r) where
      open-or : (n : Named s d) → (r.ended ≡ false → Effect r) → Effect r
      open-or n f = ended-or-not _ r (λ e. nothing (ended-stays r d n.is_well_formed (own r i n).its_session e)) f

      effect_of : Sort s d → Effect r
      effect_of (is-bad h) = nothing (bad_stays r d h)
      effect_of (is-other w h) = nothing (other-stays r d w (other_name r d (has-name r i) (λ q. h (q ∙ i.name))))
      effect_of (is-heartbeat n k) = open-or n (λ o. nothing (heartbeat-stays r d n.is_well_formed (own r i n) o k))
      effect_of (is_of_data t) =
          let w = t.named.is_well_formed in
          let n = own r i t.named in
          let k = t.kind in
          open-or t.named
          (λ o.
          below_or_not _ r.next.0 (number_of d) (λ h. nothing (ahead-stays r d w n o h))
          (λ g.
          below_or_not _ r.next.0 (number_of d + count_of d)
          (λ h. delivers-now t g h o (take-moves r d w n o k g h) (take-delivers r d w n o k g h))
          (λ h. nothing (old-stays r d w n o k h))))
      effect_of (is-end t) =
          let w = t.named.is_well_formed in
          let n = own r i t.named in
          let k = t.kind in
          open-or t.named
          (λ o.
          below_or_not _ r.next.0 (number_of d) (λ h. nothing (ahead-stays r d w n o h))
          (λ g.
          let e : r.next.0 ≡ last_of s + 1 = omega (arith, t.number, i.to_last) in
          let f : number_of d ≡ r.next.0 = omega (arith, t.number) in
          ends_now t e (take_ends r d w n o k f) (end-delivers r d w n o k f)))

      effect : OfKind s d → Effect r
      effect o = effect_of (sort s d o)

      kept_by : Effect r → Inv (receiver_after r d)
      kept_by (nothing z) = rw z.same i
      kept_by (delivers-now t g h o e x) =
          rw e
          (record {
            name = i.name;
            from_one = omega (arith, i.from_one);
            to_last = data-end s d t (omega arith);
            at-end = λ y. absurd (true≢false (sym y ∙ o));
          })
      kept_by (ends_now t n e x) = rw e (record { name = i.name; from_one = i.from_one; to_last = i.to_last; at-end = λ y. n })

      ahead-by : Effect r → Behind r (receiver_after r d)
      ahead-by (nothing z) = rw z.same (record { number = omega arith; ended = λ y. y })
      ahead-by (delivers-now t g h o e x) = rw e (record { number = omega arith; ended = λ y. y })
      ahead-by (ends_now t n e x) = rw e (record { number = omega arith; ended = λ y. refl })

      exact-by : Effect r → messages_delivered (answer_of r d) d ≡ messages_from s r.next.0 (receiver_after r d).next.0
      exact-by (nothing z) = rw z.same (z.nothing ∙ sym (none_from s r.next.0))
      exact-by (delivers-now t g h o e x) = rw e (x ∙ skipped t r i g h)
      exact-by (ends_now t n e x) = rw e (x ∙ sym (none_from s r.next.0))

    -- ---- two receivers, the second at least as far as the first

    further : (r q p : Receiver) → Behind r q → Behind q p → Behind r p
    further r q p a b = record { number = omega arith; ended = λ x. b.ended (a.ended x) }

    module _ (q : Receiver) (j : Inv q) where
      -- data whose first message isn't above q's number takes q at least to its end
      data-takes : TrueData s d → number_of d ≤ q.next.0 → 0 < count_of d → number_of d + count_of d ≤ (receiver_after q d).next.0
      data-takes t g some =
          let w = t.named.is_well_formed in
          let n = own q j t.named in
          ended-or-not _ q (λ x. rw (ended-stays q d w n.its_session x).same (omega (arith, j.at-end x, data-end s d t some)))
          (λ x.
          below_or_not _ q.next.0 (number_of d + count_of d) (λ h. rw (take-moves q d w n x t.kind g h) (omega arith))
          (λ h. rw (old-stays q d w n x t.kind h).same h))

      end-takes : TrueEnd s d → q.next.0 ≡ last_of s + 1 → (receiver_after q d).ended ≡ true
      end-takes t e =
          let w = t.named.is_well_formed in
          let n = own q j t.named in
          ended-or-not _ q (λ x. rw (ended-stays q d w n.its_session x).same x)
          (λ x. rw (take_ends q d w n x t.kind (omega (arith, t.number))) refl)

      behind-by : (r : Receiver) → Inv r → Behind r q → OfKind s d → Effect r → Behind (receiver_after r d) (receiver_after q d)
      behind-by r i b o (nothing z) = rw z.same (further r q _ b (ahead-by q j (effect q j o)))
      behind-by r i b o (delivers-now t g h f e x) =
          rw e (record { number = data-takes t (omega arith) (omega arith); ended = λ y. absurd (true≢false (sym y ∙ f)) })
      behind-by r i b o (ends_now t n e x) =
          let m : q.next.0 ≡ last_of s + 1 = omega arith in
          rw e (record { number = omega (arith, ahead-by q j (effect q j o)); ended = λ y. end-takes t m })

  pub keeps : Keeps plain s (OfKind s) Inv Behind
  keeps =
      record {
        in-range = λ r i. (i.from_one, i.to_last);
        kept = λ r d i o. kept_by d r i (effect d r i o);
        rises = λ r d i o. (ahead-by d r i (effect d r i o)).number;
        exact = λ r d i o. exact-by d r i (effect d r i o);
        ahead = λ r d i o. ahead-by d r i (effect d r i o);
        still-behind = λ r q d i j b o. behind-by d q j r i b o (effect d r i o);
        behind-number = λ r q b. b.number;
        behind-ended = λ r q b. b.ended;
      }
