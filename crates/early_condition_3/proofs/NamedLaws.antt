-- A receiver that has the session's name: what one datagram of condition 3's kind does to it, and to two of which one is behind.
use Prim.Native.Nat.{ℕ, ◌+◌, ◌-◌, ◌<◌, ◌≤◌}
use mathlib.Core.Path.{◌≡◌, refl, sym, ap, ◌∙◌}
use mathlib.Core.List.{List}
use mathlib.Core.Bool.{true, false, true≢false}
use native.Mathlib.Omega.{arith}
use lib.ListN.{length}
use lib.Dec.{eqb}
use borrow.Author.Tests.{eqb-true, eqb-false}
use Rattle.wire.specs.Bounds.{blank}
use Rattle.moldudp64.specs.Header.{number_of}
use Rattle.moldudp64.specs.Downstream.{kind_of, refusal_of, messages_of, message_of}
use Rattle.moldudp64.proofs.DownstreamLaws.{sound, count-sound}
use Rattle.receiver.specs.declared.receiver.Receiver.{Receiver}
use Rattle.receiver.specs.Receiver.{other_session, end_below, refusal_for}
use Rattle.receiver.proofs.LadderLaws.{own_name, other_name}
use Rattle.receiver.proofs.Promises.{ladder-bad, ladder-other, ladder-ended, ladder-open}
use Rattle.receiver.proofs.NamedLaws.{not-below, no_end, heartbeat-end, data-end-not}
use Rattle.feed.specs.Session.{Datagram, Session, last_of, IsMessage, messages_from, OfKind, All}
use Rattle.feed.specs.Machine.{after}
use Rattle.feed.proofs.FeedLaws.{Keeps, inv-after, behind-after}
use Rattle.feed.proofs.Sorts.{Named, TrueData, TrueEnd, Sort, is-bad, is-other, is-heartbeat, is_of_data, is-end, sort, run-true}
use Rattle.early_holding.specs.Holding.{Lent, lent, early, next_of, is_held, held_message, take_all}
use Rattle.early_receiver.specs.Early.{ended_now, take_kind, lent_after}
use Rattle.early_messages.specs.Delivery.{delivered_count, message_at, messages_at, delivery}
use Rattle.early_receiver.proofs.RequestLaws.{after_open}
use Rattle.early_condition_3.specs.Condition3.{keeper}
use Rattle.wire.proofs.Cases.{below_or_not}
use Rattle.early_holding.proofs.HoldingLaws.{either}
use Rattle.early_condition_3.specs.Rule.{Sound}
use Rattle.early_condition_3.proofs.Model as model
use Rattle.early_condition_3.proofs.Model.{Hold, holding, numbered}
use Rattle.early_condition_3.proofs.RunLaws.{cases, has}
use Rattle.early_condition_3.proofs.ModelLaws as one
use Rattle.early_condition_3.proofs.DatagramLaws.{true-run, model-ahead, passed}
use Rattle.early_condition_3.proofs.Reading.{reading, is-held, of-held}
use Rattle.early_condition_3.proofs.KeepLaws.{all-is}
use Rattle.early_messages.proofs.PartLaws.{at_held, at_there}
use Rattle.early_messages.proofs.ReachLaws.{right-refusal, refused-after}
use Rattle.early_condition_3.proofs.StepLaws.{name-kept, take-data, take-beat, take-end, take-end-ahead, same_base, none_read, empty-sound}
use Rattle.early_condition_3.proofs.PlaceLaws.{places-length, places-get, still}

module _ (s : Session) (named : s.name ≡ blank → ⊥) where
  -- what holds of the receiver at every step
  pub record Inv (r : Lent) : Type 0 where
    pub name : r.receiver.base.session ≡ s.name
    pub sound : Sound r
    pub hold : one.Inv s (reading r)
    pub at-end : r.receiver.base.ended ≡ true → next_of r.receiver ≡ last_of s + 1

  pub record Behind (r q : Lent) : Type 0 where
    pub hold : one.Behind s (reading r) (reading q)
    pub ended : r.receiver.base.ended ≡ true → q.receiver.base.ended ≡ true

  -- ---- a receiver that holds nothing, as an ended one does

  pub empty-inv : (b : Receiver) (lengths slots : List ℕ) → 1 ≤ b.next.0 → b.next.0 ≤ last_of s + 1 → one.Inv s (reading (lent (early b 0) lengths slots))
  empty-inv b lengths slots h k =
      record {
        from_one = h;
        to_last = k;
        is_true = λ j x w. absurd (none_read b lengths slots j (ap model.is_held w));
        above = λ j w. absurd (none_read b lengths slots j w);
        near = λ j w. absurd (none_read b lengths slots j w);
      }

  -- a receiver past every message has got as far as any, and nothing is held there
  at-end-behind : (h g : Hold) → one.Inv s h → g.next ≡ last_of s + 1 → one.Behind s h g
  at-end-behind h g i e =
      record {
        number = omega (arith, i.to_last);
        holds = λ j a w. let x = has (h.held j) w in absurd (omega (arith, (i.is_true j x.0 x.1).to_last));
      }

  module _ (d : Datagram) where
    -- ---- what a datagram does

    data Effect (r : Lent) : Type 0 where
      nothing : lent_after r d ≡ r → Effect r
      taken : TrueData s d → r.receiver.base.ended ≡ false → lent_after r d ≡ take_all r (number_of d) (messages_of d) → Effect r
      ended-now : TrueEnd s d → next_of r.receiver ≡ last_of s + 1 → lent_after r d ≡ lent (ended_now r.receiver) r.lengths r.slots → Effect r

    module _ (r : Lent) (i : Inv r) where
      has-name : r.receiver.base.session ≡ blank → ⊥
      has-name e = named (sym i.name ∙ e)

      own : Named s d → other_session r.receiver.base d ≡ false
      own n = own_name r.receiver.base d has-name (n.name ∙ sym i.name)

      base-refuses : (k : ℕ) → refusal_for r.receiver.base d ≡ k → (k ≡ 0 → ⊥) → lent_after r d ≡ r
      base-refuses k e z = refused-after r d (λ q. z (sym e ∙ sym (right-refusal r d i.sound.size i.sound.noted) ∙ q))

      base-opens : Named s d → r.receiver.base.ended ≡ false → end_below (kind_of d) (number_of d) (next_of r.receiver) ≡ false
          → lent_after r d ≡ take_kind r (kind_of d) d
      base-opens n x b =
          after_open r d (right-refusal r d i.sound.size i.sound.noted ∙ ladder-open r.receiver.base d n.is_well_formed (own n) x b)
          ∙ ap (λ (q : Lent). take_kind q (kind_of d) d) (name-kept r d has-name)

      ended-stays : Named s d → r.receiver.base.ended ≡ true → lent_after r d ≡ r
      ended-stays n e = base-refuses 18 (ladder-ended r.receiver.base d n.is_well_formed (own n) e) (λ z. omega arith)

      pub open-data : TrueData s d → r.receiver.base.ended ≡ false → lent_after r d ≡ take_all r (number_of d) (messages_of d)
      open-data t x = base-opens t.named x (no_end (kind_of d) _ _ (data-end-not (kind_of d) t.kind)) ∙ take-data r d t.kind

      open-end : TrueEnd s d → r.receiver.base.ended ≡ false → lent_after r d ≡ take_kind r (kind_of d) d
      open-end t x = base-opens t.named x (not-below (kind_of d) _ _ (omega (arith, t.number, i.hold.to_last)))

      effect_of : Sort s d → Effect r
      effect_of (is-bad h) = nothing (base-refuses (refusal_of d) (ladder-bad r.receiver.base d h) h)
      effect_of (is-other w h) =
          nothing (base-refuses 17 (ladder-other r.receiver.base d w (other_name r.receiver.base d has-name (λ q. h (q ∙ i.name)))) (λ z. omega arith))
      effect_of (is-heartbeat n k) =
          either r.receiver.base.ended _ (λ x. nothing (ended-stays n x))
          (λ x. nothing (base-opens n x (no_end (kind_of d) _ _ (heartbeat-end (kind_of d) k)) ∙ take-beat r d k))
      effect_of (is_of_data t) =
          either r.receiver.base.ended _ (λ x. nothing (ended-stays t.named x)) (λ x. taken t x (open-data t x))
      effect_of (is-end t) =
          either r.receiver.base.ended _ (λ x. nothing (ended-stays t.named x))
          (λ x.
          either (eqb (number_of d) (next_of r.receiver)) _
          (λ q.
          let z : number_of d ≡ next_of r.receiver = eqb-true _ _ q in
          ended-now t (omega (arith, t.number)) (open-end t x ∙ take-end r d t.kind z))
          (λ q. nothing (open-end t x ∙ take-end-ahead r d t.kind (eqb-false _ _ q))))

      effect : OfKind s d → Effect r
      effect o = effect_of (sort s d o)

    -- ---- what the data does, through the model

    module _ (t : TrueData s d) where
      all-good : All (one.Good s) (numbered (number_of d) (messages_of d))
      all-good = true-run s (number_of d) (messages_of d) t.messages

      numbers : number_of d + length (messages_of d) ≤ 18446744073709551615
      numbers = omega (arith, count-sound d t.named.is_well_formed, (sound d t.named.is_well_formed).numbers_fit)

      pub read_is : (r : Lent) → Sound r → reading (take_all r (number_of d) (messages_of d)) ≡ after holding (reading r) (numbered (number_of d) (messages_of d))
      read_is r g = (all-is r (number_of d) (messages_of d) g numbers).0

      sound-then : (r : Lent) → Sound r → Sound (take_all r (number_of d) (messages_of d))
      sound-then r g = (all-is r (number_of d) (messages_of d) g numbers).1

      held_then : (r : Lent) → Sound r → one.Inv s (reading r) → one.Inv s (reading (take_all r (number_of d) (messages_of d)))
      held_then r g i =
          rw (read_is r g) (inv-after holding s (one.Good s) (one.Inv s) (one.Behind s) (one.keeps s) (reading r) _ i all-good)

      ahead-then : (r : Lent) → Sound r → one.Inv s (reading r) → one.Behind s (reading r) (reading (take_all r (number_of d) (messages_of d)))
      ahead-then r g i = rw (read_is r g) (model-ahead s (reading r) _ i all-good)

      both-then : (r q : Lent) → Sound r → Sound q → one.Inv s (reading r) → one.Inv s (reading q) → one.Behind s (reading r) (reading q)
          → one.Behind s (reading (take_all r (number_of d) (messages_of d))) (reading (take_all q (number_of d) (messages_of d)))
      both-then r q g h i j b =
          rw (read_is r g, read_is q h)
          (behind-after holding s (one.Good s) (one.Inv s) (one.Behind s) (one.keeps s) (reading r) (reading q) _ i j b all-good)

    -- ---- what holds then, and how far it has got

    inv-by : (r : Lent) → Inv r → Effect r → Inv (lent_after r d)
    inv-by r i (nothing e) = rw e i
    inv-by r i (taken t o e) =
        let b = same_base r (number_of d) (messages_of d) in
        rw e
        (record {
          name = b.session ∙ i.name;
          sound = sound-then t r i.sound;
          hold = held_then t r i.sound i.hold;
          at-end = λ x. absurd (true≢false (sym x ∙ b.ended ∙ o));
        })
    inv-by r i (ended-now t n e) =
        rw e
        (record {
          name = i.name;
          sound = empty-sound _ r.lengths r.slots i.sound.noted i.sound.size;
          hold = empty-inv _ r.lengths r.slots i.hold.from_one i.hold.to_last;
          at-end = λ x. n;
        })

    ahead-by : (r : Lent) → Inv r → Effect r → Behind r (lent_after r d)
    ahead-by r i (nothing e) = rw e (record { hold = one.itself s (reading r); ended = λ x. x })
    ahead-by r i (taken t o e) = rw e (record { hold = ahead-then t r i.sound i.hold; ended = λ x. absurd (true≢false (sym x ∙ o)) })
    ahead-by r i (ended-now t n e) = rw e (record { hold = at-end-behind (reading r) _ i.hold n; ended = λ x. refl })

    -- ---- what is delivered: each message had by place is the session's

    module _ (r : Lent) (i : Inv r) (t : TrueData s d) (o : r.receiver.base.ended ≡ false)
        (e : lent_after r d ≡ take_all r (number_of d) (messages_of d)) where
      end_is : next_of (lent_after r d).receiver ≡ (after holding (reading r) (numbered (number_of d) (messages_of d))).next
      end_is = ap (λ (x : Lent). next_of x.receiver) e ∙ ap (λ (h : Hold). h.next) (read_is t r i.sound)

      place-true : (p : ℕ) → p < delivered_count r d → next_of r.receiver + p < next_of (lent_after r d).receiver
          → IsMessage s (next_of r.receiver + p) (message_at r d p)
      unfolding message_of
      place-true p g k =
          let j = next_of r.receiver + p in
          either (is_held r.receiver j) _
          (λ q. rw (at_held r d p g q) (i.hold.is_true j (held_message r j) (of-held r j q)))
          (λ q.
          cases (passed s (reading r) (number_of d) (messages_of d) i.hold (all-good t) j (omega arith) (omega (arith, end_is)))
          (λ y. absurd (true≢false (sym y ∙ is-held r j ∙ q)))
          (λ y.
          let a : number_of d ≤ j = y.0 in
          let b : j < number_of d + length (messages_of d) = y.1 in
          let z : number_of d + (j - number_of d) ≡ j = omega arith in
          rw (at_there r d p g q) (rw z at (t.messages (j - number_of d) (omega arith)))))

      taken-exact : delivery r d ≡ messages_from s (next_of r.receiver) (next_of (lent_after r d).receiver)
      unfolding delivered_count
      taken-exact =
          let n = next_of (lent_after r d).receiver in
          below_or_not _ (next_of r.receiver) n
          (λ g.
          let k = delivered_count r d in
          let z : next_of r.receiver + k ≡ n = omega arith in
          run-true s (next_of r.receiver) (messages_at r d 0 k)
          (λ p v.
          let u : p < k = omega (arith, places-length r d 0 k) in
          let y : 0 + p ≡ p = omega arith in
          rw (places-get r d 0 k p u, y) (place-true p u (omega arith)))
          k (places-length r d 0 k) (omega arith)
          ∙ ap (messages_from s (next_of r.receiver)) z)
          (λ g.
          let m : next_of r.receiver ≤ n = omega (arith, (ahead-by r i (taken t o e)).hold.number) in
          still s r d (omega arith))

    exact-by : (r : Lent) → Inv r → Effect r → delivery r d ≡ messages_from s (next_of r.receiver) (next_of (lent_after r d).receiver)
    exact-by r i (nothing e) = still s r d (ap (λ (x : Lent). next_of x.receiver) e)
    exact-by r i (taken t o e) = taken-exact r i t o e
    exact-by r i (ended-now t n e) = still s r d (ap (λ (x : Lent). next_of x.receiver) e)

    -- ---- two receivers, the second at least as far as the first

    further : (r q p : Lent) → Behind r q → Behind q p → Behind r p
    further r q p a b = record { hold = one.further s _ _ _ a.hold b.hold; ended = λ x. b.ended (a.ended x) }

    module _ (q : Lent) (j : Inv q) where
      behind-by : (r : Lent) → Inv r → Behind r q → OfKind s d → Effect r → Behind (lent_after r d) (lent_after q d)
      behind-by r i b o (nothing e) = rw e (further r q _ b (ahead-by q j (effect q j o)))
      behind-by r i b o (taken t x e) =
          either q.receiver.base.ended _
          (λ y.
          rw (e, ended-stays q j t.named y)
          (record {
            hold = at-end-behind _ (reading q) (held_then t r i.sound i.hold) (j.at-end y);
            ended = λ z. y;
          }))
          (λ y.
          rw (e, open-data q j t y)
          (record {
            hold = both-then t r q i.sound j.sound i.hold j.hold b.hold;
            ended = λ z. absurd (true≢false (sym z ∙ (same_base r (number_of d) (messages_of d)).ended ∙ x));
          }))
      behind-by r i b o (ended-now t n e) =
          let m : next_of q.receiver ≡ last_of s + 1 = omega (arith, b.hold.number, j.hold.to_last) in
          let c = empty-inv (ended_now r.receiver).base r.lengths r.slots i.hold.from_one i.hold.to_last in
          either q.receiver.base.ended _
          (λ y. rw (e, ended-stays q j t.named y) (record { hold = at-end-behind _ (reading q) c m; ended = λ z. y }))
          (λ y.
          let f : lent_after q d ≡ lent (ended_now q.receiver) q.lengths q.slots = open-end q j t y ∙ take-end q d t.kind (omega (arith, t.number)) in
          rw (e, f) (record { hold = at-end-behind _ (reading (lent (ended_now q.receiver) q.lengths q.slots)) c m; ended = λ z. refl }))

  pub keeps : Keeps keeper s (OfKind s) Inv Behind
  keeps =
      record {
        in-range = λ r i. (i.hold.from_one, i.hold.to_last);
        kept = λ r d i o. inv-by d r i (effect d r i o);
        rises = λ r d i o. (ahead-by d r i (effect d r i o)).hold.number;
        exact = λ r d i o. exact-by d r i (effect d r i o);
        ahead = λ r d i o. ahead-by d r i (effect d r i o);
        still-behind = λ r q d i j b o. behind-by d q j r i b o (effect d r i o);
        behind-number = λ r q b. b.hold.number;
        behind-ended = λ r q b. b.ended;
      }
