-- The receiver that keeps early messages gets at least as far as the plain one.
use Prim.Native.Nat.{ℕ, zero, suc, ◌+◌, ◌-◌, ◌<◌, ◌≤◌}
use mathlib.Core.Path.{◌≡◌, refl, sym, ap, ◌∙◌}
use mathlib.Core.List.{List, [], ◌∷◌, ◌++◌}
use mathlib.Core.Bool.{true, false}
use native.Mathlib.Omega.{arith}
use lib.ListN.{length, take}
use lib.Dec.{eqb}
use borrow.Author.Tests.{eqb-true, eqb-false}
use Rattle.wire.specs.Bounds.{blank}
use Rattle.wire.specs.Words.{Words, answer}
use Rattle.wire.proofs.Cases.{zero_or_not}
use Rattle.wire.proofs.Words.{which-of}
use Rattle.moldudp64.specs.Header.{number_of, count_of}
use Rattle.moldudp64.specs.Downstream.{kind_of}
use Rattle.feed.specs.Session.{Datagram, Session, last_of, OfKind, All, AllOfKind}
use Rattle.feed.specs.Machine.{after}
use Rattle.feed.specs.Faithful.{Opens, on_its_name, learns_it}
use Rattle.feed.proofs.FeedLaws.{first_of, rest_of, length_from, led-after}
use Rattle.receiver.specs.declared.receiver.Receiver.{Receiver}
use Rattle.receiver.specs.Table.{AnswerKind, deliver, Outcome, Row, data_reaches, data_below, heartbeat_below, heartbeat_there, any_above, end_there}
use Rattle.receiver.specs.Receiver.{receiver, start_receiver, refusal_for, table_row, after_row, answer_of, receiver_after}
use Rattle.receiver.specs.Delivery.{messages_delivered}
use Rattle.receiver.specs.Condition3.{plain, Condition3For, RefusedChangeNothing}
use Rattle.receiver.proofs.StartLaws.{started}
use Rattle.receiver.proofs.TableLaws.{row-answer, row-after, row_named}
use Rattle.receiver.proofs.Promises.{names-it, row_of}
use Rattle.receiver.proofs.NamedLaws as base
use Rattle.receiver.proofs.ConditionLaws.{refused-change-nothing, condition_3}
use Rattle.early_word.specs.Word.{run, past}
use Rattle.early_holding.specs.Holding.{Lent, lent, early, next_of, number_past, move_by, move_to}
use Rattle.early_holding.proofs.HoldingLaws.{either}
use Rattle.early_receiver.specs.Early.{start_early, early_refusal, lent_after}
use Rattle.early_messages.proofs.ReachLaws.{right-refusal, Step, moves, stays, step, moved_to}
use Rattle.early_messages.proofs.CountLaws.{reached}
use Rattle.early_messages.proofs.GivesLaws.{number-past-above}
use Rattle.early_condition_3.specs.Condition3.{keeper, EarlyCondition3For}
use Rattle.early_condition_3.specs.Plain.{NeverLess}
use Rattle.early_condition_3.proofs.RuleLaws.{follows_the_rule}
use Rattle.early_condition_3.proofs.NamedLaws.{Inv, keeps}
use Rattle.early_condition_3.proofs.ConditionLaws.{refused_all, fresh, fresh-inv, unnamed, names, accepts-too, same_after, same_gives, early-condition-3}

-- ---- data that reaches the expected number takes it past the datagram's last

move-reaches : (c f n h : ℕ) → f ≤ n → f + c ≤ 18446744073709551615 → f + c ≤ (move_by c f n h).next.0
unfolding move_by
move-reaches zero f n h a b = omega arith
move-reaches (suc c) f n h a b =
    either (eqb f n) _
    (λ q.
    let e : f ≡ n = eqb-true _ _ q in
    let p = number-past-above n h (omega arith) in
    rw q (omega (arith, move-reaches c (f + 1) (number_past n h) (past h (run h + 1)) (omega arith) (omega arith))))
    (λ q.
    let e : f ≡ n → ⊥ = eqb-false _ _ q in
    rw q (omega (arith, move-reaches c (f + 1) n h (omega arith) (omega arith))))

-- q has got at least as far as the plain receiver r
record Within (r : Receiver) (q : Lent) : Type 0 where
  number : r.next.0 ≤ next_of q.receiver
  ended : r.ended ≡ true → q.receiver.base.ended ≡ true

-- ---- a receiver that has the session's name, and the plain one that it has as its base

module _ (s : Session) (named : s.name ≡ blank → ⊥) where
  base-inv : (q : Lent) → Inv s named q → base.Inv s named q.receiver.base
  base-inv q i = record { name = i.name; from_one = i.hold.from_one; to_last = i.hold.to_last; at-end = i.at-end }

  module _ (q : Lent) (i : Inv s named q) (d : Datagram) (o : OfKind s d) where
    abbrev itself : Receiver
    itself = q.receiver.base

    -- where the plain one stays
    stays_within : Within itself (lent_after q d)
    stays_within = let a = (keeps s named).ahead q d i o in record { number = a.hold.number; ended = a.ended }

    still-within : receiver_after itself d ≡ itself → Within (receiver_after itself d) (lent_after q d)
    still-within e = rw e stays_within

    module _ (z : refusal_for itself d ≡ 0) where
      plain_row : (x : Outcome) → table_row itself d ≡ x → receiver_after itself d ≡ after_row itself x
      plain_row x e = row_named itself d (λ y. named (sym i.name ∙ y)) z ∙ ap (after_row itself) e

      open-too : early_refusal q d ≡ 0
      open-too = right-refusal q d i.sound.size i.sound.noted ∙ z

      reaches : number_of d ≤ next_of q.receiver → next_of q.receiver < number_of d + count_of d → (answer_of itself d).which ≡ answer deliver → Step q d
          → number_of d + count_of d ≤ next_of (lent_after q d).receiver
      unfolding move_to
      reaches f g w (moves m) =
          omega (
            arith,
            moved_to q d m,
            move-reaches (number_of d + count_of d - next_of q.receiver) (next_of q.receiver) (next_of q.receiver) q.receiver.held.0 (omega arith) (omega (arith, (reached q d m).fit)),
          )
      reaches f g w (stays m) = absurd (m.silent i.sound.size i.sound.noted w)

      by_row : (x : Outcome) → table_row itself d ≡ x → Row itself.limit.0 itself.next.0 (kind_of d) (number_of d) (count_of d) x → Within (receiver_after itself d) (lent_after q d)
      by_row x t (data_reaches k f g e) =
          rw (plain_row _ (t ∙ e))
          (record {
            number = reaches f g (which-of (row-answer itself d z ∙ ap (λ (y : Outcome). y.reply) (t ∙ e))) (step q d);
            ended = stays_within.ended;
          })
      by_row x t (data_below k f e) = still-within (plain_row _ (t ∙ e))
      by_row x t (heartbeat_below k f e) = still-within (plain_row _ (t ∙ e))
      by_row x t (heartbeat_there k f e) = still-within (plain_row _ (t ∙ e))
      by_row x t (any_above f e) = still-within (plain_row _ (t ∙ e))
      by_row x t (end_there k f e) =
          let h = (follows_the_rule.end_ends q d open-too k f).0 in
          rw (plain_row _ (t ∙ e)) (record { number = stays_within.number; ended = λ y. h.ended })

    base-within : Within (receiver_after itself d) (lent_after q d)
    base-within =
        zero_or_not _ (refusal_for itself d) (λ z. by_row z _ refl (row_of itself d z)) (λ z. still-within (base.refusal-stays itself d z).same)

  within-after : (ds : List Datagram) (r : Receiver) (q : Lent) → base.Inv s named r → Inv s named q → Within r q → AllOfKind s ds
      → Within (after plain r ds) (after keeper q ds)
  unfolding after
  within-after [] r q j i w a = w
  within-after (d ∷ ds) r q j i w a =
      let o = first_of a in
      let x = (base.keeps s named).still-behind r q.receiver.base d j (base-inv q i) (record { number = w.number; ended = w.ended }) o in
      let y = base-within q i d o in
      within-after ds (receiver_after r d) (lent_after q d) ((base.keeps s named).kept r d j o) ((keeps s named).kept q d i o)
      (record { number = omega (arith, x.number, y.number); ended = λ z. y.ended (x.ended z) }) (rest_of a)

-- ---- both started alike, on the session's name or blank

module _ (s : Session) (start limit : ℕ) (lengths slots : List ℕ) (named : s.name ≡ blank → ⊥) (h : 1 ≤ start) (l : start ≤ last_of s + 1)
    (g : length lengths ≡ 128) (k : length slots ≡ 65536) where
  abbrev whole : Lent
  whole = fresh s start limit lengths slots named h l g k

  on-name : (ds : List Datagram) → AllOfKind s ds → Within (after plain whole.receiver.base ds) (after keeper whole ds)
  on-name ds a =
      let i = fresh-inv s start limit lengths slots named h l g k in
      within-after s named ds whole.receiver.base whole (base-inv s named whole i) i (record { number = omega arith; ended = λ x. x }) a

  abbrev blind : Lent
  blind = unnamed s start limit lengths slots named h l g k

  module _ (d : Datagram) (e : refusal_for blind.receiver.base d ≡ 0) (n : take 10 d ≡ s.name) where
    also : refusal_for whole.receiver.base d ≡ 0
    also = accepts-too s start limit lengths slots named h l g k d e n

    plain-after : receiver_after blind.receiver.base d ≡ receiver_after whole.receiver.base d
    plain-after =
        row-after blind.receiver.base d e
        ∙ ap (λ (x : Lent). after_row x.receiver.base (table_row whole.receiver.base d)) (names s start limit lengths slots named h l g k d e n)
        ∙ sym (row_named whole.receiver.base d named also)

    plain-gives : plain.gives blind.receiver.base d ≡ plain.gives whole.receiver.base d
    plain-gives =
        ap (λ (x : Words AnswerKind). messages_delivered x d) (row-answer blind.receiver.base d e ∙ sym (row-answer whole.receiver.base d also))

    on-learning : (refused ds : List Datagram) → All (λ x. early_refusal blind x ≡ 0 → ⊥) refused → AllOfKind s (d ∷ ds)
        → Within (after plain blind.receiver.base (refused ++ d ∷ ds)) (after keeper blind (refused ++ d ∷ ds))
    unfolding RefusedChangeNothing
    on-learning refused ds a o =
        let c = refused_all blind refused a in
        let p = refused-change-nothing blind.receiver.base refused (λ x m z. a x m (right-refusal blind x k g ∙ z)) in
        rw (
          led-after plain s start blind.receiver.base whole.receiver.base refused d p.stays p.nothing plain-after plain-gives ds,
          led-after keeper s start blind whole refused d c.stays c.nothing (same_after s start limit lengths slots named h l g k d e n) (same_gives s start limit lengths slots named h l g k d e n) ds,
        )
        (on-name (d ∷ ds) o)

-- ---- the plain receiver refuses the same before it is named

module _ (s : Session) (name : List ℕ) (start limit : ℕ) (lengths slots : List ℕ) (g : length lengths ≡ 128) (k : length slots ≡ 65536) where
  abbrev first : Lent
  first = lent (early (start_receiver name start limit) 0) lengths slots

  pub plain-opens : {refused naming : List Datagram} → Opens s name (early_refusal first) refused naming → Opens s name (refusal_for (start_receiver name start limit)) refused naming
  plain-opens (on_its_name b n) = on_its_name b n
  plain-opens (learns_it n a f m) =
      learns_it n (λ x y z. a x y (right-refusal first x k g ∙ z)) (sym (right-refusal first _ k g) ∙ f) m

pub never_less : NeverLess
unfolding NeverLess start_early Condition3For EarlyCondition3For
never_less s name start limit lengths slots refused naming ds e h l g k o a =
    let p = (condition_3 s name start limit refused naming e h l (plain-opens s name start limit lengths slots g k o)).delivers_true ds a in
    let q = (early-condition-3 s name start limit lengths slots refused naming e h l g k o).delivers_true ds a in
    let w : Within (after plain (start_receiver name start limit) (refused ++ (naming ++ ds)))
    (after keeper (lent (early (start_receiver name start limit) 0) lengths slots) (refused ++ (naming ++ ds))) =
    rw (started name start limit e) (by-opening (rw (started name start limit e) at o) a) in
    record {
      as_many =
          rw (p.exactly, q.exactly)
          (omega (arith, w.number, length_from s start _ h p.from_start p.to_last, length_from s start _ h q.from_start q.to_last));
      ended_too = w.ended;
    }
  where
    by-opening : {refused naming : List Datagram} → Opens s name (early_refusal (lent (early (receiver name start limit false) 0) lengths slots)) refused naming
        → AllOfKind s (naming ++ ds)
        → Within (after plain (receiver name start limit false) (refused ++ (naming ++ ds)))
        (after keeper (lent (early (receiver name start limit false) 0) lengths slots) (refused ++ (naming ++ ds)))
    by-opening (on_its_name b n) a = rw n (on-name s start limit lengths slots b h l g k ds a)
    by-opening (learns_it {refused} {d} n c f m) a =
        let r : Lent = lent (early (receiver blank start limit false) 0) lengths slots in
        let x : refusal_for r.receiver.base d ≡ 0 = sym (right-refusal r d k g) ∙ (rw n at f) in
        let b : s.name ≡ blank → ⊥ = λ y. names-it r.receiver.base d x refl (m ∙ y) in
        rw n (on-learning s start limit lengths slots b h l g k d x m refused ds (rw n at c) a)
