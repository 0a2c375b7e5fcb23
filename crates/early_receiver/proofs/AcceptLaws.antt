-- Laws of an accepted datagram as `accept` has them: what each answer of the plain receiver comes to.
use Rattle.std.specs.Prelude.{Result}
use mathlib.Core.Path.{◌≡◌, refl, sym, ap, ap₂, ◌∙◌}
use mathlib.Core.List.{List, [], ◌∷◌}
use mathlib.Core.Bool.{true, false}
use Prim.Native.Nat.{ℕ, ◌+◌, ◌-◌, ◌≤◌, ◌<◌}
use native.Mathlib.Omega.{arith}
use lib.ListN.{get_or}
use borrow.Author.Tests.{eq-eqb}
use Rattle.wire.specs.Words.{Words, Case, answer, refused}
use Rattle.wire.specs.declared.refusal.Refusal.{Refusal}
use Rattle.wire.specs.declared.kinds.SequenceNumber.{SequenceNumber}
use Rattle.wire.specs.declared.kinds.MessageCount.{MessageCount}
use Rattle.wire.specs.declared.kinds.MessagePlace.{MessagePlace}
use Rattle.moldudp64.specs.declared.downstream.Downstream.{Downstream}
use Rattle.moldudp64.specs.Downstream.{DownstreamKind, downstream_words}
use Rattle.moldudp64_messages.specs.Cursor.{first_of}
use Rattle.receiver.specs.declared.receiver.Receiver.{Receiver}
use Rattle.receiver.specs.declared.receiver.Answer.{Answer as Plain}
use Rattle.receiver.specs.declared.receiver.Answer.TheVariants as plain
use Rattle.receiver.specs.Table.{AnswerKind, old, quiet, ask, ended, Outcome, answer_words}
use Rattle.receiver.specs.Receiver.{named_by, number_read, count_read, refusal_read, row_read, after_row}
use Rattle.early_holding.specs.declared.holding.EarlyReceiver.{EarlyReceiver}
use Rattle.early_holding.specs.declared.holding.Moved.{Moved}
use Rattle.early_holding.specs.Holding.{Lent, lent, early, next_of, at, move_to}
use Rattle.early_receiver.specs.declared.early.Answer.{Answer}
use Rattle.early_receiver.specs.declared.early.Answer.TheVariants.{Old, Quiet, Ended, Refused}
use Rattle.early_receiver.specs.declared.early.Taken.{Taken}
use Rattle.early_receiver.specs.Answers.{early_words, request_words}
use Rattle.early_receiver.specs.Early.{named_lent, ended_now, end_at, wanted, answer_by}
use Rattle.early_receiver.specs.Read.{messages_read, take_read_at}
use Rattle.early_receiver.specs.Steps.{Stays, moved_past, Delivers, TakesAhead, Accepts}
use Rattle.early_receiver.proofs.AnswerLaws.{no_number}
use Rattle.early_receiver.proofs.KeepingLaws.{moved_by, all-below, move-rises, length_from}
use Rattle.early_receiver.proofs.ArmLaws.{tag, Reached, Left, Above, Over, Arm, is-reached, is-left, is-above, is-over, row_open, unended, arm-of}

-- a is the plain receiver's answer, and m that receiver after it

module _ (r : EarlyReceiver) (ks ss l : List ℕ) (p : Result Downstream Refusal) (a : Plain) (m : Receiver)
    (e : refusal_read r.base l (downstream_words p) ≡ 0) (g : answer_words a ≡ (row_read r.base (downstream_words p)).reply)
    (h : m ≡ after_row (named_by r.base l) (row_read r.base (downstream_words p))) where
  abbrev w : Words DownstreamKind
  w = downstream_words p

  abbrev o : Outcome
  o = row_read r.base (downstream_words p)

  abbrev s : Lent
  s = lent r ks ss

  tagged : tag o.reply.which ≡ tag (answer_words a).which
  tagged = ap (λ (x : Words AnswerKind). tag x.which) (sym g)

  arm : Arm r.base.limit.0 (next_of r) l w o
  arm = arm-of r.base l p e

  -- a row that doesn't end the session leaves the receiver as it was, but for its name and its number
  after_is : o.ends ≡ false → m ≡ at (named_by r.base l) o.next
  after_is z = let q : after_row (named_by r.base l) o ≡ at (named_by r.base l) o.next = rw z in h ∙ q

  goes_on : o.ends ≡ false → m.ended ≡ false
  goes_on z = ap (λ (x : Receiver). x.ended) (after_is z) ∙ unended r.base l w e

  -- and where the number stays too, but for its name
  same-is : o.ends ≡ false → o.next ≡ next_of r → lent (early m r.held.0) ks ss ≡ named_lent s l
  same-is z y = ap (λ (x : Receiver). lent (early x r.held.0) ks ss) (after_is z ∙ ap (at (named_by r.base l)) y)

  which-is : (k : Case AnswerKind) → (answer_words a).which ≡ k → o.reply.which ≡ k
  which-is k z = ap (λ (x : Words AnswerKind). x.which) (sym g) ∙ z

  -- t is what the datagram leaves
  done : (x : Taken) (kt st : List ℕ) (t : Lent) → t ≡ take_read_at (named_lent s l) l w w.which → lent x.receiver kt st ≡ t
      → early_words x.answer ≡ answer_by o.reply.which (next_of r) (number_read w) (next_of t.receiver) → request_words x.request ≡ wanted t.receiver (number_read w)
      → Accepts x kt st s l w
  done x kt st t q z b d =
      record {
        answers = b ∙ ap (λ (y : Lent). answer_by o.reply.which (next_of r) (number_read w) (next_of y.receiver)) q;
        asks = d ∙ ap (λ (y : Lent). wanted y.receiver (number_read w)) q;
        leaves = z ∙ q;
      }

  -- messages to deliver
  module _ (f : SequenceNumber) (c : MessageCount) (k : MessagePlace) (u : a ≡ plain.Deliver f c k) where
    is_of_data : Reached (next_of r) l w o
    unfolding answer_words tag
    is_of_data = is-reached arm (tagged ∙ rw u)

    values : f.0 ∷ c.0 ∷ k.0 ∷ [] ≡ next_of r ∷ (number_read w + count_read w - next_of r) ∷ (next_of r - number_read w) ∷ []
    unfolding answer_words
    values = ap (λ (x : Words AnswerKind). x.values) (rw u at g ∙ ap (λ (x : Outcome). x.reply) is_of_data.outcome)

    first-is : f.0 ≡ next_of r
    first-is = ap (λ (x : List ℕ). get_or x 0 0) values

    count-is : c.0 ≡ number_read w + count_read w - next_of r
    count-is = ap (λ (x : List ℕ). get_or x 1 0) values

    skipped-is : k.0 ≡ next_of r - number_read w
    skipped-is = ap (λ (x : List ℕ). get_or x 2 0) values

    all-is : f.0 + c.0 ≡ number_read w + count_read w
    all-is = omega (arith, first-is, count-is, is_of_data.reach)

    pub deliver-next : m.next.0 ≡ f.0 + c.0
    deliver-next = ap (λ (x : Receiver). x.next.0) h ∙ ap (λ (x : Outcome). x.next) is_of_data.outcome ∙ sym all-is

    pub deliver-open : m.ended ≡ false
    deliver-open = goes_on (ap (λ (x : Outcome). x.ends) is_of_data.outcome)

    -- what the datagram leaves
    module _ (x : Taken) (d : Delivers x (early m r.held.0) f.0 c.0 k.0) where
      abbrev far : Moved
      far = move_to (next_of r) r.held.0 (number_read w + count_read w)

      end_in : number_read w + count_read w ≤ 18446744073709551615
      end_in = omega (arith, all-is, d.fits)

      takes-so : moved_by (named_lent s l) far ≡ take_read_at (named_lent s l) l w w.which
      unfolding take_read_at
      takes-so =
          let n = length_from (count_read w) l (first_of (count_read w)) in
          let z = all-below (named_lent s l) (number_read w) (messages_read l (count_read w)) is_of_data.begins (omega (arith, end_in)) in
          rw is_of_data.is_of_data (sym (rw n at z))

      past_is : moved_past (early m r.held.0) f.0 c.0 ≡ (moved_by (named_lent s l) far).receiver
      past_is =
          let b : m ≡ at (named_by r.base l) o.next = after_is (ap (λ (y : Outcome). y.ends) is_of_data.outcome) in
          ap (λ (y : Receiver). moved_past (early y r.held.0) f.0 c.0) b
          ∙ ap₂ (λ (y z : ℕ). early (at (named_by r.base l) (move_to y r.held.0 z).next.0) (move_to y r.held.0 z).held.0) first-is all-is

      rises : number_read w ≤ far.next.0
      unfolding move_to
      rises =
          let z = move-rises (number_read w + count_read w - next_of r) (next_of r) (next_of r) r.held.0 (omega (arith, is_of_data.reach, end_in)) in
          omega (arith, is_of_data.begins)

      answers-so : early_words x.answer ≡ answer_by o.reply.which (next_of r) (number_read w) far.next.0
      unfolding answer_by
      answers-so =
          rw (ap (λ (y : Outcome). y.reply.which) is_of_data.outcome)
          (d.answers ∙ rw (past_is, first-is, skipped-is))

      pub accept-deliver : Accepts x ks ss s l w
      accept-deliver =
          done x ks ss (moved_by (named_lent s l) far) takes-so (ap (λ (y : EarlyReceiver). lent y ks ss) (d.leaves ∙ past_is)) answers-so
          (d.asks ∙ ap (λ (y : EarlyReceiver). wanted y 0) past_is ∙ no_number (moved_by (named_lent s l) far).receiver (number_read w) rises)

  -- the number stays, and what is held too
  module _ (b : Left (next_of r) l w o) (x : Taken) (y : Answer) (d : Stays x (early m r.held.0) y 0)
      (q : early_words y ≡ answer_by o.reply.which (next_of r) (number_read w) (next_of r)) where
    accept-left : Accepts x ks ss s l w
    accept-left =
        let z = same-is b.goes_on b.next in
        done x ks ss (named_lent s l) (sym (b.same (named_lent s l) refl)) (ap (λ (v : EarlyReceiver). lent v ks ss) d.leaves ∙ z)
        (ap early_words d.answers ∙ q)
        (d.asks ∙ ap (λ (v : Lent). wanted v.receiver 0) z ∙ no_number (named_lent s l).receiver (number_read w) b.begins)

  module _ (u : a ≡ plain.Old) where
    old-left : Left (next_of r) l w o
    unfolding answer_words tag
    old-left = is-left arm (tagged ∙ rw u)

    pub old-open : m.ended ≡ false
    old-open = goes_on old-left.goes_on

    pub accept-old : (x : Taken) → Stays x (early m r.held.0) Old 0 → Accepts x ks ss s l w
    unfolding answer_words answer_by early_words
    accept-old x d = accept-left old-left x Old d (rw (which-is (answer old) (rw u)))

  module _ (u : a ≡ plain.Quiet) where
    quiet-left : Left (next_of r) l w o
    unfolding answer_words tag
    quiet-left = is-left arm (tagged ∙ rw u)

    pub quiet-open : m.ended ≡ false
    quiet-open = goes_on quiet-left.goes_on

    pub accept-quiet : (x : Taken) → Stays x (early m r.held.0) Quiet 0 → Accepts x ks ss s l w
    unfolding answer_words answer_by early_words
    accept-quiet x d = accept-left quiet-left x Quiet d (rw (which-is (answer quiet) (rw u)))

  -- a refusal of number 0 that was made up
  module _ (v : Refusal) (u : a ≡ plain.Refused v) where
    refused-left : Left (next_of r) l w o
    unfolding answer_words tag
    refused-left = is-left arm (tagged ∙ rw u)

    pub refused-open : m.ended ≡ false
    refused-open = goes_on refused-left.goes_on

    no-number-in : v.number ≡ 0
    unfolding answer_words
    no-number-in = ap (λ (x : Words AnswerKind). x.refusal) (rw u at g) ∙ row_open r.base w w.which

    pub accept-refused : (x : Taken) → Stays x (early m r.held.0) (Refused v) 0 → Accepts x ks ss s l w
    unfolding answer_words answer_by early_words
    accept-refused x d = accept-left refused-left x (Refused v) d (rw (which-is refused (rw u), no-number-in))

  -- a datagram ahead
  module _ (f : SequenceNumber) (c : MessageCount) (u : a ≡ plain.Ask f c) where
    asks-above : Above (next_of r) r.base.limit.0 w o
    unfolding answer_words tag
    asks-above = is-above arm (tagged ∙ rw u)

    ask-stays : m.next.0 ≡ next_of r
    ask-stays = ap (λ (x : Receiver). x.next.0) h ∙ ap (λ (x : Outcome). x.next) asks-above.outcome

    pub ask-above : m.next.0 < number_read w
    ask-above = omega (arith, ask-stays, asks-above.above)

    pub ask-open : m.ended ≡ false
    ask-open = goes_on (ap (λ (x : Outcome). x.ends) asks-above.outcome)

    pub accept-ask : (x : Taken) (kt st : List ℕ) → TakesAhead x kt st (lent (early m r.held.0) ks ss) l w → Accepts x kt st s l w
    unfolding answer_words answer_by early_words
    accept-ask x kt st d =
        let z = same-is (ap (λ (v : Outcome). v.ends) asks-above.outcome) (ap (λ (v : Outcome). v.next) asks-above.outcome) in
        let b : lent x.receiver kt st ≡ take_read_at (named_lent s l) l w w.which = d.leaves ∙ ap (λ (v : Lent). take_read_at v l w w.which) z in
        done x kt st (lent x.receiver kt st) b refl (rw (which-is (answer ask) (rw u), d.answers)) d.asks

  -- the session ends
  module _ (u : a ≡ plain.Ended) where
    ends_so : Over (next_of r) w o
    unfolding answer_words tag
    ends_so = is-over arm (tagged ∙ rw u)

    over-is : m ≡ (ended_now (named_lent s l).receiver).base
    over-is = h ∙ ap (after_row (named_by r.base l)) ends_so.outcome

    pub over-ended : m.ended ≡ true
    over-ended = ap (λ (x : Receiver). x.ended) over-is

    pub accept-ended : (x : Taken) → Stays x (early m 0) Ended 0 → Accepts x ks ss s l w
    unfolding answer_words answer_by early_words take_read_at end_at
    accept-ended x d =
        let t = lent (ended_now (named_lent s l).receiver) ks ss in
        let z : early m 0 ≡ t.receiver = ap (λ (v : Receiver). early v 0) over-is in
        let b : t ≡ take_read_at (named_lent s l) l w w.which = rw (ends_so.is-end, eq-eqb _ _ ends_so.number) in
        done x ks ss t b (ap (λ (v : EarlyReceiver). lent v ks ss) (d.leaves ∙ z)) (rw (which-is (answer ended) (rw u), d.answers))
        (d.asks ∙ ap (λ (v : EarlyReceiver). wanted v 0) z ∙ no_number t.receiver (number_read w) (omega (arith, ends_so.number)))
