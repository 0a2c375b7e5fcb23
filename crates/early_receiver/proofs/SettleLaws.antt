-- Laws of what is settled without what is lent: data and heartbeats that aren't ahead, at a receiver of their name.
use Rattle.std.specs.Prelude.{Result, Ok, Err, ⊤}
use mathlib.Core.Path.{◌≡◌, refl, sym, ap, ◌∙◌}
use mathlib.Core.List.{List, []}
use mathlib.Core.Bool.{Bool, true, false, not, ◌&&◌, true≢false}
use Prim.Native.Nat.{ℕ, ◌+◌}
use lib.ListN.{length, get_or, take}
use lib.Dec.{leb, eqb}
use borrow.Author.Tests.{lt-ltb, le-ltb, le-leb, lt-leb, eqb-false, not-true, not-false}
use Rattle.wire.specs.Bounds.{blank}
use Rattle.wire.specs.Words.{Words, Case, answer, refused}
use Rattle.wire.specs.declared.refusal.Refusal.{Refusal}
use Rattle.wire.specs.declared.kinds.SequenceNumber.{SequenceNumber}
use Rattle.wire.specs.declared.kinds.MessageCount.{MessageCount}
use Rattle.wire.specs.declared.kinds.MessagePlace.{MessagePlace}
use Rattle.wire.proofs.Cases.{below_or_not}
use Rattle.wire.proofs.Same.{same-equal, different}
use Rattle.moldudp64.specs.declared.downstream.Downstream.{Downstream}
use Rattle.moldudp64.specs.declared.downstream.Downstream.TheVariants as found
use Rattle.moldudp64.specs.Downstream.{data_packet, heartbeat, downstream_words, downstream_of}
use Rattle.receiver.specs.declared.receiver.Receiver.{Receiver}
use Rattle.receiver.specs.declared.receiver.Answer.{Answer as Plain}
use Rattle.receiver.specs.declared.receiver.Answer.TheVariants as plain
use Rattle.receiver.specs.declared.receiver.Taken.{Taken as PlainTaken}
use Rattle.receiver.specs.Table.{AnswerKind, deliver, old, quiet, ask, ended, table, numbered, answer_words}
use Rattle.receiver.specs.Receiver.{name_by, named_by, open_for, end_below, own_refusal, number_read, below_read_at, refusal_read, row_read_at, row_read, after_row, TakesRow}
use Rattle.receiver.proofs.LadderLaws.{own_name}
use Rattle.receiver.proofs.TableLaws.{row-data, row-heartbeat}
use Rattle.early_holding.specs.declared.holding.EarlyReceiver.{EarlyReceiver}
use Rattle.early_holding.specs.Holding.{lent, early}
use Rattle.early_holding.proofs.HoldingLaws.{either}
use Rattle.early_receiver.specs.declared.early.Answer.TheVariants.{Old, Quiet}
use Rattle.early_receiver.specs.declared.early.Settled.{Settled}
use Rattle.early_receiver.specs.declared.early.Taken.{Taken}
use Rattle.wire.specs.Words.{refused_by}
use Rattle.early_receiver.specs.Early.{with_slots, TakesEarly}
use Rattle.early_receiver.specs.Read.{early_refusal_read, early_answer_read, request_read, lent_after_read}
use Rattle.early_receiver.specs.Steps.{Stays, Delivers, Accepts}
use Rattle.early_receiver.specs.Settled.{data_or_beat, is_here, settles, unsettled_of, settled_of, Settles, RowHere, stays_here, SettlesRow}
use Rattle.early_receiver.proofs.ReadLaws.{whole_takes}
use Rattle.early_receiver.proofs.AcceptLaws as accepts

-- ---- the kind

module _ (p : Result Downstream Refusal) where
  module _ (d : Downstream) (k : p ≡ Ok d) where
    pub kind-data : (f : SequenceNumber) (c : MessageCount) → d ≡ found.Data f c → true ≡ data_or_beat (downstream_words p).which
    unfolding data_or_beat downstream_words
    kind-data f c e = rw (k, e) refl

    pub kind-beat : (f : SequenceNumber) → d ≡ found.Heartbeat f → true ≡ data_or_beat (downstream_words p).which
    unfolding data_or_beat downstream_words
    kind-beat f e = rw (k, e) refl

    pub kind-end : (f : SequenceNumber) → d ≡ found.EndOfSession f → false ≡ data_or_beat (downstream_words p).which
    unfolding data_or_beat downstream_words
    kind-end f e = rw (k, e) refl

  pub kind-refused : (k : Refusal) → p ≡ Err k → false ≡ data_or_beat (downstream_words p).which
  unfolding data_or_beat downstream_words
  kind-refused k e = rw e refl

  -- ---- its row

  module _ (x : PlainTaken) (b : Receiver) where
    module _ (d : Downstream) (k : p ≡ Ok d) where
      pub here-data : (f : SequenceNumber) (c : MessageCount) → d ≡ found.Data f c
          → TakesRow x b (table b.limit.0 b.next.0 data_packet f.0 (numbered f.0 c.0)) → RowHere x b (downstream_words p)
      here-data f c e t z = row-data b p d k x f c e t

      pub here-beat : (f : SequenceNumber) → d ≡ found.Heartbeat f → TakesRow x b (table b.limit.0 b.next.0 heartbeat f.0 0) → RowHere x b (downstream_words p)
      here-beat f e t z = row-heartbeat b p d k x f e t

      pub here_end : (f : SequenceNumber) → d ≡ found.EndOfSession f → RowHere x b (downstream_words p)
      here_end f e z = absurd (true≢false (sym z ∙ sym (kind-end d k f e)))

    pub here-refused : (k : Refusal) → p ≡ Err k → RowHere x b (downstream_words p)
    here-refused k e z = absurd (true≢false (sym z ∙ sym (kind-refused k e)))

-- ---- a refusal before anything is taken

pub refusal-so : (r : EarlyReceiver) (ls ss l : List ℕ) (p : Result Downstream Refusal) (b : Bool) (s x : Result ⊤ Refusal)
    → b ≡ (eqb (length ss) 65536 && eqb (length ls) 128) → s ≡ refused_by (refusal_read r.base l (downstream_words p))
    → ((k : ℕ) → s ≡ refused_by k → x ≡ refused_by (with_slots b k)) → x ≡ refused_by (early_refusal_read (lent r ls ss) l (downstream_words p))
unfolding early_refusal_read
refusal-so r ls ss l p b s x e f g = g _ f ∙ rw e refl

-- ---- a row settled: a is the plain receiver's answer, m that receiver after it

module _ (r : EarlyReceiver) (l : List ℕ) (p : Result Downstream Refusal) (a : Plain) (m : Receiver)
    (e : refusal_read r.base l (downstream_words p) ≡ 0) (g : answer_words a ≡ (row_read r.base (downstream_words p)).reply)
    (h : m ≡ after_row (named_by r.base l) (row_read r.base (downstream_words p))) where
  row_is : (k : Case AnswerKind) → (answer_words a).which ≡ k → stays_here k ≡ stays_here (row_read r.base (downstream_words p)).reply.which
  row_is k z = ap stays_here (sym z ∙ ap (λ (x : Words AnswerKind). x.which) g)

  unsettled-row : (k : Case AnswerKind) (y : Settled) → (answer_words a).which ≡ k → stays_here k ≡ false → y ≡ unsettled_of r → SettlesRow y r l (downstream_words p)
  unsettled-row k y z f u =
      record {
        applies = ap (λ (x : Settled). x.applies) u ∙ sym f ∙ row_is k z;
        accepts = λ v. absurd (true≢false (sym v ∙ ap (λ (x : Settled). x.applies) u));
        else_nothing = λ v. u;
      }

  settled-row : (k : Case AnswerKind) (x : Taken) (y : Settled) → (answer_words a).which ≡ k → stays_here k ≡ true
      → ((ls ss : List ℕ) → Accepts x ls ss (lent r ls ss) l (downstream_words p)) → y ≡ settled_of x → SettlesRow y r l (downstream_words p)
  settled-row k x y z t d u =
      record {
        applies = ap (λ (v : Settled). v.applies) u ∙ sym t ∙ row_is k z;
        accepts = λ v. rw u d;
        else_nothing = λ v. absurd (true≢false (sym (ap (λ (x : Settled). x.applies) u) ∙ v));
      }

  module _ (f : SequenceNumber) (c : MessageCount) (k : MessagePlace) (u : a ≡ plain.Deliver f c k) where
    pub row_next : m.next.0 ≡ f.0 + c.0
    row_next = accepts.deliver-next r [] [] l p a m e g h f c k u

    pub row_open : m.ended ≡ false
    row_open = accepts.deliver-open r [] [] l p a m e g h f c k u

    pub row-deliver : (x : Taken) (y : Settled) → Delivers x (early m r.held.0) f.0 c.0 k.0 → y ≡ settled_of x → SettlesRow y r l (downstream_words p)
    unfolding answer_words stays_here
    row-deliver x y d s = settled-row (answer deliver) x y (rw u refl) refl (λ ls ss. accepts.accept-deliver r ls ss l p a m e g h f c k u x d) s

  module _ (u : a ≡ plain.Old) where
    pub row-old-open : m.ended ≡ false
    row-old-open = accepts.old-open r [] [] l p a m e g h u

    pub row_old : (x : Taken) (y : Settled) → Stays x (early m r.held.0) Old 0 → y ≡ settled_of x → SettlesRow y r l (downstream_words p)
    unfolding answer_words stays_here
    row_old x y d s = settled-row (answer old) x y (rw u refl) refl (λ ls ss. accepts.accept-old r ls ss l p a m e g h u x d) s

  module _ (u : a ≡ plain.Quiet) where
    pub row-quiet-open : m.ended ≡ false
    row-quiet-open = accepts.quiet-open r [] [] l p a m e g h u

    pub row-quiet : (x : Taken) (y : Settled) → Stays x (early m r.held.0) Quiet 0 → y ≡ settled_of x → SettlesRow y r l (downstream_words p)
    unfolding answer_words stays_here
    row-quiet x y d s = settled-row (answer quiet) x y (rw u refl) refl (λ ls ss. accepts.accept-quiet r ls ss l p a m e g h u x d) s

  pub row-ask : (f : SequenceNumber) (c : MessageCount) (y : Settled) → a ≡ plain.Ask f c → y ≡ unsettled_of r → SettlesRow y r l (downstream_words p)
  unfolding answer_words stays_here
  row-ask f c y u s = unsettled-row (answer ask) y (rw u refl) refl s

  pub row-ended : (y : Settled) → a ≡ plain.Ended → y ≡ unsettled_of r → SettlesRow y r l (downstream_words p)
  unfolding answer_words stays_here
  row-ended y u s = unsettled-row (answer ended) y (rw u refl) refl s

  pub row-refused : (k : Refusal) (y : Settled) → a ≡ plain.Refused k → y ≡ unsettled_of r → SettlesRow y r l (downstream_words p)
  unfolding answer_words stays_here
  row-refused k y u s = unsettled-row refused y (rw u refl) refl s

-- ---- whether the receiver is open for the datagram

module _ (b : Receiver) (l : List ℕ) (o : open_for b l ≡ true) where
  record Open : Type 0 where
    going : b.ended ≡ false
    named : b.session ≡ blank → ⊥
    same : take 10 l ≡ b.session

  is_open : Open
  unfolding open_for
  is_open =
      either b.ended _ (λ q. absurd (true≢false (sym o ∙ rw q refl)))
      (λ q.
      either (eqb (get_or b.session 9 0) 32) _ (λ z. absurd (true≢false (sym o ∙ rw (q, z) refl)))
      (λ z.
      let n : get_or b.session 9 0 ≡ 32 → ⊥ = eqb-false _ _ z in
      record {
        going = q;
        named = λ y. n (ap (λ (x : List ℕ). get_or x 9 0) y);
        same = same-equal (take 10 l) b.session (sym (rw (q, z) refl) ∙ o);
      }))

  pub named-same : named_by b l ≡ b
  unfolding name_by
  named-same = rw (different b.session blank is_open.named) refl

  pub open-read : (p : Result Downstream Refusal) → data_or_beat (downstream_words p).which ≡ true → refusal_read b l (downstream_words p) ≡ 0
  unfolding refusal_read own_refusal below_read_at end_below downstream_words data_or_beat
  open-read (Ok (found.Data f c)) z = rw (own_name b l is_open.named is_open.same, is_open.going) refl
  open-read (Ok (found.Heartbeat f)) z = rw (own_name b l is_open.named is_open.same, is_open.going) refl
  open-read (Ok (found.EndOfSession f)) z = absurd (true≢false (sym z))
  open-read (Err k) z = absurd (true≢false (sym z))

-- ---- a row stays where its number isn't above

data-stays : (limit n f c : ℕ) → stays_here (table limit n data_packet f c).reply.which ≡ leb f n
unfolding table stays_here
data-stays limit n f c =
    below_or_not _ n f (λ h. rw (lt-ltb _ _ h, lt-leb _ _ h) refl)
    (λ h. below_or_not _ n (f + c) (λ g. rw (le-ltb _ _ h, lt-ltb _ _ g, le-leb _ _ h) refl) (λ g. rw (le-ltb _ _ h, le-ltb _ _ g, le-leb _ _ h) refl))

beat-stays : (limit n f c : ℕ) → stays_here (table limit n heartbeat f c).reply.which ≡ leb f n
unfolding table stays_here
beat-stays limit n f c =
    below_or_not _ n f (λ h. rw (lt-ltb _ _ h, lt-leb _ _ h) refl)
    (λ h. below_or_not _ f n (λ g. rw (le-ltb _ _ h, lt-ltb _ _ g, le-leb _ _ h) refl) (λ g. rw (le-ltb _ _ h, le-ltb _ _ g, le-leb _ _ h) refl))

stays-read : (b : Receiver) (p : Result Downstream Refusal) → data_or_beat (downstream_words p).which ≡ true
    → stays_here (row_read b (downstream_words p)).reply.which ≡ leb (number_read (downstream_words p)) b.next.0
unfolding row_read_at downstream_words data_or_beat
stays-read b (Ok (found.Data f c)) z = data-stays b.limit.0 b.next.0 f.0 (numbered f.0 c.0)
stays-read b (Ok (found.Heartbeat f)) z = beat-stays b.limit.0 b.next.0 f.0 (numbered f.0 0)
stays-read b (Ok (found.EndOfSession f)) z = absurd (true≢false (sym z))
stays-read b (Err k) z = absurd (true≢false (sym z))

-- ---- settled

pub here-open : (b : Receiver) (l : List ℕ) (p : Result Downstream Refusal) (o k : Bool) → o ≡ open_for b l → o ≡ true → k ≡ data_or_beat (downstream_words p).which → k ≡ is_here b l (downstream_words p)
unfolding is_here
here-open b l p o k e t f = rw (sym e ∙ t) f

pub here-not : (b : Receiver) (l : List ℕ) (p : Result Downstream Refusal) (o : Bool) → o ≡ open_for b l → o ≡ false → false ≡ is_here b l (downstream_words p)
unfolding is_here
here-not b l p o e t = rw (sym e ∙ t) refl

module _ (r : EarlyReceiver) (l : List ℕ) (p : Result Downstream Refusal) (t : Bool) (e : t ≡ is_here r.base l (downstream_words p)) where
  pub not-here : (y : Settled) → not t ≡ true → y ≡ unsettled_of r → Settles y r l (downstream_words p)
  unfolding settles
  not-here y n u =
      record {
        applies = ap (λ (x : Settled). x.applies) u ∙ rw (sym e ∙ not-true t n) refl;
        takes = λ v. absurd (true≢false (sym v ∙ ap (λ (x : Settled). x.applies) u));
        else_nothing = λ v. u;
      }

  module _ (n : not t ≡ false) where
    so : is_here r.base l (downstream_words p) ≡ true
    so = sym e ∙ not-false t n

    open-so : open_for r.base l ≡ true
    unfolding is_here
    open-so = either (open_for r.base l) _ (λ q. q) (λ q. absurd (true≢false (sym so ∙ rw q refl)))

    here : data_or_beat (downstream_words p).which ≡ true
    unfolding is_here
    here = rw open-so at so

    pub settle-open : refusal_read r.base l (downstream_words p) ≡ 0
    settle-open = open-read r.base l open-so p here

    module _ (x : PlainTaken) (row : RowHere x r.base (downstream_words p)) where
      pub settle-answer : answer_words x.answer ≡ (row_read r.base (downstream_words p)).reply
      settle-answer = (row here).answers

      pub settle-after : x.receiver ≡ after_row (named_by r.base l) (row_read r.base (downstream_words p))
      settle-after = (row here).leaves ∙ ap (λ (b : Receiver). after_row b (row_read r.base (downstream_words p))) (sym (named-same r.base l open-so))

    pub settle-done : (y : Settled) → SettlesRow y r l (downstream_words p) → Settles y r l (downstream_words p)
    unfolding settles early_refusal_read early_answer_read request_read lent_after_read with_slots
    settle-done y s =
        record {
          applies = s.applies ∙ stays-read r.base p here ∙ rw so refl;
          takes = λ v ls ss z.
              let d = s.accepts v ls ss in
              record { answers = rw (z, settle-open) d.answers; asks = rw (z, settle-open) d.asks; leaves = rw (z, settle-open) d.leaves };
          else_nothing = s.else_nothing;
        }

-- ---- as `take` has it: what is settled is taken, whatever is lent of its size

pub settled-takes : (r : EarlyReceiver) (ls ss l : List ℕ) (p : Result Downstream Refusal) (b : Bool) (y : Settled) (x : Taken) → downstream_words p ≡ downstream_of l
    → b ≡ (eqb (length ss) 65536 && eqb (length ls) 128) → b ≡ true → Settles y r l (downstream_words p) → y.applies ≡ true → y.taken ≡ x
    → TakesEarly x ls ss (lent r ls ss) l
settled-takes r ls ss l p b y x e f g s a i = whole_takes x ls ss (lent r ls ss) l p e (rw i at (s.takes a ls ss (sym f ∙ g)))
