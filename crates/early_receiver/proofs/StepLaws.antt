-- Laws of the two steps that an accepted datagram can take: messages delivered, and a datagram ahead.
use Rattle.std.specs.Prelude.{Result, Ok, Err}
use mathlib.Core.Path.{◌≡◌, sym, ap, ◌∙◌}
use mathlib.Core.List.{List}
use mathlib.Core.Bool.{false}
use Prim.Native.Nat.{ℕ, ◌+◌, ◌-◌, ◌≤◌, ◌<◌, min}
use native.Mathlib.Omega.{arith}
use mir.Val.{Fits}
use mir.Syntax.{w16, w64}
use borrow.Author.Tests.{ne_eqb}
use Rattle.wire.specs.declared.refusal.Refusal.{Refusal}
use Rattle.wire.specs.declared.kinds.SequenceNumber.{SequenceNumber}
use Rattle.wire.specs.declared.kinds.MessageCount.{MessageCount}
use Rattle.wire.specs.declared.kinds.MessagePlace.{MessagePlace}
use Rattle.moldudp64.specs.declared.downstream.Downstream.{Downstream}
use Rattle.moldudp64.specs.declared.downstream.Downstream.TheVariants.{Data, Heartbeat, EndOfSession}
use Rattle.moldudp64.specs.Downstream.{downstream_words}
use Rattle.receiver.specs.declared.receiver.Receiver.{Receiver}
use Rattle.receiver.specs.Table.{numbered}
use Rattle.receiver.specs.Receiver.{number_read}
use Rattle.early_holding.specs.declared.holding.EarlyReceiver.{EarlyReceiver}
use Rattle.early_holding.specs.declared.holding.Moved.{Moved}
use Rattle.early_holding.specs.Holding.{Lent, lent, early, next_of, at, take_all, moved, move_to}
use Rattle.early_holding.proofs.HoldingLaws.{move-free}
use Rattle.early_receiver.specs.declared.early.Answer.TheVariants.{Deliver, Ahead}
use Rattle.std.specs.Prelude.{Option}
use Rattle.early_receiver.specs.declared.early.Ask.{Ask}
use Rattle.std.specs.Prelude.{None}
use Rattle.early_receiver.specs.declared.early.Taken.{Taken}
use Rattle.early_receiver.specs.Answers.{early_words, request_words}
use Rattle.early_receiver.specs.Early.{end_at, wanted}
use Rattle.early_receiver.specs.Read.{messages_read, take_read_at}
use Rattle.early_receiver.specs.Steps.{Stays, moved_past, Delivers, TakesAhead}
use Rattle.early_receiver.proofs.AnswerLaws.{wants-nothing}
use Rattle.early_receiver.proofs.KeepingLaws.{above-base}

-- ---- messages delivered

module _ (r : EarlyReceiver) (n : SequenceNumber) (c : MessageCount) (p : MessagePlace) (e : next_of r ≡ n.0 + c.0) (f : Fits w64 (next_of r)) where
  free-past : r.held.0 ≡ 0 → moved_past r n.0 c.0 ≡ r
  free-past z =
      let m : move_to n.0 r.held.0 (n.0 + c.0) ≡ moved (next_of r) 0 = rw (z, ← e) (move-free n.0 (next_of r) (omega arith) f) in
      ap (λ (x : Moved). early (at r.base x.next.0) x.held.0) m ∙ ap (early r.base) (sym z)

  pub deliver-free : r.base.ended ≡ false → r.held.0 ≡ 0 → Fits w16 c.0
      → Delivers (record { answer = Deliver n c p; request = None; receiver = r }) r n.0 c.0 p.0
  unfolding early_words
  deliver-free o z g =
      let q = free-past z in
      let d : min 65535 (next_of (moved_past r n.0 c.0) - n.0) ≡ c.0 = omega (arith, ap next_of q) in
      record { answers = rw d; asks = wants-nothing r o z ∙ ap (λ (x : EarlyReceiver). wanted x 0) (sym q); leaves = sym q; fits = omega arith }

pub past_fits : (r : EarlyReceiver) (n c : ℕ) → next_of r ≡ n + c → Fits w64 (next_of r) → n + c ≤ 18446744073709551615
past_fits r n c e f = omega arith

pub past-held : (r : EarlyReceiver) (n c end : ℕ) (m : Moved) → next_of r ≡ n + c → Fits w64 (next_of r) → end ≡ min 18446744073709551615 (n + c)
    → m ≡ move_to n r.held.0 end
    → record { base = record { session = r.base.session; next = m.next; limit = r.base.limit; ended = r.base.ended }; held = m.held } ≡ moved_past r n c
past-held r n c end m e f d g =
    let u : end ≡ n + c = omega arith in
    ap (λ (x : Moved). early (at r.base x.next.0) x.held.0) (rw u at g)

pub deliver-held : (r q : EarlyReceiver) (n : SequenceNumber) (c : ℕ) (p : MessagePlace) (k : MessageCount) (y : Option Ask) → n.0 + c ≤ 18446744073709551615
    → q ≡ moved_past r n.0 c → k.0 ≡ min 65535 (next_of q - n.0) → request_words y ≡ wanted q 0 → Delivers (record { answer = Deliver n k p; request = y; receiver = q }) r n.0 c p.0
unfolding early_words
deliver-held r q n c p k y e x i w =
    let d : k.0 ≡ min 65535 (next_of (moved_past r n.0 c) - n.0) = i ∙ ap (λ (z : EarlyReceiver). min 65535 (next_of z - n.0)) x in
    record { answers = rw d; asks = w ∙ ap (λ (z : EarlyReceiver). wanted z 0) x; leaves = x; fits = e }

pub moved_open : (r q : EarlyReceiver) (n c : ℕ) → r.base.ended ≡ false → q ≡ moved_past r n c → q.base.ended ≡ false
moved_open r q n c e g = ap (λ (x : EarlyReceiver). x.base.ended) g ∙ e

-- ---- a datagram ahead

module _ (p : Result Downstream Refusal) (n : ℕ) (h : n < number_read (downstream_words p)) (d : Downstream) (k : p ≡ Ok d) where
  pub data-above : (f : SequenceNumber) (c : MessageCount) → d ≡ Data f c → n < f.0
  unfolding downstream_words
  data-above f c e = rw (k, e) at h

  pub beat-above : (f : SequenceNumber) → d ≡ Heartbeat f → n < f.0
  unfolding downstream_words
  beat-above f e = rw (k, e) at h

  pub end-above : (f : SequenceNumber) → d ≡ EndOfSession f → n < f.0
  unfolding downstream_words
  end-above f e = rw (k, e) at h

-- the messages kept change neither the number nor whether the session has ended
module _ (r q : EarlyReceiver) (ks ss kt st : List ℕ) (f : ℕ) (ms : List (List ℕ)) (g : lent q kt st ≡ take_all (lent r ks ss) f ms) where
  same_base : next_of r < f → q.base ≡ r.base
  same_base h = ap (λ (x : Lent). x.receiver.base) g ∙ above-base ms (lent r ks ss) f h

  pub kept-open : next_of r < f → r.base.ended ≡ false → q.base.ended ≡ false
  kept-open h e = ap (λ (x : Receiver). x.ended) (same_base h) ∙ e

  pub kept_above : next_of r < f → next_of q < f
  kept_above h = omega (arith, ap (λ (x : Receiver). x.next.0) (same_base h))

module _ (p : Result Downstream Refusal) (r : EarlyReceiver) (ks ss l : List ℕ) (x : Taken) where
  module _ (d : Downstream) (k : p ≡ Ok d) where
    pub ahead-kept : (q : EarlyReceiver) (kt st : List ℕ) (f : SequenceNumber) (c : MessageCount) → d ≡ Data f c
        → lent q kt st ≡ take_all (lent r ks ss) f.0 (messages_read l (numbered f.0 c.0)) → Stays x q Ahead f.0
        → TakesAhead x kt st (lent r ks ss) l (downstream_words p)
    unfolding downstream_words take_read_at
    ahead-kept q kt st f c e g y =
        rw (k, e)
        (record {
          answers = y.answers;
          asks = y.asks ∙ ap (λ (z : EarlyReceiver). wanted z f.0) (sym y.leaves);
          leaves = ap (λ (z : EarlyReceiver). lent z kt st) y.leaves ∙ g;
        })

    pub ahead-beat : (f : SequenceNumber) → d ≡ Heartbeat f → Stays x r Ahead f.0 → TakesAhead x ks ss (lent r ks ss) l (downstream_words p)
    unfolding downstream_words take_read_at
    ahead-beat f e y =
        rw (k, e)
        (record {
          answers = y.answers;
          asks = y.asks ∙ ap (λ (z : EarlyReceiver). wanted z f.0) (sym y.leaves);
          leaves = ap (λ (z : EarlyReceiver). lent z ks ss) y.leaves;
        })

    pub ahead-end : (f : SequenceNumber) → d ≡ EndOfSession f → next_of r < number_read (downstream_words p) → Stays x r Ahead f.0
        → TakesAhead x ks ss (lent r ks ss) l (downstream_words p)
    unfolding downstream_words take_read_at end_at
    ahead-end f e h y =
        let o = end-above p (next_of r) h d k f e in
        let z : f.0 ≡ next_of r → ⊥ = λ u. omega arith in
        rw (k, e)
        (record {
          answers = y.answers;
          asks = y.asks ∙ ap (λ (z : EarlyReceiver). wanted z f.0) (sym y.leaves);
          leaves = ap (λ (z : EarlyReceiver). lent z ks ss) y.leaves ∙ rw (ne_eqb _ _ z);
        })

  pub ahead-refused : (k : Refusal) → p ≡ Err k → Stays x r Ahead 0 → TakesAhead x ks ss (lent r ks ss) l (downstream_words p)
  unfolding downstream_words take_read_at
  ahead-refused k e y =
      rw e
      (record {
        answers = y.answers;
        asks = y.asks ∙ ap (λ (z : EarlyReceiver). wanted z 0) (sym y.leaves);
        leaves = ap (λ (z : EarlyReceiver). lent z ks ss) y.leaves;
      })
