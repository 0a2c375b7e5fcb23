-- Laws of the table and of the receiver's answer: r is the receiver, n its number, f and c the datagram's number and count.
use mathlib.Core.Path.{◌≡◌, refl, sym, ◌∙◌}
use mathlib.Core.List.{List}
use mathlib.Core.Bool.{Bool, true, false}
use Prim.Native.Nat.{ℕ, ◌+◌, ◌-◌, ◌≤◌, ◌<◌, min}
use native.Mathlib.Omega.{arith}
use mir.Val.{Fits}
use mir.Syntax.{w16, w64}
use lib.Dec.{eqb}
use borrow.Author.Tests.{lt-ltb, le-ltb, eq-eqb, ne_eqb}
use Rattle.std.specs.Prelude.{if◌then◌else◌}
use Rattle.wire.specs.Bounds.{blank}
use Rattle.wire.proofs.Cases.{zero_or_not}
use Rattle.wire.proofs.Same.{different}
use Rattle.wire.specs.Words.{Case, answer, refused}
use Rattle.wire.specs.declared.refusal.Refusal.{Refusal}
use Rattle.wire.specs.declared.kinds.SequenceNumber.{SequenceNumber}
use Rattle.wire.specs.declared.kinds.MessageCount.{MessageCount}
use Rattle.wire.specs.declared.kinds.MessagePlace.{MessagePlace}
use Rattle.std.specs.Prelude.{Result, Ok, Err, ⊤}
use Rattle.wire.specs.Words.{refused_by}
use Rattle.wire.proofs.Refusing.{checked, ground-of, has-ground}
use Rattle.moldudp64.specs.declared.downstream.Downstream.{Downstream}
use Rattle.moldudp64.specs.declared.downstream.Downstream.TheVariants.{Data, Heartbeat, EndOfSession}
use Rattle.moldudp64.specs.Downstream.{DownstreamKind, data_packet, heartbeat, end_of_session, downstream_words}
use Rattle.receiver.specs.declared.receiver.Receiver.{Receiver}
use Rattle.receiver.specs.declared.receiver.Taken.{Taken}
use Rattle.receiver.specs.declared.receiver.Answer.{Answer}
use Rattle.receiver.specs.declared.receiver.Answer.TheVariants.{Deliver, Old, Quiet, Ask, Ended, Refused}
use Rattle.receiver.specs.Table.{answer_words, ask_outcome, table, numbered}
use Rattle.receiver.specs.Receiver.{receiver, name_by, named_by, other_session, own_refusal, below_read, refusal_for, table_row, after_row, answer_of, receiver_after, refusal_read, row_read_at, row_read, answer_read, after_read, TakesRow}

abbrev stays : Receiver → Answer → Taken
stays r a = record { answer = a; receiver = r }

-- ---- the row for a number above n

-- g is the distance, at most the largest count, and k the smaller of it and the limit
pub ask-for : (r : Receiver) (a g : ℕ) (k : MessageCount) → Fits w16 r.limit.0 → g ≡ min 65535 (a - r.next.0) → k.0 ≡ min g r.limit.0
    → TakesRow (stays r (Ask r.next k)) r (ask_outcome r.limit.0 r.next.0 a)
unfolding answer_words
ask-for r a g k f d e =
    let h : min (a - r.next.0) r.limit.0 ≡ k.0 = omega arith in
    rw h (record { answers = refl; leaves = refl })

-- and it is the row of every kind
pub above_ask : (r : Receiver) (k : DownstreamKind) (f c : ℕ) (x : Taken) → r.next.0 < f → TakesRow x r (ask_outcome r.limit.0 r.next.0 f)
    → TakesRow x r (table r.limit.0 r.next.0 k f c)
unfolding table
above_ask r data_packet f c x h t = rw (lt-ltb _ _ h) t
above_ask r heartbeat f c x h t = rw (lt-ltb _ _ h) t
above_ask r end_of_session f c x h t = rw (lt-ltb _ _ h) t

-- ---- data

-- the number behind as much of it as can be numbered
behind : (f c : ℕ) → Fits w64 f → f + numbered f c ≡ min 18446744073709551615 (f + c)
behind f c s = omega arith

-- so few messages that a count holds them, wherever n lies
counted : (n f c e k : ℕ) → Fits w16 c → f ≤ n → e ≡ min 18446744073709551615 (f + c) → k ≡ min 65535 (e - n) → e - n ≡ k
counted n f c e k w h d a = let g : e ≤ f + c = omega (arith, d) in omega (arith, w, h, g, a)

placed : (n f c e p : ℕ) → Fits w16 c → e ≡ min 18446744073709551615 (f + c) → n < e → p ≡ min 65535 (n - f) → n - f ≡ p
placed n f c e p w d i b = let g : e ≤ f + c = omega (arith, d) in omega (arith, w, i, g, b)

-- e is the number behind as much of the data as can be numbered, k how many lie from n up to it, and p the place of n
pub data-deliver : (r m : Receiver) (f c : ℕ) (e : SequenceNumber) (k : MessageCount) (p : MessagePlace) → Fits w64 f → Fits w16 c
    → f ≤ r.next.0 → e.0 ≡ min 18446744073709551615 (f + c) → r.next.0 < e.0 → k.0 ≡ min 65535 (e.0 - r.next.0)
    → p.0 ≡ min 65535 (r.next.0 - f) → m ≡ receiver r.session e.0 r.limit.0 r.ended
    → TakesRow (record { answer = Deliver r.next k p; receiver = m }) r (table r.limit.0 r.next.0 data_packet f (numbered f c))
unfolding table answer_words
data-deliver r m f c e k p s w h d i a b g =
    let u : e.0 ≡ f + numbered f c = d ∙ sym (behind f c s) in
    let j : r.next.0 < f + numbered f c = rw (← u) i in
    let v : f + numbered f c - r.next.0 ≡ k.0 = rw (← u) (counted r.next.0 f c e.0 k.0 w h d a) in
    let q : r.next.0 - f ≡ p.0 = placed r.next.0 f c e.0 p.0 w d i b in
    rw (le-ltb _ _ h, lt-ltb _ _ j, v, q) (record { answers = refl; leaves = g ∙ rw u })

pub data-old : (r : Receiver) (f c e : ℕ) → Fits w64 f → f ≤ r.next.0 → e ≡ min 18446744073709551615 (f + c) → e ≤ r.next.0
    → TakesRow (stays r Old) r (table r.limit.0 r.next.0 data_packet f (numbered f c))
unfolding table answer_words
data-old r f c e s h d i =
    let j : f + numbered f c ≤ r.next.0 = rw (behind f c s, ← d) i in
    rw (le-ltb _ _ h, le-ltb _ _ j) (record { answers = refl; leaves = refl })

-- ---- heartbeat

pub beat-old : (r : Receiver) (f : ℕ) → f ≤ r.next.0 → f < r.next.0 → TakesRow (stays r Old) r (table r.limit.0 r.next.0 heartbeat f 0)
unfolding table answer_words
beat-old r f h i = rw (le-ltb _ _ h, lt-ltb _ _ i) (record { answers = refl; leaves = refl })

pub beat-quiet : (r : Receiver) (f : ℕ) → f ≤ r.next.0 → r.next.0 ≤ f → TakesRow (stays r Quiet) r (table r.limit.0 r.next.0 heartbeat f 0)
unfolding table answer_words
beat-quiet r f h i = rw (le-ltb _ _ h, le-ltb _ _ i) (record { answers = refl; leaves = refl })

-- ---- end of session

pub end-now : (r m : Receiver) (f : ℕ) → f ≤ r.next.0 → m ≡ receiver r.session r.next.0 r.limit.0 true
    → TakesRow (record { answer = Ended; receiver = m }) r (table r.limit.0 r.next.0 end_of_session f 65535)
unfolding table answer_words
end-now r m f h e = rw (le-ltb _ _ h) (record { answers = refl; leaves = e })

-- ---- the row for what was read, p

module _ (r : Receiver) (p : Result Downstream Refusal) (d : Downstream) (k : p ≡ Ok d) (x : Taken) where
  pub row-data : (n : SequenceNumber) (c : MessageCount) → d ≡ Data n c
      → TakesRow x r (table r.limit.0 r.next.0 data_packet n.0 (numbered n.0 c.0)) → TakesRow x r (row_read r (downstream_words p))
  unfolding row_read_at downstream_words
  row-data n c f t = rw (k, f) t

  pub row-heartbeat : (n : SequenceNumber) → d ≡ Heartbeat n → TakesRow x r (table r.limit.0 r.next.0 heartbeat n.0 0) → TakesRow x r (row_read r (downstream_words p))
  unfolding row_read_at downstream_words table
  row-heartbeat n f t = rw (k, f) t

  pub row-end-of-session : (n : SequenceNumber) → d ≡ EndOfSession n → TakesRow x r (table r.limit.0 r.next.0 end_of_session n.0 65535)
      → TakesRow x r (row_read r (downstream_words p))
  unfolding row_read_at downstream_words table
  row-end-of-session n f t = rw (k, f) t

-- a refusal of number 0 that was made up
pub row-refused : (r : Receiver) (p : Result Downstream Refusal) (y : Refusal) → p ≡ Err y → (downstream_words p).refusal ≡ 0 → TakesRow (stays r (Refused y)) r (row_read r (downstream_words p))
unfolding answer_words row_read_at downstream_words
row-refused r p y f z = let o : y.number ≡ 0 = rw f at z in rw f (record { answers = rw o; leaves = refl })

-- ---- the answer by what was read: s is what checking it gave

module _ (r : Receiver) (l : List ℕ) (p : Result Downstream Refusal) (s : Result ⊤ Refusal) (g : s ≡ refused_by (refusal_read r l (downstream_words p))) where
  pub refused-read : (x : Refusal) → s ≡ Err x → answer_words (Refused x) ≡ answer_read r l (downstream_words p)
  unfolding answer_words answer_read
  refused-read x d = rw (← ground-of s x _ g d, ne_eqb _ _ (λ z. has-ground s x _ g d (sym (ground-of s x _ g d) ∙ z))) refl

  pub refused-kept : (x : Refusal) → s ≡ Err x → r ≡ after_read r l (downstream_words p)
  unfolding after_read
  refused-kept x d = rw (ne_eqb _ _ (has-ground s x _ g d)) refl

  module _ (u : ⊤) (d : s ≡ Ok u) where
    z : refusal_read r l (downstream_words p) ≡ 0
    z = checked s u _ g d

    -- then the reader refused nothing, and the datagram isn't of another session
    pub well-read : (downstream_words p).refusal ≡ 0
    unfolding refusal_read
    well-read = go (downstream_words p).refusal _ z
      where
        go : (n m : ℕ) → (if eqb n 0 then m else n) ≡ 0 → n ≡ 0
        go n m e = zero_or_not _ n (λ d. d) (λ d. rw (ne_eqb n 0 d) at e)

    pub own-session : other_session r l ≡ false
    unfolding refusal_read own_refusal
    own-session = go (other_session r l) (sym own ∙ z)
      where
        own : refusal_read r l (downstream_words p) ≡ own_refusal r l (below_read r (downstream_words p))
        own = rw (eq-eqb _ _ well-read)

        go : (b : Bool) → ◌≡◌ {A = ℕ} (if b then 17 else if r.ended then 18 else if below_read r (downstream_words p) then 20 else 0) 0 → b ≡ false
        go true e = absurd (omega arith)
        go false e = refl

    -- the row is taken under the name that the datagram gives, which no row looks at
    row_same : (c : Case DownstreamKind) → row_read_at (named_by r l) (downstream_words p) c ≡ row_read_at r (downstream_words p) c
    unfolding row_read_at
    row_same (answer c) = refl
    row_same refused = refl

    module _ (q : Receiver) (x : Taken) (n : q ≡ named_by r l) (t : TakesRow x q (row_read q (downstream_words p))) where
      pub read_answer : answer_words x.answer ≡ answer_read r l (downstream_words p)
      unfolding answer_read
      read_answer = rw (z, ← row_same (downstream_words p).which) (rw n at t.answers)

      pub read-after : x.receiver ≡ after_read r l (downstream_words p)
      unfolding after_read
      read-after = rw (z, ← row_same (downstream_words p).which) (rw n at t.leaves)

-- ---- the answer to a datagram, refused or not

pub refused-stays : (r : Receiver) (l : List ℕ) (k : ℕ) → k ≡ refusal_for r l → (k ≡ 0 → ⊥) → r ≡ receiver_after r l
unfolding receiver_after
refused-stays r l k e z = rw (← e, ne_eqb _ _ z)

pub row-answer : (r : Receiver) (l : List ℕ) → refusal_for r l ≡ 0 → answer_of r l ≡ (table_row r l).reply
unfolding answer_of
row-answer r l e = rw e

pub row-after : (r : Receiver) (l : List ℕ) → refusal_for r l ≡ 0 → receiver_after r l ≡ after_row (named_by r l) (table_row r l)
unfolding receiver_after
row-after r l e = rw e

-- one that has a name keeps it
pub row_named : (r : Receiver) (l : List ℕ) → (r.session ≡ blank → ⊥) → refusal_for r l ≡ 0 → receiver_after r l ≡ after_row r (table_row r l)
unfolding name_by
row_named r l b e = row-after r l e ∙ rw (different r.session blank b)
