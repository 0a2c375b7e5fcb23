-- Which bytes of the slots a datagram changes: those of the messages that it leaves held.
use mathlib.Core.Path.{◌≡◌, refl, sym, ap, subst, ◌∙◌}
use mathlib.Core.List.{List, [], ◌∷◌}
use mathlib.Core.Bool.{true, false, true≢false}
use Prim.Native.Nat.{ℕ, ◌+◌, ◌-◌, ◌≤◌, ◌<◌}
use native.Mathlib.Omega.{arith}
use lib.ListN.{length, get_or, drop, length-take, length-drop}
use lib.Seq.{get_or-take, get_or-drop}
use lib.Dec.{ltb, eqb}
use borrow.Author.Tests.{lt-ltb, ltb-true, eq-eqb, ne_eqb, eqb-true, eqb-false}
use Rattle.std.specs.Prelude.{if◌then◌else◌}
use Rattle.wire.specs.Bytes.{number, bytes}
use Rattle.wire.specs.Output.{put, ReadsBack}
use Rattle.wire.proofs.Cases.{below_or_not, zero_or_not}
use Rattle.wire.proofs.Numbers.{length-bytes}
use Rattle.wire.proofs.Outputs.{only-its-bytes, output-laws}
use Rattle.moldudp64.specs.Header.{number_of}
use Rattle.moldudp64.specs.Downstream.{DownstreamKind, data_packet, heartbeat, end_of_session, kind_of, refusal_of, messages_of}
use Rattle.moldudp64.proofs.DownstreamLaws.{sound, count-sound}
use Rattle.early_word.specs.Word.{bit}
use Rattle.early_word.proofs.WordLaws.{bit-marked}
use Rattle.early_holding.specs.Holding.{slot_of, slot_at, length_at, Lent, next_of, is_held, length_of, held_message, keeps, keep, keep_one, advance, take_one, take_all}
use Rattle.early_holding.proofs.HoldingLaws.{either, both, Keepable, keepable}
use Rattle.early_receiver.specs.Early.{early_refusal, named_lent, end_at, take_kind, lent_after}
use Rattle.early_receiver.specs.Statements.{ByteOfHeld, OnlyHeldBytesChange}
use Rattle.early_receiver.proofs.KeepingLaws.{one-next, one-slots, one-lengths, step-above, all-below}
use Rattle.early_receiver.proofs.RequestLaws.{after_open, well-open, size-open}

-- ---- bytes that a write leaves

module _ (l : List ℕ) (at : ℕ) (bs : List ℕ) (i : ℕ) where
  pub byte-before : i < at → get_or (put l at bs) i 0 ≡ get_or l i 0
  byte-before h =
      sym (get_or-take at (put l at bs) i 0 h) ∙ ap (λ (x : List ℕ). get_or x i 0) (only-its-bytes l at bs).before ∙ get_or-take at l i 0 h

  pub byte-behind : at + length bs ≤ i → get_or (put l at bs) i 0 ≡ get_or l i 0
  byte-behind h =
      let to = at + length bs in
      let e : to + (i - to) ≡ i = omega arith in
      rw (← e)
      (sym (get_or-drop to (put l at bs) (i - to) 0) ∙ ap (λ (x : List ℕ). get_or x (i - to) 0) (only-its-bytes l at bs).behind ∙ get_or-drop to l (i - to) 0)

-- ---- the length of a number in another slot, and in its own

pub length-other : (ls : List ℕ) (j k v : ℕ) → (slot_of j ≡ slot_of k → ⊥) → length_of (put ls (length_at j) (bytes 2 v)) k ≡ length_of ls k
unfolding length_of number
length-other ls j k v z =
    let n = length-bytes 2 v in
    below_or_not _ (slot_of k) (slot_of j)
    (λ h. rw (byte-before ls (length_at j) (bytes 2 v) (length_at k + 0) (omega arith), byte-before ls (length_at j) (bytes 2 v) (length_at k + 1) (omega arith)))
    (λ h.
    let g : slot_of j < slot_of k = omega arith in
    rw (byte-behind ls (length_at j) (bytes 2 v) (length_at k + 0) (omega arith), byte-behind ls (length_at j) (bytes 2 v) (length_at k + 1) (omega arith)))

pub length-own : (ls : List ℕ) (j v : ℕ) → length ls ≡ 128 → v ≤ 1024 → length_of (put ls (length_at j) (bytes 2 v)) j ≡ v
unfolding length_of ReadsBack
length-own ls j v e h = output-laws.reads_back 2 v ls (length_at j) (omega arith) (omega arith)

-- ---- one message that is kept

module _ (s : Lent) (j : ℕ) (m : List ℕ) (e : keeps s.receiver j (length m) ≡ true) where
  its : Keepable s.receiver j (length m)
  its = keepable s.receiver j (length m) e

  kept-is : keep_one s j m ≡ keep s j m
  unfolding keep_one
  kept-is = rw e

  kept-bit : (k : ℕ) → next_of s.receiver < k
      → is_held (keep s j m).receiver k ≡ (if eqb (k - next_of s.receiver - 1) (j - next_of s.receiver - 1) then true else bit s.receiver.held.0 (k - next_of s.receiver - 1))
  unfolding is_held keep
  kept-bit k h =
      rw (lt-ltb _ _ h) (bit-marked s.receiver.held.0 (j - next_of s.receiver - 1) (k - next_of s.receiver - 1) (omega (arith, its.above, its.near)))

  kept-own : is_held (keep s j m).receiver j ≡ true
  kept-own = kept-bit j its.above ∙ rw (eq-eqb (j - next_of s.receiver - 1) (j - next_of s.receiver - 1) refl)

  kept_more : (k : ℕ) → is_held s.receiver k ≡ true → is_held (keep s j m).receiver k ≡ true
  unfolding is_held
  kept_more k h =
      either (ltb (next_of s.receiver) k) _
      (λ q.
      let b : bit s.receiver.held.0 (k - next_of s.receiver - 1) ≡ true = rw q at h in
      kept-bit k (ltb-true _ _ q) ∙ either (eqb (k - next_of s.receiver - 1) (j - next_of s.receiver - 1)) _ (λ p. rw p) (λ p. rw (p, b)))
      (λ q. absurd (true≢false (sym (rw q at h))))

-- ---- one message, kept or left

left_is : (s : Lent) (j : ℕ) (m : List ℕ) → keeps s.receiver j (length m) ≡ false → keep_one s j m ≡ s
unfolding keep_one
left_is s j m e = rw e

one-held : (s : Lent) (j : ℕ) (m : List ℕ) (k : ℕ) → is_held s.receiver k ≡ true → is_held (keep_one s j m).receiver k ≡ true
one-held s j m k h =
    either (keeps s.receiver j (length m)) _
    (λ q. ap (λ (x : Lent). is_held x.receiver k) (kept-is s j m q) ∙ kept_more s j m q k h)
    (λ q. ap (λ (x : Lent). is_held x.receiver k) (left_is s j m q) ∙ h)

one-length : (s : Lent) (j : ℕ) (m : List ℕ) (k : ℕ) → next_of s.receiver < k → k < j → length_of (keep_one s j m).lengths k ≡ length_of s.lengths k
unfolding keep
one-length s j m k h g =
    either (keeps s.receiver j (length m)) _
    (λ q.
    let near = (its s j m q).near in
    ap (λ (x : Lent). length_of x.lengths k) (kept-is s j m q) ∙ length-other s.lengths j k (length m) (λ z. omega arith))
    (λ q. ap (λ (x : Lent). length_of x.lengths k) (left_is s j m q))

-- ---- what is lent keeps its size

take-slots : (s : Lent) (j : ℕ) (m : List ℕ) → length (take_one s j m).slots ≡ length s.slots
unfolding take_one advance
take-slots s j m = either (eqb j (next_of s.receiver)) _ (λ q. rw q) (λ q. rw q (one-slots s j m))

take-lengths : (s : Lent) (j : ℕ) (m : List ℕ) → length (take_one s j m).lengths ≡ length s.lengths
unfolding take_one advance
take-lengths s j m = either (eqb j (next_of s.receiver)) _ (λ q. rw q) (λ q. rw q (one-lengths s j m))

all_slots : (ms : List (List ℕ)) (s : Lent) (f : ℕ) → length (take_all s f ms).slots ≡ length s.slots
unfolding take_all
all_slots [] s f = refl
all_slots (m ∷ ms) s f = all_slots ms (take_one s f m) (f + 1) ∙ take-slots s f m

all-lengths : (ms : List (List ℕ)) (s : Lent) (f : ℕ) → length (take_all s f ms).lengths ≡ length s.lengths
unfolding take_all
all-lengths [] s f = refl
all-lengths (m ∷ ms) s f = all-lengths ms (take_one s f m) (f + 1) ∙ take-lengths s f m

kind-slots : (s : Lent) (k : DownstreamKind) (l : List ℕ) → length (take_kind s k l).slots ≡ length s.slots
unfolding take_kind end_at
kind-slots s data_packet l = all_slots (messages_of l) s (number_of l)
kind-slots s heartbeat l = refl
kind-slots s end_of_session l = either (eqb (number_of l) (next_of s.receiver)) _ (λ q. rw q) (λ q. rw q)

kind-lengths : (s : Lent) (k : DownstreamKind) (l : List ℕ) → length (take_kind s k l).lengths ≡ length s.lengths
unfolding take_kind end_at
kind-lengths s data_packet l = all-lengths (messages_of l) s (number_of l)
kind-lengths s heartbeat l = refl
kind-lengths s end_of_session l = either (eqb (number_of l) (next_of s.receiver)) _ (λ q. rw q) (λ q. rw q)

pub after-slots : (s : Lent) (l : List ℕ) → length (lent_after s l).slots ≡ length s.slots
unfolding lent_after
after-slots s l =
    either (eqb (early_refusal s l) 0) _ (λ q. rw q (kind-slots (named_lent s l) (kind_of l) l)) (λ q. rw q)

pub after-lengths : (s : Lent) (l : List ℕ) → length (lent_after s l).lengths ≡ length s.lengths
unfolding lent_after
after-lengths s l =
    either (eqb (early_refusal s l) 0) _ (λ q. rw q (kind-lengths (named_lent s l) (kind_of l) l)) (λ q. rw q)

-- ---- all messages of a datagram ahead

all_held : (ms : List (List ℕ)) (s : Lent) (f k : ℕ) → next_of s.receiver < f → is_held s.receiver k ≡ true → is_held (take_all s f ms).receiver k ≡ true
unfolding take_all
all_held [] s f k h e = e
all_held (m ∷ ms) s f k h e =
    ap (λ (x : Lent). is_held x.receiver k) (step-above m ms s f h)
    ∙ all_held ms (keep_one s f m) (f + 1) k (omega (arith, one-next s f m)) (one-held s f m k e)

all-length : (ms : List (List ℕ)) (s : Lent) (f k : ℕ) → next_of s.receiver < k → k < f → length_of (take_all s f ms).lengths k ≡ length_of s.lengths k
unfolding take_all
all-length [] s f k h g = refl
all-length (m ∷ ms) s f k h g =
    ap (λ (x : Lent). length_of x.lengths k) (step-above m ms s f (omega arith))
    ∙ all-length ms (keep_one s f m) (f + 1) k (omega (arith, one-next s f m)) (omega arith) ∙ one-length s f m k h g

-- the message that a changed byte belongs to: it was kept, and nothing after it touches it
module _ (s : Lent) (f : ℕ) (m : List ℕ) (ms : List (List ℕ)) (i : ℕ) (h : next_of s.receiver < f) (a : length s.slots ≡ 65536) (b : length s.lengths ≡ 128)
    (z : get_or (keep_one s f m).slots i 0 ≡ get_or s.slots i 0 → ⊥) where
  abbrev t : Lent
  t = keep_one s f m

  abbrev all : Lent
  all = take_all t (f + 1) ms

  above-t : next_of t.receiver < f + 1
  above-t = omega (arith, one-next s f m)

  was-kept : keeps s.receiver f (length m) ≡ true
  was-kept =
      either (keeps s.receiver f (length m)) _ (λ q. q) (λ q. absurd (z (ap (λ (x : Lent). get_or x.slots i 0) (left_is s f m q))))

  slots-is : t.slots ≡ put s.slots (slot_at f) m
  unfolding keep
  slots-is = ap (λ (x : Lent). x.slots) (kept-is s f m was-kept)

  lengths-is : t.lengths ≡ put s.lengths (length_at f) (bytes 2 (length m))
  unfolding keep
  lengths-is = ap (λ (x : Lent). x.lengths) (kept-is s f m was-kept)

  its-length : length_of all.lengths f ≡ length m
  its-length =
      all-length ms t (f + 1) f (omega (arith, one-next s f m)) (omega arith)
      ∙ ap (λ (x : List ℕ). length_of x f) lengths-is ∙ length-own s.lengths f (length m) b (its s f m was-kept).short

  message-length : length (held_message all f) ≡ length m
  unfolding held_message
  message-length =
      let c : length all.slots ≡ 65536 = all_slots ms t (f + 1) ∙ one-slots s f m ∙ a in
      let short = (its s f m was-kept).short in
      rw its-length (omega (arith, length-take (length m) (drop (slot_at f) all.slots), length-drop (slot_at f) all.slots))

  from-its : slot_at f ≤ i
  from-its = below_or_not _ i (slot_at f) (λ g. absurd (z (ap (λ (x : List ℕ). get_or x i 0) slots-is ∙ byte-before s.slots (slot_at f) m i g))) (λ g. g)

  to-its : i < slot_at f + length m
  to-its =
      below_or_not _ i (slot_at f + length m) (λ g. g) (λ g. absurd (z (ap (λ (x : List ℕ). get_or x i 0) slots-is ∙ byte-behind s.slots (slot_at f) m i g)))

  of-this : ByteOfHeld s all i
  of-this =
      record {
        number = f;
        held_now = all_held ms t (f + 1) f above-t (ap (λ (x : Lent). is_held x.receiver f) (kept-is s f m was-kept) ∙ kept-own s f m was-kept);
        not_before = (its s f m was-kept).free;
        from = from-its;
        to = omega (arith, to-its, message-length);
      }

-- a number that isn't held after a message wasn't before it
not-before-either : (s : Lent) (j : ℕ) (m : List ℕ) (k : ℕ) → is_held (keep_one s j m).receiver k ≡ false → is_held s.receiver k ≡ false
not-before-either s j m k e = either (is_held s.receiver k) _ (λ q. absurd (true≢false (sym (one-held s j m k q) ∙ e))) (λ q. q)

changed : (ms : List (List ℕ)) (s : Lent) (f i : ℕ) → next_of s.receiver < f → length s.slots ≡ 65536 → length s.lengths ≡ 128
    → (get_or (take_all s f ms).slots i 0 ≡ get_or s.slots i 0 → ⊥) → ByteOfHeld s (take_all s f ms) i
unfolding take_all
changed [] s f i h a b z = absurd (z refl)
changed (m ∷ ms) s f i h a b z =
    let t = keep_one s f m in
    let e = step-above m ms s f h in
    let y : get_or (take_all t (f + 1) ms).slots i 0 ≡ get_or s.slots i 0 → ⊥ = λ q. z (ap (λ (x : Lent). get_or x.slots i 0) e ∙ q) in
    subst (λ (x : Lent). ByteOfHeld s x i) (sym e)
    (either (eqb (get_or (take_all t (f + 1) ms).slots i 0) (get_or t.slots i 0)) _
    (λ q. of-this s f m ms i h a b (λ p. y (eqb-true _ _ q ∙ p)))
    (λ q.
    let r = changed ms t (f + 1) i (omega (arith, one-next s f m)) (one-slots s f m ∙ a) (one-lengths s f m ∙ b) (eqb-false _ _ q) in
    record { number = r.number; held_now = r.held_now; not_before = not-before-either s f m r.number r.not_before; from = r.from; to = r.to }))

-- ---- a datagram by its kind

data-changes : (s : Lent) (l : List ℕ) (i : ℕ) → refusal_of l ≡ 0 → length s.slots ≡ 65536 → length s.lengths ≡ 128
    → (get_or (take_all s (number_of l) (messages_of l)).slots i 0 ≡ get_or s.slots i 0 → ⊥) → ByteOfHeld s (take_all s (number_of l) (messages_of l)) i
data-changes s l i w a b z =
    below_or_not _ (next_of s.receiver) (number_of l) (λ h. changed (messages_of l) s (number_of l) i h a b z)
    (λ h.
    absurd (z (ap (λ (x : Lent). get_or x.slots i 0) (all-below s (number_of l) (messages_of l) h (omega (arith, count-sound l w, (sound l w).numbers_fit))))))

kind-changes : (s : Lent) (k : DownstreamKind) (l : List ℕ) (i : ℕ) → refusal_of l ≡ 0 → length s.slots ≡ 65536 → length s.lengths ≡ 128
    → (get_or (take_kind s k l).slots i 0 ≡ get_or s.slots i 0 → ⊥) → ByteOfHeld s (take_kind s k l) i
unfolding take_kind end_at
kind-changes s data_packet l i w a b z = data-changes s l i w a b z
kind-changes s heartbeat l i w a b z = absurd (z refl)
kind-changes s end_of_session l i w a b z =
    absurd (z (either (eqb (number_of l) (next_of s.receiver)) _ (λ q. rw q) (λ q. rw q)))

-- the name is no part of what is held
of-named : (s t : Lent) (l : List ℕ) (i : ℕ) → ByteOfHeld (named_lent s l) t i → ByteOfHeld s t i
unfolding is_held
of-named s t l i r = record { number = r.number; held_now = r.held_now; not_before = r.not_before; from = r.from; to = r.to }

after-changes : (s : Lent) (l : List ℕ) (i : ℕ) → (get_or (lent_after s l).slots i 0 ≡ get_or s.slots i 0 → ⊥) → ByteOfHeld s (lent_after s l) i
unfolding lent_after
after-changes s l i z = zero_or_not _ (early_refusal s l) accepted (λ e. absurd (z (rw (ne_eqb _ _ e))))
  where
    accepted : early_refusal s l ≡ 0 → ByteOfHeld s (lent_after s l) i
    accepted e =
        let c = both _ _ (size-open s l e) in
        let o = after_open s l e in
        let y : get_or (take_kind (named_lent s l) (kind_of l) l).slots i 0 ≡ get_or s.slots i 0 → ⊥ = λ q. z (ap (λ (x : Lent). get_or x.slots i 0) o ∙ q) in
        subst (λ (x : Lent). ByteOfHeld s x i) (sym o)
        (of-named s (take_kind (named_lent s l) (kind_of l) l) l i
        (kind-changes (named_lent s l) (kind_of l) l i (well-open s l e) (eqb-true _ _ c.0) (eqb-true _ _ c.1) y))

pub only_held_bytes_change : OnlyHeldBytesChange
only_held_bytes_change = record { bytes = after-changes; lengths_stay = after-lengths; slots_stay = after-slots }
