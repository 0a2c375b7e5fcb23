-- The walk: its start, what it stands at, a move; and that it visits what is had by place.
use mathlib.Core.Path.{◌≡◌, refl, ap, ◌∙◌}
use mathlib.Core.List.{List}
use mathlib.Core.Bool.{Bool, true, false}
use Prim.Native.Nat.{ℕ, zero, suc, ◌+◌, ◌-◌, ◌≤◌, ◌<◌, min}
use native.Mathlib.Omega.{arith}
use lib.ListN.{length, take, drop}
use lib.Dec.{eqb}
use borrow.Author.Tests.{lt-ltb, le-ltb, eq-eqb, ne_eqb, eqb-true}
use Rattle.wire.specs.Bytes.{number}
use Rattle.wire.specs.declared.kinds.SequenceNumber.{SequenceNumber}
use Rattle.wire.specs.declared.kinds.MessageCount.{MessageCount}
use Rattle.wire.proofs.Cases.{below_or_not}
use Rattle.moldudp64.specs.Header.{number_of}
use Rattle.moldudp64.proofs.HeaderLaws.{sequence-read}
use Rattle.moldudp64_messages.specs.declared.cursor.Located.{Located}
use Rattle.moldudp64_messages.specs.declared.cursor.Cursor.{Cursor}
use Rattle.moldudp64_messages.specs.Cursor.{located, locate_of, advanced, advanced_by, start_of, WalksTheMessages}
use Rattle.moldudp64_messages.proofs.CursorLaws.{walks-the-messages}
use Rattle.receiver.proofs.DeliveryLaws.{moves-add}
use Rattle.early_holding.specs.declared.holding.EarlyReceiver.{EarlyReceiver}
use Rattle.early_holding.specs.Holding.{slot_at, Lent, lent, next_of, is_held, length_of, held_message}
use Rattle.early_holding.proofs.HoldingLaws.{either}
use Rattle.early_messages.specs.declared.message.Part.{Part}
use Rattle.early_messages.specs.declared.walk.Walk.{Walk}
use Rattle.early_messages.specs.Delivery.{delivered_count, in_slots, in_datagram, no_part, part_with, part_at}
use Rattle.early_messages.specs.Walk.{walk, start_walk, walk_part, walk_on, walk_by, WalksTheDelivery}
use Rattle.early_messages.proofs.CountLaws.{delivered, few}

-- ---- as the code has them

pub walk_start : (r : EarlyReceiver) (k s l : List ℕ) (f p : ℕ) (d : MessageCount) (c e : Cursor) → f ≡ number l 10 8 → p ≡ min 65535 (r.base.next.0 - f)
    → d.0 ≡ min 65535 (delivered_count (lent r k s) l) → c ≡ start_of l → e ≡ advanced_by p l c
    → record { number = r.base.next; left = d; cursor = e } ≡ start_walk (lent r k s) l
unfolding start_walk
walk_start r k s l f p d c e g h i j o =
    let m : p ≡ min 65535 (r.base.next.0 - number_of l) = omega (arith, h, sequence-read l f g) in
    rw (← i, o, j, m) refl

module _ (l : List ℕ) (w : Walk) (t : Bool) (e : t ≡ eqb w.left.0 0) where
  pub walk-done : t ≡ true → w ≡ walk_on l w
  unfolding walk_on
  walk-done f = rw (← e, f) refl

  pub walk-next : (n : SequenceNumber) (d : MessageCount) (c : Cursor) → t ≡ false → n.0 ≡ min 18446744073709551615 (w.number.0 + 1)
      → d.0 ≡ w.left.0 - 1 → c ≡ advanced l w.cursor → record { number = n; left = d; cursor = c } ≡ walk_on l w
  unfolding walk_on
  walk-next n d c f g h i = rw (← e, f, ← g, ← h, ← i) refl

  module _ (r : EarlyReceiver) (k s : List ℕ) (q : Part) where
    pub walk_none : t ≡ true → q ≡ no_part → q ≡ walk_part (lent r k s) l w
    unfolding walk_part
    walk_none f g = g ∙ rw (← e, f) refl

    module _ (f : t ≡ false) (b : Bool) (o : b ≡ is_held r w.number.0) where
      pub walk-held : b ≡ true → q ≡ in_slots (slot_at w.number.0) (length (take (length_of k w.number.0) (drop (slot_at w.number.0) s)))
          → q ≡ walk_part (lent r k s) l w
      unfolding walk_part held_message
      walk-held g h = h ∙ rw (← e, f, ← o, g) refl

      pub walk-there : (x : Located) → b ≡ false → x ≡ located l w.cursor → q ≡ in_datagram x → q ≡ walk_part (lent r k s) l w
      unfolding walk_part
      walk-there x g h i = i ∙ rw (← e, f, ← o, g, h) refl

-- ---- k moves

left-on : (l : List ℕ) (w : Walk) → (walk_on l w).left.0 ≡ w.left.0 - 1
unfolding walk_on
left-on l w =
    either (eqb w.left.0 0) _ (λ q. let z : w.left.0 ≡ 0 = eqb-true _ _ q in rw q (omega arith)) (λ q. rw q refl)

left_after : (k : ℕ) (l : List ℕ) (w : Walk) → (walk_by k l w).left.0 ≡ w.left.0 - k
unfolding walk_by
left_after zero l w = omega arith
left_after (suc k) l w =
    let z : w.left.0 - 1 - k ≡ w.left.0 - suc k = omega arith in
    left_after k l (walk_on l w) ∙ ap (λ (n : ℕ). n - k) (left-on l w) ∙ z

one_on : (l : List ℕ) (n left : ℕ) (c : Cursor) → 0 < left → n + 1 ≤ 18446744073709551615 → walk_on l (walk n left c) ≡ walk (n + 1) (left - 1) (advanced l c)
unfolding walk_on
one_on l n left c h t =
    let z : left ≡ 0 → ⊥ = λ e. omega arith in
    let m : min 18446744073709551615 (n + 1) ≡ n + 1 = omega arith in
    rw (ne_eqb _ _ z, m) refl

walk-on : (k : ℕ) (l : List ℕ) (n left : ℕ) (c : Cursor) → k ≤ left → n + k ≤ 18446744073709551615
    → walk_by k l (walk n left c) ≡ walk (n + k) (left - k) (advanced_by k l c)
unfolding walk_by advanced_by
walk-on zero l n left c h t = let z : n + 0 ≡ n = omega arith in let y : left - 0 ≡ left = omega arith in rw (z, y) refl
walk-on (suc k) l n left c h t =
    let z : n + suc k ≡ n + 1 + k = omega arith in
    let y : left - suc k ≡ left - 1 - k = omega arith in
    rw (one_on l n left c (omega arith) (omega arith), z, y) (walk-on k l (n + 1) (left - 1) (advanced l c) (omega arith) (omega arith))

-- ---- what it stands at

stands-none : (s : Lent) (l : List ℕ) (w : Walk) (k : ℕ) → w.left.0 ≡ 0 → delivered_count s l ≤ k → walk_part s l w ≡ part_at s l k
unfolding walk_part part_at
stands-none s l w k e h = rw (eq-eqb _ _ e, le-ltb _ _ h) refl

stands_at : (s : Lent) (l : List ℕ) (k left : ℕ) (c : Cursor) → (left ≡ 0 → ⊥) → k < delivered_count s l
    → located l c ≡ locate_of l (next_of s.receiver + k - number_of l) → walk_part s l (walk (next_of s.receiver + k) left c) ≡ part_at s l k
unfolding walk_part part_at part_with
stands_at s l k left c z h e = rw (ne_eqb _ _ z, lt-ltb _ _ h, e) refl

pub walks-the-delivery : WalksTheDelivery
unfolding WalksTheDelivery start_walk WalksTheMessages
walks-the-delivery s l k =
    let n = next_of s.receiver in
    let m = min 65535 (n - number_of l) in
    let d = min 65535 (delivered_count s l) in
    let first = advanced_by m l (start_of l) in
    let b = few s l in
    below_or_not _ k (delivered_count s l)
    (λ h.
    let g = delivered s l k h in
    let in_reach : n + k - number_of l ≤ 65535 = g.small in
    let begins : number_of l ≤ n = g.its-data.begins in
    let place : m + k ≡ n + k - number_of l = omega arith in
    let some : d - k ≡ 0 → ⊥ = λ e. omega arith in
    rw (walk-on k l n d first (omega arith) g.within)
    (stands_at s l k (d - k) (advanced_by k l first) some h
    (ap (located l) (moves-add m k l (start_of l)) ∙ walks-the-messages l (m + k) ∙ ap (locate_of l) place)))
    (λ h. stands-none s l (walk_by k l (walk n d first)) k (left_after k l (walk n d first) ∙ omega arith) h)
