-- Where the message at a place lies, and the bytes that a part names.
use mathlib.Core.Path.{◌≡◌, refl, sym, ap, ◌∙◌}
use mathlib.Core.List.{List, [], ◌∷◌}
use mathlib.Core.Bool.{Bool, true, false, true≢false}
use Prim.Native.Nat.{ℕ, zero, suc, ◌+◌, ◌-◌, ◌*◌, ◌%◌, ◌≤◌, ◌<◌, min}
use native.Mathlib.Omega.{arith}
use lib.ListN.{length, take, drop, length-take, length-drop}
use lib.Dec.{ltb}
use mir.Val.{Fits}
use mir.Syntax.{w64}
use borrow.Author.Tests.{lt-ltb, le-ltb, ltb-true}
use Rattle.wire.specs.Bytes.{number}
use Rattle.moldudp64.specs.Header.{number_of}
use Rattle.moldudp64.specs.Downstream.{message_of}
use Rattle.moldudp64.proofs.HeaderLaws.{sequence-read}
use Rattle.moldudp64_messages.specs.declared.cursor.Located.{Located}
use Rattle.moldudp64_messages.specs.Cursor.{part, locate_of, WalksTheMessages, PartIsMessage}
use Rattle.moldudp64_messages.proofs.CursorLaws.{found_within, walks-the-messages, part-is-message}
use Rattle.early_holding.specs.declared.holding.EarlyReceiver.{EarlyReceiver}
use Rattle.early_holding.specs.Holding.{slot_at, Lent, lent, next_of, is_held, length_of, held_message}
use Rattle.early_holding.proofs.HoldingLaws.{either}
use Rattle.early_messages.specs.declared.message.Part.{Part}
use Rattle.early_messages.specs.Delivery.{delivered_count, message_with, message_at, in_slots, in_datagram, no_part, part_with, part_at, bytes_of}
use Rattle.early_messages.specs.Delivery.{PartsAreMessages}
use Rattle.early_messages.proofs.ReachLaws.{opens}
use Rattle.early_messages.proofs.CountLaws.{delivered, few}

-- ---- a part of the slots: i is the slot, n the length that is noted, d how many bytes are left there

module _ (k s : List ℕ) (j i n d : ℕ) (e : i ≡ j % 64) (f : n ≡ number k (i * 2) 2) (g : d ≡ length s - i * 1024) where
  noted : length_of k j ≡ n
  unfolding length_of
  noted = sym (f ∙ rw e refl)

  slot-size : length (take (length_of k j) (drop (slot_at j) s)) ≡ min n d
  slot-size = omega (arith, e, g, noted, length-take (length_of k j) (drop (j % 64 * 1024) s), length-drop (j % 64 * 1024) s)

  pub slot-cut : d < n → in_slots (i * 1024) d ≡ in_slots (slot_at j) (length (take (length_of k j) (drop (slot_at j) s)))
  slot-cut h = let z : min n d ≡ d = omega arith in rw (slot-size, z, e) refl

  pub slot_whole : n ≤ d → in_slots (i * 1024) n ≡ in_slots (slot_at j) (length (take (length_of k j) (drop (slot_at j) s)))
  slot_whole h = let z : min n d ≡ n = omega arith in rw (slot-size, z, e) refl

-- ---- as `locate` has them: d is the count, b the place

module _ (r : EarlyReceiver) (k s l : List ℕ) (p b d : ℕ) (q : Part) (e : d ≡ min 65535 (delivered_count (lent r k s) l)) (g : b ≡ p) where
  pub locate-none : d ≤ b → q ≡ no_part → q ≡ part_at (lent r k s) l p
  unfolding part_at
  locate-none h f = let i : delivered_count (lent r k s) l ≤ p = omega (arith, few (lent r k s) l) in f ∙ rw (le-ltb _ _ i) refl

  module _ (h : b < d) (j : ℕ) (m : j ≡ min 18446744073709551615 (r.base.next.0 + b)) (t : Bool) (o : t ≡ is_held r j) where
    below : p < delivered_count (lent r k s) l
    below = omega arith

    its_number : j ≡ r.base.next.0 + p
    its_number = omega (arith, (delivered (lent r k s) l p below).within)

    pub locate-held : t ≡ true → q ≡ in_slots (slot_at j) (length (take (length_of k j) (drop (slot_at j) s))) → q ≡ part_at (lent r k s) l p
    unfolding part_at part_with held_message
    locate-held u v =
        let x : is_held r (r.base.next.0 + p) ≡ true = rw (← its_number) (sym o ∙ u) in
        v ∙ rw (lt-ltb _ _ below, x, its_number) refl

    pub locate-there : (f i : ℕ) (x : Located) → t ≡ false → f ≡ number l 10 8 → i ≡ min 65535 (j - f) → x ≡ locate_of l i → q ≡ in_datagram x
        → q ≡ part_at (lent r k s) l p
    unfolding part_at part_with
    locate-there f i x u n c y v =
        let z : is_held r (r.base.next.0 + p) ≡ false = rw (← its_number) (sym o ∙ u) in
        let w : i ≡ r.base.next.0 + p - number_of l = omega (arith, its_number, sequence-read l f n, (delivered (lent r k s) l p below).small) in
        v ∙ ap in_datagram (y ∙ ap (locate_of l) w) ∙ rw (lt-ltb _ _ below, z) refl

-- ---- as `message` has them: the bytes that a part names

locate-in : (l : List ℕ) (k : ℕ) → (locate_of l k).offset.0 + (locate_of l k).length ≤ length l
unfolding WalksTheMessages
locate-in l k = found_within l _ _ (locate_of l k) (sym (walks-the-messages l k))

part_of : (l : List ℕ) (k : ℕ) → part l (locate_of l k) ≡ message_of l k
unfolding PartIsMessage
part_of l k = part-is-message l k

take_own : (n : ℕ) (l : List ℕ) → take (length (take n l)) l ≡ take n l
take_own zero l = refl
take_own (suc n) [] = refl
take_own (suc n) (x ∷ l) = ap (λ (y : List ℕ). x ∷ y) (take_own n l)

slot-in : (s : Lent) (j : ℕ) → length s.slots ≡ 65536 → slot_at j + length (held_message s j) ≤ length s.slots
unfolding held_message
slot-in s j z = omega (arith, length-take (length_of s.lengths j) (drop (j % 64 * 1024) s.slots), length-drop (j % 64 * 1024) s.slots)

slot_is : (s : Lent) (j : ℕ) → take (length (held_message s j)) (drop (slot_at j) s.slots) ≡ held_message s j
unfolding held_message
slot_is s j = take_own (length_of s.lengths j) (drop (slot_at j) s.slots)

module _ (s : Lent) (l : List ℕ) (p : ℕ) where
  at_none : ltb p (delivered_count s l) ≡ false → message_at s l p ≡ []
  unfolding message_at
  at_none e = rw e refl

  pub at_held : p < delivered_count s l → is_held s.receiver (next_of s.receiver + p) ≡ true
      → message_at s l p ≡ held_message s (next_of s.receiver + p)
  unfolding message_at message_with
  at_held e h = rw (lt-ltb _ _ e, h) refl

  pub at_there : p < delivered_count s l → is_held s.receiver (next_of s.receiver + p) ≡ false
      → message_at s l p ≡ message_of l (next_of s.receiver + p - number_of l)
  unfolding message_at message_with
  at_there e h = rw (lt-ltb _ _ e, h) refl

  record Names (q : Part) : Type 0 where
    in-slots : q.held ≡ true → q.offset.0 + q.length ≤ length s.slots
    in-datagram : q.held ≡ false → q.offset.0 + q.length ≤ length l
    is-it : bytes_of s.slots l q ≡ message_at s l p

  names : Names (part_at s l p)
  unfolding part_at part_with
  names =
      either (ltb p (delivered_count s l)) _
      (λ q.
      let d = opens s l (delivered s l p (ltb-true _ _ q)).its-data.open-so in
      let j = next_of s.receiver + p in
      either (is_held s.receiver j) _
      (λ h.
      rw (q, h) (record { in-slots = λ x. slot-in s j d.slots; in-datagram = λ x. absurd (true≢false x); is-it = slot_is s j ∙ sym (at_held (ltb-true _ _ q) h) }))
      (λ h.
      rw (q, h)
      (record {
        in-slots = λ x. absurd (true≢false (sym x));
        in-datagram = λ x. locate-in l (j - number_of l);
        is-it = part_of l (j - number_of l) ∙ sym (at_there (ltb-true _ _ q) h);
      })))
      (λ q. rw q (record { in-slots = λ x. absurd (true≢false (sym x)); in-datagram = λ x. omega arith; is-it = sym (at_none q) }))

pub parts-are-messages : PartsAreMessages
unfolding PartsAreMessages
parts-are-messages s l p = (names s l p).is-it

module _ (r : EarlyReceiver) (k s l : List ℕ) (p : ℕ) (q : Part) (e : q ≡ part_at (lent r k s) l p) where
  named : Names (lent r k s) l p q
  named = rw e (names (lent r k s) l p)

  pub message-fits : Fits w64 (length s) → Fits w64 (length l) → Fits w64 (q.offset.0 + q.length)
  message-fits f g =
      either q.held _ (λ h. record { fits = omega (arith, named.in-slots h) }) (λ h. record { fits = omega (arith, named.in-datagram h) })

  pub message-slots : q.held ≡ true → q.offset.0 + q.length ≤ length s
  message-slots h = named.in-slots h

  pub message-datagram : q.held ≡ false → q.offset.0 + q.length ≤ length l
  message-datagram h = named.in-datagram h

  pub message-held : q.held ≡ true → take (q.offset.0 + q.length - q.offset.0) (drop q.offset.0 s) ≡ message_at (lent r k s) l p
  message-held h =
      let i : q.offset.0 + q.length - q.offset.0 ≡ q.length = omega arith in
      rw i (rw h at named.is-it)

  pub message-there : q.held ≡ false → take (q.offset.0 + q.length - q.offset.0) (drop q.offset.0 l) ≡ message_at (lent r k s) l p
  message-there h =
      let i : q.offset.0 + q.length - q.offset.0 ≡ q.length = omega arith in
      rw i (rw h at named.is-it)
