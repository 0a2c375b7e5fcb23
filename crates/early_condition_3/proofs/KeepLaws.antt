-- The receiver with what is lent to it, read into the model: each message of a datagram does to both the same.
use mathlib.Core.Path.{◌≡◌, refl, sym, ap, ◌∙◌}
use mathlib.Core.List.{List, [], ◌∷◌}
use mathlib.Core.Bool.{true, false, not, ◌&&◌, true≢false}
use mathlib.Core.Option.{some}
use Prim.Native.Nat.{ℕ, ◌+◌, ◌-◌, ◌*◌, ◌%◌, ◌≤◌, ◌<◌}
use native.Mathlib.Omega.{arith}
use lib.ListN.{length}
use lib.Dec.{ltb, leb, eqb}
use borrow.Author.Tests.{lt-ltb, le-ltb, le-leb, lt-leb, ltb-true, ltb-false, leb-true, eq-eqb, ne_eqb, eqb-true, eqb-false}
use Rattle.std.specs.Prelude.{if◌then◌else◌}
use Rattle.wire.specs.Bytes.{bytes}
use Rattle.wire.specs.Output.{put}
use Rattle.wire.proofs.Outputs.{length-put}
use Rattle.feed.specs.Session.{Message}
use Rattle.feed.specs.Machine.{after}
use Rattle.early_word.proofs.WordLaws.{bit-marked, marked-lt}
use Rattle.early_holding.specs.declared.holding.EarlyReceiver.{EarlyReceiver}
use Rattle.early_holding.specs.Holding.{Lent, next_of, slot_at, length_at, is_held, length_of, held_message, keeps, keep, keep_one, take_one, take_all}
use Rattle.early_holding.proofs.HoldingLaws.{either, keepable}
use Rattle.early_receiver.proofs.ByteLaws.{length-own, length-other}
use Rattle.early_condition_3.specs.Rule.{Sound}
use Rattle.early_condition_3.proofs.Model as model
use Rattle.early_condition_3.proofs.Model.{Hold, single, holding, numbered, hold_step}
use Rattle.early_condition_3.proofs.SlotLaws.{slot-own, slot-other}
use Rattle.early_condition_3.proofs.Reading.{above, near, held_of, reading, of-held, of_none, is-held, same-hold, advance-is, advance-sound}

-- ---- a message that is kept

same_place : (n i j : ℕ) → n < i → n < j → (i ≡ j → ⊥) → i - n - 1 ≡ j - n - 1 → ⊥
same_place n i j a b z e = z (omega arith)

pub keep-held : (s : Lent) (j : ℕ) (m : Message) (i : ℕ) → next_of s.receiver < j → j ≤ next_of s.receiver + 64
    → is_held (keep s j m).receiver i ≡ (if eqb i j then true else is_held s.receiver i)
unfolding keep is_held
keep-held s j m i a b =
    let n = next_of s.receiver in
    let p : j - n - 1 < 64 = omega arith in
    either (ltb n i) _
    (λ q.
    let h : n < i = ltb-true _ _ q in
    let k = bit-marked s.receiver.held.0 (j - n - 1) (i - n - 1) p in
    either (eqb i j) _
    (λ y.
    let x : i ≡ j = eqb-true _ _ y in
    let z : i - n - 1 ≡ j - n - 1 = omega arith in
    rw (q, y) (k ∙ rw (eq-eqb _ _ z) refl))
    (λ y.
    let x : i ≡ j → ⊥ = eqb-false _ _ y in
    rw (q, y) (k ∙ rw (ne_eqb _ _ (same_place n i j h a x)) refl)))
    (λ q.
    let h : i ≤ n = ltb-false _ _ q in
    let x : i ≡ j → ⊥ = λ e. omega arith in
    rw (q, ne_eqb _ _ x) refl)

pub keep-own : (s : Lent) (j : ℕ) (m : Message) → Sound s → length m ≤ 1024 → held_message (keep s j m) j ≡ m
unfolding keep held_message
keep-own s j m g h =
    let r : j % 64 * 1024 + length m ≤ length s.slots = omega (arith, g.size) in
    rw (length-own s.lengths j (length m) g.noted h) (slot-own s.slots (j % 64 * 1024) m r)

other-slot : (n i j : ℕ) → n < i → i ≤ n + 64 → n < j → j ≤ n + 64 → (i ≡ j → ⊥) → i % 64 ≡ j % 64 → ⊥
other-slot n i j a b c d z e = z (omega arith)

pub keep-other : (s : Lent) (j : ℕ) (m : Message) (i : ℕ) → Sound s → next_of s.receiver < j → j ≤ next_of s.receiver + 64 → length m ≤ 1024
    → is_held s.receiver i ≡ true → (i ≡ j → ⊥) → held_message (keep s j m) i ≡ held_message s i
unfolding keep held_message
keep-other s j m i g a b h e z =
    let c = above s.receiver i e in
    let d = near s.receiver i g.word e in
    let o = other-slot (next_of s.receiver) i j c d a b z in
    rw (length-other s.lengths j i (length m) (λ e. o (sym e))) (slot-other s.slots m i j (length_of s.lengths i) o (g.short i e) h)

kept_of : (s : Lent) (j : ℕ) (m : Message) (i : ℕ) → Sound s → keeps s.receiver j (length m) ≡ true
    → held_of (keep s j m) i ≡ (if eqb i j && not (model.is_held (held_of s i)) then some m else held_of s i)
kept_of s j m i g e =
    let p = keepable s.receiver j (length m) e in
    let h = keep-held s j m i p.above p.near in
    either (eqb i j) _
    (λ q.
    let x : i ≡ j = eqb-true _ _ q in
    let f : is_held s.receiver i ≡ false = rw x p.free in
    let c : is_held (keep s j m).receiver i ≡ true = h ∙ rw q refl in
    let o : held_message (keep s j m) i ≡ m = rw x (keep-own s j m g p.short) in
    let v : model.is_held (held_of s i) ≡ false = is-held s i ∙ f in
    rw (q, v) (of-held (keep s j m) i c ∙ ap (λ (y : Message). some y) o))
    (λ q.
    let x : i ≡ j → ⊥ = eqb-false _ _ q in
    let c : is_held (keep s j m).receiver i ≡ is_held s.receiver i = h ∙ rw q refl in
    rw q
    (either (is_held s.receiver i) _
    (λ y. of-held (keep s j m) i (c ∙ y) ∙ ap (λ (v : Message). some v) (keep-other s j m i g p.above p.near p.short y x) ∙ sym (of-held s i y))
    (λ y. of_none (keep s j m) i (c ∙ y) ∙ sym (of_none s i y))))

pub keep-sound : (s : Lent) (j : ℕ) (m : Message) → Sound s → keeps s.receiver j (length m) ≡ true → j < 18446744073709551615 → Sound (keep s j m)
unfolding keep
keep-sound s j m g e l =
    record {
      word = marked-lt s.receiver.held.0 _ g.word;
      noted = length-put s.lengths (length_at j) (bytes 2 (length m)) ∙ g.noted;
      size = length-put s.slots (slot_at j) m ∙ g.size;
      short = λ i h. short i h;
      low = λ i h. low i h;
    }
  where
    held : (i : ℕ) → is_held (keep s j m).receiver i ≡ (if eqb i j then true else is_held s.receiver i)
    held i = let k = keepable s.receiver j (length m) e in keep-held s j m i k.above k.near

    was : (i : ℕ) → (i ≡ j → ⊥) → is_held (keep s j m).receiver i ≡ true → is_held s.receiver i ≡ true
    was i z h = sym (held i ∙ rw (ne_eqb _ _ z) refl) ∙ h

    low : (i : ℕ) → is_held (keep s j m).receiver i ≡ true → i < 18446744073709551615
    low i h =
        either (eqb i j) _ (λ q. let x : i ≡ j = eqb-true _ _ q in omega arith)
        (λ q. g.low i (was i (eqb-false _ _ q) h))

    short : (i : ℕ) → is_held (keep s j m).receiver i ≡ true → length_of (put s.lengths (length_at j) (bytes 2 (length m))) i ≤ 1024
    short i h =
        let k = keepable s.receiver j (length m) e in
        either (eqb i j) _
        (λ q. let x : i ≡ j = eqb-true _ _ q in rw (x, length-own s.lengths j (length m) g.noted k.short) k.short)
        (λ q.
        let z : i ≡ j → ⊥ = eqb-false _ _ q in
        let y = was i z h in
        let o = other-slot (next_of s.receiver) i j (above s.receiver i y) (near s.receiver i g.word y) k.above k.near z in
        rw (length-other s.lengths j i (length m) (λ e. o (sym e))) (g.short i y))

-- ---- any message

kept-is : (s : Lent) (j : ℕ) (m : Message) → Sound s → keeps s.receiver j (length m) ≡ true → reading (keep s j m) ≡ hold_step (reading s) (single j m)
unfolding hold_step model.fits keep
kept-is s j m g e =
    let p = keepable s.receiver j (length m) e in
    let z : j ≡ next_of s.receiver → ⊥ = λ x. omega (arith, p.above) in
    let a = p.above in
    let b = p.near in
    let c = p.short in
    rw (ne_eqb _ _ z, lt-ltb _ _ a, le-leb _ _ b, le-leb _ _ c)
    (same-hold (reading (keep s j m)) (model.kept (reading s) (single j m)) refl (λ i. kept_of s j m i g e))

-- a number that fits and isn't kept is held already
held-already : (r : EarlyReceiver) (j k : ℕ) → keeps r j k ≡ false → next_of r < j → j ≤ next_of r + 64 → k ≤ 1024 → is_held r j ≡ true
unfolding keeps
held-already r j k e a b c =
    either (is_held r j) _ (λ q. q)
    (λ q. absurd (true≢false (rw (lt-leb _ _ a, le-ltb _ _ b, le-ltb _ _ c, q) at e)))

same_kept : (s : Lent) (j : ℕ) (m : Message) (i : ℕ) → is_held s.receiver j ≡ true
    → held_of s i ≡ (if eqb i j && not (model.is_held (held_of s i)) then some m else held_of s i)
same_kept s j m i e =
    either (eqb i j) _
    (λ q. let x : i ≡ j = eqb-true _ _ q in let v : model.is_held (held_of s i) ≡ true = is-held s i ∙ rw x e in rw (q, v) refl)
    (λ q. rw q refl)

left_is : (s : Lent) (j : ℕ) (m : Message) → keeps s.receiver j (length m) ≡ false → (j ≡ next_of s.receiver → ⊥)
    → reading s ≡ hold_step (reading s) (single j m)
unfolding hold_step model.fits
left_is s j m e z =
    let n = next_of s.receiver in
    rw (ne_eqb _ _ z)
    (either (ltb n j) _
    (λ a.
    either (leb j (n + 64)) _
    (λ b.
    either (leb (length m) 1024) _
    (λ c.
    rw (a, b, c)
    (same-hold (reading s) (model.kept (reading s) (single j m)) refl
    (λ i. same_kept s j m i (held-already s.receiver j (length m) e (ltb-true _ _ a) (leb-true _ _ b) (leb-true _ _ c)))))
    (λ c. rw (a, b, c) refl))
    (λ b. rw (a, b) refl))
    (λ a. rw a refl))

now-is : (s : Lent) (j : ℕ) (m : Message) → eqb j (next_of s.receiver) ≡ true → hold_step (reading s) (single j m) ≡ model.moved (reading s) m
unfolding hold_step
now-is s j m q = rw q refl

pub one-is : (s : Lent) (j : ℕ) (m : Message) → Sound s → j < 18446744073709551615
    → (reading (take_one s j m) ≡ hold_step (reading s) (single j m)) × Sound (take_one s j m)
unfolding take_one keep_one
one-is s j m g l =
    either (eqb j (next_of s.receiver)) _
    (λ q.
    let x : j ≡ next_of s.receiver = eqb-true _ _ q in
    rw q (advance-is s m g (omega arith) ∙ sym (now-is s j m q), advance-sound s g (omega arith)))
    (λ q.
    either (keeps s.receiver j (length m)) _
    (λ k. rw (q, k) (kept-is s j m g k, keep-sound s j m g k l))
    (λ k. rw (q, k) (left_is s j m k (eqb-false _ _ q), g)))

-- ---- a datagram's messages

pub all-is : (s : Lent) (f : ℕ) (ms : List Message) → Sound s → f + length ms ≤ 18446744073709551615
    → (reading (take_all s f ms) ≡ after holding (reading s) (numbered f ms)) × Sound (take_all s f ms)
unfolding take_all after numbered
all-is s f [] g l = (refl, g)
all-is s f (m ∷ ms) g l =
    let o = one-is s f m g (omega arith) in
    let a = all-is (take_one s f m) (f + 1) ms o.1 (omega arith) in
    (a.0 ∙ ap (λ (h : Hold). after holding h (numbered (f + 1) ms)) o.0, a.1)
