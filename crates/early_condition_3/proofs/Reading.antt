-- The receiver with what is lent to it, read into the model: the number that is expected does to both the same.
use mathlib.Core.Path.{◌≡◌, refl, sym, ap, ap₂, ◌∙◌, fun_ext}
use mathlib.Core.Bool.{true, false, true≢false}
use mathlib.Core.Option.{Option, none, some}
use Prim.Native.Nat.{ℕ, zero, suc, ◌+◌, ◌-◌, ◌/◌, ◌^◌, ◌≤◌, ◌<◌, min}
use native.Mathlib.Omega.{arith}
use lib.ListN.{length}
use lib.Dec.{ltb}
use lib.Pow.{shr-shr}
use borrow.Author.Tests.{lt-ltb, ltb-true, ltb-false}
use Rattle.std.specs.Prelude.{if◌then◌else◌}
use Rattle.feed.specs.Session.{Message}
use Rattle.early_word.specs.Word.{bit, run, ones_of, past}
use Rattle.early_word.proofs.WordLaws.{bit_past, bit-none, ones-set, past-lt}
use Rattle.early_holding.specs.declared.holding.EarlyReceiver.{EarlyReceiver}
use Rattle.early_holding.specs.Holding.{Lent, early, next_of, at, is_held, held_message, number_past, advance}
use Rattle.early_holding.proofs.HoldingLaws.{either, held_at, held-bit, holds-below}
use Rattle.early_condition_3.specs.Rule.{Sound}
use Rattle.early_condition_3.proofs.Model as model
use Rattle.early_condition_3.proofs.Model.{Hold}

-- ---- which numbers are held

pub above : (r : EarlyReceiver) (j : ℕ) → is_held r j ≡ true → next_of r < j
above r j e = either (ltb (next_of r) j) _ (λ q. ltb-true _ _ q) (λ q. absurd (true≢false (sym e ∙ sym (holds-below r j (ltb-false _ _ q)))))

pub near : (r : EarlyReceiver) (j : ℕ) → r.held.0 < 2 ^ 64 → is_held r j ≡ true → j ≤ next_of r + 64
near r j w e =
    let a = above r j e in
    either (ltb (next_of r + 64) j) _
    (λ q.
    let b : next_of r + 64 < j = ltb-true _ _ q in
    absurd (true≢false (sym e ∙ held-bit r j a ∙ bit-none r.held.0 64 (j - next_of r - 1) w (omega arith))))
    (λ q. ltb-false _ _ q)

-- ---- the reading

pub held_of : Lent → ℕ → Option Message
held_of s j = if is_held s.receiver j then some (held_message s j) else none

abbrev pub reading : Lent → Hold
reading s = record { next = next_of s.receiver; held = held_of s }

pub of-held : (s : Lent) (j : ℕ) → is_held s.receiver j ≡ true → held_of s j ≡ some (held_message s j)
unfolding held_of
of-held s j e = rw e refl

pub of_none : (s : Lent) (j : ℕ) → is_held s.receiver j ≡ false → held_of s j ≡ none
unfolding held_of
of_none s j e = rw e refl

pub is-held : (s : Lent) (j : ℕ) → model.is_held (held_of s j) ≡ is_held s.receiver j
is-held s j = either (is_held s.receiver j) _ (λ q. rw (of-held s j q, q) refl) (λ q. rw (of_none s j q, q) refl)

-- ---- number n

past-half : (h i : ℕ) → past h i / 2 ≡ past h (i + 1)
unfolding past
past-half h i = shr-shr h i 1

run_length : (s : Lent) (k i : ℕ) → length (model.follow (held_of s) k (next_of s.receiver + 1 + i)) ≡ ones_of k (past s.receiver.held.0 i)
unfolding model.follow ones_of
run_length s zero i = refl
run_length s (suc k) i =
    let j = next_of s.receiver + 1 + i in
    let z : j + 1 ≡ next_of s.receiver + 1 + (i + 1) = omega arith in
    let y : i + 0 ≡ i = omega arith in
    let b : bit (past s.receiver.held.0 i) 0 ≡ bit s.receiver.held.0 i = bit_past s.receiver.held.0 i 0 ∙ ap (bit s.receiver.held.0) y in
    either (bit s.receiver.held.0 i) _
    (λ q.
    let h : held_of s j ≡ some (held_message s j) = of-held s j (held_at s.receiver i ∙ q) in
    let c = b ∙ q in
    rw (h, c, z, past-half s.receiver.held.0 i) (ap suc (run_length s k (i + 1))))
    (λ q.
    let h : held_of s j ≡ none = of_none s j (held_at s.receiver i ∙ q) in
    let c = b ∙ q in
    rw (h, c) refl)

-- no number is cut off: the run ends below the largest
pub run-whole : (s : Lent) → Sound s → next_of s.receiver < 18446744073709551615
    → number_past (next_of s.receiver) s.receiver.held.0 ≡ next_of s.receiver + (run s.receiver.held.0 + 1)
unfolding number_past
run-whole s g n = go (run s.receiver.held.0) refl
  where
    go : (t : ℕ) → run s.receiver.held.0 ≡ t → min 18446744073709551615 (next_of s.receiver + (t + 1)) ≡ next_of s.receiver + (t + 1)
    go zero e = omega arith
    go (suc t) e =
        let b = ones-set 64 s.receiver.held.0 t (omega arith) in
        let l = g.low (next_of s.receiver + 1 + t) (held_at s.receiver t ∙ b) in
        omega arith

past-zero : (h : ℕ) → past h 0 ≡ h
unfolding past
past-zero h = omega arith

run-next : (s : Lent) (m : Message) → next_of s.receiver + length (model.run (reading s) m) ≡ next_of s.receiver + (run s.receiver.held.0 + 1)
unfolding model.run
run-next s m =
    let a = run_length s 64 0 in
    let z : next_of s.receiver + 1 + 0 ≡ next_of s.receiver + 1 = omega arith in
    let b : length (model.follow (held_of s) 64 (next_of s.receiver + 1)) ≡ ones_of 64 s.receiver.held.0 = rw (z, past-zero s.receiver.held.0) at a in
    omega arith

-- what is held after it
pub advance-held : (s : Lent) (n k j : ℕ) → n ≡ next_of s.receiver + (k + 1)
    → is_held (early (at s.receiver.base n) (past s.receiver.held.0 (k + 1))) j ≡ (if ltb n j then is_held s.receiver j else false)
unfolding is_held
advance-held s n k j e =
    either (ltb n j) _
    (λ q.
    let h : n < j = ltb-true _ _ q in
    let i : next_of s.receiver < j = omega arith in
    let z : k + 1 + (j - n - 1) ≡ j - next_of s.receiver - 1 = omega arith in
    rw (q, lt-ltb _ _ i) (bit_past s.receiver.held.0 (k + 1) (j - n - 1) ∙ ap (bit s.receiver.held.0) z))
    (λ q. rw q refl)

-- two readings are equal where their numbers and what they hold are
pub same-hold : (a b : Hold) → a.next ≡ b.next → ((j : ℕ) → a.held j ≡ b.held j) → a ≡ b
same-hold a b e f = ap₂ (λ (n : ℕ) (h : ℕ → Option Message). record { next = n; held = h }) e (fun_ext f)

advance-of : (s : Lent) (n j : ℕ) → n ≡ next_of s.receiver + (run s.receiver.held.0 + 1) → number_past (next_of s.receiver) s.receiver.held.0 ≡ n
    → held_of (advance s) j ≡ (if ltb n j then held_of s j else none)
unfolding advance held_of held_message
advance-of s n j e f =
    let h = advance-held s n (run s.receiver.held.0) j e in
    either (ltb n j) _
    (λ q. rw (f, q) (rw (rw q at h) refl))
    (λ q. rw (f, q) (rw (rw q at h) refl))

pub advance-is : (s : Lent) (m : Message) → Sound s → next_of s.receiver < 18446744073709551615 → reading (advance s) ≡ model.moved (reading s) m
unfolding advance
advance-is s m g l =
    let n = next_of s.receiver + length (model.run (reading s) m) in
    let e : n ≡ next_of s.receiver + (run s.receiver.held.0 + 1) = run-next s m in
    let f : number_past (next_of s.receiver) s.receiver.held.0 ≡ n = run-whole s g l ∙ sym e in
    same-hold (reading (advance s)) (model.moved (reading s) m) f (λ j. advance-of s n j e f)

pub advance-sound : (s : Lent) → Sound s → next_of s.receiver < 18446744073709551615 → Sound (advance s)
unfolding advance
advance-sound s g l =
    record {
      word = past-lt s.receiver.held.0 64 _ g.word;
      noted = g.noted;
      size = g.size;
      short = λ j e. g.short j (was j e);
      low = λ j e. g.low j (was j e);
    }
  where
    was : (j : ℕ) → is_held (advance s).receiver j ≡ true → is_held s.receiver j ≡ true
    was j e =
        let n = number_past (next_of s.receiver) s.receiver.held.0 in
        let h = advance-held s n (run s.receiver.held.0) j (run-whole s g l) in
        either (ltb n j) _
        (λ q. sym (rw q at h) ∙ e)
        (λ q. absurd (true≢false (sym e ∙ rw q at h)))
