-- The messages had by place are those that the step delivers, one at a time.
use mathlib.Core.Path.{◌≡◌, refl, sym, ap, ap₂, ◌∙◌}
use mathlib.Core.List.{List, [], ◌∷◌, ◌++◌}
use mathlib.Core.Bool.{true, false, true≢false}
use Prim.Native.Nat.{ℕ, zero, suc, ◌+◌, ◌-◌, ◌^◌, ◌≤◌, ◌<◌}
use native.Mathlib.Omega.{arith}
use lib.ListN.{length, get_or}
use lib.Dec.{eqb}
use borrow.Author.Tests.{lt-ltb, le-ltb, eqb-true, eqb-false}
use Rattle.wire.proofs.Cases.{below_or_not}
use Rattle.moldudp64.specs.Header.{number_of, count_of}
use Rattle.moldudp64.specs.Downstream.{messages_of, message_of}
use Rattle.moldudp64_messages.specs.Cursor.{locate_of}
use Rattle.early_word.specs.Word.{bit, run, past}
use Rattle.early_word.proofs.WordLaws.{bit_past, ones-set, ones-stop, past-lt}
use Rattle.early_holding.specs.Holding.{Lent, next_of, is_held, held_message, number_past, advance, keep_one, take_one, move_by, move_to}
use Rattle.early_holding.proofs.HoldingLaws.{either, held_at, keeps_below, move-skip}
use Rattle.early_holding.specs.declared.holding.Moved.{Moved}
use Rattle.early_receiver.specs.Early.{lent_after}
use Rattle.early_receiver.proofs.KeepingLaws.{move-rises}
use Rattle.early_messages.specs.Delivery.{delivered_count, message_with, message_at, in_datagram, part_with, part_at, messages_at, delivery, held_from, gives_one, gives_all, gives, PlacesAreDelivered, PlacesExist}
use Rattle.early_messages.proofs.ReachLaws.{stand, Moves, Stays, Step, moves, stays, step, data_gives, data-count, moved_to}
use Rattle.early_messages.proofs.CountLaws.{reached, delivered, number-past-top}

-- ---- the messages with k numbers from j on

unfoldable with_from : Lent → List ℕ → ℕ → ℕ → List (List ℕ)
with_from s l j zero = []
with_from s l j (suc k) = message_with s l j ∷ with_from s l (j + 1) k

at_place : (s : Lent) (l : List ℕ) (p : ℕ) → p < delivered_count s l → message_at s l p ≡ message_with s l (next_of s.receiver + p)
unfolding message_at
at_place s l p h = rw (lt-ltb _ _ h) refl

places-with : (s : Lent) (l : List ℕ) (p k : ℕ) → p + k ≤ delivered_count s l → messages_at s l p k ≡ with_from s l (next_of s.receiver + p) k
unfolding messages_at with_from
places-with s l p zero h = refl
places-with s l p (suc k) h =
    let z : next_of s.receiver + p + 1 ≡ next_of s.receiver + (p + 1) = omega arith in
    rw (at_place s l p (omega arith), z)
    (ap (λ (x : List (List ℕ)). message_with s l (next_of s.receiver + p) ∷ x) (places-with s l (p + 1) k (omega arith)))

with-add : (s : Lent) (l : List ℕ) (j a b : ℕ) → with_from s l j (a + b) ≡ with_from s l j a ++ with_from s l (j + a) b
unfolding with_from
with-add s l j zero b = let z : j + 0 ≡ j = omega arith in let y : 0 + b ≡ b = omega arith in rw (z, y) refl
with-add s l j (suc a) b =
    let z : j + suc a ≡ j + 1 + a = omega arith in
    let y : suc a + b ≡ suc (a + b) = omega arith in
    rw (z, y) (ap (λ (x : List (List ℕ)). message_with s l j ∷ x) (with-add s l (j + 1) a b))

with-is-held : (s : Lent) (l : List ℕ) (j : ℕ) → is_held s.receiver j ≡ true → message_with s l j ≡ held_message s j
unfolding message_with
with-is-held s l j e = rw e refl

with-is-there : (s : Lent) (l : List ℕ) (j : ℕ) → is_held s.receiver j ≡ false → message_with s l j ≡ message_of l (j - number_of l)
unfolding message_with
with-is-there s l j e = rw e refl

with-held : (s : Lent) (l : List ℕ) (j k : ℕ) → ((i : ℕ) → i < k → is_held s.receiver (j + i) ≡ true) → with_from s l j k ≡ held_from s j k
unfolding with_from held_from
with-held s l j zero h = refl
with-held s l j (suc k) h =
    let z : j + 0 ≡ j = omega arith in
    ap₂ (λ (x : List ℕ) (y : List (List ℕ)). x ∷ y) (with-is-held s l j (rw z at (h 0 (omega arith))))
    (with-held s l (j + 1) k (λ i g. let y : j + suc i ≡ j + 1 + i = omega arith in rw y at (h (suc i) (omega arith))))

held-stand : (s : Lent) (n h j k : ℕ) → held_from (stand s n h) j k ≡ held_from s j k
unfolding held_from held_message
held-stand s n h j zero = refl
held-stand s n h j (suc k) = ap (λ (x : List (List ℕ)). held_message s j ∷ x) (held-stand s n h (j + 1) k)

-- ---- the receiver moved on to n, with the messages from number f on to come

number-past-run : (n h : ℕ) → number_past n h < 18446744073709551615 → number_past n h ≡ n + (run h + 1)
unfolding number_past
number-past-run n h e = omega arith

pub number-past-above : (n h : ℕ) → n < 18446744073709551615 → n + 1 ≤ number_past n h
unfolding number_past
number-past-above n h b = omega arith

number-past-within : (n h : ℕ) → number_past n h ≤ n + (run h + 1)
unfolding number_past
number-past-within n h = omega arith

-- what is held there is what was held at first; once the number is past all that is to come it doesn't matter
record Standing (s : Lent) (l : List ℕ) (n h f : ℕ) (ms : List (List ℕ)) : Type 0 where
  below : f ≤ n
  word : h < 2 ^ 64
  same : n < f + length ms → (i : ℕ) → bit h i ≡ is_held s.receiver (n + 1 + i)
  free : n < f + length ms → is_held s.receiver n ≡ false
  rest : (i : ℕ) → i < length ms → get_or ms i [] ≡ message_of l (f + i - number_of l)
  top : f + length ms ≤ 18446744073709551615

rest-after : (l : List ℕ) (f : ℕ) (m : List ℕ) (ms : List (List ℕ)) → ((i : ℕ) → i < suc (length ms) → get_or (m ∷ ms) i [] ≡ message_of l (f + i - number_of l))
    → (i : ℕ) → i < length ms → get_or ms i [] ≡ message_of l (f + 1 + i - number_of l)
rest-after l f m ms r i b = let z : f + 1 + i ≡ f + suc i = omega arith in rw z (r (suc i) (omega arith))

module _ (s : Lent) (l : List ℕ) (n h f : ℕ) (m : List ℕ) (ms : List (List ℕ)) (g : Standing s l n h f (m ∷ ms)) where
  module _ (e : f ≡ n) where
    ahead : n < f + suc (length ms)
    ahead = omega arith

    next-standing : Standing s l (number_past n h) (past h (run h + 1)) (f + 1) ms
    next-standing =
        record {
          below = omega (arith, g.top, number-past-above n h (omega (arith, g.top)));
          word = past-lt h 64 (run h + 1) g.word;
          same = λ b i.
              let d : number_past n h ≡ n + (run h + 1) = number-past-run n h (omega (arith, g.top)) in
              let z : number_past n h + 1 + i ≡ n + 1 + (run h + 1 + i) = omega arith in
              bit_past h (run h + 1) i ∙ g.same ahead (run h + 1 + i) ∙ ap (is_held s.receiver) (sym z);
          free = λ b.
              let d : number_past n h ≡ n + (run h + 1) = number-past-run n h (omega (arith, g.top)) in
              let z : number_past n h ≡ n + 1 + run h = omega arith in
              rw z (sym (g.same ahead (run h)) ∙ ones-stop 64 h g.word);
          rest = rest-after l f m ms g.rest;
          top = omega (arith, g.top);
        }

    -- number n and what follows it
    run_is : m ∷ held_from (stand s n h) (f + 1) (number_past n h - n - 1) ≡ with_from s l n (suc (number_past n h - n - 1))
    unfolding with_from
    run_is =
        let t = number_past n h - n - 1 in
        let z : f + 0 ≡ n = omega arith in
        let a : m ≡ message_of l (n - number_of l) = rw z at (g.rest 0 (omega arith)) in
        let b : message_with s l n ≡ m = with-is-there s l n (g.free ahead) ∙ sym a in
        let c = with-held s l (n + 1) t (λ i k. sym (g.same ahead i) ∙ ones-set 64 h i (omega (arith, number-past-within n h))) in
        rw e (ap₂ (λ (x : List ℕ) (y : List (List ℕ)). x ∷ y) (sym b) (held-stand s n h (n + 1) t ∙ sym c))

  skip-standing : (f ≡ n → ⊥) → Standing s l n h (f + 1) ms
  skip-standing z =
      record {
        below = omega (arith, g.below);
        word = g.word;
        same = λ b. g.same (omega arith);
        free = λ b. g.free (omega arith);
        rest = rest-after l f m ms g.rest;
        top = omega (arith, g.top);
      }

nothing : (s : Lent) (l : List ℕ) (n : ℕ) → [] ≡ with_from s l n 0
unfolding with_from
nothing s l n = refl

gives-with : (s : Lent) (l : List ℕ) (n h f : ℕ) (ms : List (List ℕ)) → Standing s l n h f ms
    → gives_all (stand s n h) f ms ≡ with_from s l n ((move_by (length ms) f n h).next.0 - n)
unfolding gives_all move_by take_one gives_one advance keep_one
gives-with s l n h f [] g = let z : n - n ≡ 0 = omega arith in rw z (nothing s l n)
gives-with s l n h f (m ∷ ms) g =
    either (eqb f n) _
    (λ q.
    let e : f ≡ n = eqb-true _ _ q in
    let b = number_past n h in
    let t = b - n - 1 in
    let end = (move_by (length ms) (f + 1) b (past h (run h + 1))).next.0 in
    let r : b ≤ end = move-rises (length ms) (f + 1) b (past h (run h + 1)) (number-past-top n h) in
    let u : n + 1 ≤ b = number-past-above n h (omega (arith, g.top)) in
    let z : end - n ≡ suc t + (end - b) = omega arith in
    let y : n + suc t ≡ b = omega arith in
    rw (q, z)
    (ap₂ (λ (a c : List (List ℕ)). a ++ c) (run_is s l n h f m ms g e)
    (gives-with s l b (past h (run h + 1)) (f + 1) ms (next-standing s l n h f m ms g e))
    ∙ sym (with-add s l n (suc t) (end - b) ∙ ap (λ (k : ℕ). with_from s l n (suc t) ++ with_from s l k (end - b)) y)))
    (λ q.
    let e : f ≡ n → ⊥ = eqb-false _ _ q in
    rw (q, ← keeps_below (stand s n h).receiver f (length m) g.below) (gives-with s l n h (f + 1) ms (skip-standing s l n h f m ms g e)))

-- a number that the receiver moves past was held or is one of those to come
past-or-held : (s : Lent) (l : List ℕ) (n h f : ℕ) (ms : List (List ℕ)) → Standing s l n h f ms → (j : ℕ) → n ≤ j
    → j < (move_by (length ms) f n h).next.0 → is_held s.receiver j ≡ false → j < f + length ms
unfolding move_by
past-or-held s l n h f [] g j a b c = absurd (omega arith)
past-or-held s l n h f (m ∷ ms) g j a b c =
    either (eqb f n) _
    (λ q.
    let e : f ≡ n = eqb-true _ _ q in
    let d : j < (move_by (length ms) (f + 1) (number_past n h) (past h (run h + 1))).next.0 = rw q at b in
    below_or_not _ j (number_past n h) (in-run e)
    (λ i. omega (arith, past-or-held s l (number_past n h) (past h (run h + 1)) (f + 1) ms (next-standing s l n h f m ms g e) j i d c)))
    (λ q.
    let e : f ≡ n → ⊥ = eqb-false _ _ q in
    let d : j < (move_by (length ms) (f + 1) n h).next.0 = rw q at b in
    omega (arith, past-or-held s l n h (f + 1) ms (skip-standing s l n h f m ms g e) j a d c))
  where
    in-run : f ≡ n → j < number_past n h → j < f + suc (length ms)
    in-run e i =
        below_or_not _ n j
        (λ k.
        let z : n + 1 + (j - n - 1) ≡ j = omega arith in
        let y = sym (g.same (omega arith) (j - n - 1)) ∙ ones-set 64 h (j - n - 1) (omega (arith, number-past-within n h)) in
        absurd (true≢false (sym (rw z at y) ∙ c)))
        (λ k. omega arith)

-- ---- every datagram

none-delivered : (s : Lent) (l : List ℕ) → Stays s l → delivery s l ≡ []
unfolding messages_at delivered_count
none-delivered s l g = let z : next_of (lent_after s l).receiver - next_of s.receiver ≡ 0 = omega (arith, g.number) in rw z refl

next-free : (s : Lent) → is_held s.receiver (next_of s.receiver) ≡ false
unfolding is_held
next-free s = let x : next_of s.receiver ≤ next_of s.receiver = omega arith in rw (le-ltb _ _ x) refl

first_rest : (l : List ℕ) (i : ℕ) → get_or (messages_of l) i [] ≡ message_of l (number_of l + i - number_of l)
unfolding message_of
first_rest l i = let y : number_of l + i - number_of l ≡ i = omega arith in rw y refl

first-standing : (s : Lent) (l : List ℕ) → s.receiver.held.0 < 2 ^ 64 → Moves s l
    → Standing s l (next_of s.receiver) s.receiver.held.0 (number_of l) (messages_of l)
first-standing s l w g =
    record {
      below = g.begins;
      word = w;
      same = λ b i. sym (held_at s.receiver i);
      free = λ b. next-free s;
      rest = λ i b. first_rest l i;
      top = omega (arith, data-count l g.well g.kind, (reached s l g).fit);
    }

counted : (s : Lent) (l : List ℕ) → Moves s l
    → delivered_count s l ≡ (move_by (length (messages_of l)) (number_of l) (next_of s.receiver) s.receiver.held.0).next.0 - next_of s.receiver
unfolding delivered_count move_to
counted s l g =
    let n = next_of s.receiver in
    let h = s.receiver.held.0 in
    ap (λ (x : ℕ). x - n)
    (moved_to s l g
    ∙ sym
    (ap (λ (m : Moved). m.next.0) (ap (λ (k : ℕ). move_by k (number_of l) n h) (data-count l g.well g.kind) ∙ move-skip (count_of l) (number_of l) n h g.begins)))

data-delivered : (s : Lent) (l : List ℕ) → s.receiver.held.0 < 2 ^ 64 → Moves s l → delivery s l ≡ gives s l
data-delivered s l w g =
    let n = next_of s.receiver in
    let y : n + 0 ≡ n = omega arith in
    places-with s l 0 (delivered_count s l) (omega arith)
    ∙ ap₂ (λ (a b : ℕ). with_from s l a b) y (counted s l g)
    ∙ sym (gives-with s l n s.receiver.held.0 (number_of l) (messages_of l) (first-standing s l w g))
    ∙ sym (data_gives s l g.open-so g.kind)

pub places_are_delivered : PlacesAreDelivered
unfolding PlacesAreDelivered
places_are_delivered s l w = go (step s l)
  where
    go : Step s l → delivery s l ≡ gives s l
    go (moves g) = data-delivered s l w g
    go (stays g) = none-delivered s l g ∙ sym g.nothing

there-so : (l : List ℕ) (i : ℕ) → i < length (messages_of l) → (in_datagram (locate_of l i)).exists ≡ true
unfolding locate_of
there-so l i h = rw (lt-ltb _ _ h) refl

data-exists : (s : Lent) (l : List ℕ) (p : ℕ) → s.receiver.held.0 < 2 ^ 64 → Moves s l → p < delivered_count s l → (part_at s l p).exists ≡ true
unfolding part_at part_with
data-exists s l p w g h =
    let n = next_of s.receiver in
    either (is_held s.receiver (n + p)) _ (λ q. rw (lt-ltb _ _ h, q) refl)
    (λ q.
    let b = past-or-held s l n s.receiver.held.0 (number_of l) (messages_of l) (first-standing s l w g) (n + p) (omega arith)
    (omega (arith, counted s l g)) q in
    rw (lt-ltb _ _ h, q) (there-so l (n + p - number_of l) (omega (arith, g.begins))))

pub places_exist : PlacesExist
unfolding PlacesExist
places_exist s l p w h = data-exists s l p w (delivered s l p h).its-data h
