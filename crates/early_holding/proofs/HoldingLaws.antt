-- Laws of what is held: how far the expected number moves, and one message kept.
use mathlib.Core.Path.{◌≡◌, refl, sym, ap, ap₂, ◌∙◌}
use mathlib.Core.List.{List}
use mathlib.Core.Bool.{Bool, true, false, not, ◌&&◌, true≢false}
use Prim.Native.Nat.{ℕ, zero, suc, ◌+◌, ◌-◌, ◌*◌, ◌%◌, ◌^◌, ◌≤◌, ◌<◌, min}
use native.Mathlib.Omega.{arith}
use native.Mathlib.Nat.{zero-div}
use lib.ListN.{length}
use lib.Dec.{ltb, leb, eqb}
use lib.Pow.{pow_pos}
use mir.Val.{Fits}
use mir.Syntax.{w16, w64}
use borrow.Author.Tests.{lt-ltb, le-ltb, le-leb, lt-leb, ltb-true, ltb-false, leb-false, not-true, not-false, eq-eqb, eqb-true, eqb-false}
use Rattle.std.specs.Prelude.{if◌then◌else◌}
use Rattle.wire.specs.Bytes.{bytes}
use Rattle.wire.specs.Output.{put}
use Rattle.wire.specs.declared.kinds.SequenceNumber.{SequenceNumber}
use Rattle.wire.proofs.Cases.{below_or_not}
use Rattle.wire.proofs.Outputs.{length-put}
use Rattle.early_word.specs.declared.Held.{Held}
use Rattle.early_word.specs.Word.{bit, run, ones_of, past, marked}
use Rattle.early_word.proofs.WordLaws.{bit-none, ones-le, ones-past, past-past, past-none, past-lt}
use Rattle.early_holding.specs.declared.holding.EarlyReceiver.{EarlyReceiver}
use Rattle.early_holding.specs.declared.holding.Moved.{Moved}
use Rattle.early_holding.specs.Holding.{lent, early, next_of, is_held, number_past, keeps, keep, keep_one, moved, move_by, move_to}

pub either : (b : Bool) (P : Type 0) → (b ≡ true → P) → (b ≡ false → P) → P
either true P f g = f refl
either false P f g = g refl

pub both : (a b : Bool) → (a && b) ≡ true → (a ≡ true) × (b ≡ true)
both true b e = (refl, e)
both false b e = absurd (true≢false (sym e))

-- ---- how far the expected number moves

-- numbers below it are left
pub move-skip : (c f n h : ℕ) → f ≤ n → move_by c f n h ≡ move_by (f + c - n) n n h
unfolding move_by
move-skip zero f n h e = let z : f + 0 - n ≡ 0 = omega arith in rw z
move-skip (suc c) f n h e =
    either (eqb f n) _
    (λ q.
    let y : f ≡ n = eqb-true _ _ q in
    let z : n + suc c - n ≡ suc c = omega arith in
    rw (y, z) refl)
    (λ q.
    let y : f ≡ n → ⊥ = eqb-false _ _ q in
    let z : f + 1 + c - n ≡ f + suc c - n = omega arith in
    rw (q, ← z) (move-skip c (f + 1) n h (omega arith)))

-- one turn of the loop
pub move_step : (n h end k b w : ℕ) (r : Moved) → Fits w64 end → move_to n h end ≡ r → n < end → k ≡ run h → b ≡ min 18446744073709551615 (n + (k + 1))
    → w ≡ past h (k + 1) → move_to b w end ≡ r
unfolding move_to move_by number_past
move_step n h end k b w r f e g i p q = go (end - n) refl e
  where
    up : n + 1 ≤ b
    up = omega arith

    go : (d : ℕ) → end - n ≡ d → move_by d n n h ≡ r → move_by (end - b) b b w ≡ r
    go zero x v = absurd (omega arith)
    go (suc d) x v =
        let to : min 18446744073709551615 (n + (run h + 1)) ≡ b = rw (← i) (sym p) in
        let low : past h (run h + 1) ≡ w = rw (← i) (sym q) in
        let u : n + 1 + d - b ≡ end - b = omega arith in
        sym (rw (eq-eqb n n refl, to, low, ← u) (move-skip d (n + 1) b w up)) ∙ v

pub move-none : (n : SequenceNumber) (h : Held) (end : ℕ) → end ≤ n.0 → record { next = n; held = h } ≡ move_to n.0 h.0 end
unfolding move_to move_by
move-none n h end g = let z : end - n.0 ≡ 0 = omega arith in rw z refl

-- all turns at once: k numbers lie before the last one of the datagram, whose end comes next, and the run of ones from
-- there on tells how many follow
move-turns : (fuel n h end k : ℕ) → end - n ≤ fuel → h < 2 ^ 64 → end ≤ 18446744073709551615 → end ≡ n + (k + 1)
    → move_to n h end ≡ moved (min 18446744073709551615 (end + run (past h k))) (past h (k + (run (past h k) + 1)))
move-turns zero n h end k f w l e = absurd (omega arith)
move-turns (suc fuel) n h end k f w l e =
    let b = min 18446744073709551615 (n + (run h + 1)) in
    let step : move_to b (past h (run h + 1)) end ≡ move_to n h end = move_step n h end (run h) b (past h (run h + 1)) (move_to n h end) (record { fits = omega arith }) refl (omega arith) refl refl refl in
    below_or_not _ (run h) k
    (λ lt.
    let j = k - (run h + 1) in
    let x : b ≡ n + (run h + 1) = omega arith in
    let y : past (past h (run h + 1)) j ≡ past h k = past-past h (run h + 1) j ∙ ap (past h) (omega arith) in
    let z : past (past h (run h + 1)) (j + (run (past h k) + 1)) ≡ past h (k + (run (past h k) + 1)) = past-past h (run h + 1) (j + (run (past h k) + 1)) ∙ ap (past h) (omega arith) in
    let u = move-turns fuel b (past h (run h + 1)) end j (omega arith) (past-lt h 64 (run h + 1) w) l (omega arith) in
    sym step ∙ (rw (y, z) at u))
    (λ ge.
    let r : run (past h k) ≡ run h - k = ones-past 64 h k w ge in
    let t : move_to b (past h (run h + 1)) end ≡ moved b (past h (run h + 1)) = sym (move-none (record { 0 = b }) (record { 0 = past h (run h + 1) }) end (omega arith)) in
    let x : min 18446744073709551615 (end + (run h - k)) ≡ b = omega arith in
    let y : k + (run h - k + 1) ≡ run h + 1 = omega arith in
    sym step ∙ t ∙ sym (rw (r, x, y) refl))

-- with nothing held every number is the next
none-past : (k : ℕ) → past 0 k ≡ 0
unfolding past
none-past k = zero-div (2 ^ k)

none-run : run 0 ≡ 0
unfolding ones_of bit
none-run = refl

pub move-free : (n end : ℕ) → n ≤ end → Fits w64 end → move_to n 0 end ≡ moved end 0
move-free n end h f =
    below_or_not _ n end
    (λ i.
    let k = end - n - 1 in
    let x : min 18446744073709551615 (end + 0) ≡ end = omega arith in
    let t = move-turns (end - n) n 0 end k (omega arith) (pow_pos 64) (omega arith) (omega arith) in
    rw (none-past k, none-run, none-past (k + (0 + 1)), x) at t)
    (λ i. let e : n ≡ end = omega arith in sym (move-none (record { 0 = n }) (record { 0 = 0 }) end i) ∙ ap (λ (k : ℕ). moved k 0) e)

pub move-far : (n h end g y w r : ℕ) (b : SequenceNumber) (q : Held) → Fits w64 h → Fits w64 end → n < end → g ≡ min 65535 (end - n) → y ≡ g - 1 → w ≡ past h y → r ≡ run w
    → b.0 ≡ min 18446744073709551615 (end + r) → q.0 ≡ past w (r + 1) → record { next = b; held = q } ≡ move_to n h end
move-far n h end g y w r b q f l lt d s e i p u =
    let k = end - n - 1 in
    let fit : h < 2 ^ 64 = omega (arith, f) in
    let same : past h y ≡ past h k =
    below_or_not _ (end - n) 65536 (λ x. ap (past h) (omega arith)) (λ x. sym (past-none h 64 y fit (omega arith)) ∙ past-none h 64 k fit (omega arith)) in
    let w' : w ≡ past h k = e ∙ same in
    let t = move-turns (end - n) n h end k (omega arith) fit (omega (arith, l)) (omega arith) in
    let x : b.0 ≡ min 18446744073709551615 (end + run (past h k)) = p ∙ rw (i, w') refl in
    let z : q.0 ≡ past h (k + (run (past h k) + 1)) = u ∙ rw (i, w') (past-past h k (run (past h k) + 1)) in
    ap₂ moved x z ∙ sym t

pub run_fits : (h k : ℕ) → k ≡ run h → Fits w16 (k + 1)
run_fits h k e = record { fits = omega (arith, ones-le 64 h) }

-- ---- a number above the expected one, and its place

-- as a test that is turned round
module _ (a b : ℕ) (t : Bool) (e : t ≡ ltb a b) where
  pub above-not : not t ≡ true → b ≤ a
  above-not h = ltb-false a b (sym e ∙ not-true t h)

  pub above-so : not t ≡ false → a < b
  above-so h = ltb-true a b (sym e ∙ not-false t h)

pub place_is : (n j p b : ℕ) → Fits w64 j → n < j → b ≡ min 18446744073709551615 (n + 1) → p ≡ min 65535 (j - b) → p ≡ min 65535 (j - n - 1)
place_is n j p b f g e h = omega arith

pub held-bit : (r : EarlyReceiver) (j : ℕ) → next_of r < j → is_held r j ≡ bit r.held.0 (j - next_of r - 1)
unfolding is_held
held-bit r j h = rw (lt-ltb _ _ h) refl

pub held_at : (r : EarlyReceiver) (i : ℕ) → is_held r (next_of r + 1 + i) ≡ bit r.held.0 i
held_at r i =
    let z : next_of r + 1 + i - next_of r - 1 ≡ i = omega arith in
    held-bit r (next_of r + 1 + i) (omega arith) ∙ ap (bit r.held.0) z

pub holds-below : (r : EarlyReceiver) (j : ℕ) → j ≤ next_of r → false ≡ is_held r j
unfolding is_held
holds-below r j h = rw (le-ltb _ _ h) refl

pub holds-bit : (r : EarlyReceiver) (j p : ℕ) (b : Bool) → Fits w64 r.held.0 → next_of r < j → p ≡ min 65535 (j - next_of r - 1) → b ≡ bit r.held.0 p → b ≡ is_held r j
holds-bit r j p b f h e g =
    below_or_not _ (j - next_of r - 1) 64
    (λ i. let z : p ≡ j - next_of r - 1 = omega arith in g ∙ rw z (sym (held-bit r j h)))
    (λ i.
    let k : r.held.0 < 2 ^ 64 = omega (arith, f) in
    let q : 64 ≤ p = omega arith in
    g ∙ bit-none r.held.0 64 p k q ∙ sym (bit-none r.held.0 64 (j - next_of r - 1) k i) ∙ sym (held-bit r j h))

-- ---- whether a message is kept

pub keeps_below : (r : EarlyReceiver) (j k : ℕ) → j ≤ next_of r → false ≡ keeps r j k
unfolding keeps
keeps_below r j k h = rw (le-leb _ _ h) refl

pub keeps-long : (r : EarlyReceiver) (j k : ℕ) → next_of r < j → 1024 < k → false ≡ keeps r j k
unfolding keeps
keeps-long r j k h i =
    either (ltb (next_of r + 64) j) _ (λ q. rw (lt-leb _ _ h, q) refl) (λ q. rw (lt-leb _ _ h, q, lt-ltb _ _ i) refl)

module _ (r : EarlyReceiver) (j k p c : ℕ) (h : next_of r < j) (d : p ≡ min 65535 (j - next_of r - 1)) (f : c ≡ p) where
  pub keeps-far : 64 ≤ c → false ≡ keeps r j k
  unfolding keeps
  keeps-far e = let f : next_of r + 64 < j = omega arith in rw (lt-leb _ _ h, lt-ltb _ _ f) refl

  pub keeps-new : (b : Bool) → c < 64 → k ≤ 1024 → b ≡ bit r.held.0 p → not b ≡ keeps r j k
  unfolding keeps
  keeps-new b e i o =
      let near : j ≤ next_of r + 64 = omega arith in
      let z : p ≡ j - next_of r - 1 = omega arith in
      let held : b ≡ is_held r j = o ∙ rw z (sym (held-bit r j h)) in
      rw (lt-leb _ _ h, le-ltb _ _ near, le-ltb _ _ i, held) refl

-- what a kept message is
pub record Keepable (r : EarlyReceiver) (j k : ℕ) : Type 0 where
  pub above : next_of r < j
  pub near : j ≤ next_of r + 64
  pub short : k ≤ 1024
  pub free : is_held r j ≡ false

pub keepable : (r : EarlyReceiver) (j k : ℕ) → keeps r j k ≡ true → Keepable r j k
unfolding keeps
keepable r j k e = go (leb j (next_of r)) refl (ltb (next_of r + 64) j) refl (ltb 1024 k) refl (is_held r j) refl e
  where
    go : (a : Bool) → leb j (next_of r) ≡ a → (b : Bool) → ltb (next_of r + 64) j ≡ b → (c : Bool) → ltb 1024 k ≡ c
        → (d : Bool) → is_held r j ≡ d → (if a then false else if b then false else if c then false else not d) ≡ true → Keepable r j k
    go true p b q c s d t x = absurd (true≢false (sym x))
    go false p true q c s d t x = absurd (true≢false (sym x))
    go false p false q true s d t x = absurd (true≢false (sym x))
    go false p false q false s true t x = absurd (true≢false (sym x))
    go false p false q false s false t x = record { above = leb-false _ _ p; near = ltb-false _ _ q; short = ltb-false _ _ s; free = t }

-- ---- a message stored

pub store-above : (r : EarlyReceiver) (j k : ℕ) → keeps r j k ≡ true → next_of r < j
store-above r j k e = (keepable r j k e).above

pub store_length : (r : EarlyReceiver) (j k : ℕ) → keeps r j k ≡ true → Fits w16 k
store_length r j k e = record { fits = omega (arith, (keepable r j k e).short) }

pub slot-fits : (i j : ℕ) → i ≡ j % 64 → Fits w64 (i * 1024)
slot-fits i j e = record { fits = omega arith }

pub length-fits : (i j : ℕ) → i ≡ j % 64 → Fits w64 (i * 2)
length-fits i j e = record { fits = omega arith }

pub store-done : (r : EarlyReceiver) (k l s t m : List ℕ) (j i p : ℕ) (h : Held) → keeps r j (length m) ≡ true → i ≡ j % 64
    → t ≡ put s (i * 1024) m → l ≡ put k (i * 2) (bytes 2 (length m)) → p ≡ min 65535 (j - next_of r - 1) → h.0 ≡ marked r.held.0 p
    → lent (early r.base h.0) l t ≡ keep (lent r k s) j m
unfolding keep
store-done r k l s t m j i p h e d f g q o =
    let a = (keepable r j (length m) e).near in
    let z : p ≡ j - next_of r - 1 = omega arith in
    let n : h.0 ≡ marked r.held.0 (j - next_of r - 1) = o ∙ rw z refl in
    rw (f, g, d, ← n) refl

module _ (r : EarlyReceiver) (k s : List ℕ) (j : ℕ) (m : List ℕ) (b : Bool) (e : b ≡ keeps r j (length m)) where
  pub one_kept : (h : Held) (l t : List ℕ) → b ≡ true → lent (early r.base h.0) l t ≡ keep (lent r k s) j m
      → lent (early r.base h.0) l t ≡ keep_one (lent r k s) j m
  unfolding keep_one
  one_kept h l t f g = rw (← e, f) g

  pub one_left : b ≡ false → lent (early r.base r.held.0) k s ≡ keep_one (lent r k s) j m
  unfolding keep_one
  one_left f = rw (← e, f) refl

  pub one-asks : b ≡ true → keeps r j (length m) ≡ true
  one-asks f = sym e ∙ f

pub laid-length : (s t m : List ℕ) (at : ℕ) → t ≡ put s at m → length t ≡ length s
laid-length s t m at e = ap length e ∙ length-put s at m
