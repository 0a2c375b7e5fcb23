-- Laws of the word: what its bits are after each operation, and that its counts are the machine's.
use mathlib.Core.Path.{◌≡◌, refl, sym, ap, ◌∙◌}
use mathlib.Core.Bool.{Bool, true, false, true≢false}
use Prim.Native.Nat.{ℕ, zero, suc, ◌+◌, ◌-◌, ◌*◌, ◌/◌, ◌%◌, ◌^◌, ◌≤◌, ◌<◌, max}
use native.Mathlib.Omega.{arith}
use lib.Dec.{ltb, eqb}
use lib.Count.{count_trailing_zeros}
use native.Mathlib.Nat.{lt_of_lt_of_le, lt_of_le_of_lt, div-eq_of_lt, mod-eq_of_lt}
use mir.Val.{Fits}
use mir.Syntax.{w16, w64}
use lib.Pow.{shr-shr, shr_le, pow_mono, pow-lt, pow_pos}
use lib.Bits.{bit_or, or_shr, or_step, or_lt}
use borrow.Author.Tests.{lt-ltb, le-ltb, ltb-true, eqb-true, eqb-false}
use Rattle.std.specs.Prelude.{if◌then◌else◌}
use Rattle.wire.proofs.Cases.{below_or_not}
use Rattle.early_word.specs.Word.{bit, ones_of, zeros_of, past, marked}

-- ---- one bit

pub bit_past : (h k i : ℕ) → bit (past h k) i ≡ bit h (k + i)
unfolding bit past
bit_past h k i = ap (λ (x : ℕ). eqb (x % 2) 1) (shr-shr h k i)

pub bit-half : (h i : ℕ) → bit (h / 2) i ≡ bit h (suc i)
unfolding bit
bit-half h i =
    let e : suc i ≡ 1 + i = omega arith in
    rw e (ap (λ (x : ℕ). eqb (x % 2) 1) (shr-shr h 1 i))

pub bit-low : (h : ℕ) → bit h 0 ≡ eqb (h % 2) 1
unfolding bit
bit-low h = let e : h / 1 ≡ h = omega arith in ap (λ (x : ℕ). eqb (x % 2) 1) e

pow-double : (k : ℕ) → 2 ^ suc k ≡ 2 * 2 ^ k
pow-double k = omega arith

-- a word of k bits has no bit from k on
pub bit-none : (h k i : ℕ) → h < 2 ^ k → k ≤ i → bit h i ≡ false
unfolding bit
bit-none h k i e f =
    let z : h / 2 ^ i ≡ 0 = div-eq_of_lt (lt_of_lt_of_le e (pow_mono f)) in
    rw z

pub past-none : (h k i : ℕ) → h < 2 ^ k → k ≤ i → 0 ≡ past h i
unfolding past
past-none h k i e f = sym (div-eq_of_lt (lt_of_lt_of_le e (pow_mono f)))

pub past-lt : (h k i : ℕ) → h < 2 ^ k → past h i < 2 ^ k
unfolding past
past-lt h k i e = lt_of_le_of_lt (shr_le h i) e

-- the lowest bit of a number, and of what it leaves of k ones
abbrev By : ℕ → Type 0 → Type 0
By h P = (h % 2 ≡ 0 → P) → (h % 2 ≡ 1 → P) → P

by-parity : (P : Type 0) (h : ℕ) → By h P
by-parity P h f g = go (h % 2) refl
  where
    go : (b : ℕ) → h % 2 ≡ b → P
    go zero e = f e
    go (suc zero) e = g e
    go (suc (suc b)) e = absurd (omega arith)

-- ---- the counts

pub ones-count : (k h : ℕ) → h < 2 ^ k → count_trailing_zeros k (2 ^ k - 1 - h) ≡ ones_of k h
unfolding count_trailing_zeros ones_of
ones-count zero h e = refl
ones-count (suc k) h e =
    let p = 2 ^ k in
    let d : 2 ^ suc k ≡ 2 * p = pow-double k in
    by-parity _ h
    (λ z.
    let a : (2 * p - 1 - h) % 2 ≡ 1 = omega arith in
    let b : bit h 0 ≡ false = bit-low h ∙ ap (λ (x : ℕ). eqb x 1) z in
    rw (d, a, b) refl)
    (λ z.
    let a : (2 * p - 1 - h) % 2 ≡ 0 = omega arith in
    let c : (2 * p - 1 - h) / 2 ≡ p - 1 - h / 2 = omega arith in
    let b : bit h 0 ≡ true = bit-low h ∙ ap (λ (x : ℕ). eqb x 1) z in
    rw (d, a, b, c) (ap suc (ones-count k (h / 2) (omega arith))))

pub zeros-count : (k h : ℕ) → count_trailing_zeros k h ≡ zeros_of k h
unfolding count_trailing_zeros zeros_of
zeros-count zero h = refl
zeros-count (suc k) h =
    by-parity _ h
    (λ z.
    let b : bit h 0 ≡ false = bit-low h ∙ ap (λ (x : ℕ). eqb x 1) z in
    rw (z, b) (ap suc (zeros-count k (h / 2))))
    (λ z.
    let b : bit h 0 ≡ true = bit-low h ∙ ap (λ (x : ℕ). eqb x 1) z in
    rw (z, b) refl)

-- ---- what the counts say

either : (b : Bool) (P : Type 0) → (b ≡ true → P) → (b ≡ false → P) → P
either true P f g = f refl
either false P f g = g refl

-- each of the run is a one
pub ones-set : (k h i : ℕ) → i < ones_of k h → bit h i ≡ true
unfolding ones_of
ones-set zero h i e = absurd (omega arith)
ones-set (suc k) h zero e =
    either (bit h 0) _ (λ b. b) (λ b. let z : 0 < 0 = rw b at e in absurd (omega arith))
ones-set (suc k) h (suc i) e =
    either (bit h 0) _
    (λ b. let y : suc i < suc (ones_of k (h / 2)) = rw b at e in sym (bit-half h i) ∙ ones-set k (h / 2) i (omega arith))
    (λ b. let z : suc i < 0 = rw b at e in absurd (omega arith))

-- and after it comes none
pub ones-stop : (k h : ℕ) → h < 2 ^ k → bit h (ones_of k h) ≡ false
unfolding ones_of
ones-stop zero h e = bit-none h 0 0 e (omega arith)
ones-stop (suc k) h e =
    let d : 2 ^ suc k ≡ 2 * 2 ^ k = pow-double k in
    either (bit h 0) _
    (λ b. rw b (sym (bit-half h (ones_of k (h / 2))) ∙ ones-stop k (h / 2) (omega arith)))
    (λ b. rw b b)

pub ones-le : (k h : ℕ) → ones_of k h ≤ k
unfolding ones_of
ones-le zero h = omega arith
ones-le (suc k) h = either (bit h 0) _ (λ b. rw b (omega (arith, ones-le k (h / 2)))) (λ b. rw b (omega arith))

-- a word without some of its run has the rest of the run
pub ones-past : (k h i : ℕ) → h < 2 ^ k → i ≤ ones_of k h → ones_of k (past h i) ≡ ones_of k h - i
ones-past k h i e le =
    below_or_not _ (ones_of k (past h i)) (ones_of k h - i)
    (λ lt.
    let a : bit h (i + ones_of k (past h i)) ≡ true = ones-set k h (i + ones_of k (past h i)) (omega arith) in
    absurd (true≢false (sym a ∙ sym (bit_past h i (ones_of k (past h i))) ∙ ones-stop k (past h i) (past-lt h k i e))))
    (λ ge.
    below_or_not _ (ones_of k h - i) (ones_of k (past h i))
    (λ lt.
    let a : bit (past h i) (ones_of k h - i) ≡ true = ones-set k (past h i) (ones_of k h - i) lt in
    let z : i + (ones_of k h - i) ≡ ones_of k h = omega arith in
    absurd (true≢false (sym a ∙ bit_past h i (ones_of k h - i) ∙ ap (bit h) z ∙ ones-stop k h e)))
    (λ le'. omega arith))

pub past-past : (h i j : ℕ) → past (past h i) j ≡ past h (i + j)
unfolding past
past-past h i j = shr-shr h i j

pub zeros-le : (k h : ℕ) → zeros_of k h ≤ k
unfolding zeros_of
zeros-le zero h = omega arith
zeros-le (suc k) h = either (bit h 0) _ (λ b. rw b (omega arith)) (λ b. rw b (omega (arith, zeros-le k (h / 2))))

-- below the lowest one stands none
pub zeros-clear : (k h i : ℕ) → i < zeros_of k h → bit h i ≡ false
unfolding zeros_of
zeros-clear zero h i e = absurd (omega arith)
zeros-clear (suc k) h zero e =
    either (bit h 0) _ (λ b. let z : 0 < 0 = rw b at e in absurd (omega arith)) (λ b. b)
zeros-clear (suc k) h (suc i) e =
    either (bit h 0) _
    (λ b. let z : suc i < 0 = rw b at e in absurd (omega arith))
    (λ b. let y : suc i < suc (zeros_of k (h / 2)) = rw b at e in sym (bit-half h i) ∙ zeros-clear k (h / 2) i (omega arith))

-- and a word that isn't 0 has a one there
pub zeros-one : (k h : ℕ) → h < 2 ^ k → (h ≡ 0 → ⊥) → bit h (zeros_of k h) ≡ true
unfolding zeros_of
zeros-one zero h e z = absurd (z (omega arith))
zeros-one (suc k) h e z =
    let d : 2 ^ suc k ≡ 2 * 2 ^ k = pow-double k in
    either (bit h 0) _
    (λ b. rw b b)
    (λ b.
    let y : h % 2 ≡ 0 = even h (sym (bit-low h) ∙ b) in
    rw b (sym (bit-half h (zeros_of k (h / 2))) ∙ zeros-one k (h / 2) (omega arith) (λ q. z (omega arith))))
  where
    even : (h : ℕ) → eqb (h % 2) 1 ≡ false → h % 2 ≡ 0
    even h e = let n : h % 2 ≡ 1 → ⊥ = eqb-false _ _ e in by-parity _ h (λ z. z) (λ o. absurd (n o))

-- ---- a bit set

or-bit : (a b i : ℕ) → bit_or a b / 2 ^ i % 2 ≡ max (a / 2 ^ i % 2) (b / 2 ^ i % 2)
or-bit a b i =
    let x = a / 2 ^ i in
    let y = b / 2 ^ i in
    let s : bit_or x y ≡ bit_or (x / 2) (y / 2) * 2 + max (x % 2) (y % 2) = or_step x y in
    let m : max (x % 2) (y % 2) < 2 = omega arith in
    ap (λ (n : ℕ). n % 2) (or_shr a b i) ∙ omega arith

pow_step : (k i : ℕ) → 2 ^ suc k / 2 ^ suc i ≡ 2 ^ k / 2 ^ i
pow_step k i =
    let e : suc i ≡ 1 + i = omega arith in
    let d : 2 ^ suc k ≡ 2 * 2 ^ k = pow-double k in
    let h : 2 ^ suc k / 2 ≡ 2 ^ k = omega arith in
    rw e (sym (shr-shr (2 ^ suc k) 1 i) ∙ ap (λ (x : ℕ). x / 2 ^ i) h)

pow-same : (k : ℕ) → 2 ^ k / 2 ^ k % 2 ≡ 1
pow-same zero = refl
pow-same (suc k) = rw (pow_step k k) (pow-same k)

below-pow : (i : ℕ) → 1 / 2 ^ suc i ≡ 0
below-pow i = let d = pow-double i in let p : 0 < 2 ^ i = pow_pos i in let q : 1 < 2 ^ suc i = omega arith in div-eq_of_lt q

pow-other : (k i : ℕ) → (i ≡ k → ⊥) → 2 ^ k / 2 ^ i % 2 ≡ 0
pow-other zero zero z = absurd (z refl)
pow-other zero (suc i) z = rw (below-pow i) refl
pow-other (suc k) zero z = let d = pow-double k in let e : 2 ^ suc k / 1 ≡ 2 ^ suc k = omega arith in rw e (omega arith)
pow-other (suc k) (suc i) z = rw (pow_step k i) (pow-other k i (λ e. z (ap suc e)))

pub bit-marked : (h k i : ℕ) → k < 64 → bit (marked h k) i ≡ (if eqb i k then true else bit h i)
unfolding bit marked
bit-marked h k i e =
    either (eqb i k) _
    (λ q.
    let z : i ≡ k = eqb-true _ _ q in
    let a = or-bit h (2 ^ k) k in
    let b = pow-same k in
    let c : bit_or h (2 ^ k) / 2 ^ k % 2 ≡ 1 = omega arith in
    rw (lt-ltb k 64 e, q, z, c) refl)
    (λ q.
    let z : i ≡ k → ⊥ = eqb-false _ _ q in
    let a = or-bit h (2 ^ k) i in
    let b = pow-other k i z in
    let c : bit_or h (2 ^ k) / 2 ^ i % 2 ≡ h / 2 ^ i % 2 = omega arith in
    rw (lt-ltb k 64 e, q, c) refl)

pub marked-lt : (h k : ℕ) → h < 2 ^ 64 → marked h k < 2 ^ 64
unfolding marked
marked-lt h k e = either (ltb k 64) _ (λ q. rw q (or_lt 64 h (2 ^ k) e (pow-lt (ltb-true _ _ q)))) (λ q. rw q e)

-- ---- as the code has them

trailing_le : (k h : ℕ) → count_trailing_zeros k h ≤ k
trailing_le k h = rw (zeros-count k h) (zeros-le k h)

pub trailing-fits : (h : ℕ) → Fits w16 (count_trailing_zeros 64 h)
trailing-fits h = record { fits = omega (arith, trailing_le 64 h) }

pub run_is : (h : ℕ) → Fits w64 h → count_trailing_zeros 64 (18446744073709551615 - h) ≡ ones_of 64 h
run_is h f = ones-count 64 h (omega arith)

pub has-is : (h k : ℕ) → k < 64 → eqb (h / 2 ^ k % 2) 1 ≡ bit h k
unfolding bit
has-is h k e = refl

pub has-none : (h k : ℕ) → Fits w64 h → 64 ≤ k → false ≡ bit h k
has-none h k f e = sym (bit-none h 64 k (omega arith) e)

pub past_is : (h k : ℕ) → k < 64 → h / 2 ^ k ≡ past h k
unfolding past
past_is h k e = refl

pub past_all : (h k : ℕ) → Fits w64 h → 64 ≤ k → 0 ≡ past h k
past_all h k f e = past-none h 64 k (omega arith) e

pub marked-is : (h k : ℕ) → k < 64 → bit_or h (1 * 2 ^ k % 2 ^ 64) ≡ marked h k
unfolding marked
marked-is h k e =
    let o : 1 * 2 ^ k ≡ 2 ^ k = omega arith in
    let m : 2 ^ k % 2 ^ 64 ≡ 2 ^ k = mod-eq_of_lt (pow-lt e) in
    rw (lt-ltb k 64 e, o, m) refl

pub marked-none : (h k : ℕ) → 64 ≤ k → h ≡ marked h k
unfolding marked
marked-none h k e = rw (le-ltb k 64 e) refl
