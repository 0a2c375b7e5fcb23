-- Laws of `number` and `bytes`, each over the width.
use mathlib.Core.Path.{◌≡◌, refl, ap, sym, ◌∙◌}
use mathlib.Core.List.{List, [], ◌∷◌, ◌++◌, append_assoc}
use Prim.Native.Nat.{ℕ, zero, suc, ◌+◌, ◌*◌, ◌/◌, ◌%◌, ◌-◌, ◌^◌, ◌≤◌, ◌<◌}
use native.Mathlib.Omega.{arith}
use native.Mathlib.Nat.{add-zero, zero-add, pow-suc}
use native.Mathlib.Numerals.{add-one}
use mir.Syntax.{w8, w64}
use mir.Val.{Fits}
use lib.ListN.{length, get_or, take, drop, length-append, length-drop, get_or-eq_default, get_or-append}
use lib.Seq.{get_or-take, get_or-drop, take_all, get_or_at, get_or-append-add, take-suc}
use Rattle.wire.specs.Bytes.{number, bytes, AreBytes}

-- past the end every number is 0
number_past : (l : List ℕ) (at n : ℕ) → length l ≤ at → number l at n ≡ 0
unfolding number
number_past l at zero h = refl
number_past l at (suc n) h =
    let e : get_or l (at + n) 0 ≡ 0 = get_or-eq_default l 0 (omega arith) in
    let i = number_past l at n h in
    omega arith

-- a number of what is left after k bytes
pub number-drop : (k : ℕ) (l : List ℕ) (at n : ℕ) → number (drop k l) at n ≡ number l (k + at) n
unfolding number
number-drop k l at zero = refl
number-drop k l at (suc n) =
    let e : get_or (drop k l) (at + n) 0 ≡ get_or l (k + (at + n)) 0 = get_or-drop k l (at + n) 0 in
    let f : k + (at + n) ≡ k + at + n = omega arith in
    let i = number-drop k l at n in
    rw (e, i, f)

-- a number that is there stays where bytes follow
pub number_append : (a b : List ℕ) (at n : ℕ) → at + n ≤ length a → number (a ++ b) at n ≡ number a at n
unfolding number
number_append a b at zero h = refl
number_append a b at (suc n) h =
    let i = number_append a b at n (omega arith) in
    rw (i, get_or-append a b 0 (at + n) (omega arith))

-- the part from a place to the end is what is left
-- a number inside the first k bytes
pub number-take : (k : ℕ) (l : List ℕ) (at n : ℕ) → at + n ≤ k → number (take k l) at n ≡ number l at n
unfolding number
number-take k l at zero h = refl
number-take k l at (suc n) h =
    let e : get_or (take k l) (at + n) 0 ≡ get_or l (at + n) 0 = get_or-take k l (at + n) 0 (omega arith) in
    let i = number-take k l at n (omega arith) in
    rw (e, i)

pub part_to_end : (k : ℕ) (l : List ℕ) → take (length l - k) (drop k l) ≡ drop k l
part_to_end k l = take_all (length l - k) (drop k l) (simp length-drop (omega arith))

pub length-bytes : (n v : ℕ) → length (bytes n v) ≡ n
unfolding bytes
length-bytes zero v = refl
length-bytes (suc n) v =
    let i = length-bytes n (v / 256) in
    simp (length-append, i) (add-one n)

-- what `bytes` gives reads back, whatever stands before and after it
pub number-bytes : (n v : ℕ) → v < 256 ^ n → (a b : List ℕ) → number (a ++ (bytes n v ++ b)) (length a) n ≡ v
unfolding number bytes
number-bytes zero v h a b = omega arith
number-bytes (suc n) v h a b =
    let f : (bytes n (v / 256) ++ (v % 256 ∷ [])) ++ b ≡ bytes n (v / 256) ++ (v % 256 ∷ b) = append_assoc (bytes n (v / 256)) (v % 256 ∷ []) b in
    let g = number-bytes n (v / 256) (omega (arith, pow-suc 256 n)) a (v % 256 ∷ b) in
    let e = get_or-append-add a (bytes n (v / 256) ++ (v % 256 ∷ b)) n 0 in
    let d = get_or_at (bytes n (v / 256)) (v % 256) b 0 n (length-bytes n (v / 256)) in
    let l : a ++ (bytes (suc n) v ++ b) ≡ a ++ (bytes n (v / 256) ++ (v % 256 ∷ b)) =
    ap (λ (r : List ℕ). a ++ r) f in
    let high : number (a ++ (bytes (suc n) v ++ b)) (length a) n ≡ v / 256 = rw l g in
    let low : get_or (a ++ (bytes (suc n) v ++ b)) (length a + n) 0 ≡ v % 256 = rw (l, e) d in
    rw (high, low) (omega arith)

-- and the bytes of a number that was read are the bytes that it was read from
pub bytes-number : (n : ℕ) (l : List ℕ) → AreBytes l → n ≤ length l → bytes n (number l 0 n) ≡ take n l
unfolding number bytes
bytes-number zero l small h = refl
bytes-number (suc n) l small h =
    let b = small (0 + n) in
    let q : (number l 0 n * 256 + get_or l (0 + n) 0) / 256 ≡ number l 0 n = omega arith in
    let r : (number l 0 n * 256 + get_or l (0 + n) 0) % 256 ≡ get_or l (0 + n) 0 = omega arith in
    let z : 0 + n ≡ n = omega arith in
    rw (q, r, z, bytes-number n l small (omega arith)) (sym (take-suc l n 0 (omega arith)))

pub small-number : (n : ℕ) (l : List ℕ) (at : ℕ) → AreBytes l → number l at n < 256 ^ n
unfolding number
small-number zero l at small = omega arith
small-number (suc n) l at small =
    let i = small-number n l at small in
    let b = small (at + n) in
    omega (arith, pow-suc 256 n)

-- ---- as the code of `at_the_end` has it: n bytes are read, and v is their number

-- fewer than eight bytes leave room for one more
pub read-room : (n : ℕ) (l : List ℕ) (at v : ℕ) → AreBytes l → v ≡ number l at n → n < 8 → v < 2 ^ 56
read-room n l at v small e h = go n h (small-number n l at small)
  where
    go : (k : ℕ) → k < 8 → number l at n < 256 ^ k → v < 2 ^ 56
    go zero f b = omega arith
    go (suc zero) f b = omega arith
    go (suc (suc zero)) f b = omega arith
    go (suc (suc (suc zero))) f b = omega arith
    go (suc (suc (suc (suc zero)))) f b = omega arith
    go (suc (suc (suc (suc (suc zero))))) f b = omega arith
    go (suc (suc (suc (suc (suc (suc zero)))))) f b = omega arith
    go (suc (suc (suc (suc (suc (suc (suc zero))))))) f b = omega arith
    go (suc (suc (suc (suc (suc (suc (suc (suc k)))))))) f b = absurd (omega arith)

module _ (n : ℕ) (l : List ℕ) (at v : ℕ) (small : (i : ℕ) → Fits w8 (get_or l i 0)) (e : v ≡ number l at n) (h : n < 8) where
  are : AreBytes l
  are i = (small i).fits

  pub times_fits : Fits w64 (v * 256)
  times_fits = let r = read-room n l at v are e h in record { fits = omega arith }

  pub more_fits : (b : ℕ) → b ≡ get_or l (at + n) 0 → Fits w64 (v * 256 + b)
  more_fits b f = let r = read-room n l at v are e h in let s = are (at + n) in record { fits = omega arith }

pub read_none : (l : List ℕ) (at : ℕ) → 0 ≡ number l at 0
unfolding number
read_none l at = refl

pub read_more : (n : ℕ) (l : List ℕ) (at v b : ℕ) → v ≡ number l at n → b ≡ get_or l (at + n) 0 → v * 256 + b ≡ number l at (n + 1)
unfolding number
read_more n l at v b e f = rw (add-one n, e, f)

pub read_all : (n : ℕ) (l : List ℕ) (at v : ℕ) → v ≡ number l at n → n ≤ 8 → 8 ≤ n → v ≡ number l at 8
read_all n l at v e h k = let m : n ≡ 8 = omega arith in e ∙ ap (number l at) m

-- ---- as the code of `be16` and `be64` has them

number-2 : (l : List ℕ) (at : ℕ) → number l at 2 ≡ get_or l at 0 * 256 + get_or l (at + 1) 0
unfolding number
number-2 l at = simp (add-zero, zero-add)

number-8 : (l : List ℕ) (at : ℕ)
    → number l at 8
    ≡ ((((((get_or l at 0 * 256 + get_or l (at + 1) 0) * 256 + get_or l (at + 2) 0) * 256 + get_or l (at + 3) 0) * 256 + get_or l (at + 4) 0) * 256 + get_or l (at + 5) 0) * 256 + get_or l (at + 6) 0) * 256 + get_or l (at + 7) 0
unfolding number
number-8 l at = simp (add-zero, zero-add)

pub byte_past : (l : List ℕ) (at : ℕ) → length l ≤ at → 0 ≡ get_or l at 0
byte_past l at h = sym (get_or-eq_default l 0 h)

pub read_past : (l : List ℕ) (at n : ℕ) → length l ≤ at → 0 ≡ number l at n
read_past l at n h = sym (number_past l at n h)

pub read-2 : (l : List ℕ) (at r a b : ℕ) → r ≡ a * 256 + b → a ≡ get_or l at 0 → b ≡ get_or l (at + 1) 0 → r ≡ number l at 2
read-2 l at r a b e f g = cc (number-2 l at)

pub read-8 : (l : List ℕ) (at r a b c d i j k m : ℕ) → r ≡ ((((((a * 256 + b) * 256 + c) * 256 + d) * 256 + i) * 256 + j) * 256 + k) * 256 + m
    → a ≡ get_or l at 0 → b ≡ get_or l (at + 1) 0 → c ≡ get_or l (at + 2) 0 → d ≡ get_or l (at + 3) 0
    → i ≡ get_or l (at + 4) 0 → j ≡ get_or l (at + 5) 0 → k ≡ get_or l (at + 6) 0 → m ≡ get_or l (at + 7) 0 → r ≡ number l at 8
read-8 l at r a b c d i j k m e e₀ e₁ e₂ e₃ e₄ e₅ e₆ e₇ = cc (number-8 l at)

-- the same in front of a slice, and where that is the rest of another
pub read-front : (l : List ℕ) (r : ℕ)
    → r ≡ ((((((get_or l 0 0 * 256 + get_or l 1 0) * 256 + get_or l 2 0) * 256 + get_or l 3 0) * 256 + get_or l 4 0) * 256 + get_or l 5 0) * 256 + get_or l 6 0) * 256 + get_or l 7 0
    → r ≡ number l 0 8
read-front l r e = e ∙ sym (number-8 l 0)

pub read-rest : (l : List ℕ) (at r : ℕ) → r ≡ number (take (length l - at) (drop at l)) 0 8 → r ≡ number l at 8
read-rest l at r e =
    let z : at + 0 ≡ at = omega arith in
    e ∙ ap (λ (m : List ℕ). number m 0 8) (part_to_end at l) ∙ number-drop at l 0 8 ∙ ap (λ (n : ℕ). number l n 8) z
