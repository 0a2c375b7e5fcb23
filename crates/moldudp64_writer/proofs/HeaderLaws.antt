-- Laws of the header: written in three parts, and read back.
use mathlib.Core.Path.{◌≡◌, sym}
use mathlib.Core.List.{List, ◌++◌, append_assoc}
use Prim.Native.Nat.{ℕ, ◌+◌, ◌^◌, ◌≤◌, ◌<◌}
use native.Mathlib.Omega.{arith}
use lib.ListN.{length, take, drop, length-append, length-drop}
use lib.Seq.{take_at, drop_at, take-add}
use Rattle.wire.specs.Bytes.{number, bytes, AreBytes}
use Rattle.wire.specs.Output.{put}
use Rattle.wire.proofs.Numbers.{length-bytes, number-bytes, number-drop, bytes-number}
use Rattle.wire.proofs.Outputs.{put-put}
use Rattle.moldudp64.specs.Header.{number_of, count_of, header}

-- ---- as the code has it

pub length-header : (s : List ℕ) (n c : ℕ) → length s ≡ 10 → length (header s n c) ≡ 20
unfolding header
length-header s n c ten = omega (arith, length-append (s ++ bytes 8 n) (bytes 2 c), length-append s (bytes 8 n), length-bytes 8 n, length-bytes 2 c)

pub header-put : (l l₁ l₂ l₃ s : List ℕ) (n c : ℕ) → 20 ≤ length l → length s ≡ 10
    → l₁ ≡ put l 0 s → l₂ ≡ put l₁ 10 (bytes 8 n) → l₃ ≡ put l₂ 18 (bytes 2 c) → l₃ ≡ put l 0 (header s n c)
unfolding header
header-put l l₁ l₂ l₃ s n c h ten p q r =
    let b = length-bytes 8 n in
    let d = length-bytes 2 c in
    let m : 0 + length s ≡ 10 = omega arith in
    let f : put (put l 0 s) 10 (bytes 8 n) ≡ put l 0 (s ++ bytes 8 n) = rw m at (put-put l 0 s (bytes 8 n) (omega arith)) in
    let k : 0 + length (s ++ bytes 8 n) ≡ 18 = omega (arith, length-append s (bytes 8 n)) in
    let g : put (put l 0 (s ++ bytes 8 n)) 18 (bytes 2 c) ≡ put l 0 (s ++ bytes 8 n ++ bytes 2 c) =
    rw k at (put-put l 0 (s ++ bytes 8 n) (bytes 2 c) (omega arith)) in
    rw (r, q, p, f) g

-- ---- what is written reads back, whatever follows it

module _ (s : List ℕ) (n c : ℕ) (ten : length s ≡ 10) (b : List ℕ) where
  pub header-session : take 10 (header s n c ++ b) ≡ s
  unfolding header
  header-session = rw (append_assoc (s ++ bytes 8 n) (bytes 2 c) b, append_assoc s (bytes 8 n) (bytes 2 c ++ b)) (take_at s (bytes 8 n ++ (bytes 2 c ++ b)) 10 ten)

  pub header-number : n < 2 ^ 64 → number_of (header s n c ++ b) ≡ n
  unfolding header number_of
  header-number h = simp append_assoc (rw ten at (number-bytes 8 n h s (bytes 2 c ++ b)))

  pub header-count : c < 2 ^ 16 → count_of (header s n c ++ b) ≡ c
  unfolding header count_of
  header-count h =
      let e : length (s ++ bytes 8 n) ≡ 18 = omega (arith, length-append s (bytes 8 n), length-bytes 8 n) in
      rw (append_assoc (s ++ bytes 8 n) (bytes 2 c) b) (rw e at (number-bytes 2 c h (s ++ bytes 8 n) b))

  pub header-rest : drop 20 (header s n c ++ b) ≡ b
  header-rest = drop_at (header s n c) b 20 (length-header s n c ten)

-- ---- what is read is what was written

pub drop-bytes : (k : ℕ) (l : List ℕ) → AreBytes l → AreBytes (drop k l)
drop-bytes k l small i = rw (lib.Seq.get_or-drop k l i 0) (small (k + i))

pub header-again : (l : List ℕ) → AreBytes l → 20 ≤ length l → header (take 10 l) (number_of l) (count_of l) ≡ take 20 l
unfolding header number_of count_of
header-again l small h =
    let a : bytes 8 (number l 10 8) ≡ take 8 (drop 10 l) = rw (number-drop 10 l 0 8) at (bytes-number 8 (drop 10 l) (drop-bytes 10 l small) (omega (arith, length-drop 10 l))) in
    let b : bytes 2 (number l 18 2) ≡ take 2 (drop 18 l) = rw (number-drop 18 l 0 2) at (bytes-number 2 (drop 18 l) (drop-bytes 18 l small) (omega (arith, length-drop 18 l))) in
    rw (a, b, ← take-add 10 8 l) (sym (take-add 18 2 l))
