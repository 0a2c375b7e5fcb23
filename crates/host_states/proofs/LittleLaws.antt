-- Laws of little-endian numbers, over the width, and as the code has them.
use mathlib.Core.Path.{◌≡◌, refl, ap, sym, ◌∙◌}
use mathlib.Core.List.{List, [], ◌∷◌, ◌++◌, append_assoc}
use Prim.Native.Nat.{ℕ, zero, suc, ◌+◌, ◌*◌, ◌/◌, ◌%◌, ◌^◌, ◌≤◌, ◌<◌}
use native.Mathlib.Omega.{arith}
use native.Mathlib.Nat.{add-zero, pow-suc}
use lib.ListN.{length, get_or, take, drop, length-append, get_or-eq_default}
use lib.Seq.{get_or_at, get_or-drop, length-take-le}
use mir.Syntax.{w16, w64}
use Rattle.std.specs.Int.{to_le_bytes}
use Rattle.std.proofs.Math.Nat.{div-div-eq-div-mul}
use Rattle.wire.specs.Output.{put}
use Rattle.wire.proofs.Outputs.{put-room}
use Rattle.host_states.specs.Little.{little, little_bytes, LittleReadsBack}

pub length-little : (n v : ℕ) → length (little_bytes n v) ≡ n
unfolding little_bytes
length-little zero v = refl
length-little (suc n) v = ap suc (length-little n (v / 256))

-- what is laid reads back, whatever stands before and after it
pub little-back : (n v : ℕ) → v < 256 ^ n → (a b : List ℕ) (k : ℕ) → length a ≡ k → little (a ++ (little_bytes n v ++ b)) k n ≡ v
unfolding little little_bytes
little-back zero v h a b k e = omega arith
little-back (suc n) v h a b k e =
    let m : length (a ++ (v % 256 ∷ [])) ≡ k + 1 = length-append a (v % 256 ∷ []) ∙ ap (λ (x : ℕ). x + 1) e in
    let f : (a ++ (v % 256 ∷ [])) ++ (little_bytes n (v / 256) ++ b) ≡ a ++ (v % 256 ∷ (little_bytes n (v / 256) ++ b)) = append_assoc a (v % 256 ∷ []) (little_bytes n (v / 256) ++ b) in
    let g = little-back n (v / 256) (omega (arith, pow-suc 256 n)) (a ++ (v % 256 ∷ [])) b (k + 1) m in
    let d = get_or_at a (v % 256) (little_bytes n (v / 256) ++ b) 0 k e in
    let high : little (a ++ (little_bytes (suc n) v ++ b)) (k + 1) n ≡ v / 256 =
    ap (λ (l : List ℕ). little l (k + 1) n) (sym f) ∙ g in
    rw (d, high) (omega arith)

reads_back : LittleReadsBack
unfolding LittleReadsBack
reads_back n v l at h r =
    let p = length-little n v in
    let t : length (take at l) ≡ at = length-take-le at l (omega arith) in
    rw (put-room l at (little_bytes n v) (omega arith), append_assoc (take at l) (little_bytes n v) (drop (at + length (little_bytes n v)) l)) (little-back n v h (take at l) (drop (at + length (little_bytes n v)) l) at t)

-- a number of what is left after k bytes
pub little-drop : (k : ℕ) (l : List ℕ) (at n : ℕ) → little (drop k l) at n ≡ little l (k + at) n
unfolding little
little-drop k l at zero = refl
little-drop k l at (suc n) =
    let e : get_or (drop k l) at 0 ≡ get_or l (k + at) 0 = get_or-drop k l at 0 in
    let f : k + (at + 1) ≡ k + at + 1 = omega arith in
    let i = little-drop k l (at + 1) n in
    rw (e, i, f)

-- past the end every number is 0
pub little-past : (l : List ℕ) (at n : ℕ) → length l ≤ at → 0 ≡ little l at n
unfolding little
little-past l at zero h = refl
little-past l at (suc n) h =
    let e : get_or l at 0 ≡ 0 = get_or-eq_default l 0 h in
    let i = little-past l (at + 1) n (omega arith) in
    omega arith

-- ---- as the code reads and lays them

pub get-2 : (l : List ℕ) (at r a b : ℕ) → a ≡ get_or l at 0 → b ≡ get_or l (at + 1) 0 → r ≡ a + 256 * b → r ≡ little l at 2
unfolding little
get-2 l at r a b p q e = rw (e, p, q) (simp add-zero)

eight : (l : List ℕ) (at : ℕ)
    → little l at 8
    ≡ get_or l at 0 + 256 * (get_or l (at + 1) 0 + 256 * (get_or l (at + 2) 0 + 256 * (get_or l (at + 3) 0 + 256 * (get_or l (at + 4) 0 + 256 * (get_or l (at + 5) 0 + 256 * (get_or l (at + 6) 0 + 256 * get_or l (at + 7) 0))))))
unfolding little
eight l at =
    let b : at + 1 + 1 ≡ at + 2 = omega arith in
    let c : at + 2 + 1 ≡ at + 3 = omega arith in
    let d : at + 3 + 1 ≡ at + 4 = omega arith in
    let e : at + 4 + 1 ≡ at + 5 = omega arith in
    let f : at + 5 + 1 ≡ at + 6 = omega arith in
    let g : at + 6 + 1 ≡ at + 7 = omega arith in
    simp (b, c, d, e, f, g, add-zero)

pub get-8 : (l : List ℕ) (at r a b c d e f g h : ℕ) → a ≡ get_or l at 0 → b ≡ get_or l (at + 1) 0 → c ≡ get_or l (at + 2) 0
    → d ≡ get_or l (at + 3) 0 → e ≡ get_or l (at + 4) 0 → f ≡ get_or l (at + 5) 0 → g ≡ get_or l (at + 6) 0 → h ≡ get_or l (at + 7) 0
    → r ≡ a + 256 * (b + 256 * (c + 256 * (d + 256 * (e + 256 * (f + 256 * (g + 256 * h))))))
    → r ≡ little l at 8
get-8 l at r a b c d e f g h pa pb pc pd pe pf pg ph x = x ∙ rw (pa, pb, pc, pd, pe, pf, pg, ph) (sym (eight l at))

pub little-reads-back : LittleReadsBack
little-reads-back = reads_back

-- the library's bytes of a number, the least significant first
bytes-2 : (v : ℕ) → little_bytes 2 v ≡ to_le_bytes w16 v
unfolding little_bytes
bytes-2 v = refl

pub little-16 : (l m bs : List ℕ) (at v : ℕ) → m ≡ put l at bs → bs ≡ to_le_bytes w16 v → m ≡ put l at (little_bytes 2 v)
little-16 l m bs at v w e = rw (bytes-2 v) (rw e at w)

bytes-8 : (v : ℕ) → little_bytes 8 v ≡ to_le_bytes w64 v
unfolding little_bytes
bytes-8 v = simp div-div-eq-div-mul

pub little-64 : (l m bs : List ℕ) (at v : ℕ) → m ≡ put l at bs → bs ≡ to_le_bytes w64 v → m ≡ put l at (little_bytes 8 v)
little-64 l m bs at v w e = rw (bytes-8 v) (rw e at w)
