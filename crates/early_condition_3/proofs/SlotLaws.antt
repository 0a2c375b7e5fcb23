-- What is laid in a slot reads back, and the other slots keep what they had.
use mathlib.Core.Path.{◌≡◌, refl, sym, ap, ◌∙◌}
use mathlib.Core.List.{List, ◌++◌, append_assoc}
use Prim.Native.Nat.{ℕ, ◌+◌, ◌-◌, ◌*◌, ◌%◌, ◌≤◌, ◌<◌}
use native.Mathlib.Omega.{arith}
use lib.ListN.{length, get_or, take, drop, length-take, length-drop}
use lib.Seq.{get_or-take, get_or-drop, ext_get_or, drop-drop, take_at, drop_at, length-take-le}
use Rattle.wire.specs.Output.{put}
use Rattle.wire.proofs.Cases.{below_or_not}
use Rattle.wire.proofs.Outputs.{put-room, only-its-bytes}

-- ---- a part that lies before or behind what changed

part-before : (l m : List ℕ) (at a n : ℕ) → length m ≡ length l → take at m ≡ take at l → a + n ≤ at → take n (drop a m) ≡ take n (drop a l)
part-before l m at a n z e h =
    ext_get_or 0 (take n (drop a m)) (take n (drop a l))
    (omega (arith, length-take n (drop a m), length-take n (drop a l), length-drop a m, length-drop a l))
    (λ i g.
    let k : i < n = omega (arith, length-take n (drop a m)) in
    let j : a + i < at = omega arith in
    rw (get_or-take n (drop a m) i 0 k, get_or-take n (drop a l) i 0 k, get_or-drop a m i 0, get_or-drop a l i 0)
    (sym (get_or-take at m (a + i) 0 j) ∙ ap (λ (x : List ℕ). get_or x (a + i) 0) e ∙ get_or-take at l (a + i) 0 j))

part-behind : (l m : List ℕ) (to a n : ℕ) → drop to m ≡ drop to l → to ≤ a → take n (drop a m) ≡ take n (drop a l)
part-behind l m to a n e h =
    let k : to + (a - to) ≡ a = omega arith in
    ap (take n) (rw (← k) (sym (drop-drop (a - to) to m) ∙ ap (drop (a - to)) e ∙ drop-drop (a - to) to l))

-- ---- a slot

-- two slots that aren't the same lie one before the other
apart : (P : Type 0) (a b : ℕ) → (a ≡ b → ⊥) → (a + 1 ≤ b → P) → (b + 1 ≤ a → P) → P
apart P a b z f g = below_or_not P a b (λ h. f (omega arith)) (λ h. g (more a b z h))
  where
    more : (a b : ℕ) → (a ≡ b → ⊥) → b ≤ a → b + 1 ≤ a
    more a b z h = omega arith

pub slot-own : (l : List ℕ) (at : ℕ) (bs : List ℕ) → at + length bs ≤ length l → take (length bs) (drop at (put l at bs)) ≡ bs
slot-own l at bs h =
    let k : length (take at l) ≡ at = length-take-le at l (omega arith) in
    rw (put-room l at bs h, append_assoc (take at l) bs (drop (at + length bs) l), drop_at (take at l) (bs ++ drop (at + length bs) l) at k)
    (take_at bs (drop (at + length bs) l) (length bs) refl)

pub slot-other : (l m : List ℕ) (i j n : ℕ) → (i % 64 ≡ j % 64 → ⊥) → n ≤ 1024 → length m ≤ 1024
    → take n (drop (i % 64 * 1024) (put l (j % 64 * 1024) m)) ≡ take n (drop (i % 64 * 1024) l)
slot-other l m i j n z h k =
    let u = only-its-bytes l (j % 64 * 1024) m in
    apart _ (i % 64) (j % 64) z
    (λ g. part-before l (put l (j % 64 * 1024) m) (j % 64 * 1024) (i % 64 * 1024) n u.size u.before (omega arith))
    (λ g. part-behind l (put l (j % 64 * 1024) m) (j % 64 * 1024 + length m) (i % 64 * 1024) n u.behind (omega arith))
