-- Laws of the blocks: the walk, where each block is, and that it fits.
use mathlib.Core.Path.{◌≡◌, refl, ap, sym}
use mathlib.Core.List.{List}
use mathlib.Core.Bool.{Bool, true, false}
use Prim.Native.Nat.{ℕ, zero, suc, ◌+◌, ◌-◌, ◌≤◌, ◌<◌}
use native.Mathlib.Omega.{arith}
use lib.ListN.{length, take, drop}
use lib.Dec.{leb, eqb}
use borrow.Author.Tests.{le-leb, lt-leb, leb-true, eq-eqb, ne_eqb, eqb-true}
use Rattle.std.specs.Prelude.{if◌then◌else◌}
use Rattle.wire.specs.Bytes.{number}
use Rattle.wire.proofs.Numbers.{part_to_end}
use Rattle.moldudp64.specs.Blocks.{block_length, block_size, fits, after_block, all_fit, after_blocks, messages, blocks_refusal}

pub block_size-fits : (l : List ℕ) (r : ℕ) → r ≡ number l 0 2 → r + 2 ≡ block_size l
unfolding block_length
block_size-fits l r e = ap (λ (k : ℕ). k + 2) e

pub fits-so : (l : List ℕ) → block_size l ≤ length l → fits l ≡ true
unfolding fits
fits-so l h = le-leb _ _ h

pub fits_not : (l : List ℕ) → length l < block_size l → fits l ≡ false
unfolding fits
fits_not l h = lt-leb _ _ h

pub so-fits : (l : List ℕ) → fits l ≡ true → block_size l ≤ length l
unfolding fits
so-fits l e = leb-true _ _ e

-- ---- the walk, as code that has passed i of n blocks and has l left, k being the size of the block in front; w is what the walk
-- answers from the start

one-walked : (n k w : ℕ) (l : List ℕ) → blocks_refusal (suc n) l ≡ w → k ≡ block_size l → k ≤ length l
    → blocks_refusal n (take (length l - k) (drop k l)) ≡ w
unfolding blocks_refusal all_fit after_blocks fits
one-walked n k w l v e f = let g : block_size l ≤ length l = omega arith in rw (part_to_end k l, e) (simp (le-leb _ _ g) at v)

one-short : (n k w : ℕ) (l : List ℕ) → blocks_refusal (suc n) l ≡ w → k ≡ block_size l → length l < k → 15 ≡ w
unfolding blocks_refusal all_fit fits
one-short n k w l v e f = let g : length l < block_size l = omega arith in simp (lt-leb _ _ g) at v

pub walk_step : (n i k w : ℕ) (l : List ℕ) → blocks_refusal (n - i) l ≡ w → i < n → k ≡ block_size l → k ≤ length l
    → blocks_refusal (n - (i + 1)) (take (length l - k) (drop k l)) ≡ w
walk_step n i k w l v h e f = let m : n - i ≡ suc (n - (i + 1)) = omega arith in one-walked (n - (i + 1)) k w l (rw m at v) e f

pub walk-short : (n i k w : ℕ) (l : List ℕ) → blocks_refusal (n - i) l ≡ w → i < n → k ≡ block_size l → length l < k → 15 ≡ w
walk-short n i k w l v h e f = let m : n - i ≡ suc (n - (i + 1)) = omega arith in one-short (n - (i + 1)) k w l (rw m at v) e f

pub walk-stub : (n i w : ℕ) (l : List ℕ) → blocks_refusal (n - i) l ≡ w → i < n → length l < 2 → 15 ≡ w
walk-stub n i w l v h f = walk-short n i (block_size l) w l v h refl (omega arith)

pub walk-all : (n i w : ℕ) (l : List ℕ) → blocks_refusal (n - i) l ≡ w → n ≤ i → length l ≡ 0 → w ≡ 0
unfolding blocks_refusal all_fit after_blocks
walk-all n i w l v h f = let m : n - i ≡ 0 = omega arith in sym (simp (m, eq-eqb _ _ f) at v)

pub walk_more : (n i w : ℕ) (l : List ℕ) → blocks_refusal (n - i) l ≡ w → n ≤ i → (length l ≡ 0 → ⊥) → 16 ≡ w
unfolding blocks_refusal all_fit after_blocks
walk_more n i w l v h f = let m : n - i ≡ 0 = omega arith in simp (m, ne_eqb _ _ f) at v

-- ---- blocks that a walk found sound

-- a choice that answers 0 took neither refusal
both-fit : (a b : Bool) → ◌≡◌ {A = ℕ} (if a then (if b then 0 else 16) else 15) 0 → (a ≡ true) × (b ≡ true)
both-fit true true e = (refl, refl)
both-fit true false e = absurd (omega arith)
both-fit false b e = absurd (omega arith)

pub sound-fit : (n : ℕ) (l : List ℕ) → blocks_refusal n l ≡ 0 → all_fit n l ≡ true
unfolding blocks_refusal
sound-fit n l e = (both-fit (all_fit n l) (eqb (length (after_blocks n l)) 0) e).0

pub sound-end : (n : ℕ) (l : List ℕ) → blocks_refusal n l ≡ 0 → length (after_blocks n l) ≡ 0
unfolding blocks_refusal
sound-end n l e = eqb-true _ _ (both-fit (all_fit n l) (eqb (length (after_blocks n l)) 0) e).1

fit-both : (a b : Bool) → if a then b else false ≡ true → (a ≡ true) × (b ≡ true)
fit-both true b e = (refl, e)
fit-both false b e = let z : ◌≡◌ {A = ℕ} 0 1 = cc in absurd (omega arith)

-- the first of them fits, and so do the others
pub first_fits : (n : ℕ) (l : List ℕ) → all_fit (suc n) l ≡ true → block_size l ≤ length l
unfolding all_fit fits
first_fits n l e = leb-true _ _ (fit-both (leb (block_size l) (length l)) (all_fit n (after_block l)) e).0

pub rest-fit : (n : ℕ) (l : List ℕ) → all_fit (suc n) l ≡ true → all_fit n (after_block l) ≡ true
unfolding all_fit
rest-fit n l e = (fit-both (fits l) (all_fit n (after_block l)) e).1

pub length-messages : (n : ℕ) (l : List ℕ) → length (messages n l) ≡ n
unfolding messages
length-messages zero l = refl
length-messages (suc n) l = ap suc (length-messages n (after_block l))
