-- Places of blocks: the parts of a datagram d there are its messages, and how many words they are.
use Prim.Native.Nat.{ℕ, zero, suc, ◌+◌, ◌-◌, ◌*◌, ◌≤◌}
use mathlib.Core.List.{List}
use mathlib.Core.Bool.{true}
use mathlib.Core.Path.{◌≡◌, refl, ap, sym, ◌∙◌}
use native.Mathlib.Omega.{arith}
use native.Mathlib.Nat.{zero-add, suc-add}
use lib.ListN.{length, take, drop, length-drop, drop_of_length-le}
use lib.Seq.{drop-drop}
use Rattle.wire.proofs.Cases.{below_or_not}
use Rattle.moldudp64.specs.Blocks.{block_length, block_size, after_block, all_fit, after_blocks, messages}
use Rattle.moldudp64.proofs.BlockLaws.{fits-so, first_fits, rest-fit}
use Rattle.exports_deliver.specs.Places.{places_at, parts_at}

pub length-places : (n at : ℕ) (l : List ℕ) → length (places_at n at l) ≡ 2 * n
unfolding places_at
length-places zero at l = refl
length-places (suc n) at l = let e = length-places n (at + block_size l) (after_block l) in omega arith

-- ---- blocks that are there

-- what is left behind the block at a place
pub behind-one : (d : List ℕ) (at : ℕ) → after_block (drop at d) ≡ drop (at + block_size (drop at d)) d
behind-one d at = drop-drop (block_size (drop at d)) at d

pub one-within : (n at : ℕ) (d : List ℕ) → all_fit (suc n) (drop at d) ≡ true → at + block_size (drop at d) ≤ length d
one-within n at d e = let h = first_fits n (drop at d) e in omega (arith, length-drop at d)

-- of a + b blocks the first a, and the b behind them
pub fit-first : (a b : ℕ) (l : List ℕ) → all_fit (a + b) l ≡ true → all_fit a l ≡ true
unfolding all_fit
fit-first zero b l e = refl
fit-first (suc a) b l e =
    let f : all_fit (suc (a + b)) l ≡ true = rw suc-add at e in
    rw (fits-so l (first_fits (a + b) l f)) (fit-first a b (after_block l) (rest-fit (a + b) l f))

pub fit-behind : (a b : ℕ) (l : List ℕ) → all_fit (a + b) l ≡ true → all_fit b (after_blocks a l) ≡ true
unfolding after_blocks
fit-behind zero b l e = rw zero-add at e
fit-behind (suc a) b l e = fit-behind a b (after_block l) (rest-fit (a + b) l (rw suc-add at e))

-- each has two bytes or more
pub fit-size : (n : ℕ) (l : List ℕ) → all_fit n l ≡ true → 2 * n ≤ length l
fit-size zero l e = omega arith
fit-size (suc n) l e =
    let i = fit-size n (after_block l) (rest-fit n l e) in
    let h = first_fits n l e in
    omega (arith, length-drop (block_size l) l)

-- ---- what is left of a datagram stands where its length says

rest_at : (k : ℕ) (d : List ℕ) → drop (length d - length (drop k d)) d ≡ drop k d
rest_at k d =
    below_or_not _ k (length d)
    (λ h. let e : length d - length (drop k d) ≡ k = omega (arith, length-drop k d) in ap (λ (i : ℕ). drop i d) e)
    (λ h. let e : length d - length (drop k d) ≡ length d = omega (arith, length-drop k d) in
    ap (λ (i : ℕ). drop i d) e ∙ drop_of_length-le d {i = length d} (omega arith) ∙ sym (drop_of_length-le d {i = k} h))

pub left_at : (n k : ℕ) (d : List ℕ) → drop (length d - length (after_blocks n (drop k d))) d ≡ after_blocks n (drop k d)
unfolding after_blocks
left_at zero k d = rest_at k d
left_at (suc n) k d = rw (behind-one d k) (left_at n (k + block_size (drop k d)) d)

-- ---- the parts are the messages

parts_from : (n at : ℕ) (d : List ℕ) → parts_at (places_at n at (drop at d)) d ≡ messages n (drop at d)
unfolding places_at parts_at messages
parts_from zero at d = refl
parts_from (suc n) at d =
    let first : take (block_length (drop at d)) (drop (at + 2) d) ≡ take (block_length (drop at d)) (drop 2 (drop at d)) =
    ap (take (block_length (drop at d))) (sym (drop-drop 2 at d)) in
    let others : parts_at (places_at n (at + block_size (drop at d)) (after_block (drop at d))) d ≡ messages n (after_block (drop at d)) =
    rw (behind-one d at) (parts_from n (at + block_size (drop at d)) d) in
    rw (first, others)

-- those behind the skipped ones
messages-behind : (a b : ℕ) (l : List ℕ) → drop a (messages (a + b) l) ≡ messages b (after_blocks a l)
unfolding messages after_blocks
messages-behind zero b l = rw zero-add
messages-behind (suc a) b l = rw suc-add (messages-behind a b (after_block l))

pub parts-behind : (count skipped k : ℕ) (d : List ℕ)
    → parts_at (places_at count (length d - length (after_blocks skipped (drop k d))) (after_blocks skipped (drop k d))) d ≡ drop skipped (messages (skipped + count) (drop k d))
parts-behind count skipped k d =
    let at = length d - length (after_blocks skipped (drop k d)) in
    rw (messages-behind skipped count (drop k d))
    (rw (left_at skipped k d) at (parts_from count at d))
