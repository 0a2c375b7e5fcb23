-- The two loops over a datagram d: past the skipped blocks, and over those whose places are laid.
use Prim.Native.Nat.{ℕ, zero, suc, ◌+◌, ◌-◌, ◌*◌, ◌≤◌, ◌<◌}
use mathlib.Core.List.{List, [], ◌∷◌}
use mathlib.Core.Bool.{true}
use mathlib.Core.Path.{◌≡◌, refl, ap, sym, ◌∙◌}
use native.Mathlib.Omega.{arith}
use native.Mathlib.Nat.{add-zero}
use native.Mathlib.Numerals.{sub-one, add-one}
use mir.Val.{Fits}
use mir.Syntax.{w64}
use lib.ListN.{length, get_or, set, drop, length-set, length-drop}
use lib.Seq.{sets-eq}
use Rattle.wire.specs.Bytes.{number}
use Rattle.wire.specs.Output.{put}
use Rattle.wire.proofs.Numbers.{number-drop, read-2}
use Rattle.wire.proofs.Outputs.{put-room, put-put, put-empty}
use Rattle.moldudp64.specs.Blocks.{block_length, block_size, after_block, all_fit, after_blocks}
use Rattle.moldudp64.proofs.BlockLaws.{rest-fit}
use Rattle.exports_deliver.specs.Places.{places_at}
use Rattle.exports_deliver.proofs.PlaceLaws.{length-places, behind-one, one-within}

pub length-read : (d : List ℕ) (at r a b : ℕ) → r ≡ a * 256 + b → a ≡ get_or d at 0 → b ≡ get_or d (at + 1) 0 → r ≡ block_length (drop at d)
unfolding block_length
length-read d at r a b e f g = read-2 d at r a b e f g ∙ sym (number-drop at d 0 2 ∙ ap (λ (i : ℕ). number d i 2) (add-zero at))

-- ---- past the skipped

pub record Passing (d : List ℕ) (blocks at left : ℕ) : Type 0 where
  pub fit : all_fit left (drop at d) ≡ true
  pub rest : after_blocks left (drop at d) ≡ after_blocks blocks (drop 20 d)
  pub within : at ≤ length d

pub passing-start : (d : List ℕ) (blocks : ℕ) → 20 ≤ length d → all_fit blocks (drop 20 d) ≡ true → Passing d blocks 20 blocks
passing-start d blocks h e = record { fit = e; rest = refl; within = h }

module _ (d : List ℕ) (blocks at : ℕ) where
  -- the block in front is there
  passing-one : (left : ℕ) → Passing d blocks at left → 0 < left → at + block_size (drop at d) ≤ length d
  passing-one zero s h = absurd (omega arith)
  passing-one (suc n) s h = one-within n at d s.fit

  pub passing-here : (left : ℕ) → Passing d blocks at left → 0 < left → at + 2 ≤ length d
  passing-here left s h = let i = passing-one left s h in omega arith

  pub passing-within : (left k : ℕ) → Passing d blocks at left → 0 < left → k ≡ block_length (drop at d) → at + (k + 2) ≤ length d
  passing-within left k s h e = let i = passing-one left s h in omega arith

  pub passing_step : (left next k : ℕ) → Passing d blocks at left → 0 < left → k ≡ block_length (drop at d) → next ≡ left - 1 → Passing d blocks (at + (k + 2)) next
  unfolding after_blocks
  passing_step zero next k s h e a = absurd (omega arith)
  passing_step (suc n) next k s h e a =
      let on : after_block (drop at d) ≡ drop (at + (k + 2)) d = rw e (behind-one d at) in
      rw (a, sub-one) (record { fit = rw on at (rest-fit n (drop at d) s.fit); rest = rw on at s.rest; within = passing-within (suc n) k s h e })

  pub passing-end : (left : ℕ) → Passing d blocks at left → left ≤ 0 → at ≡ length d - length (after_blocks blocks (drop 20 d))
  unfolding after_blocks
  passing-end zero s h = let i = s.within in let n = ap length s.rest in omega (arith, length-drop at d)
  passing-end (suc n) s h = absurd (omega arith)

-- ---- laid: ps are the words at entry, out those after some places, word is where the next one is laid. What is still
-- to be laid makes the whole

pub record Laying (d ps : List ℕ) (from count : ℕ) (out : List ℕ) (at left word : ℕ) : Type 0 where
  pub room : word + 2 * left ≤ length out
  pub kept : length out ≡ length ps
  pub fit : all_fit left (drop at d) ≡ true
  pub makes : put out word (places_at left at (drop at d)) ≡ put ps 0 (places_at count from (drop from d))

pub laying-start : (d ps : List ℕ) (from count : ℕ) → all_fit count (drop from d) ≡ true → 2 * count ≤ length ps → Laying d ps from count ps from count 0
laying-start d ps from count e h = record { room = omega arith; kept = refl; fit = e; makes = refl }

-- two stores in a row are one write of two words
two-put : (l : List ℕ) (k x y : ℕ) → k + 2 ≤ length l → set (set l k x) (k + 1) y ≡ put l k (x ∷ y ∷ [])
two-put l k x y h =
    let f : k + length (x ∷ y ∷ []) ≤ length l = omega arith in
    rw (add-one k) (sets-eq (x ∷ y ∷ []) l k f ∙ sym (put-room l k (x ∷ y ∷ []) f))

module _ (d ps : List ℕ) (from count : ℕ) (out : List ℕ) (at word : ℕ) where
  laying-one : (left : ℕ) → Laying d ps from count out at left word → 0 < left → at + block_size (drop at d) ≤ length d
  laying-one zero s h = absurd (omega arith)
  laying-one (suc n) s h = one-within n at d s.fit

  pub laying-here : (left : ℕ) → Laying d ps from count out at left word → 0 < left → at + 2 ≤ length d
  laying-here left s h = let i = laying-one left s h in omega arith

  pub laying-place : (left : ℕ) → Laying d ps from count out at left word → 0 < left → Fits w64 (length d) → Fits w64 (at + 2)
  laying-place left s h f = record { fits = let i = laying-one left s h in omega arith }

  pub laying-behind : (left k : ℕ) → Laying d ps from count out at left word → 0 < left → k ≡ block_length (drop at d) → Fits w64 (length d) → Fits w64 (at + 2 + k)
  laying-behind left k s h e f = record { fits = let i = laying-one left s h in omega arith }

  pub laying-first : (left : ℕ) → Laying d ps from count out at left word → 0 < left → word < length out
  laying-first left s h = let r = s.room in omega arith

  pub laying-second : (left x : ℕ) → Laying d ps from count out at left word → 0 < left → word + 1 < length (set out word x)
  laying-second left x s h = let r = s.room in let m = length-set out word x in omega arith

  pub laying-kept : (left : ℕ) → Laying d ps from count out at left word → length out ≡ length ps
  laying-kept left s = s.kept

  pub laying-step : (left next k behind : ℕ) → Laying d ps from count out at left word → 0 < left → k ≡ block_length (drop at d) → next ≡ left - 1 → behind ≡ word + 2
      → Laying d ps from count (set (set out word (at + 2)) (word + 1) k) (at + 2 + k) next behind
  unfolding places_at
  laying-step zero next k then s h e a b = absurd (omega arith)
  laying-step (suc n) next k then s h e a b =
      let r = s.room in
      let on : at + block_size (drop at d) ≡ at + 2 + k = omega arith in
      let behind : after_block (drop at d) ≡ drop (at + 2 + k) d = behind-one d at ∙ ap (λ (i : ℕ). drop i d) on in
      let m = length-set out word (at + 2) in
      let q = length-set (set out word (at + 2)) (word + 1) k in
      let p = length-places n (at + 2 + k) (drop (at + 2 + k) d) in
      let two : set (set out word (at + 2)) (word + 1) k ≡ put out word ((at + 2) ∷ k ∷ []) = two-put out word (at + 2) k (omega arith) in
      let whole : put out word ((at + 2) ∷ k ∷ places_at n (at + 2 + k) (drop (at + 2 + k) d)) ≡ put ps 0 (places_at count from (drop from d)) =
      rw (on, behind, ← e) at s.makes in
      rw (a, sub-one, b)
      (record {
        room = omega arith;
        kept = q ∙ m ∙ s.kept;
        fit = rw behind at (rest-fit n (drop at d) s.fit);
        makes = rw two (put-put out word ((at + 2) ∷ k ∷ []) (places_at n (at + 2 + k) (drop (at + 2 + k) d)) (omega arith)) ∙ whole;
      })

  pub laying-end : (left : ℕ) → Laying d ps from count out at left word → left ≤ 0 → out ≡ put ps 0 (places_at count from (drop from d))
  unfolding places_at
  laying-end zero s h = sym (put-empty out word) ∙ s.makes
  laying-end (suc n) s h = absurd (omega arith)
