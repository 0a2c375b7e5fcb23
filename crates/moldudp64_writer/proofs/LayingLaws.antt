-- The loop of `put_blocks`: l is the output at entry, ks the lengths, d the data; after i messages the output is out, the
-- next block goes at a place, and rest is what is left of the data. What is still to be laid makes the whole.
use mathlib.Core.Path.{◌≡◌, refl, ap, sym, ◌∙◌}
use mathlib.Core.List.{List, [], ◌++◌}
use Prim.Native.Nat.{ℕ, ◌+◌, ◌-◌, ◌≤◌, ◌<◌}
use native.Mathlib.Omega.{arith}
use native.Mathlib.Numerals.{add-one}
use lib.ListN.{length, get_or, take, drop, length-append, length-take, length-drop, drop_of_length-le}
use lib.Seq.{drop-cons}
use mir.Val.{Fits}
use mir.Syntax.{w64}
use Rattle.wire.specs.Bytes.{bytes}
use Rattle.wire.specs.Output.{put}
use Rattle.wire.proofs.Numbers.{length-bytes, part_to_end}
use Rattle.wire.proofs.Outputs.{put-put, put-empty, length-put}
use Rattle.moldudp64.specs.Blocks.{blocks_of}
use Rattle.moldudp64_writer.specs.Writer.{cut, total}

-- the blocks of the messages that are left
abbrev left-of : List ℕ → List ℕ → ℕ → List ℕ
left-of ks rest i = blocks_of (cut (drop i ks) rest)

pub record Laying (l ks d out rest : List ℕ) (at i : ℕ) : Type 0 where
  pub whole : total (drop i ks) ≡ length rest
  pub room : at + length (left-of ks rest i) ≤ length out
  pub kept : length out ≡ length l
  pub makes : put out at (left-of ks rest i) ≡ put l 20 (blocks_of (cut ks d))

pub laying-start : (l ks d : List ℕ) → total ks ≡ length d → 20 + length (blocks_of (cut ks d)) ≤ length l → Laying l ks d l d 20 0
laying-start l ks d e h = record { whole = e; room = h; kept = refl; makes = refl }

pub laying-end : {l ks d out rest : List ℕ} {at i : ℕ} → Laying l ks d out rest at i → length ks ≤ i → out ≡ put l 20 (blocks_of (cut ks d))
unfolding cut blocks_of
laying-end {l} {ks} {d} {out} {rest} {at} {i} s h =
    let e : drop i ks ≡ [] = drop_of_length-le ks {i = i} h in
    sym (put-empty out at) ∙ rw e at s.makes

pub laying-kept : {l ks d out rest : List ℕ} {at i : ℕ} → Laying l ks d out rest at i → length out ≡ length l
laying-kept s = s.kept

-- the next message: its length k fits what is left of the data, and its block fits the output
module _ {l ks d out rest : List ℕ} {at i : ℕ} (s : Laying l ks d out rest at i) (h : i < length ks) where
  next-total : total (drop i ks) ≡ get_or ks i 0 + total (drop (i + 1) ks)
  unfolding total
  next-total = rw (add-one, drop-cons ks i 0 h)

  pub next-length : get_or ks i 0 ≤ length rest
  next-length = let w = s.whole in let t = next-total in omega arith

  pub next-count : length (take (get_or ks i 0) rest) ≡ get_or ks i 0
  next-count = let n = next-length in omega (arith, length-take (get_or ks i 0) rest)

  next-blocks : left-of ks rest i ≡ bytes 2 (get_or ks i 0) ++ take (get_or ks i 0) rest ++ left-of ks (drop (get_or ks i 0) rest) (i + 1)
  unfolding cut blocks_of
  next-blocks =
      let k = get_or ks i 0 in
      ap (λ (x : List ℕ). blocks_of (cut x rest)) (drop-cons ks i 0 h)
      ∙ rw next-count (ap (λ (j : ℕ). bytes 2 k ++ take k rest ++ left-of ks (drop k rest) j) (sym (add-one i)))

  front_length : length (bytes 2 (get_or ks i 0) ++ take (get_or ks i 0) rest) ≡ 2 + get_or ks i 0
  front_length = omega (arith, length-append (bytes 2 (get_or ks i 0)) (take (get_or ks i 0) rest), length-bytes 2 (get_or ks i 0), next-count)

  next-room : at + (2 + get_or ks i 0 + length (left-of ks (drop (get_or ks i 0) rest) (i + 1))) ≤ length out
  next-room =
      let r = s.room in
      omega (arith, ap length next-blocks, length-append (bytes 2 (get_or ks i 0) ++ take (get_or ks i 0) rest) (left-of ks (drop (get_or ks i 0) rest) (i + 1)), front_length)

  pub next_place : Fits w64 (length l) → Fits w64 (at + 2)
  next_place f = record { fits = let r = next-room in let k = s.kept in omega arith }

  pub next-after : Fits w64 (length l) → Fits w64 (at + 2 + get_or ks i 0)
  next-after f = record { fits = let r = next-room in let k = s.kept in omega arith }

  -- both writes are one, of the block
  next-put : (out₁ out₂ : List ℕ) → out₁ ≡ put out at (bytes 2 (get_or ks i 0)) → out₂ ≡ put out₁ (at + 2) (take (get_or ks i 0) rest)
      → out₂ ≡ put out at (bytes 2 (get_or ks i 0) ++ take (get_or ks i 0) rest)
  next-put out₁ out₂ p q =
      let k = get_or ks i 0 in
      let b = length-bytes 2 k in
      let m : at + length (bytes 2 k) ≡ at + 2 = omega arith in
      let r = next-room in
      let c = next-count in
      rw (q, p) (rw m at (put-put out at (bytes 2 k) (take k rest) (omega arith)))

  pub laying-next : (out₁ out₂ : List ℕ) → out₁ ≡ put out at (bytes 2 (get_or ks i 0)) → out₂ ≡ put out₁ (at + 2) (take (get_or ks i 0) rest)
      → Laying l ks d out₂ (take (length rest - get_or ks i 0) (drop (get_or ks i 0) rest)) (at + 2 + get_or ks i 0) (i + 1)
  laying-next out₁ out₂ p q =
      let k = get_or ks i 0 in
      let f = bytes 2 k ++ take k rest in
      let more = left-of ks (drop k rest) (i + 1) in
      let e = next-put out₁ out₂ p q in
      let n : length out₂ ≡ length out = ap length e ∙ length-put out at f in
      let r = next-room in
      let g = front_length in
      let a : at + length f ≡ at + 2 + k = omega arith in
      rw (part_to_end k rest)
      (record {
        whole = let w = s.whole in let t = next-total in omega (arith, length-drop k rest);
        room = omega arith;
        kept = n ∙ s.kept;
        makes = rw e (rw a at (put-put out at f more (omega arith))) ∙ ap (put out at) (sym next-blocks) ∙ s.makes;
      })
