-- The loops of `lay`: d is the output at entry, s the source, out the output after i bytes.
use mathlib.Core.Path.{◌≡◌, refl, sym, ◌∙◌}
use mathlib.Core.List.{List, ◌++◌}
use Prim.Native.Nat.{ℕ, ◌+◌, ◌-◌, ◌≤◌, ◌<◌}
use native.Mathlib.Omega.{arith}
use native.Mathlib.Numerals.{add-one}
use lib.ListN.{length, get_or, take, drop, set, length-set, length-drop}
use lib.Seq.{paste, paste-zero, paste-suc, take-length, take-add, length-take-le}
use Rattle.wire.specs.Parts.{first_bytes}
use Rattle.wire.specs.Output.{put}
use Rattle.wire.proofs.Outputs.{put-room, put-put, length-put}
use Rattle.wire.proofs.PartLaws.{first-there}

pub record Copied (d : List ℕ) (at : ℕ) (s out : List ℕ) (i : ℕ) : Type 0 where
  pub within : i ≤ length s
  pub pasted : out ≡ paste d at s i
  pub kept : length out ≡ length d

pub copied-start : (d : List ℕ) (at : ℕ) (s : List ℕ) → Copied d at s d 0
copied-start d at s = record { within = omega arith; pasted = paste-zero d at s; kept = refl }

pub copied-step : {d : List ℕ} {at : ℕ} {s out : List ℕ} {i : ℕ} → Copied d at s out i → i < length s → at ≤ length d → length s ≤ length d - at
    → Copied d at s (set out (at + i) (get_or s i 0)) (i + 1)
copied-step {d} {at} {s} {out} {i} c h f g =
    record {
      within = omega arith;
      pasted = rw (add-one, c.pasted) (paste-suc d at s i 0 (omega arith) h);
      kept = length-set out (at + i) (get_or s i 0) ∙ c.kept;
    }

-- k bytes at once
pub copied-more : {d : List ℕ} {at : ℕ} {s out : List ℕ} {i : ℕ} (k : ℕ) (x : List ℕ) → Copied d at s out i → k ≤ length s - i → at ≤ length d → length s ≤ length d - at
    → x ≡ put out (at + i) (first_bytes k (take (length s - i) (drop i s))) → Copied d at s x (i + k)
copied-more {d} {at} {s} {out} {i} k x c h f g e =
    let r : length (drop i s) ≡ length s - i = length-drop i s in
    let whole : take (length s - i) (drop i s) ≡ drop i s = rw (← r) (take-length (drop i s)) in
    let there : k ≤ length (drop i s) = omega (arith, r) in
    let n : length (take i s) ≡ i = length-take-le i s c.within in
    let m : length (take k (drop i s)) ≡ k = length-take-le k (drop i s) there in
    let p : out ≡ put d at (take i s) = c.pasted ∙ sym (put-room d at (take i s) (omega (arith, c.within)) ∙ rw n refl) in
    let two : put (put d at (take i s)) (at + length (take i s)) (take k (drop i s)) ≡ put d at (take i s ++ take k (drop i s)) =
    put-put d at (take i s) (take k (drop i s)) (omega (arith, c.within)) in
    let l : x ≡ put d at (take (i + k) s) = e ∙ rw (whole, first-there k (drop i s) there, p) (rw (n, ← take-add i k s) at two) in
    let w : length (take (i + k) s) ≡ i + k = length-take-le (i + k) s (omega (arith, c.within)) in
    record {
      within = omega (arith, c.within);
      pasted = l ∙ put-room d at (take (i + k) s) (omega (arith, c.within)) ∙ rw w refl;
      kept = rw l (length-put d at (take (i + k) s));
    }

pub copied-end : {d : List ℕ} {at : ℕ} {s out : List ℕ} {i : ℕ} → Copied d at s out i → length s ≤ i → at ≤ length d → length s ≤ length d - at
    → out ≡ put d at s
copied-end {d} {at} {s} {out} {i} c h f g =
    let e : i ≡ length s = omega (arith, c.within) in
    c.pasted ∙ rw (e, take-length s) (sym (put-room d at s (omega arith)))

pub copied-kept : {d : List ℕ} {at : ℕ} {s out : List ℕ} {i : ℕ} → Copied d at s out i → length out ≡ length d
copied-kept c = c.kept
