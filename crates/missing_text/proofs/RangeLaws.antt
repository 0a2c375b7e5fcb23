-- Ranges laid one after the other: what is still to be laid makes the whole.
use mathlib.Core.Path.{◌≡◌, refl, ap, sym, ◌∙◌}
use mathlib.Core.List.{List, [], ◌∷◌, ◌++◌, append-nil}
use Prim.Native.Nat.{ℕ, ◌+◌, ◌*◌, ◌-◌, ◌^◌, ◌≤◌, ◌<◌}
use native.Mathlib.Omega.{arith}
use lib.ListN.{length, get_or, take, drop, length-append}
use borrow.Author.Tests.{lt-ltb, le-ltb}
use Rattle.wire.specs.Output.{put, Writes}
use Rattle.wire.specs.Output.{Written}
use Rattle.wire.proofs.Numbers.{part_to_end}
use Rattle.wire.proofs.Cases.{below_or_not}
use Rattle.wire.proofs.Outputs.{put-put, put-empty}
use Rattle.capture_lines.specs.Lines.{number_line, behind_of, LaysLine}
use Rattle.capture_lines.proofs.LineLaws.{number-length, wrote-laid, then-wrote, laid-long}
use Rattle.missing_ranges.specs.Edges.{range, ranges_of}
use Rattle.missing_text.specs.Text.{from_key, to_key, range_text, ranges_text}

-- the ranges that edges bound below top, as text
abbrev pub edges_text : ℕ → List ℕ → List ℕ
edges_text top bs = ranges_text (ranges_of top bs)

-- ---- one range

pub range-laid : (l m o : List ℕ) (v w : Written) (at a b f t e : ℕ) → Writes v l m 0 at (number_line from_key f) → a ≡ behind_of at v → t ≡ e - 1
    → Writes w m o 0 a (number_line to_key t) → b ≡ behind_of a w → at + 50 ≤ length l → length l * 1 < 2 ^ 63
    → LaysLine b l o at (range_text (range f (e - 1))) 50
unfolding range_text
range-laid l m o v w at a b f t e x p q y r h n =
    let s = wrote-laid v 26 x p (number-length from_key f) (omega arith) n in
    rw (← q) (then-wrote w 24 s y r (number-length to_key t) (omega arith) n)

-- ---- the loop: l is the output at entry, bs the edges, out the output with those of es still to be laid

range_length : (f t : ℕ) → length (range_text (range f t)) ≤ 50
unfolding range_text
range_length f t = omega (arith, length-append (number_line from_key f) (number_line to_key t), number-length from_key f, number-length to_key t)

-- what edges say, by how many they are
text-none : (top : ℕ) → edges_text top [] ≡ []
unfolding ranges_of ranges_text
text-none top = refl

text-shut : (top a : ℕ) → top ≤ a → edges_text top (a ∷ []) ≡ []
unfolding ranges_of ranges_text
text-shut top a h = rw (le-ltb _ _ h)

text-open : (top a : ℕ) → a < top → edges_text top (a ∷ []) ≡ range_text (range a (top - 1)) ++ []
unfolding ranges_of ranges_text
text-open top a h = rw (lt-ltb _ _ h)

text-both : (top a b : ℕ) (bs : List ℕ) → edges_text top (a ∷ b ∷ bs) ≡ range_text (range a (b - 1)) ++ edges_text top bs
unfolding ranges_of ranges_text
text-both top a b bs = refl

-- at most 25 bytes for an edge, and as many for a last one that has no second
pub text-length : (top : ℕ) (bs : List ℕ) → length (edges_text top bs) ≤ 25 * length bs + 25
text-length top [] = let e : length (edges_text top []) ≡ 0 = ap length (text-none top) in omega arith
text-length top (a ∷ []) = below_or_not _ a top some none
  where
    some : a < top → length (edges_text top (a ∷ [])) ≤ 25 * 1 + 25
    some h = rw (text-open top a h, append-nil (range_text (range a (top - 1)))) (omega (arith, range_length a (top - 1)))

    none : top ≤ a → length (edges_text top (a ∷ [])) ≤ 25 * 1 + 25
    none h = rw (text-shut top a h) (omega arith)
text-length top (a ∷ b ∷ bs) =
    let i = text-length top bs in
    rw (text-both top a b bs) (omega (arith, length-append (range_text (range a (b - 1))) (edges_text top bs), range_length a (b - 1)))

pub record Putting (l : List ℕ) (at top : ℕ) (bs out : List ℕ) (place : ℕ) (es : List ℕ) : Type 0 where
  pub room : place + 25 * length es + 50 ≤ length out
  pub long : length out ≡ length l
  pub ends : place + length (edges_text top es) ≡ at + length (edges_text top bs)
  pub makes : put out place (edges_text top es) ≡ put l at (edges_text top bs)

pub putting-start : (l : List ℕ) (at top : ℕ) (bs : List ℕ) → at + 25 * length bs + 50 ≤ length l → Putting l at top bs l at bs
putting-start l at top bs h = record { room = h; long = refl; ends = refl; makes = refl }

module _ {l : List ℕ} {at top : ℕ} {bs out : List ℕ} {place : ℕ} {es : List ℕ} (c : Putting l at top bs out place es) where
  pub putting-room : place + 50 ≤ length out
  putting-room = omega (arith, c.room)

  pub putting-long : length out ≡ length l
  putting-long = c.long

step : (l : List ℕ) (at top : ℕ) (bs out : List ℕ) (place a b : ℕ) (es : List ℕ) (o : List ℕ) (p : ℕ) → Putting l at top bs out place (a ∷ b ∷ es)
    → LaysLine p out o place (range_text (range a (b - 1))) 50 → Putting l at top bs o p es
step l at top bs out place a b es o p c y =
    let R = range_text (range a (b - 1)) in
    let T = edges_text top es in
    let r = c.room in
    let n = length-append R T in
    let t = text-both top a b es in
    let k = text-length top es in
    let len : length o ≡ length out = laid-long y in
    let w : length (edges_text top (a ∷ b ∷ es)) ≡ length R + length T = ap length t ∙ n in
    record {
      room = omega (arith, y.place, y.within);
      long = len ∙ c.long;
      ends = omega (arith, y.place, c.ends);
      makes = rw (y.bytes, y.place) (put-put out place R T (omega (arith, y.within))) ∙ ap (put out place) (sym t) ∙ c.makes;
    }

pub putting-step : (l : List ℕ) (at top : ℕ) (bs out : List ℕ) (place : ℕ) (es o : List ℕ) (p : ℕ) → Putting l at top bs out place es → 2 ≤ length es
    → LaysLine p out o place (range_text (range (get_or es 0 0) (get_or es 1 0 - 1))) 50 → Putting l at top bs o p (take (length es - 2) (drop 2 es))
putting-step l at top bs out place [] o p c h y = absurd (omega arith)
putting-step l at top bs out place (a ∷ []) o p c h y = absurd (omega arith)
putting-step l at top bs out place (a ∷ b ∷ es) o p c h y = rw (part_to_end 2 (a ∷ b ∷ es)) (step l at top bs out place a b es o p c y)

-- the end, by what is left
finished : (l : List ℕ) (at top : ℕ) (bs out : List ℕ) (place : ℕ) (es : List ℕ) → Putting l at top bs out place es → edges_text top es ≡ []
    → LaysLine place l out at (edges_text top bs) (25 * length bs + 25)
finished l at top bs out place es c e =
    let z : length (edges_text top es) ≡ 0 = ap length e in
    record {
      place = omega (arith, c.ends);
      bytes = sym (put-empty out place) ∙ ap (put out place) (sym e) ∙ c.makes;
      within = omega (arith, text-length top bs);
    }

pub end_none : (l : List ℕ) (at top : ℕ) (bs out : List ℕ) (place : ℕ) (es : List ℕ) → Putting l at top bs out place es → length es ≡ 0
    → LaysLine place l out at (edges_text top bs) (25 * length bs + 25)
end_none l at top bs out place [] c h = finished l at top bs out place [] c (text-none top)
end_none l at top bs out place (a ∷ es) c h = absurd (omega arith)

pub end-shut : (l : List ℕ) (at top : ℕ) (bs out : List ℕ) (place : ℕ) (es : List ℕ) → Putting l at top bs out place es → length es < 2 → (length es ≡ 0 → ⊥)
    → top ≤ get_or es 0 0 → LaysLine place l out at (edges_text top bs) (25 * length bs + 25)
end-shut l at top bs out place [] c h z g = absurd (z refl)
end-shut l at top bs out place (a ∷ []) c h z g = finished l at top bs out place (a ∷ []) c (text-shut top a g)
end-shut l at top bs out place (a ∷ b ∷ es) c h z g = absurd (omega arith)

pub end-open : (l : List ℕ) (at top : ℕ) (bs out : List ℕ) (place : ℕ) (es o : List ℕ) (p : ℕ) → Putting l at top bs out place es → length es < 2 → (length es ≡ 0 → ⊥)
    → get_or es 0 0 < top → LaysLine p out o place (range_text (range (get_or es 0 0) (top - 1))) 50 → LaysLine p l o at (edges_text top bs) (25 * length bs + 25)
end-open l at top bs out place [] o p c h z g y = absurd (z refl)
end-open l at top bs out place (a ∷ []) o p c h z g y =
    let t : edges_text top (a ∷ []) ≡ range_text (range a (top - 1)) = text-open top a g ∙ append-nil (range_text (range a (top - 1))) in
    let n : length (edges_text top (a ∷ [])) ≡ length (range_text (range a (top - 1))) = ap length t in
    record {
      place = omega (arith, c.ends, y.place);
      bytes = y.bytes ∙ ap (put out place) (sym t) ∙ c.makes;
      within = omega (arith, text-length top bs);
    }
end-open l at top bs out place (a ∷ b ∷ es) o p c h z g y = absurd (omega arith)
