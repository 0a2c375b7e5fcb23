-- How many edges and ranges there are after a step, and the last edge: l are the lent words, n their edges.
use mathlib.Core.Path.{◌≡◌, refl, ap, sym, ◌∙◌, subst⁻¹}
use mathlib.Core.List.{List, [], ◌∷◌, ◌++◌, append_assoc, append-nil}
use mathlib.Core.Bool.{Bool, true, false}
use Prim.Native.Nat.{ℕ, zero, suc, ◌+◌, ◌-◌, ◌/◌, ◌%◌, ◌≤◌, ◌<◌}
use native.Mathlib.Omega.{arith}
use lib.ListN.{length, get_or, take, drop, length-append, length-drop, drop_of_length-le}
use lib.Seq.{length-take-le, get_or-take, get_or-drop, get_or-append-add, get_or-append_seam}
use lib.Dec.{ltb, leb}
use borrow.Author.Tests.{lt-ltb, le-ltb, ltb-true, ltb-false, leb-true, leb-false, eq-eqb}
use Rattle.std.specs.Prelude.{if◌then◌else◌}
use Rattle.missing_ranges.specs.Edges.{is_odd, edge_if, place_past, place_of, middle, replaced, without, range, ranges_of, most_ranges}
use Rattle.missing_ranges.specs.Notes.{too_many, last_after, later}
use Rattle.missing_ranges.proofs.EdgeLaws.{odd_code}
use Rattle.missing_ranges.proofs.PlaceLaws.{past-le, past-take, place-take}
use Rattle.missing_ranges.proofs.ReplaceLaws.{odd-mod, even-mod, middle-size}

-- ---- the edges after

pub without-as : (f e : ℕ) (l : List ℕ) (n i j : ℕ) → n ≤ length l → f < e → j ≡ place_past e l n → i ≡ place_of f l j
    → without f e (take n l) ≡ replaced i j f e (take n l)
unfolding without
without-as f e l n i j h g p q =
    let s : length (take n l) ≡ n = length-take-le n l h in
    let a : place_past e (take n l) n ≡ j = past-take e l n n (omega arith) ∙ sym p in
    let w : j ≤ n = subst⁻¹ (λ (x : ℕ). x ≤ n) p (past-le e l n) in
    let b : place_of f (take n l) j ≡ i = place-take f l n j w ∙ sym q in
    rw (lt-ltb _ _ g, s, a, b)

pub without-none : (f e : ℕ) (bs : List ℕ) → e ≤ f → without f e bs ≡ bs
unfolding without
without-none f e bs h = rw (le-ltb _ _ h)

-- ---- how many ranges

unfoldable pub one : Bool → ℕ
one true = 1
one false = 0

pub count-ranges : (top : ℕ) (bs : List ℕ) (p : ℕ) → length bs ≡ suc p → length bs % 2 ≡ 1
    → length (ranges_of top bs) ≡ length bs / 2 + one (ltb (get_or bs p 0) top)
unfolding ranges_of one
count-ranges top [] p h o = absurd (omega arith)
count-ranges top (a ∷ []) zero h o = go (ltb a top)
  where
    go : (b : Bool) → length (if b then range a (top - 1) ∷ [] else []) ≡ 1 / 2 + one b
    go true = refl
    go false = refl
count-ranges top (a ∷ []) (suc p) h o = absurd (omega arith)
count-ranges top (a ∷ b ∷ bs) zero h o = absurd (omega arith)
count-ranges top (a ∷ b ∷ bs) (suc zero) h o = let z : length bs ≡ 0 = omega arith in absurd (omega arith)
count-ranges top (a ∷ b ∷ bs) (suc (suc p)) h o =
    let i = count-ranges top bs p (omega arith) (omega arith) in
    omega arith

-- ---- the edges after: how many, an odd number, and the last

pub record Shape (bs : List ℕ) (size last : ℕ) : Type 0 where
  pub long : length bs ≡ size
  pub odd : size % 2 ≡ 1
  pub last_is : (p : ℕ) → size ≡ suc p → get_or bs p 0 ≡ last

mod-odd : (n : ℕ) → n % 2 ≡ 1 → is_odd n ≡ true
mod-odd n h = sym (odd_code n) ∙ eq-eqb _ _ h

edge-size : (i f : ℕ) → length (edge_if (is_odd i) f) ≡ i % 2
edge-size i f = go (is_odd i) refl
  where
    go : (b : Bool) → is_odd i ≡ b → length (edge_if b f) ≡ i % 2
    go true p = sym (odd-mod i p)
    go false p = sym (even-mod i p)

-- nothing is carried
pub shape_same : (l : List ℕ) (k : ℕ) → k + k + 1 ≤ length l
    → Shape (take (k + k + 1) l) (k + k + 1) (get_or l (k + k + 1 - 1) 0)
shape_same l k h =
    record {
      long = length-take-le (k + k + 1) l h;
      odd = omega arith;
      last_is = λ p e.
          let q : p ≡ k + k + 1 - 1 = omega arith in
          get_or-take (k + k + 1) l p 0 (omega arith) ∙ ap (λ (x : ℕ). get_or l x 0) q;
    }

module _ (l : List ℕ) (k n i j f e : ℕ) (en : n ≡ k + k + 1) (h : n ≤ length l) (ij : i ≤ j) (jn : j ≤ n) where
  size-replaced : length (replaced i j f e (take n l)) ≡ i + i % 2 + j % 2 + (n - j)
  unfolding replaced
  size-replaced =
      let M = middle i j f e in
      let t : length (take n l) ≡ n = length-take-le n l h in
      let a : length (take i (take n l)) ≡ i = length-take-le i (take n l) (omega arith) in
      let d : length (drop j (take n l)) ≡ n - j = length-drop j (take n l) ∙ ap (λ (x : ℕ). x - j) t in
      let m = middle-size i j f e in
      omega (arith, length-append (take i (take n l) ++ M) (drop j (take n l)), length-append (take i (take n l)) M)

  -- the last of what stands behind j is the last of all
  last-behind : j < n → (p : ℕ) → i + i % 2 + j % 2 + (n - j) ≡ suc p
      → get_or (replaced i j f e (take n l)) p 0 ≡ get_or l (n - 1) 0
  unfolding replaced
  last-behind g p s =
      let M = middle i j f e in
      let t : length (take n l) ≡ n = length-take-le n l h in
      let a : length (take i (take n l)) ≡ i = length-take-le i (take n l) (omega arith) in
      let m = middle-size i j f e in
      let b : length (take i (take n l) ++ M)
      ≡ i + (i % 2 + j % 2) = omega (arith, length-append (take i (take n l)) M) in
      let q : p ≡ length (take i (take n l) ++ M) + (n - j - 1) = omega arith in
      let r : j + (n - j - 1) ≡ n - 1 = omega arith in
      ap (λ (x : ℕ). get_or (take i (take n l) ++ M ++ drop j (take n l)) x 0) q
      ∙ get_or-append-add (take i (take n l) ++ M) (drop j (take n l)) (n - j - 1) 0
      ∙ get_or-drop j (take n l) (n - j - 1) 0
      ∙ ap (λ (x : ℕ). get_or (take n l) x 0) r
      ∙ get_or-take n l (n - 1) 0 (omega arith)

  -- where nothing stands behind j, the last is e
  last-laid : n ≤ j → (p : ℕ) → i + i % 2 + j % 2 + (n - j) ≡ suc p → get_or (replaced i j f e (take n l)) p 0 ≡ e
  unfolding replaced middle
  last-laid g p s =
      let T = take n l in
      let E = edge_if (is_odd i) f in
      let t : length T ≡ n = length-take-le n l h in
      let a : length (take i T) ≡ i = length-take-le i T (omega arith) in
      let o : is_odd j ≡ true = mod-odd j (omega arith) in
      let d : drop j T ≡ [] = drop_of_length-le T {i = j} (omega arith) in
      let m = edge-size i f in
      let q : p ≡ length (take i T ++ E) = omega (arith, length-append (take i T) E) in
      let r : take i T ++ (E ++ (e ∷ [])) ++ [] ≡ take i T ++ E ++ (e ∷ []) =
      append-nil (take i T ++ (E ++ (e ∷ []))) ∙ sym (append_assoc (take i T) E (e ∷ [])) in
      rw (o, d, r, q) (get_or-append_seam (take i T ++ E) e [] 0)

  last-replaced : (p : ℕ) → i + i % 2 + j % 2 + (n - j) ≡ suc p
      → get_or (replaced i j f e (take n l)) p 0 ≡ last_after l n j e
  unfolding last_after
  last-replaced p s = go (ltb j n) refl
    where
      go : (b : Bool) → ltb j n ≡ b → get_or (replaced i j f e (take n l)) p 0 ≡ if b then get_or l (n - 1) 0 else e
      go true q = last-behind (ltb-true _ _ q) p s
      go false q = last-laid (ltb-false _ _ q) p s

  pub shape-replaced : Shape (replaced i j f e (take n l)) (i + i % 2 + j % 2 + (n - j)) (last_after l n j e)
  shape-replaced = record { long = size-replaced; odd = omega arith; last_is = last-replaced }

-- ---- too many or not

-- k ranges with both edges and one more or not, as the code tests it
pub few : (k last top : ℕ) → too_many k last top ≡ false → k + one (ltb last top) ≤ most_ranges
unfolding too_many one
few k last top = go (ltb last top)
  where
    go : (t : Bool) → if t then leb most_ranges k else ltb most_ranges k ≡ false → k + one t ≤ most_ranges
    go true x = let h : k < most_ranges = leb-false _ _ x in omega arith
    go false x = let h : k ≤ most_ranges = ltb-false _ _ x in omega arith

pub many : (k last top : ℕ) → too_many k last top ≡ true → most_ranges < k + one (ltb last top)
unfolding too_many one
many k last top = go (ltb last top)
  where
    go : (t : Bool) → if t then leb most_ranges k else ltb most_ranges k ≡ true → most_ranges < k + one t
    go true x = let h : most_ranges ≤ k = leb-true _ _ x in omega arith
    go false x = let h : most_ranges < k = ltb-true _ _ x in omega arith

-- the ranges of edges of a shape
pub shape-count : (top : ℕ) (bs : List ℕ) (size last : ℕ) → Shape bs size last
    → length (ranges_of top bs) ≡ size / 2 + one (ltb last top)
shape-count top bs zero last s = let o = s.odd in absurd (omega arith)
shape-count top bs (suc p) last s =
    let e = s.long in
    let c = count-ranges top bs p e (rw e s.odd) in
    c ∙ rw (e, s.last_is p refl)

-- ---- the small functions

pub later_second : (a b : ℕ) → a < b → b ≡ later a b
unfolding later
later_second a b h = rw (lt-ltb _ _ h)

pub later_first : (a b : ℕ) → b ≤ a → a ≡ later a b
unfolding later
later_first a b h = rw (le-ltb _ _ h)

pub many-open : (k last top : ℕ) → last < top → leb most_ranges k ≡ too_many k last top
unfolding too_many
many-open k last top h = rw (lt-ltb _ _ h)

pub many-closed : (k last top : ℕ) → top ≤ last → ltb most_ranges k ≡ too_many k last top
unfolding too_many
many-closed k last top h = rw (le-ltb _ _ h)

pub last-there : (l : List ℕ) (n j e : ℕ) → j < n → get_or l (n - 1) 0 ≡ last_after l n j e
unfolding last_after
last-there l n j e h = rw (lt-ltb _ _ h)

pub last-e : (l : List ℕ) (n j e : ℕ) → n ≤ j → e ≡ last_after l n j e
unfolding last_after
last-e l n j e h = rw (le-ltb _ _ h)
