-- The sum of the ranges' sizes is never capped, and it is how many numbers they list.
use mathlib.Core.Path.{◌≡◌, refl, sym, ◌∙◌}
use mathlib.Core.List.{List, [], ◌∷◌}
use mathlib.Core.Bool.{Bool, true, false, ◌&&◌}
use Prim.Native.Nat.{ℕ, zero, suc, ◌+◌, ◌-◌, ◌≤◌, ◌<◌}
use native.Mathlib.Omega.{arith}
use native.Mathlib.Nat.{zero-add}
use lib.Dec.{ltb, leb}
use borrow.Author.Tests.{lt-ltb, le-ltb, le-leb, lt-leb}
use Rattle.std.specs.Prelude.{if◌then◌else◌}
use Rattle.wire.specs.Bounds.{largest_number, up_to}
use Rattle.wire.proofs.Cases.{below_or_not}
use Rattle.missing_ranges.specs.Edges.{Range, range, ranges_of, is_listed, total_from, listed_below}
use Rattle.missing_ranges.specs.Notes.{later}
use Rattle.missing_ranges.specs.Meaning.{Said, highest_of, AllNumbers, TotalIsExact}
use Rattle.missing_ranges.proofs.SetLaws.{Up, Below, from_less, up_from, none_above}
use Rattle.missing_ranges.proofs.MeaningLaws.{listed-means, all_edges, all_ranges, all-folded}
use Rattle.missing_ranges.proofs.HoldLaws.{noted-ranges}

-- ---- never capped

unfoldable pub size_of : List Range → ℕ
size_of [] = 0
size_of (r ∷ rs) = (r.to + 1 - r.from) + size_of rs

fits : (a b : ℕ) → a + b ≤ largest_number → up_to a b ≡ a + b
unfolding up_to
fits a b h = rw (le-ltb _ _ h)

pub total-is : (low top n : ℕ) (bs : List ℕ) → Up low bs → Below (top + 1) bs → n ≤ low → top ≤ largest_number
    → total_from n (ranges_of top bs) ≡ n + size_of (ranges_of top bs)
unfolding Up Below ranges_of total_from size_of
total-is low top n [] u b h g = omega arith
total-is low top n (a ∷ []) u b h g = below_or_not _ a top some none
  where
    some : a < top → total_from n (if ltb a top then range a (top - 1) ∷ [] else [])
        ≡ n + size_of (if ltb a top then range a (top - 1) ∷ [] else [])
    some k =
        let w = u.0 in
        let s : n + (top - 1 + 1 - a) ≤ largest_number = omega arith in
        rw (lt-ltb _ _ k, fits n (top - 1 + 1 - a) s) (omega arith)

    none : top ≤ a → total_from n (if ltb a top then range a (top - 1) ∷ [] else [])
        ≡ n + size_of (if ltb a top then range a (top - 1) ∷ [] else [])
    none k = rw (le-ltb _ _ k) (omega arith)
total-is low top n (a ∷ c ∷ bs) u b h g =
    let p = u.0 in
    let q = u.1.0 in
    let r = b.1.0 in
    let s : n + (c - 1 + 1 - a) ≤ largest_number = omega arith in
    rw (fits n (c - 1 + 1 - a) s)
    (total-is (c + 1) top (n + (c - 1 + 1 - a)) bs u.1.1 b.1.1 (omega arith) g ∙ omega arith)

-- ---- how many are listed

none-there : (x : ℕ) → is_listed x [] ≡ false
unfolding is_listed
none-there x = refl

none-listed : (m : ℕ) → listed_below m [] ≡ 0
unfolding listed_below is_listed
none-listed zero = refl
none-listed (suc m) = let i = none-listed m in omega arith

least-left : (m c : ℕ) → m ≤ c → m - (m - c) ≡ m
least-left m c h = omega arith

-- one number more, of a range and those above it: m - (m - c) is the smaller of m and c
module _ (m a c : ℕ) (rs : List Range) (h : a < c) (z : (x : ℕ) → x < c → is_listed x rs ≡ false)
    (i : listed_below m (range a (c - 1) ∷ rs) ≡ (m - (m - c) - a) + listed_below m rs) where
  abbrev More : Type 0
  More =
      (if (if leb a m && leb m (c - 1) then true else is_listed m rs) then 1 else 0) + listed_below m (range a (c - 1) ∷ rs)
      ≡ (suc m - (suc m - c) - a) + ((if is_listed m rs then 1 else 0) + listed_below m rs)

  more_left : m < a → More
  more_left k = rw (lt-leb _ _ k, z m (omega arith), i) (omega arith)

  more-inside : a ≤ m → m < c → More
  more-inside k g =
      let y : m ≤ c - 1 = omega arith in
      let v : suc m ≤ c = omega arith in
      let w : m ≤ c = omega arith in
      rw (le-leb _ _ k, le-leb _ _ y, z m g, i, least-left m c w, least-left (suc m) c v) (sums (listed_below m rs) k)
    where
      sums : (o : ℕ) → a ≤ m → 1 + (m - a + o) ≡ (suc m - a) + (0 + o)
      sums o k = omega arith

  more-right : c ≤ m → More
  more-right k =
      let y : c - 1 < m = omega arith in
      let v : a ≤ m = omega arith in
      rw (le-leb _ _ v, lt-leb _ _ y, i) (go (if is_listed m rs then 1 else 0))
    where
      go : (o : ℕ) → o + ((m - (m - c) - a) + listed_below m rs) ≡ (suc m - (suc m - c) - a) + (o + listed_below m rs)
      go o = omega arith

  more : More
  more = below_or_not _ m a more_left (λ k. below_or_not _ m c (more-inside k) more-right)

count-first : (m a c : ℕ) (rs : List Range) → a < c → ((x : ℕ) → x < c → is_listed x rs ≡ false)
    → listed_below m (range a (c - 1) ∷ rs) ≡ (m - (m - c) - a) + listed_below m rs
unfolding listed_below is_listed
count-first zero a c rs h z = omega arith
count-first (suc m) a c rs h z = more m a c rs h z (count-first m a c rs h z)

pub listed-size : (low top : ℕ) (bs : List ℕ) → Up low bs → Below (top + 1) bs
    → listed_below top (ranges_of top bs) ≡ size_of (ranges_of top bs)
unfolding Up Below ranges_of size_of
listed-size low top [] u b = none-listed top
listed-size low top (a ∷ []) u b = below_or_not _ a top some none
  where
    some : a < top → listed_below top (if ltb a top then range a (top - 1) ∷ [] else [])
        ≡ size_of (if ltb a top then range a (top - 1) ∷ [] else [])
    some k = rw (lt-ltb _ _ k) (count-first top a top [] k nothing ∙ rw (none-listed top) (omega arith))
      where
        nothing : (x : ℕ) → x < top → is_listed x [] ≡ false
        nothing x h = none-there x

    none : top ≤ a → listed_below top (if ltb a top then range a (top - 1) ∷ [] else [])
        ≡ size_of (if ltb a top then range a (top - 1) ∷ [] else [])
    none k = rw (le-ltb _ _ k) (none-listed top)
listed-size low top (a ∷ c ∷ bs) u b =
    let p = u.1.0 in
    let q = b.1.0 in
    let v = u.1.1 in
    let w = b.1.1 in
    let i = listed-size (c + 1) top bs v w in
    count-first top a c (ranges_of top bs) (omega arith)
    (λ x h. listed-means (c + 1) top bs v w x ∙ rw (none_above x bs (from_less (x + 1) (c + 1) bs (omega arith) (up_from (c + 1) bs v))))
    ∙ omega arith

-- ---- the highest number is one

highest-fits : (n : ℕ) (ds : List Said) → n ≤ largest_number → AllNumbers ds → highest_of n ds ≤ largest_number
unfolding highest_of AllNumbers later
highest-fits n [] h g = h
highest-fits n (d ∷ ds) h g = highest-fits (later n d.next) ds (go (ltb n d.next)) g.1
  where
    go : (t : Bool) → (if t then d.next else n) ≤ largest_number
    go true = g.0
    go false = h

pub total_is_exact : TotalIsExact
unfolding TotalIsExact
total_is_exact l n ds h k a r =
    let g = (all-folded n ds).good in
    let top = highest_of n ds in
    rw (noted-ranges l n ds h r)
    (total-is 0 top 0 (all_edges n ds) g.up g.below (omega arith) (highest-fits n ds k a)
    ∙ zero-add (size_of (all_ranges n ds))
    ∙ sym (listed-size 0 top (all_edges n ds) g.up g.below))
