-- A number is listed exactly when it is missing.
use mathlib.Core.Path.{◌≡◌, refl, sym, ◌∙◌}
use mathlib.Core.List.{List, [], ◌∷◌}
use mathlib.Core.Bool.{Bool, true, false, not, ◌&&◌, and-true, and-false, not-not}
use Prim.Native.Nat.{ℕ, ◌+◌, ◌-◌, ◌≤◌, ◌<◌}
use native.Mathlib.Omega.{arith}
use lib.Dec.{ltb, leb}
use borrow.Author.Tests.{lt-ltb, le-ltb, le-leb, lt-leb, ltb-true, ltb-false}
use Rattle.std.specs.Prelude.{if◌then◌else◌}
use Rattle.wire.proofs.Cases.{below_or_not}
use Rattle.missing_ranges.specs.Edges.{start_place, end_place, replaced, without, Range, range, ranges_of, is_listed, rises_from}
use Rattle.missing_ranges.specs.Notes.{later}
use Rattle.missing_ranges.specs.Meaning.{Said, highest_of, carries, is_carried, ListsExactly}
use Rattle.missing_ranges.proofs.SetLaws.{is_missing, Up, Below, from_less, up_from, below_more, none_above, up-out, below_out, out-before, out-inside, out-after}

-- ---- numbers taken out

module _ (f e : ℕ) (bs : List ℕ) (u : Up 0 bs) (x : ℕ) where
  taken : f < e → is_missing x (replaced (start_place f e bs) (end_place e bs) f e bs)
      ≡ is_missing x bs && not (leb f x && ltb x e)
  taken h = below_or_not _ x f left (λ g. below_or_not _ x e (inside g) right)
    where
      left : x < f → is_missing x (replaced (start_place f e bs) (end_place e bs) f e bs)
          ≡ is_missing x bs && not (leb f x && ltb x e)
      left g = out-before f e h bs u x g ∙ rw (lt-leb _ _ g) (sym (and-true (is_missing x bs)))

      inside : f ≤ x → x < e
          → is_missing x (replaced (start_place f e bs) (end_place e bs) f e bs)
          ≡ is_missing x bs && not (leb f x && ltb x e)
      inside g k = out-inside f e h bs u x g k ∙ rw (le-leb _ _ g, lt-ltb _ _ k) (sym (and-false (is_missing x bs)))

      right : e ≤ x → is_missing x (replaced (start_place f e bs) (end_place e bs) f e bs)
          ≡ is_missing x bs && not (leb f x && ltb x e)
      right k =
          let g : f ≤ x = omega arith in out-after f e h bs u x k ∙ rw (le-leb _ _ g, le-ltb _ _ k) (sym (and-true (is_missing x bs)))

  nothing : e ≤ f → is_missing x bs ≡ is_missing x bs && not (leb f x && ltb x e)
  nothing h = below_or_not _ x f (λ g. rw (lt-leb _ _ g) (sym (and-true (is_missing x bs)))) right
    where
      right : f ≤ x → is_missing x bs ≡ is_missing x bs && not (leb f x && ltb x e)
      right g = let k : e ≤ x = omega arith in rw (le-leb _ _ g, le-ltb _ _ k) (sym (and-true (is_missing x bs)))

  pub without-means : is_missing x (without f e bs) ≡ is_missing x bs && not (leb f x && ltb x e)
  unfolding without
  without-means = go (ltb f e) refl
    where
      go : (t : Bool) → ltb f e ≡ t
          → is_missing x (if t then replaced (start_place f e bs) (end_place e bs) f e bs else bs)
          ≡ is_missing x bs && not (leb f x && ltb x e)
      go true p = taken (ltb-true _ _ p)
      go false p = nothing (ltb-false _ _ p)

-- edges that rise, none above top
pub record Good (bs : List ℕ) (top : ℕ) : Type 0 where
  pub up : Up 0 bs
  pub below : Below (top + 1) bs

pub later-left : (a b : ℕ) → a ≤ later a b
unfolding later
later-left a b = go (ltb a b) refl
  where
    go : (t : Bool) → ltb a b ≡ t → a ≤ (if t then b else a)
    go true p = let h = ltb-true a b p in omega arith
    go false p = omega arith

pub later-right : (a b : ℕ) → b ≤ later a b
unfolding later
later-right a b = go (ltb a b) refl
  where
    go : (t : Bool) → ltb a b ≡ t → b ≤ (if t then b else a)
    go true p = omega arith
    go false p = ltb-false a b p

pub good-step : (f e top : ℕ) (bs : List ℕ) → Good bs top → Good (without f e bs) (later top e)
unfolding without
good-step f e top bs g = go (ltb f e) refl
  where
    go : (t : Bool) → ltb f e ≡ t
        → Good (if t then replaced (start_place f e bs) (end_place e bs) f e bs else bs) (later top e)
    go true p =
        let h = ltb-true f e p in
        let a = later-left top e in
        let b = later-right top e in
        record {
          up = up-out f e h bs g.up;
          below =
              below_out f e h bs g.up (later top e + 1) (omega arith) (below_more (top + 1) (later top e + 1) bs (omega arith) g.below);
        }
    go false p =
        let a = later-left top e in record { up = g.up; below = below_more (top + 1) (later top e + 1) bs (omega arith) g.below }

-- ---- the ranges that edges bound

last-listed : (a top x : ℕ) → a ≤ top
    → is_listed x (if ltb a top then range a (top - 1) ∷ [] else []) ≡ (leb a x && not false) && ltb x top
unfolding is_listed
last-listed a top x h = below_or_not _ a top some none
  where
    some : a < top → is_listed x (if ltb a top then range a (top - 1) ∷ [] else []) ≡ (leb a x && not false) && ltb x top
    some g = below_or_not _ x a
        (λ k. rw (lt-ltb _ _ g, lt-leb _ _ k))
        (λ k. below_or_not _ x top
        (λ m. let n : x ≤ top - 1 = omega arith in rw (lt-ltb _ _ g, le-leb _ _ k, le-leb _ _ n, lt-ltb _ _ m))
        (λ m. let n : top - 1 < x = omega arith in rw (lt-ltb _ _ g, le-leb _ _ k, lt-leb _ _ n, le-ltb _ _ m)))

    none : top ≤ a → is_listed x (if ltb a top then range a (top - 1) ∷ [] else []) ≡ (leb a x && not false) && ltb x top
    none g = below_or_not _ x a
        (λ k. rw (le-ltb _ _ g, lt-leb _ _ k))
        (λ k. let m : top ≤ x = omega arith in rw (le-ltb _ _ g, le-ltb _ _ m) (sym (and-false (leb a x && true))))

-- one range with both edges, and m for what the edges behind it say of x
both-listed : (a c top x : ℕ) (m r : Bool) → a < c → c ≤ top → (x < c → m ≡ false) → r ≡ m && ltb x top
    → if leb a x && leb x (c - 1) then true else r ≡ (leb a x && not (leb c x && not m)) && ltb x top
both-listed a c top x m r h g z e = below_or_not _ x a left (λ k. below_or_not _ x c (inside k) right)
  where
    left : x < a → if leb a x && leb x (c - 1) then true else r ≡ (leb a x && not (leb c x && not m)) && ltb x top
    left k = let q : m ≡ false = z (omega arith) in rw (lt-leb _ _ k, e, q)

    inside : a ≤ x → x < c
        → if leb a x && leb x (c - 1) then true else r ≡ (leb a x && not (leb c x && not m)) && ltb x top
    inside k n =
        let q : x ≤ c - 1 = omega arith in
        let y : x < top = omega arith in
        rw (le-leb _ _ k, le-leb _ _ q, lt-leb _ _ n, lt-ltb _ _ y)

    right : c ≤ x → if leb a x && leb x (c - 1) then true else r ≡ (leb a x && not (leb c x && not m)) && ltb x top
    right k =
        let q : c - 1 < x = omega arith in
        let y : a ≤ x = omega arith in
        rw (le-leb _ _ y, lt-leb _ _ q, le-leb _ _ k, not-not m) e

pub listed-means : (low top : ℕ) (bs : List ℕ) → Up low bs → Below (top + 1) bs → (x : ℕ)
    → is_listed x (ranges_of top bs) ≡ is_missing x bs && ltb x top
unfolding is_listed ranges_of is_missing Up Below
listed-means low top [] u b x = refl
listed-means low top (a ∷ []) u b x = let h = b.0 in last-listed a top x (omega arith)
listed-means low top (a ∷ c ∷ bs) u b x =
    let h = u.1.0 in
    let g = b.1.0 in
    let v = u.1.1 in
    both-listed a c top x (is_missing x bs) (is_listed x (ranges_of top bs)) (omega arith) (omega arith)
    (λ k. none_above x bs (from_less (x + 1) (c + 1) bs (omega arith) (up_from (c + 1) bs v)))
    (listed-means (c + 1) top bs v b.1.1 x)

pub rises : (low top : ℕ) (bs : List ℕ) → Up low bs → Below (top + 1) bs → rises_from low (ranges_of top bs) ≡ true
unfolding rises_from ranges_of Up Below
rises low top [] u b = refl
rises low top (a ∷ []) u b = below_or_not _ a top some none
  where
    some : a < top → rises_from low (if ltb a top then range a (top - 1) ∷ [] else []) ≡ true
    some h = let k : a ≤ top - 1 = omega arith in rw (lt-ltb _ _ h, le-leb _ _ u.0, le-leb _ _ k)

    none : top ≤ a → rises_from low (if ltb a top then range a (top - 1) ∷ [] else []) ≡ true
    none h = rw (le-ltb _ _ h)
rises low top (a ∷ c ∷ bs) u b =
    let h = u.1.0 in
    let k : a ≤ c - 1 = omega arith in
    let e : c - 1 + 2 ≡ c + 1 = omega arith in
    rw (le-leb _ _ u.0, le-leb _ _ k, e) (rises (c + 1) top bs u.1.1 b.1.1)

-- ---- one after the other, with no limit

unfoldable pub edges_over : List ℕ → List Said → List ℕ
edges_over bs [] = bs
edges_over bs (d ∷ ds) = edges_over (without d.first d.next bs) ds

pub record Folded (bs : List ℕ) (top : ℕ) (ds : List Said) : Type 0 where
  pub good : Good (edges_over bs ds) (highest_of top ds)
  pub means : (x : ℕ) → is_missing x (edges_over bs ds) ≡ is_missing x bs && not (is_carried x ds)

pub folded : (ds : List Said) (bs : List ℕ) (top : ℕ) → Good bs top → Folded bs top ds
unfolding edges_over highest_of is_carried
folded [] bs top g = record { good = g; means = λ x. sym (and-true (is_missing x bs)) }
folded (d ∷ ds) bs top g =
    let r = folded ds (without d.first d.next bs) (later top d.next) (good-step d.first d.next top bs g) in
    record {
      good = r.good;
      means = λ x. r.means x ∙ rw (without-means d.first d.next bs g.up x) (joined x (carries x d));
    }
  where
    joined : (x : ℕ) (a : Bool)
        → (is_missing x bs && not a) && not (is_carried x ds) ≡ is_missing x bs && not (if a then true else is_carried x ds)
    joined x true = rw (and-false (is_missing x bs))
    joined x false = rw (and-true (is_missing x bs))

-- the edges of all that is missing after ds, from n on, and their ranges
abbrev pub all_edges : ℕ → List Said → List ℕ
all_edges n ds = edges_over (n ∷ []) ds

abbrev pub all_ranges : ℕ → List Said → List Range
all_ranges n ds = ranges_of (highest_of n ds) (all_edges n ds)

pub all-folded : (n : ℕ) (ds : List Said) → Folded (n ∷ []) n ds
unfolding Up Below
all-folded n ds = folded ds (n ∷ []) n (record { up = (omega arith, tt); below = (omega arith, tt) })

pub lists-all : (n : ℕ) (ds : List Said) → ListsExactly n ds (all_ranges n ds)
unfolding is_missing
lists-all n ds =
    let r = all-folded n ds in
    let g = r.good in
    record {
      exactly = λ x.
          listed-means 0 (highest_of n ds) (all_edges n ds) g.up g.below x
          ∙ rw (r.means x) (go (leb n x) (not (is_carried x ds)) (ltb x (highest_of n ds)));
      apart = rises 0 (highest_of n ds) (all_edges n ds) g.up g.below;
    }
  where
    go : (a b c : Bool) → (a && true && b) && c ≡ a && c && b
    go true true true = refl
    go true true false = refl
    go true false true = refl
    go true false false = refl
    go false b c = refl
