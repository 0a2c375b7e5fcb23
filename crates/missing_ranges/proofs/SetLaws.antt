-- Rising edges, and what taking numbers out of them means.
use mathlib.Core.Path.{◌≡◌, refl, ap, sym, ◌∙◌}
use mathlib.Core.List.{List, [], ◌∷◌, ◌++◌, append_assoc}
use mathlib.Core.Bool.{Bool, true, false, not, ◌&&◌, not-not}
use Prim.Native.Nat.{ℕ, zero, suc, ◌+◌, ◌-◌, ◌/◌, ◌≤◌, ◌<◌}
use native.Mathlib.Omega.{arith}
use native.Mathlib.Numerals.{add-one}
use lib.ListN.{length, get_or, take, drop, take-append-drop}
use lib.Seq.{drop-length, length-take-le}
use lib.Dec.{ltb, leb, eqb}
use borrow.Author.Tests.{le-leb, lt-leb, ltb-true, ltb-false, leb-true, leb-false, eqb-true, eqb-false}
use Rattle.std.specs.Prelude.{if◌then◌else◌}
use Rattle.missing_ranges.specs.Edges.{is_odd, halved, place_past, place_of, start_place, end_place, edge_if, middle, replaced}
use Rattle.missing_ranges.proofs.PlaceLaws.{middle-below, past-le, place-le}

-- ---- what edges mean

-- missing are the numbers after an odd number of edges
unfoldable pub is_missing : ℕ → List ℕ → Bool
is_missing x [] = false
is_missing x (b ∷ bs) = leb b x && not (is_missing x bs)

-- ---- edges that rise from low on; all below m; all from m on

unfoldable pub Up : ℕ → List ℕ → Type 0
Up low [] = Unit
Up low (b ∷ bs) = (low ≤ b) × Up (b + 1) bs

unfoldable pub Below : ℕ → List ℕ → Type 0
Below m [] = Unit
Below m (b ∷ bs) = (b < m) × Below m bs

unfoldable pub From : ℕ → List ℕ → Type 0
From m [] = Unit
From m (b ∷ bs) = (m ≤ b) × From m bs

pub up-less : (a b : ℕ) (bs : List ℕ) → a ≤ b → Up b bs → Up a bs
unfolding Up
up-less a b [] h u = u
up-less a b (x ∷ bs) h u = let k = u.0 in (omega arith, u.1)

pub below_more : (a b : ℕ) (bs : List ℕ) → a ≤ b → Below a bs → Below b bs
unfolding Below
below_more a b [] h u = u
below_more a b (x ∷ bs) h u = let k = u.0 in (omega arith, below_more a b bs h u.1)

pub from_less : (a b : ℕ) (bs : List ℕ) → a ≤ b → From b bs → From a bs
unfolding From
from_less a b [] h u = u
from_less a b (x ∷ bs) h u = let k = u.0 in (omega arith, from_less a b bs h u.1)

pub up_from : (low : ℕ) (bs : List ℕ) → Up low bs → From low bs
unfolding Up From
up_from low [] u = u
up_from low (b ∷ bs) u = let k = u.0 in (k, from_less low (b + 1) bs (omega arith) (up_from (b + 1) bs u.1))

-- parts
up-take : (i low : ℕ) (bs : List ℕ) → Up low bs → Up low (take i bs)
unfolding Up
up-take zero low bs u = tt
up-take (suc i) low [] u = tt
up-take (suc i) low (b ∷ bs) u = (u.0, up-take i (b + 1) bs u.1)

up-drop : (i low m : ℕ) (bs : List ℕ) → Up low bs → From m (drop i bs) → Up m (drop i bs)
unfolding Up From
up-drop zero low m [] u g = tt
up-drop zero low m (b ∷ bs) u g = (g.0, u.1)
up-drop (suc i) low m [] u g = tt
up-drop (suc i) low m (b ∷ bs) u g = up-drop i (b + 1) m bs u.1 g

below-take : (i m : ℕ) (bs : List ℕ) → Below m bs → Below m (take i bs)
unfolding Below
below-take zero m bs u = tt
below-take (suc i) m [] u = tt
below-take (suc i) m (b ∷ bs) u = (u.0, below-take i m bs u.1)

below-drop : (i m : ℕ) (bs : List ℕ) → Below m bs → Below m (drop i bs)
unfolding Below
below-drop zero m bs u = u
below-drop (suc i) m [] u = tt
below-drop (suc i) m (b ∷ bs) u = below-drop i m bs u.1

-- joined
up-join : (low m : ℕ) (bs cs : List ℕ) → low ≤ m → Up low bs → Below m bs → Up m cs → Up low (bs ++ cs)
unfolding Up Below
up-join low m [] cs h u b v = up-less low m cs h v
up-join low m (a ∷ bs) cs h u b v = let k = b.0 in (u.0, up-join (a + 1) m bs cs (omega arith) u.1 b.1 v)

below-join : (m : ℕ) (bs cs : List ℕ) → Below m bs → Below m cs → Below m (bs ++ cs)
unfolding Below
below-join m [] cs b v = v
below-join m (a ∷ bs) cs b v = (b.0, below-join m bs cs b.1 v)

from-join : (m : ℕ) (bs cs : List ℕ) → From m bs → From m cs → From m (bs ++ cs)
unfolding From
from-join m [] cs b v = v
from-join m (a ∷ bs) cs b v = (b.0, from-join m bs cs b.1 v)

-- ---- places among rising edges

up_at : (low : ℕ) (bs : List ℕ) (n : ℕ) → Up low bs → n < length bs → low ≤ get_or bs n 0
unfolding Up
up_at low [] n u h = absurd (omega arith)
up_at low (b ∷ bs) zero u h = u.0
up_at low (b ∷ bs) (suc n) u h = let k = u.0 in let i = up_at (b + 1) bs n u.1 (omega arith) in omega arith

below-place : (f low : ℕ) (bs : List ℕ) (n : ℕ) → Up low bs → n < length bs → get_or bs n 0 < f
    → Below f (take (suc n) bs)
unfolding Up Below
below-place f low [] n u h g = absurd (omega arith)
below-place f low (b ∷ bs) zero u h g = (g, tt)
below-place f low (b ∷ bs) (suc n) u h g =
    let k = up_at (b + 1) bs n u.1 (omega arith) in
    (omega arith, below-place f (b + 1) bs n u.1 (omega arith) g)

from_place : (e low : ℕ) (bs : List ℕ) (n : ℕ) → Up low bs → n < length bs → e < get_or bs n 0 → From (e + 1) (drop n bs)
unfolding Up From
from_place e low [] n u h g = absurd (omega arith)
from_place e low (b ∷ bs) zero u h g =
    (omega arith, from_less (e + 1) (b + 1) bs (omega arith) (up_from (b + 1) bs u.1))
from_place e low (b ∷ bs) (suc n) u h g = from_place e (b + 1) bs n u.1 (omega arith) g

-- what stands before the place lies at e or below, and what stands behind it above
module _ (e low : ℕ) (bs : List ℕ) (u : Up low bs) where
  below-mid : (lo hi : ℕ) → lo < hi → hi ≤ length bs → get_or bs (lo + (hi - lo) / 2) 0 ≤ e
      → Below (e + 1) (take (lo + (hi - lo) / 2 + 1) bs)
  below-mid lo hi h k g =
      let m = middle-below lo hi h in
      rw (add-one (lo + (hi - lo) / 2)) (below-place (e + 1) low bs (lo + (hi - lo) / 2) u (omega arith) (omega arith))

  halved-below : (k lo hi : ℕ) → lo ≤ hi → hi ≤ length bs → Below (e + 1) (take lo bs)
      → Below (e + 1) (take (halved k e bs lo hi) bs)
  unfolding halved
  halved-below zero lo hi h g b = b
  halved-below (suc k) lo hi h g b =
      go (ltb lo hi) (leb (get_or bs (lo + (hi - lo) / 2) 0) e) refl refl
      (λ x y. halved-below k (lo + (hi - lo) / 2 + 1) hi x g y)
      (λ x y. halved-below k lo (lo + (hi - lo) / 2) x y b)
    where
      go : (t s : Bool) → ltb lo hi ≡ t → leb (get_or bs (lo + (hi - lo) / 2) 0) e ≡ s
          → (lo + (hi - lo) / 2 + 1 ≤ hi → Below (e + 1) (take (lo + (hi - lo) / 2 + 1) bs)
          → Below (e + 1) (take (halved k e bs (lo + (hi - lo) / 2 + 1) hi) bs))
          → (lo ≤ lo + (hi - lo) / 2 → lo + (hi - lo) / 2 ≤ length bs
          → Below (e + 1) (take (halved k e bs lo (lo + (hi - lo) / 2)) bs))
          → Below (e + 1) (take (if t then (if s then halved k e bs (lo + (hi - lo) / 2 + 1) hi
          else halved k e bs lo (lo + (hi - lo) / 2)) else lo) bs)
      go true true p q x y =
          let a = ltb-true lo hi p in
          let m = middle-below lo hi a in
          x (omega arith) (below-mid lo hi a g (leb-true _ _ q))
      go true false p q x y = let m = middle-below lo hi (ltb-true lo hi p) in y (omega arith) (omega arith)
      go false s p q x y = b

  halved-from : (k lo hi : ℕ) → hi - lo ≤ k → lo ≤ hi → hi ≤ length bs → From (e + 1) (drop hi bs)
      → From (e + 1) (drop (halved k e bs lo hi) bs)
  unfolding halved
  halved-from zero lo hi z h g b = let q : lo ≡ hi = omega arith in rw q b
  halved-from (suc k) lo hi z h g b =
      go (ltb lo hi) (leb (get_or bs (lo + (hi - lo) / 2) 0) e) refl refl
      (λ x y. halved-from k (lo + (hi - lo) / 2 + 1) hi x y g b)
      (λ w x y v. halved-from k lo (lo + (hi - lo) / 2) w x y v)
    where
      go : (t s : Bool) → ltb lo hi ≡ t → leb (get_or bs (lo + (hi - lo) / 2) 0) e ≡ s
          → (hi - (lo + (hi - lo) / 2 + 1) ≤ k → lo + (hi - lo) / 2 + 1 ≤ hi
          → From (e + 1) (drop (halved k e bs (lo + (hi - lo) / 2 + 1) hi) bs))
          → (lo + (hi - lo) / 2 - lo ≤ k → lo ≤ lo + (hi - lo) / 2 → lo + (hi - lo) / 2 ≤ length bs → From (e + 1) (drop (lo + (hi - lo) / 2) bs)
          → From (e + 1) (drop (halved k e bs lo (lo + (hi - lo) / 2)) bs))
          → From (e + 1) (drop (if t then (if s then halved k e bs (lo + (hi - lo) / 2 + 1) hi
          else halved k e bs lo (lo + (hi - lo) / 2)) else lo) bs)
      go true true p q x y =
          let a = ltb-true lo hi p in
          let m = middle-below lo hi a in
          x (omega arith) (omega arith)
      go true false p q x y =
          let a = ltb-true lo hi p in
          let m = middle-below lo hi a in
          y (omega arith) (omega arith) (omega arith) (from_place e low bs (lo + (hi - lo) / 2) u (omega arith) (leb-false _ _ q))
      go false s p q x y = let w = ltb-false lo hi p in let r : lo ≡ hi = omega arith in rw r b

  past-below : (n : ℕ) → n ≤ length bs → Below (e + 1) (take (place_past e bs n) bs)
  unfolding place_past Below
  past-below n h = halved-below n 0 n (omega arith) h tt

  past-from : (n : ℕ) → n ≤ length bs → From (e + 1) (drop n bs) → From (e + 1) (drop (place_past e bs n) bs)
  unfolding place_past
  past-from n h g = halved-from n 0 n (omega arith) (omega arith) h g

-- what stands before the place of f lies below it
before : (f : ℕ) (bs : List ℕ) (n : ℕ) → Up 0 bs → n ≤ length bs → Below f (take (place_of f bs n) bs)
unfolding place_of Below
before f bs n u h = go (eqb f 0) refl (past-below (f - 1) 0 bs u n h)
  where
    go : (t : Bool) → eqb f 0 ≡ t → Below (f - 1 + 1) (take (place_past (f - 1) bs n) bs)
        → Below f (take (if t then 0 else place_past (f - 1) bs n) bs)
    go true p b = tt
    go false p b = let z : f ≡ 0
        → ⊥ = eqb-false f 0 p in below_more (f - 1 + 1) f (take (place_past (f - 1) bs n) bs) (omega arith) b

-- and what stands behind it does not
behind : (f : ℕ) (bs : List ℕ) (n : ℕ) → Up 0 bs → n ≤ length bs → From f (drop n bs)
    → From f (drop (place_of f bs n) bs)
unfolding place_of From
behind f bs n u h g = go (eqb f 0) refl (past-from (f - 1) 0 bs u n h)
  where
    go : (t : Bool) → eqb f 0 ≡ t
        → (From (f - 1 + 1) (drop n bs) → From (f - 1 + 1) (drop (place_past (f - 1) bs n) bs))
        → From f (drop (if t then 0 else place_past (f - 1) bs n) bs)
    go true p b = let z : f ≡ 0 = eqb-true f 0 p in from_less f 0 bs (omega arith) (up_from 0 bs u)
    go false p b =
        let z : f ≡ 0 → ⊥ = eqb-false f 0 p in
        let q : f - 1 + 1 ≡ f = omega arith in
        from_less f (f - 1 + 1) (drop (place_past (f - 1) bs n) bs) (omega arith)
        (b (from_less (f - 1 + 1) f (drop n bs) (omega arith) g))

-- ---- the numbers that edges bound

turned : Bool → Bool → Bool
turned true b = not b
turned false b = b

-- past edges that are all at x or below, x is missing or not by how many they are
past : (x : ℕ) (bs cs : List ℕ) → Below (x + 1) bs
    → is_missing x (bs ++ cs) ≡ turned (is_odd (length bs)) (is_missing x cs)
unfolding is_missing is_odd Below turned
past x [] cs b = refl
past x (a ∷ bs) cs b =
    let k = b.0 in
    let h : a ≤ x = omega arith in
    rw (le-leb _ _ h, past x bs cs b.1) (go (is_odd (length bs)) (is_missing x cs))
  where
    go : (o m : Bool) → not (turned o m) ≡ turned (not o) m
    go true m = not-not m
    go false m = refl

-- edges above x tell nothing of it
pub none_above : (x : ℕ) (cs : List ℕ) → From (x + 1) cs → is_missing x cs ≡ false
unfolding is_missing From
none_above x [] g = refl
none_above x (c ∷ cs) g = let k = g.0 in let h : x < c = omega arith in rw (lt-leb _ _ h)

above : (x : ℕ) (bs cs : List ℕ) → From (x + 1) cs → is_missing x (bs ++ cs) ≡ is_missing x bs
unfolding is_missing
above x [] cs g = none_above x cs g
above x (a ∷ bs) cs g = rw (above x bs cs g)

-- the edges laid between two places, by their parities, before edges ds
module _ (x f e : ℕ) (ds : List ℕ) where
  lay-past : (a b : Bool) → f ≤ x → e ≤ x
      → turned a (is_missing x (edge_if a f ++ edge_if b e ++ ds)) ≡ turned b (is_missing x ds)
  unfolding is_missing turned
  lay-past true true h g = rw (le-leb _ _ h, le-leb _ _ g) (not-not (not (is_missing x ds)))
  lay-past true false h g = rw (le-leb _ _ h) (not-not (is_missing x ds))
  lay-past false true h g = rw (le-leb _ _ g)
  lay-past false false h g = refl

  lay-inside : (a b : Bool) → f ≤ x → x < e → From (x + 1) ds
      → turned a (is_missing x (edge_if a f ++ edge_if b e ++ ds)) ≡ false
  unfolding is_missing turned
  lay-inside true true h g k = rw (le-leb _ _ h, lt-leb _ _ g)
  lay-inside true false h g k = rw (le-leb _ _ h, none_above x ds k)
  lay-inside false true h g k = rw (lt-leb _ _ g)
  lay-inside false false h g k = none_above x ds k

from-lay : (m f e : ℕ) (a b : Bool) → m ≤ f → m ≤ e → From m (edge_if a f ++ edge_if b e)
unfolding From
from-lay m f e true true h g = (h, (g, tt))
from-lay m f e true false h g = (h, tt)
from-lay m f e false true h g = (g, tt)
from-lay m f e false false h g = tt

up-lay : (f e : ℕ) (ds : List ℕ) (a b : Bool) → f < e → Up (e + 1) ds → Up f (edge_if a f ++ edge_if b e ++ ds)
unfolding Up
up-lay f e ds true true h u = (omega arith, (omega arith, u))
up-lay f e ds true false h u = (omega arith, up-less (f + 1) (e + 1) ds (omega arith) u)
up-lay f e ds false true h u = (omega arith, u)
up-lay f e ds false false h u = up-less f (e + 1) ds (omega arith) u

below-lay : (m f e : ℕ) (a b : Bool) → f < m → e < m → Below m (edge_if a f ++ edge_if b e)
unfolding Below
below-lay m f e true true h g = (h, (g, tt))
below-lay m f e true false h g = (h, tt)
below-lay m f e false true h g = (g, tt)
below-lay m f e false false h g = tt

-- ---- taking numbers out

module _ (f e : ℕ) (h : f < e) (bs : List ℕ) (u : Up 0 bs) where
  j-within : end_place e bs ≤ length bs
  j-within = past-le e bs (length bs)

  i-within : start_place f e bs ≤ length bs
  i-within = let a = place-le f bs (end_place e bs) in let b = j-within in omega arith

  tj : Below (e + 1) (take (end_place e bs) bs)
  tj = past-below e 0 bs u (length bs) (omega arith)

  nothing : From (e + 1) (drop (length bs) bs)
  unfolding From
  nothing = rw (drop-length bs) tt

  dj : From (e + 1) (drop (end_place e bs) bs)
  dj = past-from e 0 bs u (length bs) (omega arith) nothing

  ti : Below f (take (start_place f e bs) bs)
  ti = before f bs (end_place e bs) u j-within

  di : From f (drop (start_place f e bs) bs)
  di = behind f bs (end_place e bs) u j-within (from_less f (e + 1) (drop (end_place e bs) bs) (omega arith) dj)

  -- the edges then, in two parts
  parts : replaced (start_place f e bs) (end_place e bs) f e bs
      ≡ take (start_place f e bs) bs ++ (edge_if (is_odd (start_place f e bs)) f ++ edge_if (is_odd (end_place e bs)) e ++ drop (end_place e bs) bs)
  unfolding replaced middle
  parts =
      append_assoc (take (start_place f e bs) bs) (edge_if (is_odd (start_place f e bs)) f ++ edge_if (is_odd (end_place e bs)) e) (drop (end_place e bs) bs)

  pub up-out : Up 0 (replaced (start_place f e bs) (end_place e bs) f e bs)
  up-out =
      rw parts
      (up-join 0 f (take (start_place f e bs) bs) _ (omega arith) (up-take (start_place f e bs) 0 bs u) ti
      (up-lay f e (drop (end_place e bs) bs) (is_odd (start_place f e bs)) (is_odd (end_place e bs)) h (up-drop (end_place e bs) 0 (e + 1) bs u dj)))

  pub below_out : (m : ℕ) → e < m → Below m bs → Below m (replaced (start_place f e bs) (end_place e bs) f e bs)
  unfolding replaced middle
  below_out m g b =
      below-join m _ (drop (end_place e bs) bs)
      (below-join m (take (start_place f e bs) bs) _ (below-take (start_place f e bs) m bs b) (below-lay m f e (is_odd (start_place f e bs)) (is_odd (end_place e bs)) (omega arith) g))
      (below-drop (end_place e bs) m bs b)

  module _ (x : ℕ) where
    pub out-before : x < f → is_missing x (replaced (start_place f e bs) (end_place e bs) f e bs) ≡ is_missing x bs
    out-before g =
        let i = start_place f e bs in
        let j = end_place e bs in
        let M = edge_if (is_odd i) f ++ edge_if (is_odd j) e in
        rw parts
        (above x (take i bs) (M ++ drop j bs)
        (from-join (x + 1) M (drop j bs) (from-lay (x + 1) f e (is_odd i) (is_odd j) (omega arith) (omega arith)) (from_less (x + 1) (e + 1) (drop j bs) (omega arith) dj))
        ∙ sym (above x (take i bs) (drop i bs) (from_less (x + 1) f (drop i bs) (omega arith) di))
        ∙ ap (is_missing x) (take-append-drop i bs))

    -- past all that stands before f
    out-from : f ≤ x → is_missing x (replaced (start_place f e bs) (end_place e bs) f e bs)
        ≡ turned (is_odd (start_place f e bs)) (is_missing x (edge_if (is_odd (start_place f e bs)) f ++ edge_if (is_odd (end_place e bs)) e ++ drop (end_place e bs) bs))
    out-from g =
        let i = start_place f e bs in
        let n : length (take i bs) ≡ i = length-take-le i bs i-within in
        ap (is_missing x) parts ∙ past x (take i bs) _ (below_more f (x + 1) (take i bs) (omega arith) ti) ∙ rw n

    pub out-inside : f ≤ x → x < e → is_missing x (replaced (start_place f e bs) (end_place e bs) f e bs) ≡ false
    out-inside g k =
        out-from g
        ∙ lay-inside x f e (drop (end_place e bs) bs) (is_odd (start_place f e bs)) (is_odd (end_place e bs)) g k
        (from_less (x + 1) (e + 1) (drop (end_place e bs) bs) (omega arith) dj)

    pub out-after : e ≤ x → is_missing x (replaced (start_place f e bs) (end_place e bs) f e bs) ≡ is_missing x bs
    out-after k =
        let j = end_place e bs in
        let n : length (take j bs) ≡ j = length-take-le j bs j-within in
        out-from (omega arith)
        ∙ lay-past x f e (drop j bs) (is_odd (start_place f e bs)) (is_odd j) (omega arith) k
        ∙ sym (past x (take j bs) (drop j bs) (below_more (e + 1) (x + 1) (take j bs) (omega arith) tj) ∙ rw n)
        ∙ ap (is_missing x) (take-append-drop j bs)
