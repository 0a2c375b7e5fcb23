-- Lent words with room enough hold the edges of all that is missing, unless it is refused.
use mathlib.Core.Path.{◌≡◌, refl, ap, sym, ◌∙◌}
use mathlib.Core.List.{List, [], ◌∷◌, ◌++◌}
use mathlib.Core.Bool.{Bool, true, false, ◌&&◌}
use Prim.Native.Nat.{ℕ, suc, ◌+◌, ◌-◌, ◌/◌, ◌%◌, ◌≤◌, ◌<◌}
use native.Mathlib.Omega.{arith}
use lib.ListN.{length, take, drop}
use lib.Seq.{take_at}
use lib.Dec.{leb}
use borrow.Author.Tests.{le-ltb, le-leb, lt-leb, leb-true, leb-false, ne_eqb}
use Rattle.wire.specs.Output.{put}
use Rattle.wire.proofs.Cases.{below_or_not}
use Rattle.wire.proofs.Outputs.{put-room, length-put}
use Rattle.missing_ranges.specs.Edges.{place_past, place_of, without, ranges_of, most_ranges}
use Rattle.missing_ranges.specs.Notes.{missing, room, Lent, lent, edges_in, is_usable, ranges_in, start_in, later, edges_after, is_kept, note_of}
use Rattle.missing_ranges.specs.Meaning.{Said, over, noted, highest_of, Exactly, NeedsMore, RefusesTooMany}
use Rattle.missing_ranges.proofs.PlaceLaws.{past-le, place-le}
use Rattle.missing_ranges.proofs.ShapeLaws.{without-as, without-none, count-ranges, shape_same, shape-replaced}
use Rattle.missing_ranges.proofs.NoteLaws.{Usable, usable-so, usable-yes}
use Rattle.missing_ranges.proofs.MeaningLaws.{edges_over, all_edges, all_ranges, lists-all}

-- ---- edges laid at the front of lent words

-- edges of an odd number are what the words then hold
laid : (l bs : List ℕ) → length bs ≤ length l → length bs % 2 ≡ 1
    → take (length bs / 2 + length bs / 2 + 1) (put l 0 bs) ≡ bs
laid l bs h o =
    let e : length bs / 2 + length bs / 2 + 1 ≡ length bs = omega arith in
    rw (e, put-room l 0 bs (omega arith)) (take_at bs (drop (0 + length bs) l) (length bs) refl)

-- lent words that hold edges and the highest next number, with room for all that are ever kept
pub record Holding (x : Lent) (bs : List ℕ) (top : ℕ) : Type 0 where
  pub usable : is_usable x ≡ true
  pub same : edges_in x ≡ bs
  pub top-is : x.missing.highest.0 ≡ top
  pub few : length (ranges_of top bs) ≤ most_ranges
  pub enough : room ≤ length x.edges

-- the ranges are those of the edges
pub ranges-held : (x : Lent) (bs : List ℕ) (top : ℕ) → Holding x bs top → ranges_in x ≡ ranges_of top bs
unfolding ranges_in
ranges-held x bs top h = rw (h.usable, h.same, h.top-is)

none_yet : (n : ℕ) → ranges_of n (n ∷ []) ≡ []
unfolding ranges_of
none_yet n = let h : n ≤ n = omega arith in rw (le-ltb _ _ h)

start_is : (l : List ℕ) (n : ℕ) → room ≤ length l → start_in l n ≡ lent (missing false 0 n) (put l 0 (n ∷ []))
unfolding start_in
start_is l n h = let z : length l ≡ 0 → ⊥ = λ e. absurd (omega arith) in rw (ne_eqb _ _ z)

pub start-holds : (l : List ℕ) (n : ℕ) → room ≤ length l → Holding (start_in l n) (n ∷ []) n
start-holds l n h =
    let m = put l 0 (n ∷ []) in
    let len : length m ≡ length l = length-put l 0 (n ∷ []) in
    let z : length (ranges_of n (n ∷ [])) ≡ 0 = ap length (none_yet n) in
    rw (start_is l n h)
    (record {
      usable = usable-yes (lent (missing false 0 n) m) refl (omega arith) (omega arith);
      same = laid l (n ∷ []) (omega arith) refl;
      top-is = refl;
      few = omega arith;
      enough = omega arith;
    })

-- ---- a step

-- the edges after a step are an odd number
after-odd : (x : Lent) (f e : ℕ) → Usable x → length (edges_after x f e) % 2 ≡ 1
after-odd x f e u = below_or_not _ f e some none
  where
    some : f < e → length (edges_after x f e) % 2 ≡ 1
    some g =
        let l = x.edges in
        let k = x.missing.closed in
        let n = k + k + 1 in
        let j = place_past e l n in
        let i = place_of f l j in
        let w = without-as f e l n i j u.there g refl refl in
        let z = shape-replaced l k n i j f e refl u.there (place-le f l j) (past-le e l n) in
        rw (w, z.long) z.odd

    none : e ≤ f → length (edges_after x f e) % 2 ≡ 1
    none g =
        let z = shape_same x.edges x.missing.closed u.there in rw (without-none f e (edges_in x) g, z.long) z.odd

-- half of the edges are ranges
half-ranges : (top : ℕ) (bs : List ℕ) → length bs % 2 ≡ 1 → length bs / 2 ≤ length (ranges_of top bs)
half-ranges top bs o =
    let p : length bs ≡ suc (length bs - 1) = omega arith in
    let c = count-ranges top bs (length bs - 1) p o in
    omega arith

-- with room enough only the ranges decide
room-is : (n top : ℕ) (bs : List ℕ) → room ≤ n → length bs % 2 ≡ 1
    → leb (length bs) n && leb (length (ranges_of top bs)) most_ranges ≡ leb (length (ranges_of top bs)) most_ranges
room-is n top bs h o = below_or_not _ n (length bs) beyond within
  where
    beyond : n < length bs
        → leb (length bs) n && leb (length (ranges_of top bs)) most_ranges ≡ leb (length (ranges_of top bs)) most_ranges
    beyond g =
        let k = half-ranges top bs o in
        let z : most_ranges < length (ranges_of top bs) = omega arith in
        rw (lt-leb _ _ g, lt-leb _ _ z)

    within : length bs ≤ n
        → leb (length bs) n && leb (length (ranges_of top bs)) most_ranges ≡ leb (length (ranges_of top bs)) most_ranges
    within g = rw (le-leb _ _ g)

module _ (x : Lent) (bs : List ℕ) (top : ℕ) (h : Holding x bs top) (f e : ℕ) where
  after_is : edges_after x f e ≡ without f e bs
  after_is = ap (without f e) h.same

  odd-then : length (without f e bs) % 2 ≡ 1
  odd-then = rw (← after_is) (after-odd x f e (usable-so x h.usable))

  kept-is : is_kept x f e ≡ leb (length (ranges_of (later top e) (without f e bs))) most_ranges
  unfolding is_kept
  kept-is =
      rw (h.usable, after_is, h.top-is) (room-is (length x.edges) (later top e) (without f e bs) h.enough odd-then)

  -- what is kept
  yes-is : is_kept x f e ≡ true
      → note_of x f e ≡ lent (missing false (length (without f e bs) / 2) (later top e)) (put x.edges 0 (without f e bs))
  unfolding note_of
  yes-is p = rw (p, after_is, h.top-is)

  step-yes : is_kept x f e ≡ true → Holding (note_of x f e) (without f e bs) (later top e)
  step-yes p =
      let cs = without f e bs in
      let m = put x.edges 0 cs in
      let o = odd-then in
      let q : length (ranges_of (later top e) cs) ≤ most_ranges = leb-true _ _ (sym kept-is ∙ p) in
      let k = half-ranges (later top e) cs o in
      let g = h.enough in
      let len : length m ≡ length x.edges = length-put x.edges 0 cs in
      rw (yes-is p)
      (record {
        usable = usable-yes (lent (missing false (length cs / 2) (later top e)) m) refl (omega arith) (omega arith);
        same = laid x.edges cs (omega arith) o;
        top-is = refl;
        few = q;
        enough = omega arith;
      })

  -- what isn't
  no-is : is_kept x f e ≡ false → (note_of x f e).missing.refused ≡ true
  unfolding note_of
  no-is p = rw p

  step-either : (P : Type 0) → (is_kept x f e ≡ true → P) → (is_kept x f e ≡ false → P) → P
  step-either P a b = go (is_kept x f e) refl
    where
      go : (t : Bool) → is_kept x f e ≡ t → P
      go true p = a p
      go false p = b p

  pub step-holds : (note_of x f e).missing.refused ≡ false → Holding (note_of x f e) (without f e bs) (later top e)
  step-holds r = step-either _ step-yes (λ p. let n = no-is p in let z : ◌≡◌ {A = ℕ} 0 1 = cc in absurd (omega arith))

  pub step-many : (note_of x f e).missing.refused ≡ true → most_ranges < length (ranges_of (later top e) (without f e bs))
  step-many r = step-either _
      (λ p. let n : (note_of x f e).missing.refused ≡ false = ap (λ (y : Lent). y.missing.refused) (yes-is p) in
      let z : ◌≡◌ {A = ℕ} 0 1 = cc in absurd (omega arith))
      (λ p. leb-false _ _ (sym kept-is ∙ p))

-- ---- what was refused stays so

no_more : (x : Lent) (f e : ℕ) → x.missing.refused ≡ true → is_kept x f e ≡ false
unfolding is_kept is_usable
no_more x f e h = rw h

pub stays : (x : Lent) (d : Said) → x.missing.refused ≡ true → note_of x d.first d.next ≡ x
unfolding note_of
stays x d h =
    rw (no_more x d.first d.next h)
    (ap (λ (b : Bool). lent (missing b x.missing.closed x.missing.highest.0) x.edges) (sym h))

pub stays_over : (x : Lent) (ds : List Said) → x.missing.refused ≡ true → over x ds ≡ x
unfolding over
stays_over x [] h = refl
stays_over x (d ∷ ds) h = ap (λ (y : Lent). over y ds) (stays x d h) ∙ stays_over x ds h

refused_over : (x : Lent) (ds : List Said) → x.missing.refused ≡ true → (over x ds).missing.refused ≡ true
refused_over x ds r = ap (λ (y : Lent). y.missing.refused) (stays_over x ds r) ∙ r

-- ---- one after the other

pub over-holds : (ds : List Said) (x : Lent) (bs : List ℕ) (top : ℕ) → Holding x bs top
    → (over x ds).missing.refused ≡ false
    → Holding (over x ds) (edges_over bs ds) (highest_of top ds)
unfolding over edges_over highest_of
over-holds [] x bs top h r = h
over-holds (d ∷ ds) x bs top h r =
    go (note_of x d.first d.next).missing.refused refl
    (λ g. over-holds ds (note_of x d.first d.next) (without d.first d.next bs) (later top d.next) g r)
  where
    go : (t : Bool) → (note_of x d.first d.next).missing.refused ≡ t
        → (Holding (note_of x d.first d.next) (without d.first d.next bs) (later top d.next)
        → Holding (over (note_of x d.first d.next) ds) (edges_over (without d.first d.next bs) ds) (highest_of (later top d.next) ds))
        → Holding (over (note_of x d.first d.next) ds) (edges_over (without d.first d.next bs) ds) (highest_of (later top d.next) ds)
    go false p i = i (step-holds x bs top h d.first d.next p)
    go true p i =
        let s : (over (note_of x d.first d.next) ds).missing.refused ≡ true =
        ap (λ (y : Lent). y.missing.refused) (stays_over (note_of x d.first d.next) ds p) ∙ p in
        let z : ◌≡◌ {A = ℕ} 0 1 = cc in
        absurd (omega arith)

-- whatever else the lent words were, the same is refused
not_refused : (x : Lent) (bs : List ℕ) (top : ℕ) → Holding x bs top → x.missing.refused ≡ false
not_refused x bs top h = (usable-so x h.usable).kept

both-over : (ds : List Said) (x y : Lent) (bs : List ℕ) (top : ℕ) → Holding x bs top → Holding y bs top
    → (over x ds).missing.refused ≡ (over y ds).missing.refused
unfolding over
both-over [] x y bs top h k = not_refused x bs top h ∙ sym (not_refused y bs top k)
both-over (d ∷ ds) x y bs top h k =
    let f = d.first in
    let e = d.next in
    let same : is_kept y f e ≡ is_kept x f e = kept-is y bs top k f e ∙ sym (kept-is x bs top h f e) in
    let i = both-over ds (note_of x f e) (note_of y f e) (without f e bs) (later top e) in
    step-either x bs top h f e _ (λ p. i (step-yes x bs top h f e p) (step-yes y bs top k f e (same ∙ p)))
    (λ p. refused_over (note_of x f e) ds (no-is x bs top h f e p) ∙ sym (refused_over (note_of y f e) ds (no-is y bs top k f e (same ∙ p))))

pub words-agree : (l m : List ℕ) (n : ℕ) (ds : List Said) → room ≤ length l → room ≤ length m
    → (noted l n ds).missing.refused ≡ (noted m n ds).missing.refused
words-agree l m n ds h k = both-over ds (start_in l n) (start_in m n) (n ∷ []) n (start-holds l n h) (start-holds m n k)

-- the state after ds, unless refused: usable, with the edges of all that is missing
pub noted-holds : (l : List ℕ) (n : ℕ) (ds : List Said) → room ≤ length l → (noted l n ds).missing.refused ≡ false
    → Holding (noted l n ds) (all_edges n ds) (highest_of n ds)
noted-holds l n ds h r = over-holds ds (start_in l n) (n ∷ []) n (start-holds l n h) r

pub noted-ranges : (l : List ℕ) (n : ℕ) (ds : List Said) → room ≤ length l → (noted l n ds).missing.refused ≡ false
    → ranges_in (noted l n ds) ≡ all_ranges n ds
noted-ranges l n ds h r = ranges-held (noted l n ds) (all_edges n ds) (highest_of n ds) (noted-holds l n ds h r)

pub exactly : Exactly
unfolding Exactly
exactly l n ds h r = rw (noted-ranges l n ds h r) (lists-all n ds)

-- ---- one more

edges_more : (bs : List ℕ) (ds : List Said) (d : Said)
    → edges_over bs (ds ++ (d ∷ [])) ≡ without d.first d.next (edges_over bs ds)
unfolding edges_over
edges_more bs [] d = refl
edges_more bs (c ∷ ds) d = edges_more (without c.first c.next bs) ds d

highest-more : (n : ℕ) (ds : List Said) (d : Said) → highest_of n (ds ++ (d ∷ [])) ≡ later (highest_of n ds) d.next
unfolding highest_of
highest-more n [] d = refl
highest-more n (c ∷ ds) d = highest-more (later n c.next) ds d

keeps_few : (l : List ℕ) (n : ℕ) (ds : List Said) → room ≤ length l → (noted l n ds).missing.refused ≡ false
    → length (ranges_in (noted l n ds)) ≤ most_ranges
keeps_few l n ds h r = rw (noted-ranges l n ds h r) (noted-holds l n ds h r).few

refuses_many : (l : List ℕ) (n : ℕ) (ds : List Said) (d : Said) → room ≤ length l
    → (noted l n ds).missing.refused ≡ false
    → (note_of (noted l n ds) d.first d.next).missing.refused ≡ true → NeedsMore n (ds ++ (d ∷ []))
refuses_many l n ds d h r q =
    record {
      ranges = all_ranges n (ds ++ (d ∷ []));
      lists = lists-all n (ds ++ (d ∷ []));
      many =
          rw (edges_more (n ∷ []) ds d, highest-more n ds d)
          (step-many (noted l n ds) (all_edges n ds) (highest_of n ds) (noted-holds l n ds h r) d.first d.next q);
    }

pub refuses_too_many : RefusesTooMany
refuses_too_many = record { keeps_few = keeps_few; refuses_many = refuses_many; stays = stays }
