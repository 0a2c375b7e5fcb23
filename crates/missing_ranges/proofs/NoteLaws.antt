-- What `note` answers and leaves, as the code has it: s is the state, l the lent words at entry.
use mathlib.Core.Path.{◌≡◌, refl, sym, ◌∙◌}
use mathlib.Core.List.{List, [], ◌∷◌}
use mathlib.Core.Bool.{Bool, true, false, not, ◌&&◌}
use Prim.Native.Nat.{ℕ, ◌+◌, ◌-◌, ◌/◌, ◌≤◌, ◌<◌}
use native.Mathlib.Omega.{arith}
use native.Mathlib.Nat.{zero-add}
use lib.ListN.{length, get_or, take, set, take-append-drop}
use lib.Seq.{length-take-le}
use lib.Dec.{ltb, leb}
use mir.Syntax.{w64}
use mir.Val.{Fits}
use borrow.Author.Tests.{le-leb, lt-leb, leb-true, eq-eqb, ne_eqb, not-true, not-false}
use Rattle.wire.specs.Output.{put}
use Rattle.wire.proofs.Outputs.{put-room, put-none}
use Rattle.missing_ranges.specs.Edges.{replaced, ranges_of, most_ranges}
use Rattle.missing_ranges.specs.declared.ranges.Missing.{Missing}
use Rattle.missing_ranges.specs.declared.ranges.Plan.{Plan}
use Rattle.missing_ranges.specs.Notes.{missing, Lent, lent, edges_in, is_usable, start_in, edges_after, top_after, is_kept, note_of, too_many, Fitting, Ready, Plans}
use Rattle.missing_ranges.proofs.EdgeLaws.{set-put}
use Rattle.missing_ranges.proofs.PlaceLaws.{past-le, place-le}
use Rattle.missing_ranges.proofs.ReplaceLaws.{middle-size}
use Rattle.missing_ranges.proofs.ShapeLaws.{without-as, without-none, one, Shape, shape_same, shape-replaced, shape-count, few, many}

-- ---- a state that is usable

module _ (s : Missing) (l : List ℕ) where
  pub usable-refused : s.refused ≡ true → false ≡ is_usable (lent s l)
  unfolding is_usable
  usable-refused h = rw h

  pub usable-many : s.refused ≡ false → most_ranges < s.closed → false ≡ is_usable (lent s l)
  unfolding is_usable
  usable-many h g = rw (h, lt-leb _ _ g)

  pub usable-words : s.refused ≡ false → s.closed ≤ most_ranges
      → leb (s.closed + s.closed + 1) (length l) ≡ is_usable (lent s l)
  unfolding is_usable
  usable-words h g = rw (h, le-leb _ _ g)

-- what that comes to
pub record Usable (x : Lent) : Type 0 where
  pub kept : x.missing.refused ≡ false
  pub few : x.missing.closed ≤ most_ranges
  pub there : x.missing.closed + x.missing.closed + 1 ≤ length x.edges

pub usable-so : (x : Lent) → is_usable x ≡ true → Usable x
unfolding is_usable
usable-so x =
    go x.missing.refused (leb x.missing.closed most_ranges) (leb (x.missing.closed + x.missing.closed + 1) (length x.edges)) refl refl refl
  where
    go : (r a b : Bool) → x.missing.refused ≡ r → leb x.missing.closed most_ranges ≡ a
        → leb (x.missing.closed + x.missing.closed + 1) (length x.edges) ≡ b → not r && a && b ≡ true → Usable x
    go false true true o p q e = record { kept = o; few = leb-true _ _ p; there = leb-true _ _ q }
    go false true false o p q e = let z : ◌≡◌ {A = ℕ} 0 1 = cc in absurd (omega arith)
    go false false b o p q e = let z : ◌≡◌ {A = ℕ} 0 1 = cc in absurd (omega arith)
    go true a b o p q e = let z : ◌≡◌ {A = ℕ} 0 1 = cc in absurd (omega arith)

pub usable-yes : (x : Lent) → x.missing.refused ≡ false → x.missing.closed ≤ most_ranges
    → x.missing.closed + x.missing.closed + 1 ≤ length x.edges → is_usable x ≡ true
unfolding is_usable
usable-yes x o h g = rw (o, le-leb _ _ h, le-leb _ _ g)

-- as the code has it: u is what `is_usable` answers
module _ (s : Missing) (l : List ℕ) (u : Bool) (p : u ≡ is_usable (lent s l)) (q : not u ≡ false) where
  is-usable : is_usable (lent s l) ≡ true
  is-usable = sym p ∙ not-false u q

  pub used-twice : Fits w64 (s.closed + s.closed)
  used-twice = let h = (usable-so (lent s l) is-usable).few in record { fits = omega arith }

  pub used-edges : Fits w64 (s.closed + s.closed + 1)
  used-edges = let h = (usable-so (lent s l) is-usable).few in record { fits = omega arith }

  pub used-last : s.closed + s.closed + 1 - 1 < length l
  used-last = let h = (usable-so (lent s l) is-usable).there in omega arith

  pub used-there : s.closed + s.closed + 1 ≤ length l
  used-there = (usable-so (lent s l) is-usable).there

  pub used-ready : (f e t : ℕ) → t ≡ top_after (lent s l) e → f < e → Ready (lent s l) f e t
  used-ready f e t et h = record { usable = is-usable; highest_is = et; carried = h }

-- ---- the start

pub start_none : (l : List ℕ) (n : ℕ) → length l ≡ 0 → lent (missing true 0 n) l ≡ start_in l n
unfolding start_in
start_none l n h = rw (eq-eqb _ _ h, put-none l 0 (n ∷ []) (omega arith))

pub start-some : (l : List ℕ) (n : ℕ) → (length l ≡ 0 → ⊥) → lent (missing false 0 n) (set l 0 n) ≡ start_in l n
unfolding start_in
start-some l n h = rw (ne_eqb _ _ h, set-put l 0 n (omega arith))

pub start-room : (l : List ℕ) → (length l ≡ 0 → ⊥) → 0 < length l
start-room l h = omega arith

-- ---- the answer

module _ (s : Missing) (l : List ℕ) (f e : ℕ) where
  no_answer : (r : Missing) → r ≡ missing true s.closed s.highest.0 → is_kept (lent s l) f e ≡ false
      → lent r l ≡ note_of (lent s l) f e
  unfolding note_of
  no_answer r er x = rw (x, er)

  yes-answer : (c t : ℕ) (out : List ℕ) → is_kept (lent s l) f e ≡ true → c ≡ length (edges_after (lent s l) f e) / 2
      → t ≡ top_after (lent s l) e → out ≡ put l 0 (edges_after (lent s l) f e)
      → lent (missing false c t) out ≡ note_of (lent s l) f e
  unfolding note_of
  yes-answer c t out x ec et eo = rw (x, ec, et, eo)

  kept-no : is_usable (lent s l) ≡ false → is_kept (lent s l) f e ≡ false
  unfolding is_kept
  kept-no h = rw h

  pub note-not : (u : Bool) → u ≡ is_usable (lent s l) → not u ≡ true → (r : Missing)
      → r ≡ missing true s.closed s.highest.0
      → lent r l ≡ note_of (lent s l) f e
  note-not u p q r er = no_answer r er (kept-no (sym p ∙ not-true u q))

  module _ (h : is_usable (lent s l) ≡ true) (t : ℕ) (et : t ≡ top_after (lent s l) e) where
    module _ (size last : ℕ) (shape : Shape (edges_after (lent s l) f e) size last) where
      kept-room : length l < size → is_kept (lent s l) f e ≡ false
      unfolding is_kept
      kept-room x =
          let y : length l < length (edges_after (lent s l) f e) = omega (arith, shape.long) in rw (h, lt-leb _ _ y)

      ranges-are : length (ranges_of (top_after (lent s l) e) (edges_after (lent s l) f e)) ≡ size / 2 + one (ltb last t)
      ranges-are = shape-count (top_after (lent s l) e) (edges_after (lent s l) f e) size last shape ∙ rw et

      kept_full : size ≤ length l → too_many (size / 2) last t ≡ true → is_kept (lent s l) f e ≡ false
      unfolding is_kept
      kept_full x z =
          let y : length (edges_after (lent s l) f e) ≤ length l = omega (arith, shape.long) in
          let w : most_ranges < length (ranges_of (top_after (lent s l) e) (edges_after (lent s l) f e)) = rw ranges-are (many (size / 2) last t z) in
          rw (h, le-leb _ _ y, lt-leb _ _ w)

      kept-all : size ≤ length l → too_many (size / 2) last t ≡ false → is_kept (lent s l) f e ≡ true
      unfolding is_kept
      kept-all x z =
          let y : length (edges_after (lent s l) f e) ≤ length l = omega (arith, shape.long) in
          let w : length (ranges_of (top_after (lent s l) e) (edges_after (lent s l) f e)) ≤ most_ranges = rw ranges-are (few (size / 2) last t z) in
          rw (h, le-leb _ _ y, le-leb _ _ w)

    -- ---- nothing is carried

    module _ (none : e ≤ f) where
      g : s.closed + s.closed + 1 ≤ length l
      g = (usable-so (lent s l) h).there

      same_edges : edges_after (lent s l) f e ≡ edges_in (lent s l)
      same_edges = without-none f e (edges_in (lent s l)) none

      same_shape : Shape (edges_after (lent s l) f e) (s.closed + s.closed + 1) (get_or l (s.closed + s.closed + 1 - 1) 0)
      same_shape = rw same_edges (shape_same l s.closed g)

      half : (s.closed + s.closed + 1) / 2 ≡ s.closed
      half = omega arith

      none-full : (r : Missing) → r ≡ missing true s.closed s.highest.0
          → too_many s.closed (get_or l (s.closed + s.closed + 1 - 1) 0) t ≡ true → lent r l ≡ note_of (lent s l) f e
      none-full r er z = no_answer r er (kept_full _ _ same_shape g (rw half z))

      none-few : too_many s.closed (get_or l (s.closed + s.closed + 1 - 1) 0) t ≡ false
          → lent (missing false s.closed t) l ≡ note_of (lent s l) f e
      none-few z =
          let n = s.closed + s.closed + 1 in
          let len : length (take n l) ≡ n = length-take-le n l g in
          let there = g in
          let same : put l 0 (take n l)
          ≡ l = put-room l 0 (take n l) (omega arith) ∙ rw (len, zero-add n) (take-append-drop n l) in
          yes-answer s.closed t l (kept-all _ _ same_shape g (rw half z)) (rw (same_edges, len) (sym half)) et (rw same_edges (sym same))

  -- u is what `is_usable` answers, b what `too_many`
  module _ (u : Bool) (p : u ≡ is_usable (lent s l)) (q : not u ≡ false) (t : ℕ) (et : t ≡ top_after (lent s l) e) (none : e ≤ f)
      (b : Bool) (eb : b ≡ too_many s.closed (get_or l (s.closed + s.closed + 1 - 1) 0) t) where
    pub none-many : b ≡ true → (r : Missing) → r ≡ missing true s.closed s.highest.0
        → lent r l ≡ note_of (lent s l) f e
    none-many z r er = none-full (is-usable s l u p q) t et none r er (sym eb ∙ z)

    pub none_kept : b ≡ false → lent (missing false s.closed t) l ≡ note_of (lent s l) f e
    none_kept z = none-few (is-usable s l u p q) t et none (sym eb ∙ z)

-- ---- numbers are carried: j is the place behind e, i that before f

module _ (s : Missing) (l : List ℕ) (f e t : ℕ) (ready : Ready (lent s l) f e t) where
  use-it : Usable (lent s l)
  use-it = usable-so (lent s l) ready.usable

  pub ready-few : s.closed + s.closed + 1 ≤ 8193
  ready-few = omega (arith, use-it.few)

  pub ready-there : s.closed + s.closed + 1 ≤ length l
  ready-there = use-it.there

  pub ready-twice : Fits w64 (s.closed + s.closed)
  ready-twice = let h = use-it.few in record { fits = omega arith }

  pub ready-edges : Fits w64 (s.closed + s.closed + 1)
  ready-edges = let h = use-it.few in record { fits = omega arith }

  module _ (p : Plan) (plans : Plans p l (s.closed + s.closed + 1) f e) where
    place-fits : p.j ≤ s.closed + s.closed + 1
    place-fits = let w = past-le e l (s.closed + s.closed + 1) in omega (arith, plans.second)

    first_fits : p.i ≤ p.j
    first_fits = let w = place-le f l p.j in omega (arith, plans.first)

    cut-edges : edges_after (lent s l) f e ≡ replaced p.i p.j f e (take (s.closed + s.closed + 1) l)
    cut-edges =
        without-as f e l (s.closed + s.closed + 1) p.i p.j ready-there ready.carried plans.second plans.first

    shape : Shape (edges_after (lent s l) f e) p.size p.last
    shape =
        rw (plans.many, plans.last_is, cut-edges)
        (shape-replaced l s.closed (s.closed + s.closed + 1) p.i p.j f e refl ready-there first_fits place-fits)

    pub cut-room : length l < p.size → (r : Missing) → r ≡ missing true s.closed s.highest.0
        → lent r l ≡ note_of (lent s l) f e
    cut-room x r er = no_answer s l f e r er (kept-room s l f e ready.usable t ready.highest_is _ _ shape x)

    pub cut-fitting : p.size ≤ length l → Fitting l (s.closed + s.closed + 1) p.i p.j f e
    cut-fitting x =
        record {
          rising = first_fits;
          among = place-fits;
          there = ready-there;
          room = omega (arith, middle-size p.i p.j f e, plans.many);
        }

    module _ (x : p.size ≤ length l) (b : Bool) (eb : b ≡ too_many (p.size / 2) p.last t) where
      pub cut-many : b ≡ true → (r : Missing) → r ≡ missing true s.closed s.highest.0
          → lent r l ≡ note_of (lent s l) f e
      cut-many z r er =
          no_answer s l f e r er (kept_full s l f e ready.usable t ready.highest_is _ _ shape x (sym eb ∙ z))

      pub cut-kept : b ≡ false → (out : List ℕ)
          → out ≡ put l 0 (replaced p.i p.j f e (take (s.closed + s.closed + 1) l))
          → lent (missing false (p.size / 2) t) out ≡ note_of (lent s l) f e
      cut-kept z out eo =
          yes-answer s l f e _ t out (kept-all s l f e ready.usable t ready.highest_is _ _ shape x (sym eb ∙ z)) (rw shape.long)
          ready.highest_is (eo ∙ rw cut-edges)
