-- The ranges read out, as the code has them: s is the state, l the lent words.
use mathlib.Core.Path.{◌≡◌, refl, ap, sym, ◌∙◌}
use mathlib.Core.List.{List, [], ◌∷◌}
use mathlib.Core.Bool.{Bool, true, false, not}
use Prim.Native.Nat.{ℕ, zero, suc, ◌+◌, ◌-◌, ◌/◌, ◌≤◌, ◌<◌}
use native.Mathlib.Omega.{arith}
use lib.ListN.{length, get_or, take, drop}
use lib.Seq.{length-take-le, get_or-take}
use lib.Dec.{ltb}
use mir.Syntax.{w64}
use mir.Val.{Fits}
use borrow.Author.Tests.{lt-ltb, le-ltb, ltb-true, ne_eqb, not-true, not-false}
use Rattle.std.specs.Prelude.{Option, Some, None}
use Rattle.wire.specs.Bounds.{up_to}
use Rattle.wire.proofs.Numbers.{part_to_end}
use Rattle.missing_ranges.specs.Edges.{Range, range, ranges_of, total_from}
use Rattle.missing_ranges.specs.declared.ranges.Missing.{Missing}
use Rattle.missing_ranges.specs.declared.listing.Listed.{Listed}
use Rattle.missing_ranges.specs.Notes.{lent, is_usable, ranges_in, total_in, range_at}
use Rattle.missing_ranges.specs.Listing.{IsRange, first_of, last_of}
use Rattle.missing_ranges.proofs.ShapeLaws.{one, shape_same, shape-count}
use Rattle.missing_ranges.proofs.NoteLaws.{usable-so}

-- ---- how many numbers: what is still to be counted makes the whole

pub record Counting (top : ℕ) (bs : List ℕ) (n : ℕ) (es : List ℕ) : Type 0 where
  pub makes : total_from n (ranges_of top es) ≡ total_from 0 (ranges_of top bs)

pub counting-start : (top : ℕ) (bs : List ℕ) → Counting top bs 0 bs
counting-start top bs = record { makes = refl }

total-both : (n top a b : ℕ) (es : List ℕ)
    → total_from n (ranges_of top (a ∷ b ∷ es)) ≡ total_from (up_to n (b - 1 + 1 - a)) (ranges_of top es)
unfolding ranges_of total_from
total-both n top a b es = refl

total-none : (n top : ℕ) → total_from n (ranges_of top []) ≡ n
unfolding ranges_of total_from
total-none n top = refl

total-shut : (n top a : ℕ) → top ≤ a → total_from n (ranges_of top (a ∷ [])) ≡ n
unfolding ranges_of total_from
total-shut n top a h = rw (le-ltb _ _ h)

total-open : (n top a : ℕ) → a < top → total_from n (ranges_of top (a ∷ [])) ≡ up_to n (top - 1 + 1 - a)
unfolding ranges_of total_from
total-open n top a h = rw (lt-ltb _ _ h)

pub counting-step : (top : ℕ) (bs : List ℕ) (n : ℕ) (es : List ℕ) (z m : ℕ) → Counting top bs n es → 2 ≤ length es
    → z ≡ get_or es 1 0 - 1 + 1 - get_or es 0 0 → m ≡ up_to n z → Counting top bs m (take (length es - 2) (drop 2 es))
counting-step top bs n [] z m c h e f = absurd (omega arith)
counting-step top bs n (a ∷ []) z m c h e f = absurd (omega arith)
counting-step top bs n (a ∷ b ∷ es) z m c h e f =
    rw (part_to_end 2 (a ∷ b ∷ es)) (record { makes = rw (f, e) (sym (total-both n top a b es) ∙ c.makes) })

pub count_none : (top : ℕ) (bs : List ℕ) (n : ℕ) (es : List ℕ) → Counting top bs n es → length es ≡ 0
    → n ≡ total_from 0 (ranges_of top bs)
count_none top bs n [] c h = sym (total-none n top) ∙ c.makes
count_none top bs n (a ∷ es) c h = absurd (omega arith)

pub count-shut : (top : ℕ) (bs : List ℕ) (n : ℕ) (es : List ℕ) → Counting top bs n es → length es < 2
    → (length es ≡ 0 → ⊥) → top ≤ get_or es 0 0 → n ≡ total_from 0 (ranges_of top bs)
count-shut top bs n [] c h z g = absurd (z refl)
count-shut top bs n (a ∷ []) c h z g = sym (total-shut n top a g) ∙ c.makes
count-shut top bs n (a ∷ b ∷ es) c h z g = absurd (omega arith)

pub count-open : (top : ℕ) (bs : List ℕ) (n : ℕ) (es : List ℕ) (y m : ℕ) → Counting top bs n es → length es < 2
    → (length es ≡ 0 → ⊥) → get_or es 0 0 < top → y ≡ top - 1 + 1 - get_or es 0 0 → m ≡ up_to n y
    → m ≡ total_from 0 (ranges_of top bs)
count-open top bs n [] y m c h z g e f = absurd (z refl)
count-open top bs n (a ∷ []) y m c h z g e f = f ∙ rw e (sym (total-open n top a g) ∙ c.makes)
count-open top bs n (a ∷ b ∷ es) y m c h z g e f = absurd (omega arith)

-- ---- how many ranges

module _ (s : Missing) (l : List ℕ) where
  ranges-none : is_usable (lent s l) ≡ false → ranges_in (lent s l) ≡ []
  unfolding ranges_in
  ranges-none h = rw h

  ranges-are : is_usable (lent s l) ≡ true
      → ranges_in (lent s l) ≡ ranges_of s.highest.0 (take (s.closed + s.closed + 1) l)
  unfolding ranges_in
  ranges-are h = rw h

  count-are : is_usable (lent s l) ≡ true
      → length (ranges_in (lent s l)) ≡ s.closed + one (ltb (get_or l (s.closed + s.closed) 0) s.highest.0)
  count-are h =
      let k = s.closed in
      let top = s.highest.0 in
      let u = usable-so (lent s l) h in
      let c = shape-count top (take (k + k + 1) l) (k + k + 1) (get_or l (k + k + 1 - 1) 0) (shape_same l k u.there) in
      let e : k + k + 1 - 1 ≡ k + k = omega arith in
      let f : (k + k + 1) / 2 ≡ k = omega arith in
      ap length (ranges-are h) ∙ c ∙ rw (e, f)

  -- u is what `is_usable` answers
  module _ (u : Bool) (p : u ≡ is_usable (lent s l)) where
    pub list-none : not u ≡ true → 0 ≡ length (ranges_in (lent s l))
    list-none q = sym (ap length (ranges-none (sym p ∙ not-true u q)))

    pub sum-none : not u ≡ true → 0 ≡ total_in (lent s l)
    unfolding total_from
    sum-none q = rw (ranges-none (sym p ∙ not-true u q))

    module _ (q : not u ≡ false) where
      usable : is_usable (lent s l) ≡ true
      usable = sym p ∙ not-false u q

      pub list-twice : Fits w64 (s.closed + s.closed)
      list-twice = let h = (usable-so (lent s l) usable).few in record { fits = omega arith }

      pub list-edges : Fits w64 (s.closed + s.closed + 1)
      list-edges = let h = (usable-so (lent s l) usable).few in record { fits = omega arith }

      pub list-more : Fits w64 (s.closed + 1)
      list-more = let h = (usable-so (lent s l) usable).few in record { fits = omega arith }

      pub list-last : s.closed + s.closed < length l
      list-last = let h = (usable-so (lent s l) usable).there in omega arith

      pub list-part : length (take (s.closed + s.closed + 1) l) ≡ s.closed + s.closed + 1
      list-part = length-take-le (s.closed + s.closed + 1) l (usable-so (lent s l) usable).there

      pub list_open : get_or l (s.closed + s.closed) 0 < s.highest.0 → s.closed + 1 ≡ length (ranges_in (lent s l))
      unfolding one
      list_open h = sym (count-are usable ∙ rw (lt-ltb _ _ h))

      pub list-shut : s.highest.0 ≤ get_or l (s.closed + s.closed) 0 → s.closed ≡ length (ranges_in (lent s l))
      unfolding one
      list-shut h = sym (count-are usable ∙ rw (le-ltb _ _ h) (omega arith))

      pub sum-all : (r : ℕ) → r ≡ total_from 0 (ranges_of s.highest.0 (take (s.closed + s.closed + 1) l))
          → r ≡ total_in (lent s l)
      sum-all r h = h ∙ rw (ranges-are usable)

-- ---- the range at a place

at_next : (p : ℕ) (r : Range) (rs : List Range) → range_at (suc p) (r ∷ rs) ≡ range_at p rs
unfolding range_at
at_next p r rs =
    let z : suc p ≡ 0 → ⊥ = λ e. absurd (omega arith) in
    let q : suc p - 1 ≡ p = omega arith in
    rw (ne_eqb _ _ z, q)

at_first : (r : Range) (rs : List Range) → r ∷ rs ≡ range_at 0 (r ∷ rs) ∷ rs
unfolding range_at
at_first r rs = refl

at_none : (p : ℕ) (rs : List Range) → length rs ≤ p → range_at p rs ≡ range 0 0
unfolding range_at
at_none p [] h = refl
at_none zero (r ∷ rs) h = absurd (omega arith)
at_none (suc p) (r ∷ rs) h = at_next p r rs ∙ at_none p rs (omega arith)

-- q is twice the place
at-closed : (top : ℕ) (bs : List ℕ) (p q : ℕ) → q ≡ p + p → q + 1 < length bs
    → range_at p (ranges_of top bs) ≡ range (get_or bs q 0) (get_or bs (q + 1) 0 - 1)
unfolding range_at ranges_of
at-closed top [] p q e h = absurd (omega arith)
at-closed top (a ∷ []) p q e h = absurd (omega arith)
at-closed top (a ∷ b ∷ bs) zero q e h = let z : q ≡ 0 = omega arith in rw z
at-closed top (a ∷ b ∷ bs) (suc p) zero e h = absurd (omega arith)
at-closed top (a ∷ b ∷ bs) (suc p) (suc zero) e h = absurd (omega arith)
at-closed top (a ∷ b ∷ bs) (suc p) (suc (suc q)) e h =
    let k : suc (suc q) + 1 ≡ suc (suc (q + 1)) = omega arith in
    at_next p (range a (b - 1)) (ranges_of top bs) ∙ at-closed top bs p q (omega arith) (omega arith) ∙ rw k

at_open : (top : ℕ) (bs : List ℕ) (p q : ℕ) → q ≡ p + p → length bs ≡ q + 1 → get_or bs q 0 < top
    → range_at p (ranges_of top bs) ≡ range (get_or bs q 0) (top - 1)
unfolding range_at ranges_of
at_open top [] p q e h g = absurd (omega arith)
at_open top (a ∷ []) zero zero e h g = rw (lt-ltb _ _ g)
at_open top (a ∷ []) zero (suc q) e h g = absurd (omega arith)
at_open top (a ∷ []) (suc p) q e h g = absurd (omega arith)
at_open top (a ∷ b ∷ bs) zero q e h g = absurd (omega arith)
at_open top (a ∷ b ∷ bs) (suc p) zero e h g = absurd (omega arith)
at_open top (a ∷ b ∷ bs) (suc p) (suc zero) e h g = absurd (omega arith)
at_open top (a ∷ b ∷ bs) (suc p) (suc (suc q)) e h g =
    at_next p (range a (b - 1)) (ranges_of top bs) ∙ at_open top bs p q (omega arith) (omega arith) g

one-most : (b : Bool) → one b ≤ 1
unfolding one
one-most true = omega arith
one-most false = omega arith

open-so : (a top p n : ℕ) → n ≡ p + one (ltb a top) → p < n → a < top
unfolding one
open-so a top p n = go (ltb a top) refl
  where
    go : (b : Bool) → ltb a top ≡ b → n ≡ p + one b → p < n → a < top
    go true q e h = ltb-true _ _ q
    go false q e h = absurd (omega arith)

-- n is what `count` answers
module _ (s : Missing) (l : List ℕ) (n place : ℕ) (en : n ≡ length (ranges_in (lent s l))) where
  abbrev listed : ℕ → ℕ → Option Listed
  listed f t = Some (record { from = record { 0 = f }; to = record { 0 = t } })

  pub no-range : n ≤ place → IsRange None (lent s l) place
  unfolding first_of last_of
  no-range h =
      let g : length (ranges_in (lent s l)) ≤ place = omega arith in
      let e = at_none place (ranges_in (lent s l)) g in
      record { there = sym (le-ltb _ _ g); first = sym (ap (λ (r : Range). r.from) e); last = sym (ap (λ (r : Range). r.to) e) }

  module _ (h : place < n) where
    is-usable : is_usable (lent s l) ≡ true
    is-usable = go (is_usable (lent s l)) refl
      where
        go : (b : Bool) → is_usable (lent s l) ≡ b → is_usable (lent s l) ≡ true
        go true p = p
        go false p = let z : length (ranges_in (lent s l)) ≡ 0 = ap length (ranges-none s l p) in absurd (omega arith)

    place-most : place ≤ s.closed
    place-most =
        let c = count-are s l is-usable in
        let o = one-most (ltb (get_or l (s.closed + s.closed) 0) s.highest.0) in
        omega arith

    pub range-twice : Fits w64 (place + place)
    range-twice = let u = (usable-so (lent s l) is-usable).few in let p = place-most in record { fits = omega arith }

    pub range-from : place + place < length l
    range-from = let u = (usable-so (lent s l) is-usable).there in let p = place-most in omega arith

    pub range-next : place < s.closed → Fits w64 (place + place + 1)
    range-next g = let u = (usable-so (lent s l) is-usable).few in record { fits = omega arith }

    pub range-edge : place < s.closed → place + place + 1 < length l
    range-edge g = let u = (usable-so (lent s l) is-usable).there in omega arith

    there : true ≡ ltb place (length (ranges_in (lent s l)))
    there = let g : place < length (ranges_in (lent s l)) = omega arith in sym (lt-ltb _ _ g)

    pub range-closed : place < s.closed → (t : ℕ) → t ≡ get_or l (place + place + 1) 0 - 1
        → IsRange (listed (get_or l (place + place) 0) t) (lent s l) place
    unfolding first_of last_of
    range-closed g t et =
        let k = s.closed in
        let top = s.highest.0 in
        let u = (usable-so (lent s l) is-usable).there in
        let len : length (take (k + k + 1) l) ≡ k + k + 1 = length-take-le (k + k + 1) l u in
        let e : range_at place (ranges_in (lent s l))
        ≡ range (get_or l (place + place) 0) (get_or l (place + place + 1) 0 - 1) =
        ap (range_at place) (ranges-are s l is-usable)
        ∙ at-closed top (take (k + k + 1) l) place (place + place) refl (omega arith)
        ∙ rw (get_or-take (k + k + 1) l (place + place) 0 (omega arith), get_or-take (k + k + 1) l (place + place + 1) 0 (omega arith)) in
        record { there = there; first = sym (ap (λ (r : Range). r.from) e); last = et ∙ sym (ap (λ (r : Range). r.to) e) }

    pub range-open : s.closed ≤ place → (t : ℕ) → t ≡ s.highest.0 - 1
        → IsRange (listed (get_or l (place + place) 0) t) (lent s l) place
    unfolding first_of last_of
    range-open g t et =
        let k = s.closed in
        let top = s.highest.0 in
        let u = (usable-so (lent s l) is-usable).there in
        let len : length (take (k + k + 1) l) ≡ k + k + 1 = length-take-le (k + k + 1) l u in
        let q : place ≡ k = let p = place-most in omega arith in
        let o : get_or l (k + k) 0 < top = open-so (get_or l (k + k) 0) top k (length (ranges_in (lent s l))) (count-are s l is-usable) (omega arith) in
        let e : range_at place (ranges_in (lent s l)) ≡ range (get_or l (place + place) 0) (top - 1) =
        ap (range_at place) (ranges-are s l is-usable)
        ∙ at_open top (take (k + k + 1) l) place (place + place) refl (omega arith)
        (rw (get_or-take (k + k + 1) l (place + place) 0 (omega arith)) (rw q o))
        ∙ rw (get_or-take (k + k + 1) l (place + place) 0 (omega arith)) in
        record { there = there; first = sym (ap (λ (r : Range). r.from) e); last = et ∙ sym (ap (λ (r : Range). r.to) e) }
