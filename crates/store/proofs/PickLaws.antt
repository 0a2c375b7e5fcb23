-- The messages that an answer takes, as the code of `pick` has them: of all lengths ks those before a place, so many from
-- there on of which the most that fit are taken, and those behind; d is how many bytes the data has.
use Prim.Native.Nat.{ℕ, ◌+◌, ◌-◌, ◌≤◌, ◌<◌}
use mathlib.Core.List.{List}
use mathlib.Core.Bool.{Bool, true, false}
use mathlib.Core.Path.{◌≡◌, refl, sym, ap, ◌∙◌}
use native.Mathlib.Omega.{arith}
use lib.ListN.{length, take, drop, length-take}
use lib.Seq.{length-take-le, take-take, drop-drop}
use lib.Dec.{leb}
use borrow.Author.Tests.{leb-true, leb-false, le-leb, eq-eqb, ne_eqb}
use mir.Val.{Fits}
use mir.Syntax.{w64}
use Rattle.std.specs.Prelude.{if◌then◌else◌, Option, Some, None}
use Rattle.wire.proofs.Numbers.{part_to_end}
use Rattle.moldudp64_writer.specs.Writer.{total, left_after}
use Rattle.moldudp64_writer.proofs.LengthLaws.{total-parts}
use Rattle.packing.specs.declared.fit.Fit.{Fit}
use Rattle.packing.specs.Fit.{most_that_fit, fitting}
use Rattle.packing.proofs.FitLaws.{is_most}
use Rattle.store.specs.Steps.{wanted_lengths, TakesMost, pick_of}

-- ---- parts of the lengths

pub before-count : (ks : List ℕ) (place : ℕ) → place ≤ length ks → length (take place ks) ≡ place
before-count ks place h = length-take-le place ks h

pub behind-so : (ks : List ℕ) (place d : ℕ) (x : Option ℕ) → x ≡ left_after (take (length ks - place) (drop place ks)) d → x ≡ left_after (drop place ks) d
behind-so ks place d x e = rw (part_to_end place ks) at e

-- those that are taken are among those that are wanted
within_count : (ks : List ℕ) (place count room : ℕ) → most_that_fit room (wanted_lengths ks place count) ≤ count
within_count ks place count room = omega (arith, (is_most room (wanted_lengths ks place count)).fits.there, length-take count (drop place ks))

pub takes-so : (ks : List ℕ) (place count room : ℕ) (fit : Fit) → place + count ≤ length ks → fit ≡ fitting room (take (place + count - place) (drop place ks))
    → TakesMost fit ks place count room
takes-so ks place count room fit h e =
    let z : place + count - place ≡ count = omega arith in
    let m : fit ≡ fitting room (wanted_lengths ks place count) = rw z at e in
    record { most = m; among = omega (arith, ap (λ (x : Fit). x.count) m, within_count ks place count room) }

pub behind-fits : (ks : List ℕ) (place count room : ℕ) (fit : Fit) → TakesMost fit ks place count room → Fits w64 (length ks) → Fits w64 (place + fit.count)
behind-fits ks place count room fit t f = record { fits = omega (arith, t.among, f.fits) }

-- ---- all of them

not-whole : (ks : List ℕ) (d place count room : ℕ) → (total ks ≡ d → ⊥) → None ≡ pick_of ks d place count room
unfolding pick_of
not-whole ks d place count room z = rw (ne_eqb _ _ z)

-- what is left of so many bytes, or that they aren't enough
record Leaves (ks : List ℕ) (d left : ℕ) : Type 0 where
  enough : total ks ≤ d
  rest : left ≡ d - total ks

leaves : (ks : List ℕ) (d left : ℕ) → Some left ≡ left_after ks d → Leaves ks d left
leaves ks d left e = go (leb (total ks) d) refl e
  where
    go : (t : Bool) → leb (total ks) d ≡ t → ◌≡◌ {A = Option ℕ} (Some left) (if t then Some (d - total ks) else None) → Leaves ks d left
    go true b f = record { enough = leb-true _ _ b; rest = cc }
    go false b f = let z : ◌≡◌ {A = ℕ} 0 1 = cc in absurd (omega arith)

lacks : (ks : List ℕ) (d : ℕ) → None ≡ left_after ks d → d < total ks
lacks ks d e = go (leb (total ks) d) refl e
  where
    go : (t : Bool) → leb (total ks) d ≡ t → ◌≡◌ {A = Option ℕ} None (if t then Some (d - total ks) else None) → d < total ks
    go true b f = let z : ◌≡◌ {A = ℕ} 0 1 = cc in absurd (omega arith)
    go false b f = leb-false _ _ b

none-left : (ks : List ℕ) (d : ℕ) → total ks ≡ d → left_after ks d ≡ Some 0
none-left ks d e =
    let l : total ks ≤ d = omega arith in
    let z : d - total ks ≡ 0 = omega arith in
    rw (le-leb _ _ l, z)

module _ (ks : List ℕ) (d place count room : ℕ) (before : Option ℕ) (eb : before ≡ left_after (take place ks) d) where
  pub pick-before : before ≡ None → None ≡ pick_of ks d place count room
  pick-before h =
      let l = lacks (take place ks) d (sym h ∙ eb) in
      not-whole ks d place count room (λ (z : total ks ≡ d). omega (arith, total-parts place ks))

  module _ (left : ℕ) (hl : before ≡ Some left) where
    the-rest : Leaves (take place ks) d left
    the-rest = leaves (take place ks) d left (sym hl ∙ eb)

    pub before-less : left ≤ d
    before-less = omega (arith, the-rest.rest)

    module _ (fit : Fit) (tf : TakesMost fit ks place count room) where
      as_many : fit.count ≡ most_that_fit room (wanted_lengths ks place count)
      as_many = ap (λ (x : Fit). x.count) tf.most

      their-bytes : fit.bytes ≡ total (take (most_that_fit room (wanted_lengths ks place count)) (wanted_lengths ks place count))
      their-bytes = ap (λ (x : Fit). x.bytes) tf.most

      -- before, of and behind the messages taken
      three-parts : total ks ≡ total (take place ks) + fit.bytes + total (drop (place + fit.count) ks)
      three-parts =
          let t = take-take (most_that_fit room (wanted_lengths ks place count)) count (drop place ks) (within_count ks place count room) in
          let b : fit.bytes ≡ total (take fit.count (drop place ks)) = rw as_many (their-bytes ∙ ap total t) in
          let q = rw drop-drop at (total-parts fit.count (drop place ks)) in
          omega (arith, total-parts place ks, b, q)

      pub pick-fit : left < fit.bytes → None ≡ pick_of ks d place count room
      pick-fit l = not-whole ks d place count room (λ (z : total ks ≡ d). omega (arith, the-rest.rest, three-parts, the-rest.enough))

      module _ (hf : fit.bytes ≤ left) (rest : ℕ) (hr : rest ≡ left - fit.bytes) (behind : Option ℕ)
          (ea : behind ≡ left_after (drop (place + fit.count) ks) rest) where
        pub pick-behind : (behind ≡ Some 0 → ⊥) → None ≡ pick_of ks d place count room
        pick-behind n =
            not-whole ks d place count room
            (λ (z : total ks ≡ d).
            let e : total (drop (place + fit.count) ks) ≡ rest = omega (arith, the-rest.rest, three-parts, the-rest.enough) in
            n (ea ∙ none-left (drop (place + fit.count) ks) rest e))

        pub pick-whole : behind ≡ Some 0 → Some (record { from = d - left; count = fit.count; bytes = fit.bytes }) ≡ pick_of ks d place count room
        unfolding pick_of
        pick-whole h =
            let l = leaves (drop (place + fit.count) ks) rest 0 (sym h ∙ ea) in
            let w : total ks ≡ d = omega (arith, the-rest.rest, l.rest, l.enough, three-parts, the-rest.enough) in
            let f : d - left ≡ total (take place ks) = omega (arith, the-rest.rest, the-rest.enough) in
            rw (eq-eqb _ _ w, f, as_many, their-bytes)
