-- A turn's grounds: of the definitions, and as the code tests them. g is the group, x its data.
use Prim.Native.Nat.{ℕ, ◌+◌, ◌-◌, ◌≤◌, ◌<◌}
use mathlib.Core.List.{List}
use mathlib.Core.Path.{◌≡◌, refl, sym, ◌∙◌}
use native.Mathlib.Omega.{arith}
use lib.ListN.{length, take, drop, drop_of_length-le}
use lib.Seq.{length-take-le}
use mir.Val.{Fits}
use mir.Syntax.{w64}
use borrow.Author.Tests.{lt-ltb, le-ltb, le-leb, lt-leb, eq-eqb, ne_eqb}
use Rattle.wire.proofs.Numbers.{part_to_end}
use Rattle.moldudp64_writer.specs.Writer.{total}
use Rattle.packing.specs.declared.fit.Fit.{Fit}
use Rattle.packing.specs.Fit.{size_ground, most_that_fit, fitting}
use Rattle.packing.proofs.FitLaws.{is_most}
use Rattle.transmitter.specs.declared.turns.Progress.{Progress}
use Rattle.transmitter.specs.Turns.{next_lengths, next_data, next_ground}
use Rattle.transmitter.specs.Walk.{group_ground}

-- ---- the group

pub group-none : (room : ℕ) (ks : List ℕ) (from : ℕ) → length ks ≤ from → ◌≡◌ {A = Fit} (record { count = 0; bytes = 0 }) (fitting room (drop from ks))
unfolding most_that_fit total
group-none room ks from h = rw (drop_of_length-le ks {i = from} h)

pub group-some : (room : ℕ) (ks : List ℕ) (from : ℕ) (r : Fit) → r ≡ fitting room (take (length ks - from) (drop from ks)) → r ≡ fitting room (drop from ks)
group-some room ks from r e = rw (part_to_end from ks) at e

pub group-room : (size r : ℕ) (ks : List ℕ) (g : Fit) → r ≡ size - 20 → g ≡ fitting r ks → g ≡ fitting (size - 20) ks
group-room size r ks g f q = rw f at q

-- ---- the ladder behind the size

module _ (n all : ℕ) (p : Progress) (g : Fit) (have : ℕ) where
  pub ground-54 : all ≤ p.messages → 54 ≡ group_ground n all p g have
  unfolding group_ground
  ground-54 h = rw (le-leb _ _ h)

  module _ (h : p.messages < all) where
    pub ground-44 : (g.bytes ≡ have → ⊥) → 44 ≡ group_ground n all p g have
    unfolding group_ground
    ground-44 e = rw (lt-leb _ _ h, ne_eqb _ _ e)

    module _ (e : g.bytes ≡ have) where
      pub ground-14 : g.count ≤ all - p.messages → Fits w64 all → 18446744073709551615 - n < p.messages + g.count → 14 ≡ group_ground n all p g have
      unfolding group_ground
      ground-14 f w i =
          rw (lt-leb _ _ h, eq-eqb _ _ e, ne_eqb (n + p.messages) 0 (λ z. omega arith), lt-ltb 18446744073709551615 (n + p.messages + g.count) (omega arith))

      pub ground-13 : n + p.messages ≡ 0 → 13 ≡ group_ground n all p g have
      unfolding group_ground
      ground-13 z = rw (lt-leb _ _ h, eq-eqb _ _ e, z)

      module _ (i : p.messages + g.count ≤ 18446744073709551615 - n) (w : Fits w64 n) (z : n + p.messages ≡ 0 → ⊥) where
        pub ground-52 : g.count ≡ 0 → 52 ≡ group_ground n all p g have
        unfolding group_ground
        ground-52 k = rw (lt-leb _ _ h, eq-eqb _ _ e, ne_eqb _ _ z, le-ltb 18446744073709551615 (n + p.messages + g.count) (omega arith), k)

        pub ground-good : (g.count ≡ 0 → ⊥) → 0 ≡ group_ground n all p g have
        unfolding group_ground
        ground-good k = rw (lt-leb _ _ h, eq-eqb _ _ e, ne_eqb _ _ z, le-ltb 18446744073709551615 (n + p.messages + g.count) (omega arith), ne_eqb _ _ k)

-- ---- the whole ladder

module _ (size n : ℕ) (ks d : List ℕ) (p : Progress) where
  pub next-19 : (size_ground size ≡ 0 → ⊥) → size_ground size ≡ next_ground size n ks d p
  unfolding next_ground
  next-19 z = rw (ne_eqb _ _ z) refl

  abbrev c : ℕ
  c = most_that_fit (size - 20) (drop p.messages ks)

  pub its-count : length (next_lengths size ks p) ≡ c
  unfolding next_lengths
  its-count = length-take-le c (drop p.messages ks) (is_most (size - 20) (drop p.messages ks)).fits.there

  pub its-data : total (next_lengths size ks p) ≡ (fitting (size - 20) (drop p.messages ks)).bytes
  unfolding next_lengths
  its-data = refl

  by-group : size_ground size ≡ 0
      → group_ground n (length ks) p (fitting (size - 20) (drop p.messages ks)) (length (next_data size ks d p)) ≡ next_ground size n ks d p
  unfolding next_ground group_ground
  by-group s = rw (s, its-count, its-data)

  pub next-behind : (g : Fit) (x : List ℕ) → size_ground size ≡ 0 → g ≡ fitting (size - 20) (drop p.messages ks) → x ≡ take g.bytes (drop p.bytes d)
      → group_ground n (length ks) p g (length x) ≡ next_ground size n ks d p
  unfolding next_data next_lengths
  next-behind g x z q a = rw (a, q) (by-group z)

  module _ (s : size_ground size ≡ 0) where
    pub next-none : length ks ≤ p.messages → next_ground size n ks d p ≡ 54
    next-none h = sym (by-group s) ∙ sym (ground-54 n (length ks) p _ _ h)

    pub next-good : p.messages < length ks → total (take c (drop p.messages ks)) ≡ length (take (total (take c (drop p.messages ks))) (drop p.bytes d))
        → (n + p.messages ≡ 0 → ⊥) → n + p.messages + c ≤ 18446744073709551615 → 1 ≤ c → next_ground size n ks d p ≡ 0
    unfolding next_data next_lengths group_ground
    next-good h w z i k =
        sym (by-group s) ∙ rw (lt-leb _ _ h, eq-eqb _ _ w, ne_eqb _ _ z, le-ltb 18446744073709551615 (n + p.messages + c) i, ne_eqb c 0 (omega arith))
