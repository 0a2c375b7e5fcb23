-- The packet at a place: the loop of `reach`, in which left groups are still to be passed, and then one turn.
use Prim.Native.Nat.{ℕ, zero, suc, ◌+◌, ◌-◌, ◌≤◌, ◌<◌, ◌^◌}
use mathlib.Core.List.{List}
use mathlib.Core.Path.{◌≡◌, refl, sym, ap, ◌∙◌}
use native.Mathlib.Omega.{arith}
use native.Mathlib.Nat.{add-zero}
use lib.ListN.{length, take, drop, length-drop, drop_of_length-le}
use lib.Seq.{drop-drop}
use mir.Val.{Fits}
use mir.Syntax.{w64}
use borrow.Author.Tests.{ne_eqb}
use Rattle.wire.specs.Output.{Writes}
use Rattle.wire.specs.Output.{Written}
use Rattle.moldudp64_writer.specs.Writer.{total}
use Rattle.packing.specs.declared.fit.Fit.{Fit}
use Rattle.packing.specs.Fit.{most_that_fit, fitting}
use Rattle.packing.proofs.FitLaws.{is_most}
use Rattle.packing.proofs.PartLaws.{total-take, total-drop}
use Rattle.transmitter.specs.declared.turns.Progress.{Progress}
use Rattle.transmitter.specs.Transmitter.{run_ground, transmit_ground, packet_at}
use Rattle.transmitter.specs.Turns.{beginning, next_ground, next_bytes}
use Rattle.transmitter.specs.Walk.{past, past_groups}
use Rattle.transmitter.proofs.RunLaws.{good}
use Rattle.transmitter.proofs.PlaceLaws.{Reached, reached-start, reached-all, same_ground, same_bytes}

-- ---- the loop

pub record Walking (room : ℕ) (ks : List ℕ) (place : ℕ) (p : Progress) (left : ℕ) : Type 0 where
  pub makes : past_groups room ks p left ≡ past_groups room ks beginning place
  pub sum : p.bytes + total (drop p.messages ks) ≡ total ks
  pub inside : p.messages ≤ length ks

pub walking_start : (room : ℕ) (ks : List ℕ) (place : ℕ) → Walking room ks place beginning place
walking_start room ks place = record { makes = refl; sum = omega arith; inside = omega arith }

-- a run that is passed whole stays so
none-past : (room : ℕ) (ks : List ℕ) (p : Progress) → length ks ≤ p.messages → past p (fitting room (drop p.messages ks)) ≡ p
unfolding most_that_fit total
none-past room ks p h = rw (drop_of_length-le ks {i = p.messages} h, add-zero p.messages, add-zero p.bytes)

past_end : (room : ℕ) (ks : List ℕ) (p : Progress) (k : ℕ) → length ks ≤ p.messages → past_groups room ks p k ≡ p
unfolding past_groups
past_end room ks p zero h = refl
past_end room ks p (suc k) h = rw (none-past room ks p h) (past_end room ks p k h)

module _ (room : ℕ) (ks : List ℕ) (place : ℕ) (p : Progress) (left : ℕ) (w : Walking room ks place p left) where
  pub walking-end : left ≤ 0 → p ≡ past_groups room ks beginning place
  unfolding past_groups
  walking-end h = let z : left ≡ 0 = omega arith in rw z at w.makes

  pub walking-stop : length ks ≤ p.messages → p ≡ past_groups room ks beginning place
  walking-stop h = sym (past_end room ks p left h) ∙ w.makes

  module _ (g : Fit) (e : g ≡ fitting room (drop p.messages ks)) where
    few : g.count ≤ length ks - p.messages
    few = rw e (omega (arith, (is_most room (drop p.messages ks)).fits.there, length-drop p.messages ks))

    is_sum : g.bytes ≡ total (take g.count (drop p.messages ks))
    is_sum = rw e

    small : g.bytes ≤ total (drop p.messages ks)
    small = rw e (total-take (most_that_fit room (drop p.messages ks)) (drop p.messages ks))

    pub walking-counts : Fits w64 (length ks) → p.messages + g.count < 2 ^ 64
    walking-counts f = omega (arith, few, w.inside)

    pub walking-sums : total ks < 2 ^ 64 → p.bytes + g.bytes < 2 ^ 64
    walking-sums f = omega (arith, small, w.sum)

    pub walking-next : 0 < left → (q : Progress) → q ≡ past p g → Walking room ks place q (left - 1)
    unfolding past_groups
    walking-next h q f = go left h w.makes
      where
        go : (k : ℕ) → 0 < k → past_groups room ks p k ≡ past_groups room ks beginning place → Walking room ks place q (k - 1)
        go zero i m = absurd (omega arith)
        go (suc k) i m =
            let z : suc k - 1 ≡ k = omega arith in
            rw (z, f) (record {
              makes = rw e m;
              sum = omega (arith, w.sum, small, is_sum, total-drop g.count (drop p.messages ks), ap total (drop-drop g.count p.messages ks));
              inside = omega (arith, few, w.inside);
            })

-- ---- the packet, as code that has t as the run's ground

module _ (size n : ℕ) (ks d : List ℕ) (place t : ℕ) (e : t ≡ run_ground size n ks d) where
  pub place-refused : (t ≡ 0 → ⊥) → t ≡ transmit_ground size n ks d place
  unfolding transmit_ground
  place-refused z = rw (← e, ne_eqb _ _ z)

  pub run_fits : t ≡ 0 → Fits w64 (length d) → total ks < 2 ^ 64
  run_fits z f = let w = (good size n ks d (sym e ∙ z)).whole in omega arith

  module _ (z : t ≡ 0) (room : ℕ) (p : Progress) (q : room ≡ size - 20) (f : p ≡ past_groups room ks beginning place) where
    reached : Reached size ks d place p
    reached =
        let i : 0 + place ≡ place = omega arith in
        rw (f, q) (rw i at (reached-all size n ks d (good size n ks d (sym e ∙ z)) place 0 beginning (reached-start size ks d)))

    pub place-written : (w : Written) (l m s : List ℕ) → Writes w l m (next_ground size n ks d p) 0 (next_bytes s size n ks d p)
        → Writes w l m (transmit_ground size n ks d place) 0 (packet_at s size n ks d place)
    place-written w l m s h =
        let g = good size n ks d (sym e ∙ z) in
        rw (← same_ground size n ks d g place p reached (sym e ∙ z), ← same_bytes size n ks d g place p reached (sym e ∙ z) s) h
