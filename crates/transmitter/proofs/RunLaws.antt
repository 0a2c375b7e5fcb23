-- A whole run: its grounds as the code tests them, and what holds where there is none.
use Prim.Native.Nat.{ℕ, ◌+◌, ◌-◌, ◌≤◌, ◌<◌, max}
use mathlib.Core.List.{List, []}
use mathlib.Core.Bool.{Bool, true, false, not}
use mathlib.Core.Path.{◌≡◌, refl}
use native.Mathlib.Omega.{arith}
use native.Mathlib.Numerals.{add-one}
use lib.ListN.{length, get_or, drop, drop_of_length-le}
use lib.Seq.{drop-cons}
use lib.Dec.{eqb}
use mir.Val.{Fits}
use mir.Syntax.{w64}
use borrow.Author.Tests.{ltb-false, lt-ltb, le-ltb, le-leb, lt-leb, ne_eqb, eqb-true, eqb-false, not-false}
use Rattle.std.specs.Prelude.{if◌then◌else◌}
use Rattle.wire.proofs.Cases.{below_or_not}
use Rattle.moldudp64.specs.Downstream.{run_out}
use Rattle.moldudp64.proofs.DownstreamLaws.{past-ground}
use Rattle.moldudp64_writer.specs.Writer.{total, add_up}
use Rattle.packing.specs.Fit.{size_ground, fits_alone, each_fits}
use Rattle.packing.proofs.GroupLaws.{handed-on, size-good}
use Rattle.transmitter.specs.Transmitter.{run_ground}
use Rattle.transmitter.specs.Turns.{progress, beginning, start_of_run}

-- ---- each message fits alone: v is what they do from the start

module _ (room : ℕ) (ks : List ℕ) (i : ℕ) (v : Bool) (e : each_fits room (drop i ks) ≡ v) where
  module _ (h : i < length ks) where
    one : (if fits_alone room (get_or ks i 0) then each_fits room (drop (i + 1) ks) else false) ≡ v
    unfolding each_fits
    one = rw add-one (rw (drop-cons ks i 0 h) at e)

    pub each_next : get_or ks i 0 + 2 ≤ room → each_fits room (drop (i + 1) ks) ≡ v
    unfolding fits_alone
    each_next f = rw (le-leb (2 + get_or ks i 0) room (omega arith)) at one

    pub each-stop : room < get_or ks i 0 + 2 → false ≡ v
    unfolding fits_alone
    each-stop f = rw (lt-leb (2 + get_or ks i 0) room (omega arith)) at one

  pub each-end : length ks ≤ i → true ≡ v
  unfolding each_fits
  each-end h = let d : drop i ks ≡ [] = drop_of_length-le ks {i = i} h in rw d at e

pub each_none : (room : ℕ) (ks : List ℕ) → length ks ≡ 0 → true ≡ each_fits room ks
each_none room ks z = each-end room ks 0 (each_fits room ks) refl (omega arith)

-- n is the length of the longest of the first i
pub record Longest (room : ℕ) (ks : List ℕ) (i n : ℕ) : Type 0 where
  pub fits : n + 2 ≤ room → each_fits room (drop i ks) ≡ each_fits room ks
  pub passes : 2 ≤ room → room < n + 2 → false ≡ each_fits room ks

pub longest_none : (room : ℕ) (ks : List ℕ) → Longest room ks 0 0
longest_none room ks = record { fits = λ h. refl; passes = λ h g. absurd (omega arith) }

module _ {room : ℕ} {ks : List ℕ} {i n : ℕ} (l : Longest room ks i n) where
  pub longest_next : (m : ℕ) → i < length ks → m ≡ max n (get_or ks i 0) → Longest room ks (i + 1) m
  longest_next m h e =
      record {
        fits = λ f. each_next room ks i (each_fits room ks) (l.fits (omega arith)) h (omega arith);
        passes = λ t f. below_or_not _ room (n + 2) (l.passes t) (λ g. each-stop room ks i (each_fits room ks) (l.fits g) h (omega arith));
      }

  pub longest-fits : length ks ≤ i → n + 2 ≤ room → true ≡ each_fits room ks
  longest-fits h f = each-end room ks i (each_fits room ks) (l.fits f) h

  pub longest-passes : (length ks ≡ 0 → ⊥) → room < n + 2 → false ≡ each_fits room ks
  longest-passes z f =
      below_or_not _ room 2 (λ g. each-stop room ks 0 (each_fits room ks) refl (omega arith) (omega arith)) (λ g. l.passes g f)

-- ---- the ladder: g is the size's ground, b whether the lengths add up, z whether the number is 0, f whether each fits

module _ (size n : ℕ) (ks d : List ℕ) (g : ℕ) (s : g ≡ size_ground size) where
  pub run-19 : (g ≡ 0 → ⊥) → g ≡ run_ground size n ks d
  unfolding run_ground
  run-19 z = rw (← s, ne_eqb _ _ z)

  pub run-44 : (b : Bool) → g ≡ 0 → b ≡ add_up ks d → not b ≡ true → 44 ≡ run_ground size n ks d
  unfolding run_ground
  run-44 b z a t = rw (← s, z, ← a, t)

  pub run-13 : (b o : Bool) → g ≡ 0 → b ≡ add_up ks d → not b ≡ false → o ≡ eqb n 0 → o ≡ true → 13 ≡ run_ground size n ks d
  unfolding run_ground
  run-13 b o z a t p u = rw (← s, z, ← a, t, ← p, u)

  pub run-14 : (b o : Bool) → g ≡ 0 → b ≡ add_up ks d → not b ≡ false → o ≡ eqb n 0 → o ≡ false
      → 18446744073709551615 - n < length ks → 14 ≡ run_ground size n ks d
  unfolding run_ground
  run-14 b o z a t p u h = rw (← s, z, ← a, t, ← p, u, lt-ltb 18446744073709551615 (n + length ks) (omega arith))

  module _ (b o f : Bool) (z : g ≡ 0) (a : b ≡ add_up ks d) (t : not b ≡ false) (p : o ≡ eqb n 0) (u : o ≡ false)
      (h : length ks ≤ 18446744073709551615 - n) (w : Fits w64 n) (r : ℕ) (q : r ≡ size - 20) (k : f ≡ each_fits r ks) where
    pub run-52 : not f ≡ true → 52 ≡ run_ground size n ks d
    unfolding run_ground
    run-52 v = rw (← s, z, ← a, t, ← p, u, le-ltb 18446744073709551615 (n + length ks) (omega arith), ← q, ← k, v)

    pub run-good : not f ≡ false → 0 ≡ run_ground size n ks d
    unfolding run_ground
    run-good v = rw (← s, z, ← a, t, ← p, u, le-ltb 18446744073709551615 (n + length ks) (omega arith), ← q, ← k, v)

-- ---- a run that isn't refused

pub record Good (size n : ℕ) (ks d : List ℕ) : Type 0 where
  pub size-fine : size_ground size ≡ 0
  pub large : 22 ≤ size
  pub small : size ≤ 65507
  pub whole : total ks ≡ length d
  pub nonzero : n ≡ 0 → ⊥
  pub numbers : n + length ks ≤ 18446744073709551615
  pub each : each_fits (size - 20) ks ≡ true

pub good : (size n : ℕ) (ks d : List ℕ) → run_ground size n ks d ≡ 0 → Good size n ks d
unfolding run_ground
good size n ks d e =
    let a = handed-on (size_ground size) _ e in
    let b = size-good size a.0 in
    let f = past-ground (not (add_up ks d)) _ _ a.1 (omega arith) in
    let g = past-ground (eqb n 0) _ _ f.1 (omega arith) in
    let h = past-ground (run_out n (length ks)) _ _ g.1 (omega arith) in
    let i = past-ground (not (each_fits (size - 20) ks)) _ _ h.1 (omega arith) in
    record {
      size-fine = a.0;
      large = b.0;
      small = b.1;
      whole = eqb-true _ _ (not-false _ f.0);
      nonzero = eqb-false _ _ g.0;
      numbers = ltb-false _ _ h.0;
      each = not-false _ i.0;
    }

-- ---- its start, as code that has g as the run's ground

module _ (size n : ℕ) (ks d : List ℕ) (g : ℕ) (e : g ≡ run_ground size n ks d) where
  pub start-refused : (g ≡ 0 → ⊥) → progress (length ks) (length d) ≡ start_of_run size n ks d
  unfolding start_of_run
  start-refused z = rw (← e, ne_eqb _ _ z)

  pub start-good : g ≡ 0 → beginning ≡ start_of_run size n ks d
  unfolding start_of_run
  start-good z = rw (← e, z)
