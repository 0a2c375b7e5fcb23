-- How far the first i groups of a run reach, and that a turn from there is for the packet at place i.
use Prim.Native.Nat.{ℕ, zero, suc, ◌+◌, ◌-◌, ◌≤◌, ◌<◌}
use mathlib.Core.List.{List, [], ◌∷◌}
use mathlib.Core.Bool.{true}
use mathlib.Core.Path.{◌≡◌, refl, sym, ap, ◌∙◌}
use native.Mathlib.Omega.{arith}
use native.Mathlib.Numerals.{add-one}
use lib.ListN.{length, get_or, take, drop, length-append, length-drop}
use lib.Seq.{drop-cons, drop-drop, drop-nil, take-nil, get_or-drop, length-take-le}
use borrow.Author.Tests.{le-leb, lt-leb}
use Rattle.wire.proofs.Cases.{below_or_not}
use Rattle.moldudp64_writer.specs.Writer.{cut, total, lengths_of}
use Rattle.moldudp64_writer.proofs.CutLaws.{cut-count}
use Rattle.packing.specs.Fit.{each_fits, most_that_fit, fitting}
use Rattle.packing.proofs.FitLaws.{first_alone, is_most, packing-promises}
use Rattle.packing.proofs.GroupLaws.{lengths-drop, lengths-cut}
use Rattle.packing.proofs.PartLaws.{cut-part, part-whole}
use Rattle.transmitter.specs.declared.turns.Progress.{Progress}
use Rattle.transmitter.specs.Cutting.{Message, Group, taken, cut_up_to, cutting, flat, start_of, group_at}
use Rattle.transmitter.specs.Transmitter.{groups_of, run_ground, transmit_ground, packet_at}
use Rattle.transmitter.specs.Turns.{beginning, next_lengths, next_data, next_ground, next_bytes, IsAtPlace}
use Rattle.transmitter.specs.Walk.{past, past_groups}
use Rattle.transmitter.proofs.CuttingLaws.{each-later}
use Rattle.transmitter.proofs.RunLaws.{Good}
use Rattle.transmitter.proofs.GroundLaws.{next-good, next-none}

-- ---- one group of the cutting

-- the first group and those behind it, where the fuel is enough
record FirstOf (room fuel : ℕ) (ms : List Message) : Type 0 where
  first : get_or (cut_up_to fuel room ms) 0 [] ≡ take (taken room ms) ms
  left : ℕ
  enough : length (drop (taken room ms) ms) ≤ left
  behind : drop 1 (cut_up_to fuel room ms) ≡ cut_up_to left room (drop (taken room ms) ms)
  some : 1 ≤ length ms → 1 ≤ length (cut_up_to fuel room ms)
  none : length ms ≡ 0 → length (cut_up_to fuel room ms) ≡ 0

first_of : (room fuel : ℕ) (ms : List Message) → length ms ≤ fuel → each_fits room (lengths_of ms) ≡ true → FirstOf room fuel ms
unfolding cut_up_to lengths_of taken
first_of room zero [] l h =
    record { first = sym (take-nil (taken room [])); left = 0; enough = rw drop-nil (omega arith); behind = refl; some = λ z. z; none = λ z. z }
first_of room zero (m ∷ ms) l h = absurd (omega arith)
first_of room (suc f) [] l h =
    record { first = sym (take-nil (taken room [])); left = 0; enough = rw drop-nil (omega arith); behind = refl; some = λ z. z; none = λ z. z }
first_of room (suc f) (m ∷ ms) l h =
    let one = packing-promises.some room (length m) (lengths_of ms) (first_alone room (length m) (lengths_of ms) h) in
    record {
      first = refl;
      left = f;
      enough = omega (arith, length-drop (taken room (m ∷ ms)) (m ∷ ms));
      behind = refl;
      some = λ z. omega arith;
      none = λ z. absurd (omega arith);
    }

-- so many groups and one more
start-next : (gs : List Group) (i : ℕ) → start_of gs (suc i) ≡ start_of gs i + length (group_at gs i)
unfolding flat
start-next [] zero = refl
start-next [] (suc i) = refl
start-next (g ∷ gs) zero = omega (arith, length-append g (flat (take 0 gs)))
start-next (g ∷ gs) (suc i) = omega (arith, length-append g (flat (take (suc i) gs)), length-append g (flat (take i gs)), start-next gs i)

total-more : (m c : ℕ) (ks : List ℕ) → total (take (m + c) ks) ≡ total (take m ks) + total (take c (drop m ks))
unfolding total
total-more zero c ks = let e : 0 + c ≡ c = omega arith in rw e (omega arith)
total-more (suc m) c [] = let e : suc m + c ≡ suc (m + c) = omega arith in rw (e, take-nil) (omega arith)
total-more (suc m) c (k ∷ ks) = let e : suc m + c ≡ suc (m + c) = omega arith in rw e (omega (arith, total-more m c ks))

-- ---- how far the first i groups reach

pub record Reached (size : ℕ) (ks d : List ℕ) (i : ℕ) (p : Progress) : Type 0 where
  pub count : p.messages ≡ start_of (groups_of size ks d) i
  pub sum : p.bytes ≡ total (take p.messages ks)
  pub inside : p.messages ≤ length ks
  pub fuel : ℕ
  pub enough : length (drop p.messages (cut ks d)) ≤ fuel
  pub rest : drop i (groups_of size ks d) ≡ cut_up_to fuel (size - 20) (drop p.messages (cut ks d))

pub reached-start : (size : ℕ) (ks d : List ℕ) → Reached size ks d 0 beginning
unfolding flat total cutting
reached-start size ks d =
    record { count = refl; sum = refl; inside = omega arith; fuel = length (cut ks d); enough = omega arith; rest = refl }

module _ (size n : ℕ) (ks d : List ℕ) (g : Good size n ks d) (i : ℕ) (p : Progress) (r : Reached size ks d i p) where
  abbrev room : ℕ
  room = size - 20

  abbrev ms : List Message
  ms = cut ks d

  abbrev m : ℕ
  m = p.messages

  abbrev c : ℕ
  c = most_that_fit room (drop m ks)

  left-lengths : lengths_of (drop m ms) ≡ drop m ks
  left-lengths = sym (lengths-drop m ms) ∙ ap (drop m) (lengths-cut ks d g.whole)

  is-taken : taken room (drop m ms) ≡ c
  unfolding taken
  is-taken = rw left-lengths

  left-count : length (drop m ms) ≡ length ks - m
  left-count = omega (arith, length-drop m ms, cut-count ks d)

  few : c ≤ length ks - m
  few = omega (arith, (is_most room (drop m ks)).fits.there, length-drop m ks)

  here : FirstOf room r.fuel (drop m ms)
  here = first_of room r.fuel (drop m ms) r.enough (rw left-lengths (each-later room m ks g.each))

  its-group : group_at (groups_of size ks d) i ≡ take c (drop m ms)
  its-group =
      let e : i + 0 ≡ i = omega arith in
      let h : get_or (drop i (groups_of size ks d)) 0 [] ≡ get_or (groups_of size ks d) i [] = rw e at (get_or-drop i (groups_of size ks d) 0 []) in
      sym h ∙ ap (λ (gs : List Group). get_or gs 0 []) r.rest ∙ here.first ∙ ap (λ (k : ℕ). take k (drop m ms)) is-taken

  pub reached-next : Reached size ks d (suc i) (past p (fitting room (drop m ks)))
  reached-next =
      record {
        count = omega (arith, start-next (groups_of size ks d) i, ap length its-group, length-take-le c (drop m ms) (omega (arith, few, left-count)), r.count);
        sum = omega (arith, total-more m c ks, r.sum);
        inside = omega (arith, few, r.inside);
        fuel = here.left;
        enough = rw (← drop-drop c m ms, ← is-taken) here.enough;
        rest =
            ap (λ (k : ℕ). drop k (groups_of size ks d)) (sym (add-one i))
            ∙ sym (drop-drop 1 i (groups_of size ks d))
            ∙ ap (drop 1) r.rest
            ∙ here.behind
            ∙ ap (cut_up_to here.left room) (ap (λ (k : ℕ). drop k (drop m ms)) is-taken ∙ drop-drop c m ms);
      }

  -- ---- a turn from there

  -- there is a group exactly where a message is left
  group-there : m < length ks → i < length (groups_of size ks d)
  group-there h = omega (arith, here.some (omega (arith, left-count)), ap length r.rest, length-drop i (groups_of size ks d))

  group-not : length ks ≤ m → length (groups_of size ks d) ≤ i
  group-not h = omega (arith, here.none (omega (arith, left-count)), ap length r.rest, length-drop i (groups_of size ks d))

  one-taken : m < length ks → 1 ≤ c
  one-taken h =
      let e = drop-cons ks m 0 h in
      rw e (packing-promises.some room (get_or ks m 0) (drop (suc m) ks) (first_alone room (get_or ks m 0) (drop (suc m) ks) (rw e at (each-later room m ks g.each))))

  there-good : m < length ks → next_ground size n ks d p ≡ 0
  there-good h =
      let w = part-whole m c ks d g.whole in
      next-good size n ks d p g.size-fine h (rw (← r.sum) at w) (λ z. g.nonzero (omega arith)) (omega (arith, few, g.numbers)) (one-taken h)

  module _ (e : run_ground size n ks d ≡ 0) where
    pub same_ground : next_ground size n ks d p ≡ transmit_ground size n ks d i
    unfolding transmit_ground
    same_ground =
        below_or_not _ m (length ks)
        (λ h. there-good h ∙ rw (e, lt-leb (length (groups_of size ks d)) i (group-there h)))
        (λ h. next-none size n ks d p g.size-fine h ∙ rw (e, le-leb (length (groups_of size ks d)) i (group-not h)))

    pub same_bytes : (s : List ℕ) → next_bytes s size n ks d p ≡ packet_at s size n ks d i
    unfolding next_bytes packet_at next_lengths next_data
    same_bytes s = rw (r.sum, cut-part m c ks d, its-group, ← r.count)

    pub is-at-place : (s : List ℕ) → IsAtPlace s size n ks d p i
    is-at-place s = record { same_ground = same_ground; same_bytes = λ z. same_bytes s }

-- ---- so many groups one after another

pub reached-all : (size n : ℕ) (ks d : List ℕ) → Good size n ks d → (k i : ℕ) (p : Progress) → Reached size ks d i p
    → Reached size ks d (i + k) (past_groups (size - 20) ks p k)
unfolding past_groups
reached-all size n ks d g zero i p r = let e : i + 0 ≡ i = omega arith in rw e r
reached-all size n ks d g (suc k) i p r =
    let e : i + suc k ≡ suc i + k = omega arith in
    rw e (reached-all size n ks d g k (suc i) _ (reached-next size n ks d g i p r))
