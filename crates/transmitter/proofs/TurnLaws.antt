-- A turn: what it writes and where it leads, and any list of turns.
use Prim.Native.Nat.{ℕ, suc, ◌+◌, ◌-◌, ◌≤◌, ◌<◌, ◌^◌}
use mathlib.Core.List.{List, [], ◌∷◌}
use mathlib.Core.Bool.{Bool, true, false, not}
use mathlib.Core.Path.{◌≡◌, refl, sym, ap, ◌∙◌}
use native.Mathlib.Omega.{arith}
use lib.ListN.{length, take, drop, length-take, length-drop}
use lib.Dec.{leb, eqb}
use mir.Val.{Fits}
use mir.Syntax.{w64}
use borrow.Author.Tests.{ltb-false, leb-false, eq-eqb, ne_eqb, eqb-true, eqb-false, not-false}
use Rattle.std.specs.Prelude.{if◌then◌else◌}
use Rattle.wire.specs.Words.{says, refuses}
use Rattle.wire.specs.Output.{wrote, written_words, write_refusal, write_answer, Writes}
use Rattle.wire.specs.declared.refusal.Refusal.{Refusal}
use Rattle.wire.specs.Output.{Written}
use Rattle.std.specs.Prelude.{Ok, Err}
use Rattle.wire.proofs.Words.{which-of}
use Rattle.wire.proofs.Outputs.{wrote_so, no-write-refusal}
use Rattle.moldudp64.specs.Downstream.{run_out}
use Rattle.moldudp64.proofs.DownstreamLaws.{past-ground}
use Rattle.moldudp64_writer.specs.Writer.{total, add_up, encoded_cut, packet_ground}
use Rattle.moldudp64_writer.proofs.WriterLaws.{not-writable}
use Rattle.packing.specs.declared.fit.Fit.{Fit}
use Rattle.packing.specs.Fit.{size_ground, fitting}
use Rattle.packing.proofs.FitLaws.{is_most}
use Rattle.packing.proofs.GroupLaws.{handed-on, size-good}
use Rattle.transmitter.specs.declared.turns.Progress.{Progress}
use Rattle.transmitter.specs.Transmitter.{run_ground}
use Rattle.transmitter.specs.Turns.{beginning, start_of_run, next_lengths, next_data, next_ground, next_bytes, is_written, progress_after, after_turns, packets_written, IsAtPlace, TurnsGoByPlace}
use Rattle.transmitter.specs.Walk.{past, moved, Turns}
use Rattle.transmitter.proofs.RunLaws.{good}
use Rattle.transmitter.proofs.GroundLaws.{its-count, its-data, next-19}
use Rattle.transmitter.proofs.PlaceLaws.{Reached, reached-start, reached-next, is-at-place}

-- ---- where it leads

module _ (s : List ℕ) (size n : ℕ) (ks d : List ℕ) (p : Progress) (o : List ℕ) where
  pub after-written : is_written s size n ks d p o ≡ true → progress_after s size n ks d p o ≡ past p (fitting (size - 20) (drop p.messages ks))
  unfolding progress_after
  after-written e = rw (e, its-count size n ks d p, its-data size n ks d p)

  after-refused : is_written s size n ks d p o ≡ false → progress_after s size n ks d p o ≡ p
  unfolding progress_after
  after-refused e = rw e

  -- as code that has b as the size's ground, and t as the turn's
  pub stays : (t : ℕ) → t ≡ next_ground size n ks d p → (t ≡ 0 → ⊥) → p ≡ progress_after s size n ks d p o
  unfolding write_refusal
  stays t e z = sym (after-refused (rw (← e, ne_eqb _ _ z) (ne_eqb _ _ z)))

  pub stays-19 : (size_ground size ≡ 0 → ⊥) → p ≡ progress_after s size n ks d p o
  stays-19 z = stays (size_ground size) (next-19 size n ks d p z) z

-- a writer that refuses has a refusal
not-wrote : (t : ℕ) (l : List ℕ) (a : ℕ) (bs : List ℕ) (r : ℕ) → write_answer t l a bs ≡ refuses r → eqb (write_refusal t l a bs) 0 ≡ false
unfolding write_answer
not-wrote t l a bs r = go (eqb (write_refusal t l a bs) 0)
  where
    go : (b : Bool) → (if b then says wrote (length bs ∷ []) else refuses (write_refusal t l a bs)) ≡ refuses r → b ≡ false
    go true e = let w = which-of e in let z : ◌≡◌ {A = ℕ} 0 1 = cc in absurd (omega arith)
    go false e = refl

-- ---- what it writes: g is the group, x its data

pub group-few : (r : ℕ) (ks : List ℕ) (p : Progress) (g : Fit) → g ≡ fitting r (drop p.messages ks) → g.count ≤ length ks - p.messages
group-few r ks p g q = rw q (omega (arith, (is_most r (drop p.messages ks)).fits.there, length-drop p.messages ks))

record NoGround (size n : ℕ) (ks d : List ℕ) (p : Progress) : Type 0 where
  small : size ≤ 65507
  large : 22 ≤ size
  there : p.messages < length ks
  whole : total (next_lengths size ks p) ≡ length (next_data size ks d p)
  nonzero : n + p.messages ≡ 0 → ⊥
  numbers : n + p.messages + length (next_lengths size ks p) ≤ 18446744073709551615

no_ground : (size n : ℕ) (ks d : List ℕ) (p : Progress) → next_ground size n ks d p ≡ 0 → NoGround size n ks d p
unfolding next_ground
no_ground size n ks d p e =
    let s = handed-on (size_ground size) _ e in
    let a = past-ground (leb (length ks) p.messages) _ _ s.1 (omega arith) in
    let b = past-ground (not (add_up (next_lengths size ks p) (next_data size ks d p))) _ _ a.1 (omega arith) in
    let c = past-ground (eqb (n + p.messages) 0) _ _ b.1 (omega arith) in
    let f = past-ground (run_out (n + p.messages) (length (next_lengths size ks p))) _ _ c.1 (omega arith) in
    record {
      small = (size-good size s.0).1;
      large = (size-good size s.0).0;
      there = leb-false _ _ a.0;
      whole = eqb-true _ _ (not-false _ b.0);
      nonzero = eqb-false _ _ c.0;
      numbers = ltb-false _ _ f.0;
    }

-- where its answer leads
leads-there : (s : List ℕ) (size n : ℕ) (ks d : List ℕ) (p : Progress) (l : List ℕ) (g : Fit) → g ≡ fitting (size - 20) (drop p.messages ks)
    → (w : Written) → written_words w ≡ write_answer (next_ground size n ks d p) l 0 (next_bytes s size n ks d p) → moved p g w ≡ progress_after s size n ks d p l
unfolding moved written_words
leads-there s size n ks d p l g q (Ok k) a =
    let o = wrote_so _ _ _ _ k (sym a) in
    ap (past p) q ∙ sym (after-written s size n ks d p l (eq-eqb _ _ (no-write-refusal _ _ _ _ o.no_ground o.room)))
leads-there s size n ks d p l g q (Err r) a = sym (after-refused s size n ks d p l (not-wrote _ _ _ _ r.number (sym a)))

module _ (size n : ℕ) (ks d : List ℕ) (p : Progress) (e : next_ground size n ks d p ≡ 0) where
  free : NoGround size n ks d p
  free = no_ground size n ks d p e

  pub turn-there : p.messages < length ks
  turn-there = free.there

  pub turn-number : Fits w64 (n + p.messages)
  turn-number = record { fits = omega (arith, free.numbers) }

  writable : packet_ground (n + p.messages) (next_lengths size ks p) (next_data size ks d p) ≡ 0
  unfolding next_lengths
  writable =
      let m = (is_most (size - 20) (drop p.messages ks)).fits.fit in
      let k = its-count size n ks d p in
      let w = free.whole in
      not-writable _ _ _
      (record {
        few = omega (arith, free.small);
        whole = w;
        number-good = free.nonzero;
        numbers_fit = free.numbers;
        small = omega (arith, free.small, free.large);
      })

  module _ (g : Fit) (q : g ≡ fitting (size - 20) (drop p.messages ks)) where
    pub turn_end : p.messages + g.count ≤ length ks
    turn_end = omega (arith, free.there, group-few (size - 20) ks p g q)

    pub turn-to : Fits w64 (length ks) → Fits w64 (p.messages + g.count)
    turn-to f = record { fits = omega (arith, turn_end) }

    pub turn-counts : Fits w64 (length ks) → p.messages + g.count < 2 ^ 64
    turn-counts f = omega (arith, turn_end)

    is_sum : g.bytes ≡ total (next_lengths size ks p)
    unfolding next_lengths
    is_sum = rw q

    pub turn-sums : Fits w64 (length d) → Fits w64 p.bytes → p.bytes + g.bytes < 2 ^ 64
    unfolding next_data
    turn-sums f h = omega (arith, free.whole, is_sum, length-take (total (next_lengths size ks p)) (drop p.bytes d), length-drop p.bytes d)

    -- what the writer is handed is the group
    module _ (x : List ℕ) (a : x ≡ take g.bytes (drop p.bytes d)) (w : Written) (l m s : List ℕ)
        (h : Writes w l m (packet_ground (n + p.messages) (take (p.messages + g.count - p.messages) (drop p.messages ks)) x) 0
        (encoded_cut s (n + p.messages) (take (p.messages + g.count - p.messages) (drop p.messages ks)) x)) where
      its-lengths : take (p.messages + g.count - p.messages) (drop p.messages ks) ≡ next_lengths size ks p
      unfolding next_lengths
      its-lengths = let k : p.messages + g.count - p.messages ≡ g.count = omega arith in rw (k, q)

      its-part : x ≡ next_data size ks d p
      unfolding next_data
      its-part = a ∙ ap (λ (k : ℕ). take k (drop p.bytes d)) is_sum

      turn-writes : Writes w l m (next_ground size n ks d p) 0 (next_bytes s size n ks d p)
      unfolding next_bytes
      turn-writes = rw e (rw (its-lengths, its-part, writable) at h)

      pub turn-done : (r : Progress) → r ≡ moved p g w → Turns (record { written = w; progress = r }) s size n ks d p l m
      turn-done r z = record { writes = turn-writes; leads = z ∙ leads-there s size n ks d p l g q w turn-writes.answers }

-- ---- as the code has it

pub moved-wrote : (p q : Progress) (g : Fit) (w : Written) (k : ℕ) → w ≡ Ok k → q ≡ past p g → q ≡ moved p g w
unfolding moved
moved-wrote p q g w k e f = rw e f

pub moved-refused : (p : Progress) (g : Fit) (w : Written) (r : Refusal) → w ≡ Err r → p ≡ moved p g w
unfolding moved
moved-refused p g w r e = rw e

-- ---- any list of turns

module _ (s : List ℕ) (size n : ℕ) (ks d : List ℕ) (e : run_ground size n ks d ≡ 0) where
  by-turns : (os : List (List ℕ)) (i : ℕ) (p : Progress) → Reached size ks d i p
      → IsAtPlace s size n ks d (after_turns s size n ks d p os) (i + packets_written s size n ks d p os)
  unfolding after_turns packets_written
  by-turns [] i p r = let z : i + 0 ≡ i = omega arith in rw z (is-at-place size n ks d (good size n ks d e) i p r e s)
  by-turns (o ∷ os) i p r = go (by-turns os) (is_written s size n ks d p o) refl
    where
      q : Progress
      q = progress_after s size n ks d p o

      go : ((j : ℕ) (r : Progress) → Reached size ks d j r → IsAtPlace s size n ks d (after_turns s size n ks d r os) (j + packets_written s size n ks d r os))
          → (t : Bool) → is_written s size n ks d p o ≡ t
          → IsAtPlace s size n ks d (after_turns s size n ks d q os) (i + (if t then suc (packets_written s size n ks d q os) else packets_written s size n ks d q os))
      go ih true w =
          let z : i + suc (packets_written s size n ks d q os) ≡ suc i + packets_written s size n ks d q os = omega arith in
          rw z (ih (suc i) q (rw (after-written s size n ks d p o w) (reached-next size n ks d (good size n ks d e) i p r)))
      go ih false w = ih i q (rw (after-refused s size n ks d p o w) r)

pub turns-go-by-place : TurnsGoByPlace
unfolding start_of_run
turns-go-by-place s size n ks d os e =
    let z : 0 + packets_written s size n ks d beginning os ≡ packets_written s size n ks d beginning os = omega arith in
    rw e (rw z at (by-turns s size n ks d e os 0 beginning (reached-start size ks d)))
