-- A run of calls from a start gives the packets by place.
use Prim.Native.Nat.{ℕ, zero, suc, ◌+◌, ◌≤◌, ◌<◌}
use mathlib.Core.List.{List, [], ◌∷◌, ◌++◌}
use mathlib.Core.Bool.{Bool, true, false}
use mathlib.Core.Path.{◌≡◌, refl, ap, sym, ◌∙◌}
use native.Mathlib.Omega.{arith}
use lib.ListN.{length, get_or, take, drop}
use lib.Seq.{take_at}
use lib.Dec.{leb, eqb}
use borrow.Author.Tests.{le-ltb, eq-eqb, ne_eqb, eqb-true}
use Rattle.std.specs.Prelude.{if◌then◌else◌}
use Rattle.wire.specs.Bounds.{session_size}
use Rattle.wire.specs.Output.{put, write_refusal}
use Rattle.wire.specs.Parts.{first_bytes}
use Rattle.wire.proofs.Outputs.{length-put}
use Rattle.transmitter.specs.Transmitter.{run_ground, transmit_ground, packet_at}
use Rattle.transmitter.specs.Turns.{beginning, next_ground, next_bytes, is_written}
use Rattle.transmitter.proofs.RunLaws.{Good, good, start-good}
use Rattle.transmitter.proofs.PlaceLaws.{Reached, reached-start, reached-next, same_ground, same_bytes}
use Rattle.transmitter.proofs.TurnLaws.{after-written}
use Rattle.host_answers.specs.Answers.{named, AnswersWriting}
use Rattle.host_answers.proofs.AnswerLaws.{has_room}
use Rattle.host_answers.proofs.LadderLaws.{first-zero}
use Rattle.host_answers.proofs.PromiseLaws.{host-promises}
use Rattle.host_states.specs.States.{on_code}
use Rattle.host_transmitter.specs.Progress.{progress_size, progress_in}
use Rattle.exports_transmitter.specs.Calls.{NextPacket}
use Rattle.exports_transmitter.specs.Run.{Gets, by_refusal, by_packet, Handed, none, one, HandsOn}
use Rattle.exports_transmitter.proofs.CallLaws.{whole-ladder}

-- a writer's refusal is 0 only without a ground
no_ground : (g : ℕ) (o bs : List ℕ) → write_refusal g o 0 bs ≡ 0 → g ≡ 0
unfolding write_refusal
no_ground g o bs e = go (eqb g 0) refl e
  where
    go : (b : Bool) → eqb g 0 ≡ b → (if b then (if leb (0 + length bs) (length o) then 0 else 41) else g) ≡ 0 → g ≡ 0
    go true d x = eqb-true g 0 d
    go false d x = x

-- ---- one call, where i packets were written before

module _ (name : List ℕ) (size n : ℕ) (ks d : List ℕ) (e : run_ground size n ks d ≡ 0) (l : List ℕ) (i : ℕ) (h : progress_size ≤ length l)
    (r : Reached size ks d i (progress_in l)) where
  abbrev session : List ℕ
  session = first_bytes session_size name

  is-good : Good size n ks d
  is-good = good size n ks d e

  module _ (code : ℕ) (m o o' ws ws' : List ℕ) (c : NextPacket code name size n ks d l m o o' ws ws') where
    own : AnswersWriting code ws ws' o o' (named name (next_ground size n ks d (progress_in l))) (next_bytes session size n ks d (progress_in l))
    own = rw (le-ltb (length l) progress_size h, ← whole-ladder size n ks d (progress_in l)) at c.answers

    by_place : AnswersWriting code ws ws' o o' (named name (transmit_ground size n ks d i)) (packet_at session size n ks d i)
    by_place =
        rw (← same_ground size n ks d is-good i (progress_in l) r e, ← same_bytes size n ks d is-good i (progress_in l) r e session) own

    same_size : length m ≡ length l
    same_size = go (on_code code) _ c.keeps.leaves
      where
        go : (b : Bool) (x : List ℕ) → m ≡ (if b then put l 0 x else l) → length m ≡ length l
        go true x f = ap length f ∙ length-put l 0 x
        go false x f = ap length f

    -- a refusal leaves the state's bytes
    stays : (code ≡ 0 → ⊥) → m ≡ l
    stays z = c.keeps.leaves ∙ rw (ne_eqb code 0 z)

    module _ (z : code ≡ 0) where
      is-written : is_written session size n ks d (progress_in l) o ≡ true
      is-written =
          let w = first-zero _ _ (sym own.returns ∙ z) in
          let g = no_ground _ o _ w in
          let f = first-zero (next_ground size n ks d (progress_in l)) _ g in
          rw f (eq-eqb _ _ (rw g at w))

      moves : Reached size ks d (suc i) (progress_in m)
      moves =
          rw (c.keeps.reads_back (eq-eqb code 0 z) h, after-written session size n ks d (progress_in l) o is-written)
          (reached-next size n ks d is-good i (progress_in l) r)

      its-packet : take (get_or ws' 0 0) o' ≡ packet_at session size n ks d i
      its-packet =
          let s = host-promises.success_lays_its_words.writing code ws ws' o o' _ _ by_place z in
          rw (s.0, s.1) (take_at (packet_at session size n ks d i) (drop (length (packet_at session size n ks d i)) o) _ refl)

-- ---- a list of calls

module _ (name : List ℕ) (size n : ℕ) (ks d : List ℕ) (e : run_ground size n ks d ≡ 0) where
  -- i packets were written before, and ps were since
  record Ran (i : ℕ) (k : List ℕ) (ps : List (List ℕ)) : Type 0 where
    gives : (j : ℕ) → j < length ps → get_or ps j [] ≡ packet_at (first_bytes session_size name) size n ks d (i + j)
    room : progress_size ≤ length k
    reached : Reached size ks d (i + length ps) (progress_in k)

  one_more : (i : ℕ) (k p : List ℕ) (qs : List (List ℕ)) → p ≡ packet_at (first_bytes session_size name) size n ks d i → Ran (suc i) k qs → Ran i k (p ∷ qs)
  one_more i k p qs f t =
      let z : i + suc (length qs) ≡ suc i + length qs = omega arith in
      record { gives = each; room = t.room; reached = rw z t.reached }
    where
      each : (j : ℕ) → j < length (p ∷ qs) → get_or (p ∷ qs) j [] ≡ packet_at (first_bytes session_size name) size n ks d (i + j)
      each zero h = let z : i + 0 ≡ i = omega arith in rw z f
      each (suc j) h = let z : i + suc j ≡ suc i + j = omega arith in rw z (t.gives j (omega arith))

  run : {l k : List ℕ} {ps : List (List ℕ)} → Handed name size n ks d l k ps → (i : ℕ) → progress_size ≤ length l → Reached size ks d i (progress_in l) → Ran i k ps
  run none i h r = let z : i + 0 ≡ i = omega arith in record { gives = λ j f. absurd (omega arith); room = h; reached = rw z r }
  run {l} {k} (one {m = m} {ps = ps} {qs = qs} c hs) i h r = go ps c.gets (λ j a b. run hs j a b)
    where
      go : (xs : List (List ℕ)) → Gets c.code c.written c.laid xs
          → ((j : ℕ) → progress_size ≤ length m → Reached size ks d j (progress_in m) → Ran j k qs)
          → Ran i k (xs ++ qs)
      go [] (by_refusal z) later =
          let s : m ≡ l = stays name size n ks d e l i h r c.code m _ _ _ _ c.call z in
          later i (rw s h) (rw s r)
      go (p ∷ []) (by_packet z) later =
          let s = same_size name size n ks d e l i h r c.code m _ _ _ _ c.call in
          one_more i k p qs (its-packet name size n ks d e l i h r c.code m _ _ _ _ c.call z)
          (later (suc i) (omega arith) (moves name size n ks d e l i h r c.code m _ _ _ _ c.call z))
      go (p ∷ (_ ∷ _)) x later = elim x [ ]

pub hands_on : HandsOn
unfolding HandsOn
hands_on name size n ks d m k ps s hs =
    let e : run_ground size n ks d ≡ 0 = first-zero _ _ (sym s.call.returns) in
    let room = has_room 0 (run_ground size n ks d) (length s.lent) progress_size s.call.returns refl in
    let fresh : progress_in m ≡ beginning = s.call.keeps.reads_back refl room ∙ sym (start-good size n ks d 0 (sym e) refl) in
    let put-there : length m ≡ length s.lent = ap length s.call.keeps.leaves ∙ length-put s.lent 0 _ in
    let t = run name size n ks d e hs 0 (omega arith) (rw fresh (reached-start size ks d)) in
    let z : 0 + length ps ≡ length ps = omega arith in
    record {
      gives = λ i h. t.gives i h ∙ ap (packet_at (first_bytes session_size name) size n ks d) (zero-plus i);
      goes_on = λ r l o o' ws ws' c. by_place name size n ks d e k (length ps) t.room (rw z at t.reached) r l o o' ws ws' c;
    }
  where
    zero-plus : (i : ℕ) → 0 + i ≡ i
    zero-plus i = omega arith
