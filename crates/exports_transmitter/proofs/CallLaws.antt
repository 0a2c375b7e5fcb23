-- The calls: a packet by place, a start, and the next packet.
use Prim.Native.Nat.{ℕ, ◌-◌, ◌≤◌, ◌<◌}
use mathlib.Core.List.{List}
use mathlib.Core.Bool.{true, false, not, ◌||◌}
use mathlib.Core.Path.{◌≡◌, refl, sym, ◌∙◌}
use native.Mathlib.Omega.{arith}
use lib.ListN.{length}
use lib.Dec.{ltb, eqb}
use borrow.Author.Tests.{lt-ltb, le-ltb, ne_eqb}
use borrow.Rule.Slice.PartMut.{mid_of, put_mid}
use Rattle.wire.specs.Bounds.{session_size}
use Rattle.wire.specs.Refusals.{output_short}
use Rattle.wire.specs.Output.{written_words, write_refusal, Writes}
use Rattle.wire.specs.Output.{Written}
use Rattle.std.specs.Prelude.{Result, Ok, Err, ⊤}
use Rattle.wire.specs.Words.{refused_by}
use Rattle.wire.specs.declared.refusal.Refusal.{Refusal}
use Rattle.wire.proofs.Refusing.{checked, has-ground, ground-of}
use Rattle.wire.specs.Parts.{first_bytes}
use Rattle.wire.proofs.Cases.{zero_or_not}
use Rattle.wire.proofs.Numbers.{part_to_end}
use Rattle.packing.specs.Fit.{size_ground}
use Rattle.transmitter.specs.declared.turns.Progress.{Progress}
use Rattle.transmitter.specs.Transmitter.{run_ground, transmit_ground, packet_at}
use Rattle.transmitter.specs.Turns.{start_of_run, next_ground, next_bytes, progress_after}
use Rattle.transmitter.proofs.GroundLaws.{next-19}
use Rattle.host_answers.specs.Answers.{or_else, short, named, state_ladder, lent_from, padded, AnswersWith, AnswersWriting}
use Rattle.host_answers.proofs.AnswerLaws.{or-first, or-next, or-short-no, no_short, no-success, length-padded}
use Rattle.host_answers.proofs.LadderLaws.{first-zero}
use Rattle.host_answers.proofs.WritingLaws.{writing-reported}
use Rattle.host_states.specs.States.{on_code}
use Rattle.host_transmitter.specs.Progress.{progress_size, progress_in, KeepsProgress}
use Rattle.host_transmitter.proofs.ProgressLaws.{progress-not}
use Rattle.exports_transmitter.specs.Calls.{StartsTransmitter, NextPacket}

pub starts-transmitter : (r g size n : ℕ) (ks d l m : List ℕ) (x : Progress) → g ≡ run_ground size n ks d → x ≡ start_of_run size n ks d
    → r ≡ or_else g (short (ltb (length l) progress_size)) → KeepsProgress (on_code r) l m x → StartsTransmitter r size n ks d l m
starts-transmitter r g size n ks d l m x e f q k = record { returns = q ∙ rw e; keeps = rw (← f) k }

-- ---- the ladder of a next packet

-- the size's ground is the first, with a state that is long enough
pub whole-ladder : (size n : ℕ) (ks d : List ℕ) (p : Progress) → next_ground size n ks d p ≡ state_ladder (size_ground size) false (next_ground size n ks d p)
unfolding short
whole-ladder size n ks d p =
    zero_or_not _ (size_ground size) (λ z. or-next 0 (next_ground size n ks d p) refl ∙ or-next (size_ground size) _ z)
    (λ z. sym (next-19 size n ks d p z) ∙ or-first (size_ground size) _ z)

-- and what is left behind it is 41
short-ladder : (g h : ℕ) → state_ladder g true h ≡ or_else g (short true)
unfolding short or_else
short-ladder g h = refl

never : (g : ℕ) → or_else g (short true) ≡ 0 → ⊥
unfolding short
never g e = zero_or_not ⊥ g (λ z. let f : output_short ≡ 0 = or-next g output_short z ∙ e in omega arith) (λ z. z (or-first g output_short z ∙ e))

own-ground : (g : ℕ) (l bs : List ℕ) → (g ≡ 0 → ⊥) → write_refusal g l 0 bs ≡ g
unfolding write_refusal
own-ground g l bs e = rw (ne_eqb g 0 e)

-- a ground is the code, and nothing changes
refused-so : (r g : ℕ) (s ws o bs : List ℕ) → r ≡ g → (g ≡ 0 → ⊥) → AnswersWriting r ws ws o o (named s g) bs
refused-so r g s ws o bs e z =
    let a : named s g ≡ g = sym (or-first g _ z) in
    let n : r ≡ 0 → ⊥ = λ y. z (sym e ∙ y) in
    record {
      returns = rw (a, own-ground g o bs z) (e ∙ or-first g _ z);
      words = no-success r _ ws n;
      output = no-success r _ o n;
    }

pub next-short : (r g size n : ℕ) (s ks d l o ws : List ℕ) → length l < progress_size → g ≡ size_ground size → r ≡ or_else g (short true)
    → NextPacket r s size n ks d l l o o ws ws
next-short r g size n s ks d l o ws h e f =
    let q : state_ladder (size_ground size) true (next_ground size n ks d (progress_in l)) ≡ or_else g (short true) = rw (← e) (short-ladder g _) in
    record {
      answers = rw (lt-ltb (length l) progress_size h, q) (refused-so r _ s ws o _ f (never g));
      keeps = progress-not _ l r (λ z. never g (sym f ∙ z));
    }

pub next-sized : (size n : ℕ) (s ks d l o ws : List ℕ) (w : Result ⊤ Refusal) (u : ⊤) → length l < progress_size → w ≡ refused_by (size_ground size) → w ≡ Ok u
    → NextPacket 41 s size n ks d l l o o ws ws
unfolding short
next-sized size n s ks d l o ws w u h e f =
    let z : size_ground size ≡ 0 = checked w u (size_ground size) e f in
    next-short 41 0 size n s ks d l o ws h (sym z) (or-next 0 (short true) refl)

pub next-unsized : (r size n : ℕ) (s ks d l o ws : List ℕ) (w : Result ⊤ Refusal) (x : Refusal) → length l < progress_size → w ≡ refused_by (size_ground size) → w ≡ Err x
    → r ≡ x.number → NextPacket r s size n ks d l l o o ws ws
next-unsized r size n s ks d l o ws w x h e f a =
    let g = has-ground w x (size_ground size) e f in
    let b : r ≡ size_ground size = a ∙ ground-of w x (size_ground size) e f in
    next-short r (size_ground size) size n s ks d l o ws h refl (b ∙ or-first (size_ground size) (short true) g)

-- ---- what a writer answered

module _ (ws ws' o x : List ℕ) (w : Written) (code from : ℕ) (s t : List ℕ) (a : t ≡ first_bytes session_size s)
    (e : from ≡ lent_from (not (eqb (length s) session_size) || ltb (length ws) 1) (length o))
    (h : AnswersWith code ws ws' (or_else (written_words w).refusal (short (not (eqb (length s) session_size)))) (padded 1 (written_words w).values))
    (size n : ℕ) (ks d : List ℕ) where
  pub packet-reported : (place : ℕ) → Writes w (mid_of from (length o - from) o) x (transmit_ground size n ks d place) 0 (packet_at t size n ks d place)
      → AnswersWriting code ws ws' o (put_mid from (length o - from) o x) (named s (transmit_ground size n ks d place)) (packet_at (first_bytes session_size s) size n ks d place)
  packet-reported place f = rw (← a) (writing-reported _ ws o _ from _ w code ws' x h e f)

  -- on success all of the output was lent
  all-lent : code ≡ 0 → mid_of from (length o - from) o ≡ o
  unfolding lent_from
  all-lent z =
      let c = sym h.returns ∙ z in
      let b : ltb (length ws) 1 ≡ false = rw length-padded at (no_short _ _ c) in
      let u : not (eqb (length s) session_size) ≡ false = no_short _ _ (first-zero _ _ c) in
      let f : from ≡ 0 = rw (u, b) at e in
      rw f (part_to_end 0 o)

  module _ (p : Progress) (k : Progress) (f : Writes w (mid_of from (length o - from) o) x (next_ground size n ks d p) 0 (next_bytes t size n ks d p))
      (g : k ≡ progress_after t size n ks d p (mid_of from (length o - from) o)) where
    pub next-packet : (r : ℕ) (l m : List ℕ) → progress_size ≤ length l → p ≡ progress_in l → r ≡ or_else code (short (ltb (length l) progress_size))
        → KeepsProgress (on_code r) l m k
        → NextPacket r s size n ks d l m o (put_mid from (length o - from) o x) ws ws'
    next-packet r l m i q y kept =
        let same : r ≡ code = y ∙ rw (le-ltb (length l) progress_size i) (sym (or-short-no code)) in
        record {
          answers = rw (le-ltb (length l) progress_size i, ← q, ← whole-ladder size n ks d p, ← a, same) (writing-reported _ ws o _ from _ w code ws' x h e f);
          keeps = rw (← a, ← q) (zero_or_not _ code (λ z. rw (← all-lent z, ← g) kept) (λ z. stays r l m kept (λ v. z (sym same ∙ v))));
        }
      where
        stays : (r : ℕ) (l m : List ℕ) → KeepsProgress (on_code r) l m k → (r ≡ 0 → ⊥) → KeepsProgress (on_code r) l m (progress_after t size n ks d p o)
        stays r l m kept z =
            let u : m ≡ l = kept.leaves ∙ rw (ne_eqb r 0 z) in
            rw u (progress-not _ l r z)
