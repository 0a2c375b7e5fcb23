-- Which refusals each function gives.
use Rattle.std.specs.Prelude.{Result, Err, ⊤}
use Rattle.wire.specs.Words.{refused_by}
use Rattle.wire.specs.declared.refusal.Refusal.{Refusal}
use Rattle.wire.proofs.Refusing.{ground-of}
use mathlib.Core.Path.{◌∙◌}
use Prim.Native.Nat.{ℕ}
use mathlib.Core.List.{List, [], ◌∷◌}
use mathlib.Core.Bool.{Bool, not}
use mathlib.Core.Path.{◌≡◌, refl}
use lib.ListN.{length}
use lib.Dec.{ltb, leb, eqb}
use Rattle.wire.specs.Output.{written_words, Writes}
use Rattle.wire.specs.Output.{Written}
use Rattle.moldudp64.specs.Downstream.{run_out}
use Rattle.moldudp64_writer.specs.Writer.{add_up}
use Rattle.packing.specs.Fit.{least_size, largest_size, size_ground, room_of, each_fits}
use Rattle.transmitter.specs.declared.turns.Progress.{Progress}
use Rattle.transmitter.specs.Transmitter.{groups_of, run_ground, transmit_ground}
use Rattle.transmitter.specs.Turns.{next_lengths, next_data, next_number, next_ground}
use Rattle.host_answers.specs.Answers.{or_else, short, is_one_of, RefusesOnly, AnswersWith}
use Rattle.host_answers.proofs.OnlyLaws.{only_if, only_ending, reported-only, only-within, within}

abbrev size_list : List ℕ
size_list = 19 ∷ []

abbrev start_list : List ℕ
start_list = 19 ∷ 44 ∷ 13 ∷ 14 ∷ 52 ∷ 41 ∷ []

abbrev packet_list : List ℕ
packet_list = 19 ∷ 44 ∷ 13 ∷ 14 ∷ 52 ∷ 54 ∷ 41 ∷ []

size-only : (size : ℕ) → RefusesOnly (size_ground size) size_list
unfolding size_ground is_one_of
size-only size = only_if (ltb size least_size) 19 _ size_list refl (only_if (ltb largest_size size) 19 0 size_list refl refl)

run_only : (size n : ℕ) (ks d : List ℕ) → RefusesOnly (run_ground size n ks d) start_list
unfolding run_ground is_one_of within
run_only size n ks d =
    only_if (not (eqb (size_ground size) 0)) (size_ground size) _ start_list (only-within (size_ground size) size_list start_list (size-only size) refl)
    (only_if (not (add_up ks d)) 44 _ start_list refl
    (only_if (eqb n 0) 13 _ start_list refl
    (only_if (run_out n (length ks)) 14 _ start_list refl (only_if (not (each_fits (room_of size) ks)) 52 0 start_list refl refl))))

place-only : (size n : ℕ) (ks d : List ℕ) (place : ℕ) → RefusesOnly (transmit_ground size n ks d place) packet_list
unfolding transmit_ground is_one_of within
place-only size n ks d place =
    only_if (not (eqb (run_ground size n ks d) 0)) (run_ground size n ks d) _ packet_list (only-within (run_ground size n ks d) start_list packet_list (run_only size n ks d) refl)
    (only_if (leb (length (groups_of size ks d)) place) 54 0 packet_list refl refl)

turn-only : (size n : ℕ) (ks d : List ℕ) (p : Progress) → RefusesOnly (next_ground size n ks d p) packet_list
unfolding next_ground is_one_of within
turn-only size n ks d p =
    only_if (not (eqb (size_ground size) 0)) (size_ground size) _ packet_list (only-within (size_ground size) size_list packet_list (size-only size) refl)
    (only_if (leb (length ks) p.messages) 54 _ packet_list refl
    (only_if (not (add_up (next_lengths size ks p) (next_data size ks d p))) 44 _ packet_list refl
    (only_if (eqb (next_number n p) 0) 13 _ packet_list refl
    (only_if (run_out (next_number n p) (length (next_lengths size ks p))) 14 _ packet_list refl
    (only_if (eqb (length (next_lengths size ks p)) 0) 52 0 packet_list refl refl)))))

-- ---- as the calls have them

pub start-only : (r g size n : ℕ) (ks d : List ℕ) (b : Bool) → g ≡ run_ground size n ks d → r ≡ or_else g (short b) → RefusesOnly r (19 ∷ 44 ∷ 13 ∷ 14 ∷ 52 ∷ 41 ∷ [])
unfolding is_one_of
start-only r g size n ks d b e f = only_ending r g b start_list f (rw e (run_only size n ks d)) refl

pub short-only : RefusesOnly 41 (19 ∷ 44 ∷ 13 ∷ 14 ∷ 52 ∷ 54 ∷ 41 ∷ [])
unfolding is_one_of
short-only = refl

pub unsized-only : (r size : ℕ) (w : Result ⊤ Refusal) (x : Refusal) → w ≡ refused_by (size_ground size) → w ≡ Err x → r ≡ x.number
    → RefusesOnly r (19 ∷ 44 ∷ 13 ∷ 14 ∷ 52 ∷ 54 ∷ 41 ∷ [])
unfolding is_one_of within
unsized-only r size w x e f a =
    rw (a ∙ ground-of w x (size_ground size) e f) (only-within (size_ground size) size_list packet_list (size-only size) refl)

module _ (code size n : ℕ) (ks d : List ℕ) (b : Bool) (w : Written) (ws ws' vs l m bs : List ℕ) (a : AnswersWith code ws ws' (or_else (written_words w).refusal (short b)) vs) where
  pub packet-only : (place : ℕ) → Writes w l m (transmit_ground size n ks d place) 0 bs → RefusesOnly code (19 ∷ 44 ∷ 13 ∷ 14 ∷ 52 ∷ 54 ∷ 41 ∷ [])
  unfolding is_one_of
  packet-only place x = reported-only code _ b w ws ws' vs l m bs packet_list a x (place-only size n ks d place) refl

  pub next-only : (r : ℕ) (c : Bool) (p : Progress) → Writes w l m (next_ground size n ks d p) 0 bs → r ≡ or_else code (short c)
      → RefusesOnly r (19 ∷ 44 ∷ 13 ∷ 14 ∷ 52 ∷ 54 ∷ 41 ∷ [])
  unfolding is_one_of
  next-only r c p x e = only_ending r code c packet_list e (reported-only code _ b w ws ws' vs l m bs packet_list a x (turn-only size n ks d p) refl) refl
