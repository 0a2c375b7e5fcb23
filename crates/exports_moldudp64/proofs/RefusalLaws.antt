-- Which refusals each function gives.
use Prim.Native.Nat.{ℕ, ◌+◌, ◌^◌, ◌<◌}
use mathlib.Core.List.{List, [], ◌∷◌}
use mathlib.Core.Bool.{Bool, not}
use mathlib.Core.Path.{◌≡◌, refl}
use native.Mathlib.Omega.{arith}
use lib.ListN.{length}
use lib.Dec.{ltb, eqb}
use borrow.Author.Tests.{le-ltb}
use Rattle.std.specs.Prelude.{if◌then◌else◌, Result}
use Rattle.wire.specs.Bounds.{largest_number}
use Rattle.wire.specs.Words.{says}
use Rattle.wire.specs.Output.{written_words, Writes}
use Rattle.wire.specs.Output.{Written}
use Rattle.moldudp64.specs.declared.downstream.Downstream.{Downstream}
use Rattle.moldudp64.specs.declared.request.Wanted.{Wanted}
use Rattle.wire.specs.declared.refusal.Refusal.{Refusal}
use Rattle.moldudp64.specs.Header.{header_size, largest_datagram, end_count, number_of, count_of}
use Rattle.moldudp64.specs.Downstream.{run_out, downstream_words, downstream_of}
use Rattle.moldudp64.specs.Request.{wanted, request_ground, request_refusal, request_words, request_of}
use Rattle.moldudp64_writer.specs.Writer.{most_messages, add_up, packet_size, packet_ground, end_ground, total}
use Rattle.host_answers.specs.Answers.{or_else, short, is_one_of, RefusesOnly, AnswersWith}
use Rattle.host_answers.proofs.OnlyLaws.{only_if, only-words, answers-only, reported-only, only-within, within}
use Rattle.host_cursor.proofs.DatagramLaws.{datagram_grounds, said-only}

-- ---- readers

abbrev read_list : List ℕ
read_list = 11 ∷ 12 ∷ 13 ∷ 14 ∷ 15 ∷ 16 ∷ 41 ∷ []

abbrev request_list : List ℕ
request_list = 47 ∷ 13 ∷ 48 ∷ 41 ∷ []

abbrev ground_list : List ℕ
ground_list = 13 ∷ 48 ∷ []

pub read_only : (l : List ℕ) (x : Result Downstream Refusal) (r g : ℕ) (ws ws' vs : List ℕ) → AnswersWith r ws ws' g vs → g ≡ (downstream_words x).refusal → downstream_words x ≡ downstream_of l
    → RefusesOnly r (11 ∷ 12 ∷ 13 ∷ 14 ∷ 15 ∷ 16 ∷ 41 ∷ [])
unfolding is_one_of within
read_only l x r g ws ws' vs a e f =
    answers-only r g ws ws' vs read_list a (rw (e, f) (only-within (downstream_of l).refusal datagram_grounds read_list (said-only l) refl)) refl

ground-only : (n c : ℕ) → RefusesOnly (request_ground n c) (13 ∷ 48 ∷ [])
unfolding request_ground is_one_of
ground-only n c =
    only_if (eqb n 0) 13 _ ground_list refl
    (only_if (eqb c 0) 48 _ ground_list refl (only_if (eqb c end_count) 48 0 ground_list refl refl))

request-only : (l : List ℕ) → RefusesOnly (request_of l).refusal (47 ∷ 13 ∷ 48 ∷ 41 ∷ [])
unfolding request_of request_refusal is_one_of within
request-only l =
    only-words (eqb (request_refusal l) 0) (says wanted (number_of l ∷ count_of l ∷ [])) (request_refusal l) request_list refl
    (only_if (not (eqb (length l) header_size)) 47 (request_ground (number_of l) (count_of l)) request_list refl
    (only-within (request_ground (number_of l) (count_of l)) ground_list request_list (ground-only (number_of l) (count_of l)) refl))

pub read-request-only : (l : List ℕ) (x : Result Wanted Refusal) (r g : ℕ) (ws ws' vs : List ℕ) → AnswersWith r ws ws' g vs → g ≡ (request_words x).refusal → request_words x ≡ request_of l
    → RefusesOnly r (47 ∷ 13 ∷ 48 ∷ 41 ∷ [])
unfolding is_one_of
read-request-only l x r g ws ws' vs a e f = answers-only r g ws ws' vs request_list a (rw (e, f) (request-only l)) refl

pub locate-only : (r : ℕ) (ws ws' vs : List ℕ) → AnswersWith r ws ws' 0 vs → RefusesOnly r (41 ∷ [])
unfolding is_one_of
locate-only r ws ws' vs a = answers-only r 0 ws ws' vs (41 ∷ []) a refl refl

-- ---- writers, which are given a session's name

abbrev data_list : List ℕ
data_list = 42 ∷ 44 ∷ 13 ∷ 14 ∷ 12 ∷ 41 ∷ []

packet-only : (n : ℕ) (ks d : List ℕ) → RefusesOnly (packet_ground n ks d) data_list
unfolding packet_ground is_one_of
packet-only n ks d =
    only_if (ltb most_messages (length ks)) 42 _ data_list refl
    (only_if (not (add_up ks d)) 44 _ data_list refl
    (only_if (eqb n 0) 13 _ data_list refl
    (only_if (run_out n (length ks)) 14 _ data_list refl (only_if (ltb largest_datagram (packet_size ks d)) 12 0 data_list refl refl))))

module _ (r n : ℕ) (b : Bool) (w : Written) (ws ws' vs l m bs : List ℕ) (a : AnswersWith r ws ws' (or_else (written_words w).refusal (short b)) vs) where
  pub data-only : (ks d : List ℕ) → Writes w l m (packet_ground n ks d) 0 bs → RefusesOnly r (42 ∷ 44 ∷ 13 ∷ 14 ∷ 12 ∷ 41 ∷ [])
  unfolding is_one_of
  data-only ks d x = reported-only r _ b w ws ws' vs l m bs data_list a x (packet-only n ks d) refl

  pub heartbeat-only : n < 2 ^ 64 → Writes w l m (packet_ground n [] []) 0 bs → RefusesOnly r (13 ∷ 41 ∷ [])
  unfolding packet_ground is_one_of total
  heartbeat-only h x =
      reported-only r _ b w ws ws' vs l m bs (13 ∷ 41 ∷ []) a x
      (only_if (eqb n 0) 13 (if run_out n 0 then 14 else 0) (13 ∷ 41 ∷ []) refl (rw (le-ltb largest_number (n + 0) (omega arith)) refl))
      refl

  pub end-only : Writes w l m (end_ground n) 0 bs → RefusesOnly r (13 ∷ 41 ∷ [])
  unfolding end_ground is_one_of
  end-only x = reported-only r _ b w ws ws' vs l m bs (13 ∷ 41 ∷ []) a x (only_if (eqb n 0) 13 0 (13 ∷ 41 ∷ []) refl refl) refl

  pub request-written-only : (c : ℕ) → Writes w l m (request_ground n c) 0 bs → RefusesOnly r (13 ∷ 48 ∷ 41 ∷ [])
  unfolding is_one_of within
  request-written-only c x =
      reported-only r _ b w ws ws' vs l m bs (13 ∷ 48 ∷ 41 ∷ []) a x (only-within (request_ground n c) ground_list (13 ∷ 48 ∷ 41 ∷ []) (ground-only n c) refl) refl
