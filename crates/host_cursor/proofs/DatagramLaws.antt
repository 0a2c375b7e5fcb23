-- Which refusals a datagram has: 11 to 16.
use Prim.Native.Nat.{ℕ}
use mathlib.Core.List.{List, [], ◌∷◌}
use mathlib.Core.Path.{◌≡◌, refl, sym, ◌∙◌}
use lib.ListN.{length, drop}
use lib.Dec.{ltb, eqb}
use Rattle.std.specs.Prelude.{if◌then◌else◌, Result, Ok, Err}
use Rattle.wire.specs.declared.refusal.Refusal.{Refusal}
use Rattle.wire.specs.Words.{says}
use Rattle.moldudp64.specs.Header.{header_size, largest_datagram, number_of}
use Rattle.moldudp64.specs.Blocks.{all_fit, after_blocks, blocks_refusal}
use Rattle.moldudp64.specs.Downstream.{run_out, block_count, refusal_of, well_formed, kind_of, values_of, downstream_of, downstream_words}
use Rattle.moldudp64.specs.declared.downstream.Downstream.{Downstream}
use Rattle.moldudp64.proofs.DownstreamLaws.{no_refusal, refusal-found, read-badly}
use Rattle.host_answers.specs.Answers.{is_one_of, RefusesOnly}
use Rattle.host_answers.proofs.OnlyLaws.{only_if, only-words}

abbrev pub datagram_grounds : List ℕ
datagram_grounds = 11 ∷ 12 ∷ 13 ∷ 14 ∷ 15 ∷ 16 ∷ []

blocks-only : (n : ℕ) (l : List ℕ) → RefusesOnly (blocks_refusal n l) datagram_grounds
unfolding blocks_refusal is_one_of
blocks-only n l =
    only_if (all_fit n l) (if eqb (length (after_blocks n l)) 0 then 0 else 16) 15 datagram_grounds
    (only_if (eqb (length (after_blocks n l)) 0) 0 16 datagram_grounds refl refl)
    refl

pub datagram-only : (l : List ℕ) → RefusesOnly (refusal_of l) datagram_grounds
unfolding refusal_of is_one_of
datagram-only l =
    only_if (ltb (length l) header_size) 11 _ datagram_grounds refl
    (only_if (ltb largest_datagram (length l)) 12 _ datagram_grounds refl
    (only_if (eqb (number_of l) 0) 13 _ datagram_grounds refl
    (only_if (run_out (number_of l) (block_count l)) 14 _ datagram_grounds refl (blocks-only (block_count l) (drop header_size l)))))

-- what the reader says of it is that
pub said-only : (l : List ℕ) → RefusesOnly (downstream_of l).refusal datagram_grounds
unfolding downstream_of
said-only l = only-words (well_formed l) (says (kind_of l) (values_of (kind_of l) l)) (refusal_of l) datagram_grounds refl (datagram-only l)

-- ---- the reader read d as p: its refusal is the ground, and what isn't refused has none

module _ (d : List ℕ) (p : Result Downstream Refusal) (e : downstream_words p ≡ downstream_of d) where
  pub unread-ground : (x : Refusal) → p ≡ Err x → x.number ≡ refusal_of d
  unfolding downstream_words
  unread-ground x f = refusal-found d p x.number (rw f refl) e

  pub unread-is : (x : Refusal) → p ≡ Err x → x.number ≡ 0 → ⊥
  unread-is x f z = read-badly d p e x f (sym (unread-ground x f) ∙ z)

  pub read-not-refused : (y : Downstream) → p ≡ Ok y → (downstream_words p).refusal ≡ 0
  read-not-refused y f = rw f (no_refusal y)
