-- Laws of messages as blocks, and as lengths and joined data.
use mathlib.Core.Path.{◌≡◌, refl, ap}
use mathlib.Core.List.{List, [], ◌∷◌, ◌++◌}
use Prim.Native.Nat.{ℕ, zero, suc, ◌+◌, ◌*◌, ◌^◌, ◌<◌}
use native.Mathlib.Omega.{arith}
use lib.ListN.{length, get_or, take, drop, length-append, length-take, length-drop}
use lib.Seq.{take_at, drop_at}
use Rattle.wire.specs.Bytes.{bytes, joined}
use Rattle.wire.proofs.Numbers.{length-bytes}
use Rattle.moldudp64.specs.Blocks.{blocks_of}
use Rattle.moldudp64_writer.specs.Writer.{cut, total, lengths_of}

-- ---- one block in front of others

abbrev pub laid : List ℕ → List ℕ → List ℕ
laid m rest = bytes 2 (length m) ++ m ++ rest

module _ (m rest : List ℕ) where
  pub laid-front : length (bytes 2 (length m) ++ m) ≡ length m + 2
  laid-front = omega (arith, length-append (bytes 2 (length m)) m, length-bytes 2 (length m))

  pub laid-size : length (laid m rest) ≡ length m + 2 + length rest
  laid-size = let f = laid-front in omega (arith, length-append (bytes 2 (length m) ++ m) rest)

-- ---- messages as lengths and joined data, and back

pub cut-count : (ks d : List ℕ) → length (cut ks d) ≡ length ks
unfolding cut
cut-count [] d = refl
cut-count (k ∷ ks) d = ap suc (cut-count ks (drop k d))

pub cut_short : (ks d : List ℕ) → ((i : ℕ) → get_or ks i 0 < 2 ^ 16) → (i : ℕ) → length (get_or (cut ks d) i []) < 2 ^ 16
unfolding cut
cut_short [] d h i = h i
cut_short (k ∷ ks) d h zero = let b = h 0 in omega (arith, length-take k d)
cut_short (k ∷ ks) d h (suc i) = cut_short ks (drop k d) (λ j. h (suc j)) i

pub cut-size : (ks d : List ℕ) → total ks ≡ length d → length (blocks_of (cut ks d)) ≡ 2 * length ks + length d
unfolding cut blocks_of total
cut-size [] d e = omega arith
cut-size (k ∷ ks) d e =
    let n : length (take k d) ≡ k = omega (arith, length-take k d) in
    let r = cut-size ks (drop k d) (omega (arith, length-drop k d)) in
    omega (arith, laid-size (take k d) (blocks_of (cut ks (drop k d))), length-drop k d)

pub join-again : (ms : List (List ℕ)) → cut (lengths_of ms) (joined ms) ≡ ms
unfolding cut lengths_of joined
join-again [] = refl
join-again (m ∷ ms) = rw (take_at m (joined ms) (length m) refl, drop_at m (joined ms) (length m) refl, join-again ms)

pub lengths-count : (ms : List (List ℕ)) → length (lengths_of ms) ≡ length ms
unfolding lengths_of
lengths-count [] = refl
lengths-count (m ∷ ms) = ap suc (lengths-count ms)

pub lengths-total : (ms : List (List ℕ)) → total (lengths_of ms) ≡ length (joined ms)
unfolding lengths_of joined total
lengths-total [] = refl
lengths-total (m ∷ ms) = omega (arith, lengths-total ms, length-append m (joined ms))

pub joined-size : (ms : List (List ℕ)) → length (blocks_of ms) ≡ 2 * length ms + length (joined ms)
unfolding blocks_of joined
joined-size [] = refl
joined-size (m ∷ ms) = omega (arith, joined-size ms, laid-size m (blocks_of ms), length-append m (joined ms))
