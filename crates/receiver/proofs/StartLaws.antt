-- Laws of the start: n is the number, k the limit, s the name.
use mathlib.Core.Path.{◌≡◌, sym, ◌∙◌}
use mathlib.Core.List.{List}
use mathlib.Core.Bool.{false}
use Prim.Native.Nat.{ℕ, ◌≤◌, ◌<◌}
use native.Mathlib.Omega.{arith}
use lib.Dec.{ltb}
use borrow.Author.Tests.{lt-ltb, le-ltb, ltb-false}
use Rattle.moldudp64.proofs.DownstreamLaws.{past-ground}
use Rattle.receiver.specs.declared.receiver.Receiver.{Receiver}
use Rattle.receiver.specs.Receiver.{receiver, refused_receiver, receiver_start_refusal, start_receiver}

-- refused where one of the four bounds is passed
pub start-19 : (n k r : ℕ) → r ≡ 19 → receiver_start_refusal n k ≡ 19 → r ≡ receiver_start_refusal n k
start-19 n k r e g = e ∙ sym g

pub start-refused : (s : List ℕ) (n k : ℕ) (x : Receiver) → x ≡ refused_receiver → receiver_start_refusal n k ≡ 19 → x ≡ start_receiver s n k
unfolding start_receiver
start-refused s n k x f g = f ∙ rw g

pub least-number : (n k : ℕ) → n < 1 → receiver_start_refusal n k ≡ 19
unfolding receiver_start_refusal
least-number n k h = simp (lt-ltb _ _ h)

pub largest-number : (n k : ℕ) → 1 ≤ n → 18446744073709551615 < n → receiver_start_refusal n k ≡ 19
unfolding receiver_start_refusal
largest-number n k h i = simp (le-ltb _ _ h, lt-ltb _ _ i)

pub least-limit : (n k : ℕ) → 1 ≤ n → n ≤ 18446744073709551615 → k < 1 → receiver_start_refusal n k ≡ 19
unfolding receiver_start_refusal
least-limit n k h i j = simp (le-ltb _ _ h, le-ltb _ _ i, lt-ltb _ _ j)

pub largest-limit : (n k : ℕ) → 1 ≤ n → n ≤ 18446744073709551615 → 1 ≤ k → 65534 < k → receiver_start_refusal n k ≡ 19
unfolding receiver_start_refusal
largest-limit n k h i j m = simp (le-ltb _ _ h, le-ltb _ _ i, le-ltb _ _ j, lt-ltb _ _ m)

pub start-good : (n k : ℕ) → 1 ≤ n → n ≤ 18446744073709551615 → 1 ≤ k → k ≤ 65534 → 0 ≡ receiver_start_refusal n k
unfolding receiver_start_refusal
start-good n k h i j m = simp (le-ltb _ _ h, le-ltb _ _ i, le-ltb _ _ j, le-ltb _ _ m)

-- settings that are not refused lie within the four bounds
pub record InBounds (n k : ℕ) : Type 0 where
  pub number_least : 1 ≤ n
  pub number_most : n ≤ 18446744073709551615
  pub limit_least : 1 ≤ k
  pub limit_most : k ≤ 65534

pub in_bounds : (n k : ℕ) → receiver_start_refusal n k ≡ 0 → InBounds n k
unfolding receiver_start_refusal
in_bounds n k e =
    let a = past-ground (ltb n 1) _ _ e (omega arith) in
    let b = past-ground (ltb 18446744073709551615 n) _ _ a.1 (omega arith) in
    let c = past-ground (ltb k 1) _ _ b.1 (omega arith) in
    let d = past-ground (ltb 65534 k) _ _ c.1 (omega arith) in
    record { number_least = ltb-false _ _ a.0; number_most = ltb-false _ _ b.0; limit_least = ltb-false _ _ c.0; limit_most = ltb-false _ _ d.0 }

pub started : (s : List ℕ) (n k : ℕ) → receiver_start_refusal n k ≡ 0 → start_receiver s n k ≡ receiver s n k false
unfolding start_receiver
started s n k e = rw e

pub start-fresh : (s : List ℕ) (n k : ℕ) → 1 ≤ n → n ≤ 18446744073709551615 → 1 ≤ k → k ≤ 65534 → receiver s n k false ≡ start_receiver s n k
start-fresh s n k h i j m = sym (started s n k (sym (start-good n k h i j m)))
