-- The messages that are had by place.
use Prim.Native.Nat.{ℕ, zero, suc, ◌+◌, ◌-◌, ◌<◌}
use mathlib.Core.Path.{◌≡◌, refl, sym, ap, ap₂, ◌∙◌}
use mathlib.Core.List.{List, [], ◌∷◌}
use native.Mathlib.Omega.{arith}
use lib.ListN.{length, get_or}
use Rattle.feed.specs.Session.{Datagram, Session, messages_from}
use Rattle.feed.proofs.FeedLaws.{none_from}
use Rattle.early_holding.specs.Holding.{Lent, next_of}
use Rattle.early_receiver.specs.Early.{lent_after}
use Rattle.early_messages.specs.Delivery.{delivered_count, message_with, message_at, messages_at, delivery}

pub places-length : (s : Lent) (d : Datagram) (p k : ℕ) → length (messages_at s d p k) ≡ k
unfolding messages_at
places-length s d p zero = refl
places-length s d p (suc k) = ap suc (places-length s d (p + 1) k)

pub places-get : (s : Lent) (d : Datagram) (p k i : ℕ) → i < k → get_or (messages_at s d p k) i [] ≡ message_at s d (p + i)
unfolding messages_at
places-get s d p zero i h = absurd (omega arith)
places-get s d p (suc k) zero h = let z : p + 0 ≡ p = omega arith in rw z refl
places-get s d p (suc k) (suc i) h = let z : p + suc i ≡ p + 1 + i = omega arith in rw z (places-get s d (p + 1) k i (omega arith))

-- where the number stays, nothing is delivered
pub still-none : (r : Lent) (d : Datagram) → next_of (lent_after r d).receiver ≡ next_of r.receiver → delivery r d ≡ []
unfolding delivered_count messages_at
still-none r d e =
    let z : next_of (lent_after r d).receiver - next_of r.receiver ≡ 0 = omega arith in
    rw z refl

pub still : (s : Session) (r : Lent) (d : Datagram) → next_of (lent_after r d).receiver ≡ next_of r.receiver
    → delivery r d ≡ messages_from s (next_of r.receiver) (next_of (lent_after r d).receiver)
still s r d e = still-none r d e ∙ sym (ap (messages_from s (next_of r.receiver)) e ∙ none_from s (next_of r.receiver))

-- two receivers at one number that hold the same, and get as far
module _ (r q : Lent) (d : Datagram) (n : next_of r.receiver ≡ next_of q.receiver) (c : delivered_count r d ≡ delivered_count q d)
    (w : (j : ℕ) → message_with r d j ≡ message_with q d j) where
  same_at : (p : ℕ) → message_at r d p ≡ message_at q d p
  unfolding message_at
  same_at p = rw (c, w (next_of r.receiver + p), n) refl

  same-places : (p k : ℕ) → messages_at r d p k ≡ messages_at q d p k
  unfolding messages_at
  same-places p zero = refl
  same-places p (suc k) = ap₂ (λ (x : List ℕ) (y : List (List ℕ)). x ∷ y) (same_at p) (same-places (p + 1) k)

  pub same-delivery : delivery r d ≡ delivery q d
  same-delivery = rw c (same-places 0 (delivered_count q d))
