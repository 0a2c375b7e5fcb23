-- The number never falls and the limit stays, so that what is asked for can be sent.
use Prim.Native.Nat.{ℕ, ◌+◌, ◌<◌, ◌≤◌}
use mathlib.Core.Path.{◌≡◌, refl, sym, ap, ◌∙◌}
use mathlib.Core.List.{List, [], ◌∷◌}
use native.Mathlib.Omega.{arith}
use lib.ListN.{length}
use lib.Dec.{ltb, eqb}
use borrow.Author.Tests.{ltb-true}
use Rattle.wire.proofs.Cases.{zero_or_not}
use Rattle.moldudp64.specs.Header.{number_of}
use Rattle.moldudp64.specs.Downstream.{DownstreamKind, data_packet, heartbeat, end_of_session, kind_of, messages_of}
use Rattle.moldudp64.specs.Request.{request_ground}
use Rattle.moldudp64.proofs.RequestLaws.{ground-good}
use Rattle.feed.specs.Session.{Datagram, Message}
use Rattle.receiver.specs.Table.{ask_for}
use Rattle.receiver.proofs.StartLaws.{InBounds, in_bounds, start-good}
use Rattle.early_holding.specs.Holding.{Lent, next_of, number_past, advance, keeps, keep, keep_one, take_one, take_all}
use Rattle.early_holding.proofs.HoldingLaws.{either}
use Rattle.early_receiver.specs.Early.{early_refusal, named_lent, end_at, take_kind, lent_after, request_of, wanted, wanted_to}
use Rattle.early_receiver.proofs.RequestLaws.{after_open}
use Rattle.early_messages.proofs.ReachLaws.{refused-after}
use Rattle.early_condition_3.specs.Asks.{Good, AsksWell}

record Onward (s t : Lent) : Type 0 where
  up : next_of s.receiver ≤ next_of t.receiver
  most : next_of t.receiver ≤ 18446744073709551615
  limit : t.receiver.base.limit ≡ s.receiver.base.limit

stays : (s : Lent) → next_of s.receiver ≤ 18446744073709551615 → Onward s s
stays s h = record { up = omega arith; most = h; limit = refl }

join : (s t u : Lent) → Onward s t → Onward t u → Onward s u
join s t u a b = record { up = omega (arith, a.up, b.up); most = b.most; limit = b.limit ∙ a.limit }

advance-on : (s : Lent) → next_of s.receiver ≤ 18446744073709551615 → Onward s (advance s)
unfolding advance number_past
advance-on s h = record { up = omega arith; most = omega arith; limit = refl }

keep-on : (s : Lent) (j : ℕ) (m : Message) → next_of s.receiver ≤ 18446744073709551615 → Onward s (keep s j m)
unfolding keep
keep-on s j m h = record { up = omega arith; most = h; limit = refl }

one_on : (s : Lent) (j : ℕ) (m : Message) → next_of s.receiver ≤ 18446744073709551615 → Onward s (take_one s j m)
unfolding take_one keep_one
one_on s j m h =
    either (eqb j (next_of s.receiver)) _ (λ q. rw q (advance-on s h))
    (λ q. either (keeps s.receiver j (length m)) _ (λ z. rw (q, z) (keep-on s j m h)) (λ z. rw (q, z) (stays s h)))

all-on : (s : Lent) (f : ℕ) (ms : List Message) → next_of s.receiver ≤ 18446744073709551615 → Onward s (take_all s f ms)
unfolding take_all
all-on s f [] h = stays s h
all-on s f (m ∷ ms) h = let o = one_on s f m h in join _ _ _ o (all-on (take_one s f m) (f + 1) ms o.most)

kind-on : (s : Lent) (k : DownstreamKind) (l : Datagram) → next_of s.receiver ≤ 18446744073709551615 → Onward s (take_kind s k l)
unfolding take_kind end_at
kind-on s data_packet l h = all-on s (number_of l) (messages_of l) h
kind-on s heartbeat l h = stays s h
kind-on s end_of_session l h =
    either (eqb (number_of l) (next_of s.receiver)) _ (λ q. rw q (record { up = omega arith; most = h; limit = refl }))
    (λ q. rw q (stays s h))

module _ (s : Lent) (l : Datagram) (g : Good s) where
  b : InBounds (next_of s.receiver) s.receiver.base.limit.0
  b = in_bounds (next_of s.receiver) s.receiver.base.limit.0 g

  named-on : Onward s (take_kind (named_lent s l) (kind_of l) l)
  named-on =
      let o = kind-on (named_lent s l) (kind_of l) l b.number_most in
      record { up = o.up; most = o.most; limit = o.limit }

  after_on : Onward s (lent_after s l)
  after_on =
      zero_or_not _ (early_refusal s l) (λ z. rw (after_open s l z) named-on)
      (λ z. rw (refused-after s l z) (stays s b.number_most))

  good-after : Good (lent_after s l)
  good-after =
      let least : 1 ≤ next_of (lent_after s l).receiver = omega (arith, after_on.up, b.number_least) in
      rw after_on.limit (sym (start-good _ s.receiver.base.limit.0 least after_on.most b.limit_least b.limit_most))

  module _ (from count : ℕ) where
    sent : (n w k : ℕ) → 1 ≤ n → n < w → 1 ≤ k → k ≤ 65534 → n ∷ ask_for k n w ∷ [] ≡ from ∷ count ∷ [] → request_ground from count ≡ 0
    sent n w k i h j m e =
        let p : n ≡ from = cc in
        let q : ask_for k n w ≡ count = cc in
        let some : 1 ≤ count = omega arith in
        let most : count ≤ 65534 = omega arith in
        sym (ground-good from count (λ x. omega arith) (λ x. omega arith) (λ x. omega arith))

    none : [] ≡ from ∷ count ∷ [] → request_ground from count ≡ 0
    none e = let z = ap length e in absurd (omega arith)

    by-wanted : wanted (lent_after s l).receiver (number_of l) ≡ from ∷ count ∷ [] → request_ground from count ≡ 0
    unfolding wanted
    by-wanted =
        let r = (lent_after s l).receiver in
        either r.base.ended _ (λ q. rw q none)
        (λ q.
        either (ltb (next_of r) (wanted_to r (number_of l))) _
        (λ z. rw (q, z, after_on.limit)
        (sent (next_of r) (wanted_to r (number_of l)) s.receiver.base.limit.0 (omega (arith, after_on.up, b.number_least))
        (ltb-true _ _ z) b.limit_least b.limit_most))
        (λ z. rw (q, z) none))

    asks : request_of s l ≡ from ∷ count ∷ [] → request_ground from count ≡ 0
    unfolding request_of
    asks = either (eqb (early_refusal s l) 0) _ (λ q. rw q by-wanted) (λ q. rw q none)

pub asks_well : AsksWell
asks_well =
    record {
      is_a_request = λ s l from count g e. asks s l g from count e;
      limit_stays = λ s l g. (after_on s l g).limit;
      number_never_falls = λ s l g. (after_on s l g).up;
      stays_good = good-after;
    }
