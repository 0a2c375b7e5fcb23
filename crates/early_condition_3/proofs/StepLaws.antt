-- What a datagram does to the receiver with what is lent to it: refused, or taken by its kind.
use Prim.Native.Nat.{ℕ, ◌+◌}
use mathlib.Core.Path.{◌≡◌, refl, sym, ◌∙◌}
use mathlib.Core.List.{List, [], ◌∷◌}
use mathlib.Core.Bool.{true, false, true≢false}
use lib.ListN.{length}
use lib.Dec.{ltb, eqb}
use lib.Pow.{pow_pos}
use borrow.Author.Tests.{eq-eqb, ne_eqb}
use Rattle.wire.specs.Bounds.{blank}
use Rattle.wire.proofs.Same.{different}
use Rattle.moldudp64.specs.Header.{number_of}
use Rattle.moldudp64.specs.Downstream.{data_packet, heartbeat, end_of_session, kind_of, messages_of}
use Rattle.receiver.specs.declared.receiver.Receiver.{Receiver}
use Rattle.receiver.specs.Receiver.{name_by}
use Rattle.feed.specs.Session.{Datagram, Message}
use Rattle.early_holding.specs.Holding.{Lent, lent, next_of, early, is_held, advance, keep, keep_one, keeps, take_one, take_all}
use Rattle.early_holding.proofs.HoldingLaws.{either}
use Rattle.early_receiver.specs.Early.{named_lent, ended_now, end_at, take_kind}
use Rattle.early_receiver.proofs.RequestLaws.{bit-of-none}
use Rattle.early_condition_3.specs.Rule.{Sound}
use Rattle.early_condition_3.proofs.Model as model
use Rattle.early_condition_3.proofs.Reading.{held_of, is-held}

-- ---- a receiver that has a name keeps it

pub name-kept : (s : Lent) (d : Datagram) → (s.receiver.base.session ≡ blank → ⊥) → named_lent s d ≡ s
unfolding name_by
name-kept s d b = rw (different s.receiver.base.session blank b) refl

-- ---- the kinds

module _ (s : Lent) (d : Datagram) where
  pub take-data : kind_of d ≡ data_packet → take_kind s (kind_of d) d ≡ take_all s (number_of d) (messages_of d)
  unfolding take_kind
  take-data k = rw k refl

  pub take-beat : kind_of d ≡ heartbeat → take_kind s (kind_of d) d ≡ s
  unfolding take_kind
  take-beat k = rw k refl

  pub take-end : kind_of d ≡ end_of_session → number_of d ≡ next_of s.receiver → take_kind s (kind_of d) d ≡ lent (ended_now s.receiver) s.lengths s.slots
  unfolding take_kind end_at
  take-end k e = rw (k, eq-eqb _ _ e) refl

  pub take-end-ahead : kind_of d ≡ end_of_session → (number_of d ≡ next_of s.receiver → ⊥) → take_kind s (kind_of d) d ≡ s
  unfolding take_kind end_at
  take-end-ahead k z = rw (k, ne_eqb _ _ z) refl

-- ---- messages touch neither the name nor the end

pub record SameBase (a b : Receiver) : Type 0 where
  pub session : a.session ≡ b.session
  pub ended : a.ended ≡ b.ended

one-base : (s : Lent) (j : ℕ) (m : Message) → SameBase (take_one s j m).receiver.base s.receiver.base
unfolding take_one advance keep_one keep
one-base s j m =
    either (eqb j (next_of s.receiver)) _ (λ q. rw q (record { session = refl; ended = refl }))
    (λ q.
    either (keeps s.receiver j (length m)) _ (λ k. rw (q, k) (record { session = refl; ended = refl }))
    (λ k. rw (q, k) (record { session = refl; ended = refl })))

pub same_base : (s : Lent) (f : ℕ) (ms : List Message) → SameBase (take_all s f ms).receiver.base s.receiver.base
unfolding take_all
same_base s f [] = record { session = refl; ended = refl }
same_base s f (m ∷ ms) =
    let o = one-base s f m in
    let a = same_base (take_one s f m) (f + 1) ms in
    record { session = a.session ∙ o.session; ended = a.ended ∙ o.ended }

-- ---- a receiver that holds nothing

pub none-held : (b : Receiver) (j : ℕ) → is_held (early b 0) j ≡ false
unfolding is_held
none-held b j = either (ltb b.next.0 j) _ (λ q. rw q (bit-of-none _)) (λ q. rw q refl)

module _ (b : Receiver) (lengths slots : List ℕ) where
  pub none_read : (j : ℕ) → model.is_held (held_of (lent (early b 0) lengths slots) j) ≡ true → ⊥
  none_read j e = true≢false (sym e ∙ is-held (lent (early b 0) lengths slots) j ∙ none-held b j)

  pub empty-sound : length lengths ≡ 128 → length slots ≡ 65536 → Sound (lent (early b 0) lengths slots)
  empty-sound h k =
      record {
        word = pow_pos 64;
        noted = h;
        size = k;
        short = λ j e. absurd (true≢false (sym e ∙ none-held b j));
        low = λ j e. absurd (true≢false (sym e ∙ none-held b j));
      }
