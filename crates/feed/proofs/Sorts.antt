-- Condition 3's kind, sorted by what a receiver of the session can make of the datagram. It speaks of no receiver, so that each
-- receiver's proof goes by the same cases.
use Prim.Native.Nat.{ℕ, ◌+◌, ◌-◌, ◌<◌, ◌≤◌}
use mathlib.Core.Path.{◌≡◌, refl, sym, ◌∙◌}
use mathlib.Core.List.{List, []}
use mathlib.Core.Bool.{Bool, true, false, true≢false}
use native.Mathlib.Omega.{arith}
use lib.ListN.{length, get_or, take}
use lib.Dec.{eqb}
use lib.Seq.{ext_get_or, get_or-take, get_or-drop}
use borrow.Author.Tests.{eqb-true, eqb-false}
use Rattle.wire.specs.Bytes.{same_bytes}
use Rattle.wire.proofs.Same.{same-equal, alike}
use Rattle.moldudp64.specs.Header.{number_of, count_of}
use Rattle.moldudp64.specs.Downstream.{data_packet, heartbeat, end_of_session, kind_of, refusal_of, messages_of}
use Rattle.moldudp64.proofs.DownstreamLaws.{count-sound, kind-blocks}
use Rattle.feed.specs.Session.{Datagram, Message, Session, last_of, IsMessage, messages_from, OfKind, not_well_formed, another_name, any_heartbeat, true_data, true_end}
use Rattle.feed.proofs.FeedLaws.{length_from}

-- ---- two names

name-cases : (P : Type 0) (a b : List ℕ) → (a ≡ b → P) → ((a ≡ b → ⊥) → P) → P
name-cases P a b f g = go (same_bytes a b) refl
  where
    go : (t : Bool) → same_bytes a b ≡ t → P
    go true e = f (same-equal a b e)
    go false e = g (λ q. true≢false (sym (alike a b q) ∙ e))

-- ---- a run of c messages that are the session's at their numbers, the first at f

module _ (s : Session) (f : ℕ) (l : List Message) (h : (i : ℕ) → i < length l → IsMessage s (f + i) (get_or l i []))
    (c : ℕ) (len : length l ≡ c) (some : 0 < c) where
  run-begin : 1 ≤ f
  run-begin = omega (arith, (h 0 (omega arith)).from_one)

  run_end : f + c ≤ last_of s + 1
  run_end = omega (arith, (h (c - 1) (omega arith)).to_last)

  pub run-true : l ≡ messages_from s f (f + c)
  unfolding messages_from
  run-true =
      ext_get_or [] l (messages_from s f (f + c)) (omega (arith, length_from s f (f + c) run-begin (omega arith) run_end))
      (λ i g.
      let e : f + c - f ≡ c = omega arith in
      let k : (f - 1) + i ≡ f + i - 1 = omega (arith, run-begin) in
      let b : i < c = omega arith in
      rw (e, get_or-take, get_or-drop, k) (h i g).bytes)

-- ---- the datagram

module _ (s : Session) (d : Datagram) where
  pub record Named : Type 0 where
    pub is_well_formed : refusal_of d ≡ 0
    pub name : take 10 d ≡ s.name

  pub record TrueData : Type 0 where
    pub named : Named
    pub kind : kind_of d ≡ data_packet
    pub messages : (i : ℕ) → i < length (messages_of d) → IsMessage s (number_of d + i) (get_or (messages_of d) i [])

  pub record TrueEnd : Type 0 where
    pub named : Named
    pub kind : kind_of d ≡ end_of_session
    pub number : number_of d ≡ last_of s + 1

  pub data Sort : Type 0 where
    is-bad : (refusal_of d ≡ 0 → ⊥) → Sort
    is-other : refusal_of d ≡ 0 → (take 10 d ≡ s.name → ⊥) → Sort
    is-heartbeat : Named → kind_of d ≡ heartbeat → Sort
    is_of_data : TrueData → Sort
    is-end : TrueEnd → Sort

  named-or-not : (Named → Sort) → Sort
  named-or-not f = go (eqb (refusal_of d) 0) refl
    where
      go : (b : Bool) → eqb (refusal_of d) 0 ≡ b → Sort
      go true e =
          name-cases Sort (take 10 d) s.name (λ n. f (record { is_well_formed = eqb-true _ _ e; name = n }))
          (λ n. is-other (eqb-true _ _ e) n)
      go false e = is-bad (eqb-false _ _ e)

  pub sort : OfKind s d → Sort
  sort (not_well_formed h) = is-bad h
  sort (another_name h) = named-or-not (λ n. absurd (h n.name))
  sort (any_heartbeat k) = named-or-not (λ n. is-heartbeat n k)
  sort (true_data k m) = named-or-not (λ n. is_of_data (record { named = n; kind = k; messages = m }))
  sort (true_end k e) = named-or-not (λ n. is-end (record { named = n; kind = k; number = e }))

  -- true data, as a run of the session's messages
  module _ (t : TrueData) (some : 0 < count_of d) where
    data-length : length (messages_of d) ≡ count_of d
    data-length = count-sound d t.named.is_well_formed ∙ kind-blocks d data_packet t.kind

    pub data-begin : 1 ≤ number_of d
    data-begin = run-begin s (number_of d) (messages_of d) t.messages (count_of d) data-length some

    pub data-end : number_of d + count_of d ≤ last_of s + 1
    data-end = run_end s (number_of d) (messages_of d) t.messages (count_of d) data-length some

    pub data-run : messages_of d ≡ messages_from s (number_of d) (number_of d + count_of d)
    data-run = run-true s (number_of d) (messages_of d) t.messages (count_of d) data-length some
