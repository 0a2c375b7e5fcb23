-- Order 6's rule: what one message does, and how a datagram is taken.
use Prim.Native.Nat.{ℕ, ◌+◌, ◌-◌, ◌*◌, ◌%◌, ◌^◌, ◌<◌, ◌≤◌}
use mathlib.Core.Path.{◌≡◌, refl, ap, ◌∙◌}
use mathlib.Core.List.{List, [], ◌∷◌}
use mathlib.Core.Bool.{true, false}
use native.Mathlib.Omega.{arith}
use lib.ListN.{length, get_or, take, drop}
use lib.Dec.{eqb}
use borrow.Author.Tests.{lt-ltb, eq-eqb, ne_eqb, le-ltb, lt-leb}
use Rattle.std.specs.Prelude.{if◌then◌else◌}
use Rattle.wire.proofs.Cases.{below_or_not, zero_or_not}
use Rattle.moldudp64.specs.Header.{number_of}
use Rattle.moldudp64.specs.Downstream.{DownstreamKind, data_packet, heartbeat, end_of_session, kind_of, refusal_of, messages_of}
use Rattle.moldudp64.proofs.DownstreamLaws.{sound, count-sound}
use Rattle.feed.specs.Session.{Datagram, Message}
use Rattle.early_word.specs.Word.{run}
use Rattle.early_word.proofs.WordLaws.{ones-set, ones-stop}
use Rattle.early_holding.specs.Holding.{slot_at, Lent, lent, next_of, is_held, number_past, advance, keeps, keep, keep_one, take_one}
use Rattle.early_holding.proofs.HoldingLaws.{either, held_at, keepable}
use Rattle.early_receiver.specs.Early.{start_early, early_refusal, named_lent, ended_now, end_at, take_kind, lent_after}
use Rattle.early_receiver.proofs.ByteLaws.{byte-before, byte-behind}
use Rattle.early_receiver.proofs.RequestLaws.{after_open, well-open}
use Rattle.early_messages.specs.Delivery.{held_from, gives_one, gives_all, delivery, PlacesAreDelivered}
use Rattle.early_messages.proofs.ReachLaws.{refused-after, data_gives}
use Rattle.early_messages.proofs.GivesLaws.{places_are_delivered}
use Rattle.early_condition_3.specs.Rule.{Sound, SoundThroughout, DeliversOn, MayBeHeld, Holds, OneMessage, EndsHere, FollowsTheRule}
use Rattle.early_condition_3.proofs.SlotLaws.{slot-own}
use Rattle.early_condition_3.proofs.Reading.{run-whole, advance-held}
use Rattle.early_condition_3.proofs.KeepLaws.{keep-held, keep-own, keep-other, one-is, all-is}
use Rattle.early_condition_3.proofs.StepLaws.{take-data, take-beat, take-end, take-end-ahead, none-held, empty-sound}
use Rattle.early_condition_3.proofs.PlaceLaws.{still-none}

-- ---- number n

module _ (s : Lent) (m : Message) (g : Sound s) (h : next_of s.receiver < 18446744073709551615) where
  abbrev n : ℕ
  n = next_of s.receiver

  abbrev k : ℕ
  k = run s.receiver.held.0

  goes : take_one s n m ≡ advance s
  unfolding take_one
  goes = rw (eq-eqb n n refl)

  to : next_of (advance s).receiver ≡ n + (k + 1)
  unfolding advance
  to = run-whole s g h

  gives : gives_one s n m ≡ m ∷ held_from s (n + 1) (next_of (advance s).receiver - n - 1)
  unfolding gives_one advance
  gives = rw (eq-eqb n n refl)

  run-held : (j : ℕ) → n < j → j < next_of (advance s).receiver → is_held s.receiver j ≡ true
  run-held j a b =
      let z : n + 1 + (j - n - 1) ≡ j = omega arith in
      rw (← z) (held_at s.receiver (j - n - 1) ∙ ones-set 64 s.receiver.held.0 (j - n - 1) (omega (arith, to)))

  run-gap : is_held s.receiver (next_of (advance s).receiver) ≡ false
  run-gap =
      let z : next_of (advance s).receiver ≡ n + 1 + k = omega (arith, to) in
      rw z (held_at s.receiver k ∙ ones-stop 64 s.receiver.held.0 g.word)

  stay_held : (j : ℕ) → next_of (advance s).receiver < j → is_held (advance s).receiver j ≡ is_held s.receiver j
  unfolding advance
  stay_held j a = advance-held s (number_past n s.receiver.held.0) k j (run-whole s g h) ∙ rw (lt-ltb _ _ a)

  on : DeliversOn s (advance s) m (gives_one s n m)
  unfolding advance
  on =
      record {
        moves = omega (arith, to);
        follow = run-held;
        gap = run-gap;
        gives = gives;
        stay_held = stay_held;
        settings = record { name = refl; limit = refl; ended = refl };
        lengths = refl;
        slots = refl;
      }

  delivers-on : DeliversOn s (take_one s n m) m (gives_one s n m)
  delivers-on = rw goes on

-- ---- a number that may be held

module _ (s : Lent) (j : ℕ) (m : Message) (b : MayBeHeld s j m) where
  not-next : j ≡ next_of s.receiver → ⊥
  not-next e = omega (arith, b.above)

  is-kept : take_one s j m ≡ keep s j m
  unfolding take_one keep_one keeps
  is-kept = rw (ne_eqb _ _ not-next, lt-leb _ _ b.above, le-ltb _ _ b.within, le-ltb _ _ b.short, b.not_yet)

  gives_nothing : gives_one s j m ≡ []
  unfolding gives_one
  gives_nothing = rw (ne_eqb _ _ not-next)

  module _ (g : Sound s) where
    its_held : (i : ℕ) → is_held (keep s j m).receiver i ≡ (if eqb i j then true else is_held s.receiver i)
    its_held i = keep-held s j m i b.above b.within

    its-slot : take (length m) (drop (slot_at j) (keep s j m).slots) ≡ m
    unfolding keep
    its-slot =
        let r : j % 64 * 1024 + length m ≤ length s.slots = omega (arith, g.size, b.short) in
        slot-own s.slots (j % 64 * 1024) m r

    other_byte : (i : ℕ) → (slot_at j ≤ i → i < slot_at j + length m → ⊥) → get_or (keep s j m).slots i 0 ≡ get_or s.slots i 0
    unfolding keep
    other_byte i z =
        below_or_not _ i (slot_at j) (λ q. byte-before s.slots (slot_at j) m i q)
        (λ q. below_or_not _ i (slot_at j + length m) (λ p. absurd (z q p)) (λ p. byte-behind s.slots (slot_at j) m i p))

    kept-so : Holds s (keep s j m) j m
    unfolding keep
    kept-so =
        record {
          number = refl;
          settings = record { name = refl; limit = refl; ended = refl };
          held = its_held j ∙ rw (eq-eqb j j refl);
          others = λ i z. its_held i ∙ rw (ne_eqb _ _ z);
          message = keep-own s j m g b.short;
          messages = λ i z e. keep-other s j m i g b.above b.within b.short e z;
          in_its_slot = its-slot;
          no_other_byte = other_byte;
        }

    holds : Holds s (take_one s j m) j m
    holds = rw is-kept kept-so

-- ---- anything else

module _ (s : Lent) (j : ℕ) (m : Message) (z : j ≡ next_of s.receiver → ⊥) where
  left : (MayBeHeld s j m → ⊥) → take_one s j m ≡ s
  unfolding take_one keep_one
  left f =
      either (keeps s.receiver j (length m)) _
      (λ q.
      let p = keepable s.receiver j (length m) q in
      absurd (f (record { above = p.above; within = p.near; short = p.short; not_yet = p.free })))
      (λ q. rw (ne_eqb _ _ z, q))

  none-given : gives_one s j m ≡ []
  unfolding gives_one
  none-given = rw (ne_eqb _ _ z)

pub one_message : OneMessage
one_message =
    record {
      expected = delivers-on;
      early = λ s j m g b. holds s j m b g;
      early_gives = gives_nothing;
      else_left = λ s j m z f. (left s j m z f, none-given s j m z);
      stays_sound = λ s j m g l. (one-is s j m g l).1;
    }

-- ---- a datagram

module _ (s : Lent) (l : Datagram) where
  -- where the receiver stays at its number nothing is delivered
  none-at : (t : Lent) → lent_after s l ≡ t → next_of t.receiver ≡ next_of s.receiver → delivery s l ≡ []
  none-at t e n = still-none s l (ap (λ (x : Lent). next_of x.receiver) e ∙ n)

  module _ (z : early_refusal s l ≡ 0) where
    by-kind-gives : s.receiver.held.0 < 2 ^ 64 → kind_of l ≡ data_packet → delivery s l ≡ gives_all s (number_of l) (messages_of l)
    unfolding PlacesAreDelivered
    by-kind-gives w k = places_are_delivered s l w ∙ data_gives s l z k

    beats : kind_of l ≡ heartbeat → lent_after s l ≡ named_lent s l
    beats k = after_open s l z ∙ take-beat (named_lent s l) l k

    ends : kind_of l ≡ end_of_session → number_of l ≡ next_of s.receiver
        → lent_after s l ≡ lent (ended_now (named_lent s l).receiver) s.lengths s.slots
    ends k e = after_open s l z ∙ take-end (named_lent s l) l k e

    ends-here : EndsHere (named_lent s l) (lent (ended_now (named_lent s l).receiver) s.lengths s.slots)
    ends-here =
        record { ended = refl; name = refl; limit = refl; number = refl; nothing_held = none-held _; lengths = refl; slots = refl }

    end-ahead : kind_of l ≡ end_of_session → next_of s.receiver < number_of l → lent_after s l ≡ named_lent s l
    end-ahead k h = after_open s l z ∙ take-end-ahead (named_lent s l) l k (λ e. omega arith)

pub follows_the_rule : FollowsTheRule lent_after delivery
follows_the_rule =
    record {
      refused = λ s l z. let e = refused-after s l z in (e, none-at s l s e refl);
      data_taken = λ s l z k. after_open s l z ∙ take-data (named_lent s l) l k;
      data_gives = λ s l w z k. by-kind-gives s l z w k;
      heartbeat_names = λ s l z k. let e = beats s l z k in (e, none-at s l _ e refl);
      end_ends = λ s l z k q. let e = ends s l z k q in (rw e (ends-here s l z), none-at s l _ e refl);
      end_ahead_names = λ s l z k h. let e = end-ahead s l z k h in (e, none-at s l _ e refl);
    }

-- ---- what holds from a start on

named-sound : (s : Lent) (l : Datagram) → Sound s → Sound (named_lent s l)
unfolding is_held
named-sound s l g = record { word = g.word; noted = g.noted; size = g.size; short = g.short; low = g.low }

kind-sound : (s : Lent) (k : DownstreamKind) (l : Datagram) → refusal_of l ≡ 0 → Sound s → Sound (take_kind s k l)
unfolding take_kind end_at
kind-sound s data_packet l w g =
    (all-is s (number_of l) (messages_of l) g (omega (arith, count-sound l w, (sound l w).numbers_fit))).1
kind-sound s heartbeat l w g = g
kind-sound s end_of_session l w g =
    either (eqb (number_of l) (next_of s.receiver)) _ (λ q. rw q (empty-sound _ s.lengths s.slots g.noted g.size)) (λ q. rw q g)

after-sound : (s : Lent) (l : Datagram) → Sound s → Sound (lent_after s l)
after-sound s l g =
    zero_or_not _ (early_refusal s l)
    (λ z. rw (after_open s l z) (kind-sound (named_lent s l) (kind_of l) l (well-open s l z) (named-sound s l g)))
    (λ z. rw (refused-after s l z) g)

start-sound : (name : List ℕ) (n limit : ℕ) (lengths slots : List ℕ) → length lengths ≡ 128 → length slots ≡ 65536
    → Sound (lent (start_early name n limit) lengths slots)
unfolding start_early
start-sound name n limit lengths slots e f = empty-sound _ lengths slots e f

pub sound_throughout : SoundThroughout
sound_throughout = record { at_start = start-sound; stays = after-sound }
