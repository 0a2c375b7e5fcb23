-- The places of what a datagram d delivers: their parts are its messages, and how many words they are.
use Prim.Native.Nat.{ℕ, zero, suc, ◌+◌, ◌-◌, ◌*◌, ◌≤◌}
use mathlib.Core.List.{List, [], ◌∷◌}
use mathlib.Core.Bool.{Bool}
use mathlib.Core.Path.{◌≡◌, refl, ap, ap₂, ◌∙◌}
use native.Mathlib.Omega.{arith}
use lib.ListN.{length, take, drop}
use lib.Dec.{eqb}
use Rattle.std.specs.Prelude.{if◌then◌else◌}
use Rattle.moldudp64.specs.Header.{number_of}
use Rattle.moldudp64.specs.Downstream.{DownstreamKind, messages_of}
use Rattle.moldudp64.proofs.DownstreamLaws.{sound, count-sound}
use Rattle.feed.specs.Session.{Message}
use Rattle.early_holding.specs.Holding.{Lent, next_of}
use Rattle.early_receiver.specs.Early.{early_refusal, named_lent, take_kind, lent_after}
use Rattle.early_receiver.proofs.KeepingLaws.{all-below}
use Rattle.early_receiver.proofs.RequestLaws.{after_open}
use Rattle.early_messages.specs.Delivery.{delivered_count, part_at, message_at, messages_at, PartsAreMessages}
use Rattle.early_messages.proofs.PartLaws.{parts-are-messages}
use Rattle.early_messages.proofs.ReachLaws.{Moves, Step, moves, stays, step, refused-after}
use Rattle.early_messages.proofs.CountLaws.{reached, delivered}
use Rattle.host_answers.specs.Answers.{flag}
use Rattle.exports_early.proofs.RunLaws.{flag_is}
use Rattle.exports_early_deliver.specs.Places.{places_of, places_delivered, parts_in, PlacesAreMessages, EnoughPlaces, StillThere}

pub length-places : (s : Lent) (d : List ℕ) (p k : ℕ) → length (places_of s d p k) ≡ 3 * k
unfolding places_of
length-places s d p zero = refl
length-places s d p (suc k) = let e = length-places s d (p + 1) k in omega arith

pub length-delivered : (s : Lent) (d : List ℕ) → length (places_delivered s d) ≡ 3 * delivered_count s d
unfolding places_delivered
length-delivered s d = length-places s d 0 (delivered_count s d)

-- ---- the parts are the messages

part-is : (s : Lent) (d : List ℕ) (p : ℕ)
    → take (part_at s d p).length (drop (part_at s d p).offset.0 (if eqb (flag (part_at s d p).held) 1 then s.slots else d)) ≡ message_at s d p
unfolding PartsAreMessages
part-is s d p =
    ap (λ (b : Bool). take (part_at s d p).length (drop (part_at s d p).offset.0 (if b then s.slots else d))) (flag_is (part_at s d p).held)
    ∙ parts-are-messages s d p

parts_from : (s : Lent) (d : List ℕ) (p k : ℕ) → parts_in (places_of s d p k) s.slots d ≡ messages_at s d p k
unfolding places_of parts_in messages_at
parts_from s d p zero = refl
parts_from s d p (suc k) = ap₂ (λ (a : Message) (b : List Message). a ∷ b) (part-is s d p) (parts_from s d (p + 1) k)

pub places_are_messages : PlacesAreMessages
unfolding PlacesAreMessages places_delivered
places_are_messages s d = parts_from s d 0 (delivered_count s d)

-- ---- a refusal delivers nothing

pub refused_none : (s : Lent) (d : List ℕ) → (early_refusal s d ≡ 0 → ⊥) → delivered_count s d ≡ 0
unfolding delivered_count
refused_none s d z = rw (refused-after s d z) (same (next_of s.receiver))
  where
    same : (n : ℕ) → n - n ≡ 0
    same n = omega arith

pub refused-places : (s : Lent) (d : List ℕ) → (early_refusal s d ≡ 0 → ⊥) → places_delivered s d ≡ []
unfolding places_delivered places_of
refused-places s d z = rw (refused_none s d z) refl

-- ---- so many words are enough

-- a datagram has at most 32,743 blocks, and at most 64 messages are held
count_most : (s : Lent) (d : List ℕ) → delivered_count s d ≤ 32807
unfolding delivered_count
count_most s d = go (step s d)
  where
    go : Step s d → next_of (lent_after s d).receiver - next_of s.receiver ≤ 32807
    go (moves g) = let r = reached s d g in omega (arith, r.near, g.begins)
    go (stays g) = omega (arith, g.number)

pub enough_places : EnoughPlaces
unfolding EnoughPlaces
enough_places s d = let n = length-delivered s d in let m = count_most s d in omega arith

-- ---- a step that delivers changes no slot

pub moved-slots : (s : Lent) (d : List ℕ) → Moves s d → (lent_after s d).slots ≡ s.slots
unfolding take_kind
moved-slots s d g =
    ap (λ (x : Lent). x.slots)
    (after_open s d g.open-so
    ∙ ap (λ (k : DownstreamKind). take_kind (named_lent s d) k d) g.kind
    ∙ all-below (named_lent s d) (number_of d) (messages_of d) g.begins (omega (arith, count-sound d g.well, (sound d g.well).numbers_fit)))

pub still_there : StillThere
unfolding StillThere
still_there s d h = moved-slots s d (delivered s d 0 h).its-data
