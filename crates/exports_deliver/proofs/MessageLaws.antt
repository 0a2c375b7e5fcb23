-- The parts at the places are the delivered messages, and so many words are enough.
use Prim.Native.Nat.{◌+◌, ◌≤◌}
use mathlib.Core.Path.{◌≡◌, ap, sym, ◌∙◌}
use native.Mathlib.Omega.{arith}
use lib.ListN.{length, drop, length-drop}
use Rattle.wire.proofs.Cases.{zero_or_not}
use Rattle.moldudp64.specs.Downstream.{refusal_of}
use Rattle.moldudp64.proofs.DownstreamLaws.{sound}
use Rattle.receiver.specs.declared.receiver.Receiver.{Receiver}
use Rattle.receiver.specs.Receiver.{refusal_for, answer_of}
use Rattle.receiver.specs.Delivery.{messages_delivered_at, messages_delivered}
use Rattle.feed.specs.Session.{Datagram}
use Rattle.receiver.proofs.Promises.{refused-answers, well-read}
use Rattle.host_receiver.proofs.SaidLaws.{Says, delivers, gives_none, said}
use Rattle.exports_deliver.specs.Places.{places_delivered_at, places_delivered, parts_at, most_places, PlacesAreMessages, EnoughPlaces}
use Rattle.exports_deliver.proofs.PlaceLaws.{length-places, fit-size, parts-behind}
use Rattle.exports_deliver.proofs.FindLaws.{none-but-deliver, all-fit, all-messages}

module _ (r : Receiver) (d : Datagram) where
  parts_said : refusal_of d ≡ 0 → Says (answer_of r d) d → parts_at (places_delivered (answer_of r d) d) d ≡ messages_delivered (answer_of r d) d
  unfolding places_delivered_at messages_delivered_at parts_at
  parts_said well (delivers first count skipped e k n) =
      rw e (parts-behind count skipped 20 d ∙ ap (drop skipped) (sym (all-messages d count skipped well k n)))
  parts_said well (gives_none n m) = rw (none-but-deliver (answer_of r d).which (answer_of r d).values d n) (sym m)

  enough-said : refusal_of d ≡ 0 → Says (answer_of r d) d → length (places_delivered (answer_of r d) d) ≤ most_places
  unfolding places_delivered_at
  enough-said well (delivers first count skipped e k n) =
      let size = fit-size (skipped + count) (drop 20 d) (all-fit d count skipped well k n) in
      let most = (sound d well).short in
      rw e (rw (length-places count _ _) (omega (arith, length-drop 20 d)))
  enough-said well (gives_none n m) = rw (none-but-deliver (answer_of r d).which (answer_of r d).values d n) (omega arith)

  -- a refusal has neither places nor messages
  parts-refused : (refusal_for r d ≡ 0 → ⊥) → parts_at (places_delivered (answer_of r d) d) d ≡ messages_delivered (answer_of r d) d
  unfolding places_delivered_at messages_delivered_at parts_at
  parts-refused z = rw (refused-answers r d z)

  enough-refused : (refusal_for r d ≡ 0 → ⊥) → length (places_delivered (answer_of r d) d) ≤ most_places
  unfolding places_delivered_at
  enough-refused z = rw (refused-answers r d z) (omega arith)

pub places_are_messages : PlacesAreMessages
unfolding PlacesAreMessages
places_are_messages r d small = zero_or_not _ (refusal_for r d) (λ z. parts_said r d (well-read r d z) (said r d z)) (parts-refused r d)

pub enough_places : EnoughPlaces
unfolding EnoughPlaces
enough_places r d small = zero_or_not _ (refusal_for r d) (λ z. enough-said r d (well-read r d z) (said r d z)) (enough-refused r d)
