-- A reader that is opened and moved on i times stands at message i, with length - i messages left; one from a delivery so much later.
use mathlib.Core.Path.{◌≡◌, refl, ap, ◌∙◌}
use mathlib.Core.List.{List}
use Prim.Native.Nat.{ℕ, zero, suc, ◌+◌, ◌-◌, ◌≤◌, ◌<◌}
use native.Mathlib.Omega.{arith}
use lib.ListN.{length}
use borrow.Author.Tests.{lt-ltb, le-ltb}
use Rattle.wire.proofs.Cases.{below_or_not}
use Rattle.moldudp64.specs.Downstream.{messages_of}
use Rattle.moldudp64_messages.specs.declared.cursor.Located.{Located}
use Rattle.moldudp64_messages.specs.declared.cursor.Cursor.{Cursor}
use Rattle.moldudp64_messages.specs.Cursor.{located, advanced, advanced_by, start_of, locate_of, part, WalksTheMessages, PartIsMessage}
use Rattle.moldudp64_messages.proofs.CursorLaws.{moved_on, moved-stays, walks-the-messages, part-is-message}
use Rattle.receiver.specs.Delivery.{DeliveryVisits}
use Rattle.receiver.proofs.DeliveryLaws.{delivery-moves, delivery-visits}
use Rattle.moldudp64_reader.specs.Reader.{ReadsTheMessages, ReadsTheDelivery}

-- one more move is the last one
last-move : (i : ℕ) (l : List ℕ) (c : Cursor) → advanced_by (suc i) l c ≡ advanced l (advanced_by i l c)
unfolding advanced_by
last-move zero l c = refl
last-move (suc i) l c = last-move i l (advanced l c)

-- a move from message i leaves one less, and none where there is no message i
one_less : (l : List ℕ) (i : ℕ) (c : Cursor) → located l c ≡ locate_of l i → c.left.0 ≡ length (messages_of l) - i → (advanced l c).left.0 ≡ length (messages_of l) - suc i
unfolding locate_of
one_less l i c e f = below_or_not _ i (length (messages_of l)) on stays
  where
    on : i < length (messages_of l) → (advanced l c).left.0 ≡ length (messages_of l) - suc i
    on h =
        let m : c.left.0 - 1 ≡ (advanced l c).left.0 = ap (λ (d : Cursor). d.left.0) (moved_on l c (located l c) (record { 0 = c.left.0 - 1 }) refl (ap (λ (p : Located). p.exists) e ∙ rw (lt-ltb _ _ h)) refl) in
        omega arith

    stays : length (messages_of l) ≤ i → (advanced l c).left.0 ≡ length (messages_of l) - suc i
    stays h =
        let m : c.left.0 ≡ (advanced l c).left.0 = ap (λ (d : Cursor). d.left.0) (moved-stays l c (located l c) refl (ap (λ (p : Located). p.exists) e ∙ rw (le-ltb _ _ h))) in
        omega arith

left_after : (l : List ℕ) (i : ℕ) → (advanced_by i l (start_of l)).left.0 ≡ length (messages_of l) - i
unfolding advanced_by WalksTheMessages
left_after l zero = omega arith
left_after l (suc i) =
    ap (λ (c : Cursor). c.left.0) (last-move i l (start_of l)) ∙ one_less l i (advanced_by i l (start_of l)) (walks-the-messages l i) (left_after l i)

pub reads-the-messages : ReadsTheMessages
unfolding ReadsTheMessages WalksTheMessages PartIsMessage
reads-the-messages l i =
    record {
      its_place = walks-the-messages l i;
      its_bytes = ap (part l) (walks-the-messages l i) ∙ part-is-message l i;
      how_many_left = left_after l i;
    }

pub reads-the-delivery : ReadsTheDelivery
unfolding ReadsTheDelivery ReadsTheMessages DeliveryVisits
reads-the-delivery r l first count skipped i small e = (
  rw (delivery-moves r l first count skipped small e i) (reads-the-messages l (skipped + i)),
  omega (arith, (delivery-visits r l first count skipped small e).its_number),
)
