-- What a reader shows of the messages of its datagram.
use Rattle.std.specs.Prelude.{ℕ, ◌+◌, ◌-◌, List, [], ◌∷◌, ◌≡◌, length}
use Rattle.wire.specs.Bytes.{AreBytes}
use Rattle.wire.specs.Words.{says}
use Rattle.moldudp64.specs.Downstream.{messages_of, message_number, message_of}
use Rattle.moldudp64_messages.specs.declared.cursor.Cursor.{Cursor}
use Rattle.moldudp64_messages.specs.Cursor.{located, advanced, advanced_by, start_of, locate_of, part}
use Rattle.receiver.specs.declared.receiver.Receiver.{Receiver}
use Rattle.receiver.specs.Table.{deliver}
use Rattle.receiver.specs.Receiver.{answer_of}
use Rattle.receiver.specs.Delivery.{delivery_cursor}
use Rattle.moldudp64_reader.specs.declared.Shown.{Shown}

-- what a reader at a cursor shows: the message there, how many are left, and the place of the next
abbrev pub shown_at : List ℕ → Cursor → Shown
shown_at l c = record { located = located l c; left = c.left; next = advanced l c }

-- at message i of the datagram: its place, its bytes, and how many are left, itself included
pub record StandsAt (l : List ℕ) (i : ℕ) (c : Cursor) : Type 0 where
  pub its_place : located l c ≡ locate_of l i
  pub its_bytes : part l (located l c) ≡ message_of l i
  pub how_many_left : c.left.0 ≡ length (messages_of l) - i

-- a reader that is opened, and moved on i times, stands at message i
unfoldable pub ReadsTheMessages : Type 0
ReadsTheMessages = (l : List ℕ) (i : ℕ) → StandsAt l i (advanced_by i l (start_of l))

-- one that is made from a deliver answer, and moved on i times, stands at message skipped + i, which has the number
-- first + i
unfoldable pub ReadsTheDelivery : Type 0
ReadsTheDelivery = (r : Receiver) (l : List ℕ) (first count skipped i : ℕ) → AreBytes l
    → answer_of r l ≡ says deliver (first ∷ count ∷ skipped ∷ [])
    → StandsAt l (skipped + i) (advanced_by i l (delivery_cursor l count skipped))
    × (message_number l (skipped + i) ≡ first + i)
