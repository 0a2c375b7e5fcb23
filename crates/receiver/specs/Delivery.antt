-- What a deliver answer delivers, and the cursor that visits it.
use Rattle.std.specs.Prelude.{ℕ, ◌+◌, ◌<◌, ◌≤◌, List, [], ◌∷◌, true, false, ◌≡◌, length, get_or, drop, ltb, if◌then◌else◌}
use Rattle.wire.specs.Bounds.{largest_count}
use Rattle.wire.specs.Words.{Words, Case, answer, refused, says}
use Rattle.wire.specs.Bytes.{AreBytes}
use Rattle.moldudp64.specs.Downstream.{messages_of, message_number}
use Rattle.moldudp64_messages.specs.declared.cursor.Cursor.{Cursor}
use Rattle.moldudp64_messages.specs.Cursor.{first_of, advanced_by, located, part}
use Rattle.receiver.specs.declared.receiver.Receiver.{Receiver}
use Rattle.receiver.specs.Table.{AnswerKind, deliver, old, quiet, ask, ended}
use Rattle.receiver.specs.Receiver.{answer_of}

-- a deliver answer delivers the datagram's messages after the skipped ones, in order; every other answer, a refusal
-- too, nothing
unfoldable pub messages_delivered_at : Case AnswerKind → List ℕ → List ℕ → List (List ℕ)
messages_delivered_at (answer deliver) values l = drop (get_or values 2 0) (messages_of l)
messages_delivered_at (answer old) values l = []
messages_delivered_at (answer quiet) values l = []
messages_delivered_at (answer ask) values l = []
messages_delivered_at (answer ended) values l = []
messages_delivered_at refused values l = []

-- what an answer in document 01's words delivers of a datagram
abbrev pub messages_delivered : Words AnswerKind → List ℕ → List (List ℕ)
messages_delivered w l = messages_delivered_at w.which w.values l

-- the cursor at the first message that is not skipped, of a datagram with count + skipped messages; the two may be
-- forged, and where they make no 16-bit count none is left
unfoldable pub delivery_cursor : List ℕ → ℕ → ℕ → Cursor
delivery_cursor l count skipped =
    if ltb largest_count (count + skipped) then first_of 0 else advanced_by skipped l (first_of (count + skipped))

-- i moves from there stand at message i of what is delivered: there are count, each is the bytes handed back, and
-- then it stops
pub record Visits (l : List ℕ) (ms : List (List ℕ)) (c : Cursor) (count : ℕ) : Type 0 where
  pub as_many : length ms ≡ count
  pub there : (i : ℕ) → i < count → (located l (advanced_by i l c)).exists ≡ true
  pub stops : (i : ℕ) → count ≤ i → (located l (advanced_by i l c)).exists ≡ false
  pub each : (i : ℕ) → part l (located l (advanced_by i l c)) ≡ get_or ms i []

-- a deliver answer of a datagram, whose values are these: its first number is that of the message after the skipped
-- ones, and the cursor visits what it delivers
pub record DeliverAnswer (l : List ℕ) (ms : List (List ℕ)) (first count skipped : ℕ) : Type 0 where
  pub its_number : first ≡ message_number l skipped
  pub visits : Visits l ms (delivery_cursor l count skipped) count

-- every deliver answer of a receiver is so
unfoldable pub DeliveryVisits : Type 0
DeliveryVisits = (r : Receiver) (l : List ℕ) (first count skipped : ℕ) → AreBytes l
    → answer_of r l ≡ says deliver (first ∷ count ∷ skipped ∷ [])
    → DeliverAnswer l (messages_delivered (answer_of r l) l) first count skipped
