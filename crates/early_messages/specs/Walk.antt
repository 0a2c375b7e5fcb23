-- All that a datagram l delivers, in one walk: the number to come, how many are left, and a cursor over the datagram's
-- own messages. The three may be made up, or used with another datagram.
use Rattle.std.specs.Prelude.{ℕ, zero, suc, ◌+◌, ◌-◌, min, List, ◌≡◌, length, eqb, if◌then◌else◌}
use Rattle.wire.specs.Bounds.{largest_number, largest_count}
use Rattle.moldudp64.specs.Header.{number_of}
use Rattle.moldudp64_messages.specs.declared.cursor.Cursor.{Cursor}
use Rattle.moldudp64_messages.specs.Cursor.{located, advanced, advanced_by, start_of}
use Rattle.early_holding.specs.Holding.{slot_at, Lent, next_of, is_held, held_message}
use Rattle.early_messages.specs.declared.message.Part.{Part}
use Rattle.early_messages.specs.declared.walk.Walk.{Walk}
use Rattle.early_messages.specs.Delivery.{delivered_count, in_slots, in_datagram, no_part, part_at}

abbrev pub walk : ℕ → ℕ → Cursor → Walk
walk n left c = record { number = record { 0 = n }; left = record { 0 = left }; cursor = c }

-- from the expected number on, with the cursor at its message, where the datagram has it
unfoldable pub start_walk : Lent → List ℕ → Walk
start_walk s l =
    walk (next_of s.receiver) (min largest_count (delivered_count s l))
    (advanced_by (min largest_count (next_of s.receiver - number_of l)) l (start_of l))

-- the message to come: of the slots if its number is held there, else of the datagram
unfoldable pub walk_part : Lent → List ℕ → Walk → Part
walk_part s l w =
    if eqb w.left.0 0 then no_part
    else if is_held s.receiver w.number.0
    then in_slots (slot_at w.number.0) (length (held_message s w.number.0))
    else in_datagram (located l w.cursor)

-- past it; with none left it stays
unfoldable pub walk_on : List ℕ → Walk → Walk
walk_on l w =
    if eqb w.left.0 0 then w
    else walk (min largest_number (w.number.0 + 1)) (w.left.0 - 1) (advanced l w.cursor)

unfoldable pub walk_by : ℕ → List ℕ → Walk → Walk
walk_by zero l w = w
walk_by (suc k) l w = walk_by k l (walk_on l w)

-- k moves from the start stand at the message of place k, for every receiver, made up or not
unfoldable pub WalksTheDelivery : Type 0
WalksTheDelivery = (s : Lent) (l : List ℕ) (k : ℕ) → walk_part s l (walk_by k l (start_walk s l)) ≡ part_at s l k
