-- What the receiver that keeps early messages holds in its slots, and what one message does to it.
use Rattle.std.specs.Prelude.{ℕ, zero, suc, ◌+◌, ◌-◌, ◌*◌, ◌%◌, min, List, [], ◌∷◌, Bool, false, not, length, take, drop, ltb, leb, eqb, if◌then◌else◌}
use Rattle.wire.specs.Bounds.{largest_number, count_size}
use Rattle.wire.specs.Bytes.{number, bytes}
use Rattle.wire.specs.Output.{put}
use Rattle.receiver.specs.declared.receiver.Receiver.{Receiver}
use Rattle.receiver.specs.Receiver.{receiver}
use Rattle.early_word.specs.Word.{bit, run, past, marked}
use Rattle.early_holding.specs.declared.holding.EarlyReceiver.{EarlyReceiver}
use Rattle.early_holding.specs.declared.holding.Moved.{Moved}

-- 64 slots of 1,024 bytes
abbrev pub slot_count : ℕ
slot_count = 64

abbrev pub slot_size : ℕ
slot_size = 1024

abbrev pub slot_bytes : ℕ
slot_bytes = slot_count * slot_size

-- two bytes for the length of the message in each slot
abbrev pub length_bytes : ℕ
length_bytes = slot_count * count_size

-- the slot of a number, where it begins, and where its length stands
abbrev pub slot_of : ℕ → ℕ
slot_of j = j % slot_count

abbrev pub slot_at : ℕ → ℕ
slot_at j = slot_of j * slot_size

abbrev pub length_at : ℕ → ℕ
length_at j = slot_of j * count_size

-- the receiver with the lengths and the slots as they are lent to it
pub record Lent : Type 0 where
  pub receiver : EarlyReceiver
  pub lengths : List ℕ
  pub slots : List ℕ

abbrev pub lent : EarlyReceiver → List ℕ → List ℕ → Lent
lent r lengths slots = record { receiver = r; lengths = lengths; slots = slots }

-- a receiver of this plain one and this word
abbrev pub early : Receiver → ℕ → EarlyReceiver
early base held = record { base = base; held = record { 0 = held } }

-- the number that is expected
abbrev pub next_of : EarlyReceiver → ℕ
next_of r = r.base.next.0

-- a plain receiver at another number
abbrev pub at : Receiver → ℕ → Receiver
at r n = receiver r.session n r.limit.0 r.ended

-- ---- what is held

-- number j is held: the word's lowest bit stands for n + 1
unfoldable pub is_held : EarlyReceiver → ℕ → Bool
is_held r j = if ltb (next_of r) j then bit r.held.0 (j - next_of r - 1) else false

-- the length that is noted for a held number
unfoldable pub length_of : List ℕ → ℕ → ℕ
length_of lengths j = number lengths (length_at j) count_size

-- its message: from the first byte of its slot
unfoldable pub held_message : Lent → ℕ → List ℕ
held_message s j = take (length_of s.lengths j) (drop (slot_at j) s.slots)

-- ---- one message

-- the number after n and after every held one that follows without a gap: the run of ones at the low end of the word.
-- Numbers end at the largest, which only a receiver that was made up would pass
unfoldable pub number_past : ℕ → ℕ → ℕ
number_past n held = min largest_number (n + (run held + 1))

-- number n is delivered, and then every held message that follows without a gap
unfoldable pub advance : Lent → Lent
advance s =
    let n = next_of s.receiver in
    let held = s.receiver.held.0 in
    lent (early (at s.receiver.base (number_past n held)) (past held (run held + 1))) s.lengths s.slots

-- a number from n + 1 to n + 64 with at most 1,024 bytes that isn't held already
unfoldable pub keeps : EarlyReceiver → ℕ → ℕ → Bool
keeps r j size =
    if leb j (next_of r) then false
    else if ltb (next_of r + slot_count) j then false
    else if ltb slot_size size then false
    else not (is_held r j)

-- is held from the first byte of its slot
unfoldable pub keep : Lent → ℕ → List ℕ → Lent
keep s j m =
    lent (early s.receiver.base (marked s.receiver.held.0 (j - next_of s.receiver - 1)))
    (put s.lengths (length_at j) (bytes count_size (length m)))
    (put s.slots (slot_at j) m)

-- and anything else is left
unfoldable pub keep_one : Lent → ℕ → List ℕ → Lent
keep_one s j m = if keeps s.receiver j (length m) then keep s j m else s

unfoldable pub take_one : Lent → ℕ → List ℕ → Lent
take_one s j m = if eqb j (next_of s.receiver) then advance s else keep_one s j m

-- ---- the messages of a datagram, one at a time in rising number, the first with number f

unfoldable pub take_all : Lent → ℕ → List (List ℕ) → Lent
take_all s f [] = s
take_all s f (m ∷ ms) = take_all (take_one s f m) (f + 1) ms

-- ---- n and the word alone, over the numbers f to f + c - 1 one at a time: those below n, and those above, are left

abbrev pub moved : ℕ → ℕ → Moved
moved n held = record { next = record { 0 = n }; held = record { 0 = held } }

unfoldable pub move_by : ℕ → ℕ → ℕ → ℕ → Moved
move_by zero f n held = moved n held
move_by (suc c) f n held =
    if eqb f n then move_by c (f + 1) (number_past n held) (past held (run held + 1)) else move_by c (f + 1) n held

-- from n to just below end
unfoldable pub move_to : ℕ → ℕ → ℕ → Moved
move_to n held end = move_by (end - n) n n held
