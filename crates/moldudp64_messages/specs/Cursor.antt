-- Where a message is: by its place from 0, and by a cursor that moves from block to block.
use Rattle.std.specs.Prelude.{ℕ, zero, suc, ◌+◌, ◌-◌, List, [], ◌∷◌, true, false, ◌≡◌, length, take, drop, ltb, eqb, if◌then◌else◌}
use Rattle.wire.specs.Bounds.{length_size}
use Rattle.wire.specs.Words.{says}
use Rattle.moldudp64.specs.Header.{header_size}
use Rattle.moldudp64.specs.Blocks.{block_length, block_size, fits, blocks_of}
use Rattle.moldudp64.specs.Downstream.{data_packet, downstream_of, messages_of, message_of}
use Rattle.moldudp64_messages.specs.declared.cursor.Located.{Located}
use Rattle.moldudp64_messages.specs.declared.cursor.Cursor.{Cursor}

-- a message is there: the offset of its first data byte in the datagram, and its length
abbrev pub there : ℕ → ℕ → Located
there at n = record { exists = true; offset = record { 0 = at }; length = n }

-- none is there: both numbers are 0
abbrev pub nowhere : Located
nowhere = record { exists = false; offset = record { 0 = 0 }; length = 0 }

-- the bytes of a datagram that a place names
abbrev pub part : List ℕ → Located → List ℕ
part l p = take p.length (drop p.offset.0 l)

-- ---- by its place

-- before a message stand the header, the blocks of the messages before it, and its own length field
unfoldable pub locate_of : List ℕ → ℕ → Located
locate_of l i =
    if ltb i (length (messages_of l))
    then there (header_size + length (blocks_of (take i (messages_of l))) + length_size) (length (message_of l i))
    else nowhere

-- ---- by a cursor, any two numbers: the place of a block, and how many are left from there on

-- a cursor of these two numbers
abbrev pub cursor : ℕ → ℕ → Cursor
cursor at left = record { at = record { 0 = at }; left = record { 0 = left } }

-- the message of the block at that place, if some are left and it ends within the datagram
unfoldable pub located_at : List ℕ → ℕ → ℕ → Located
located_at l at left =
    if eqb left 0 then nowhere
    else if fits (drop at l) then there (at + length_size) (block_length (drop at l))
    else nowhere

-- the message at a cursor
abbrev pub located : List ℕ → Cursor → Located
located l c = located_at l c.at.0 c.left.0

-- past that message, with one less left; where none is there the cursor stays
unfoldable pub advanced : List ℕ → Cursor → Cursor
advanced l c =
    if (located l c).exists
    then cursor ((located l c).offset.0 + (located l c).length) (c.left.0 - 1)
    else c

-- after so many moves
unfoldable pub advanced_by : ℕ → List ℕ → Cursor → Cursor
advanced_by zero l c = c
advanced_by (suc k) l c = advanced_by k l (advanced l c)

-- the first block of a datagram with so many messages
abbrev pub first_of : ℕ → Cursor
first_of n = cursor header_size n

-- the first block of a datagram
abbrev pub start_of : List ℕ → Cursor
start_of l = first_of (length (messages_of l))

-- ---- the two agree, for every datagram and every place

-- k moves from the start stand at message k
unfoldable pub WalksTheMessages : Type 0
WalksTheMessages = (l : List ℕ) (k : ℕ) → located l (advanced_by k l (start_of l)) ≡ locate_of l k

-- a message is the datagram's bytes from its offset on, as many as its length
unfoldable pub PartIsMessage : Type 0
PartIsMessage = (l : List ℕ) (k : ℕ) → part l (locate_of l k) ≡ message_of l k

-- the count that the reader gives with data is how many messages there are
unfoldable pub CountIsMessages : Type 0
CountIsMessages = (l : List ℕ) (n c : ℕ) → downstream_of l ≡ says data_packet (n ∷ c ∷ []) → start_of l ≡ first_of c

-- ---- for private helpers alone; no public promise uses it

-- the bytes of the first block of what is left, with n blocks left; 0 where none is left or it runs past the end
unfoldable pub whole_block : List ℕ → ℕ → ℕ
whole_block l n = if eqb n 0 then 0 else if fits l then block_size l else 0
