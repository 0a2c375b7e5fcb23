-- A walk over what a datagram will deliver as bytes: its code, the number to come (8), how many messages are left (2), its
-- place in the datagram (8), and how many blocks are left there (2).
use Rattle.std.specs.Prelude.{ℕ, ◌+◌, List, ◌∷◌, ◌++◌, Bool, length, ltb, if◌then◌else◌}
use Rattle.wire.specs.Bounds.{number_size, count_size}
use Rattle.moldudp64_messages.specs.Cursor.{cursor}
use Rattle.early_messages.specs.declared.walk.Walk as declared
use Rattle.early_messages.specs.Walk.{walk}
use Rattle.host_states.specs.Little.{little, little_bytes}
use Rattle.host_states.specs.States.{walk_code, code_size, is_open, Keeps}

abbrev pub coming_at : ℕ
coming_at = code_size

abbrev pub left_at : ℕ
left_at = coming_at + number_size

abbrev pub place_size : ℕ
place_size = 8

abbrev pub place_at : ℕ
place_at = left_at + count_size

abbrev pub blocks_at : ℕ
blocks_at = place_at + place_size

abbrev pub walk_size : ℕ
walk_size = blocks_at + count_size

-- the code, the number to come, and how many are left
unfoldable pub coming_bytes : ℕ → ℕ → List ℕ
coming_bytes n left = walk_code ∷ little_bytes number_size n ++ little_bytes count_size left

-- the cursor
unfoldable pub block_bytes : ℕ → ℕ → List ℕ
block_bytes at blocks = little_bytes place_size at ++ little_bytes count_size blocks

unfoldable pub walk_bytes : declared.Walk → List ℕ
walk_bytes w = coming_bytes w.number.0 w.left.0 ++ block_bytes w.cursor.at.0 w.cursor.left.0

-- what isn't open has no messages left
abbrev pub no_walk : declared.Walk
no_walk = walk 0 0 (cursor 0 0)

-- any bytes are one
unfoldable pub walk_in : List ℕ → declared.Walk
walk_in l =
    if ltb (length l) walk_size then no_walk
    else if is_open walk_code l
    then walk (little l coming_at number_size) (little l left_at count_size)
    (cursor (little l place_at place_size) (little l blocks_at count_size))
    else no_walk

abbrev pub KeepsWalk : Bool → List ℕ → List ℕ → declared.Walk → Type 0
KeepsWalk lays l m w = Keeps lays l m walk_size walk_in (walk_bytes w) w
