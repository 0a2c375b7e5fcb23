-- A cursor as bytes: its code, its place in the datagram (8), and how many messages are left (2).
use Rattle.std.specs.Prelude.{ℕ, ◌+◌, List, ◌∷◌, ◌++◌, Bool, length, ltb, if◌then◌else◌}
use Rattle.wire.specs.Bounds.{count_size}
use Rattle.moldudp64_messages.specs.declared.cursor.Cursor as declared
use Rattle.moldudp64_messages.specs.Cursor.{cursor}
use Rattle.host_states.specs.Little.{little, little_bytes}
use Rattle.host_states.specs.States.{cursor_code, code_size, is_open, Keeps}

-- where its place stands, the bytes of that, and where the count does
abbrev pub place_at : ℕ
place_at = code_size

abbrev pub place_size : ℕ
place_size = 8

abbrev pub left_at : ℕ
left_at = place_at + place_size

abbrev pub cursor_size : ℕ
cursor_size = left_at + count_size

unfoldable pub cursor_bytes : declared.Cursor → List ℕ
cursor_bytes c = cursor_code ∷ little_bytes place_size c.at.0 ++ little_bytes count_size c.left.0

-- what isn't open has no messages left
abbrev pub no_messages : declared.Cursor
no_messages = cursor 0 0

-- any bytes are one
unfoldable pub cursor_in : List ℕ → declared.Cursor
cursor_in l =
    if ltb (length l) cursor_size then no_messages
    else if is_open cursor_code l then cursor (little l place_at place_size) (little l left_at count_size)
    else no_messages

abbrev pub KeepsCursor : Bool → List ℕ → List ℕ → declared.Cursor → Type 0
KeepsCursor lays l m c = Keeps lays l m cursor_size cursor_in (cursor_bytes c) c
