-- A transmitter's progress as bytes: its code, how many messages went out (8), and the bytes of their data (8).
use Rattle.std.specs.Prelude.{ℕ, ◌+◌, ◌-◌, ◌^◌, List, ◌∷◌, ◌++◌, Bool, length, ltb, if◌then◌else◌}
use Rattle.transmitter.specs.declared.turns.Progress as declared
use Rattle.transmitter.specs.Turns.{progress}
use Rattle.host_states.specs.Little.{little, little_bytes}
use Rattle.host_states.specs.States.{transmitter_code, code_size, is_open, Keeps}

-- where its numbers stand, and the bytes of each
abbrev pub messages_at : ℕ
messages_at = code_size

abbrev pub field_size : ℕ
field_size = 8

abbrev pub bytes_at : ℕ
bytes_at = messages_at + field_size

abbrev pub progress_size : ℕ
progress_size = bytes_at + field_size

unfoldable pub progress_bytes : declared.Progress → List ℕ
progress_bytes p = transmitter_code ∷ little_bytes field_size p.messages ++ little_bytes field_size p.bytes

-- what isn't open is past the end of every run, so that every turn of a good size is 54
abbrev pub past_all : declared.Progress
past_all = progress (2 ^ 64 - 1) 0

-- any bytes are one
unfoldable pub progress_in : List ℕ → declared.Progress
progress_in l =
    if ltb (length l) progress_size then past_all
    else if is_open transmitter_code l then progress (little l messages_at field_size) (little l bytes_at field_size)
    else past_all

abbrev pub KeepsProgress : Bool → List ℕ → List ℕ → declared.Progress → Type 0
KeepsProgress lays l m p = Keeps lays l m progress_size progress_in (progress_bytes p) p
