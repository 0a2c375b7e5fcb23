-- A receiver as bytes: its code while it isn't ended, its session's name, its number, and its asking limit.
use Rattle.std.specs.Prelude.{ℕ, ◌+◌, List, ◌++◌, Bool, not, length, ltb, if◌then◌else◌}
use Rattle.wire.specs.Bounds.{number_size, count_size}
use Rattle.receiver.specs.declared.receiver.Receiver as declared
use Rattle.receiver.specs.Receiver.{receiver, refused_receiver}
use Rattle.host_states.specs.Little.{little, little_bytes}
use Rattle.host_states.specs.States.{receiver_code, is_open, open_byte, Keeps, name_in, number_at, front_size, front_bytes}

abbrev pub limit_at : ℕ
limit_at = front_size

abbrev pub receiver_size : ℕ
receiver_size = limit_at + count_size

unfoldable pub receiver_bytes : declared.Receiver → List ℕ
receiver_bytes r =
    front_bytes (open_byte receiver_code (not r.ended)) r.session r.next.0
    ++ little_bytes count_size r.limit.0

-- any bytes are one: too few are the receiver of a refused start, and what isn't open is ended
unfoldable pub receiver_in : List ℕ → declared.Receiver
receiver_in l =
    if ltb (length l) receiver_size then refused_receiver
    else receiver (name_in l) (little l number_at number_size)
    (little l limit_at count_size)
    (not (is_open receiver_code l))

abbrev pub KeepsReceiver : Bool → List ℕ → List ℕ → declared.Receiver → Type 0
KeepsReceiver lays l m r = Keeps lays l m receiver_size receiver_in (receiver_bytes r) r
