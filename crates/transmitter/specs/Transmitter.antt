-- What the transmitter is given, what it refuses, and the packet at a place: ks are the lengths of the messages, d
-- their joined data, n the number of the first, and size the most bytes of a packet, its header included.
use Rattle.std.specs.Prelude.{ℕ, ◌+◌, List, not, length, leb, eqb, if◌then◌else◌}
use Rattle.wire.specs.Refusals.{number_zero, numbers_run_out, lengths_differ, message_long, no_such_packet}
use Rattle.moldudp64.specs.Downstream.{run_out}
use Rattle.moldudp64.specs.Written.{encoded}
use Rattle.moldudp64_writer.specs.Writer.{cut, add_up}
use Rattle.packing.specs.Fit.{size_ground, room_of, each_fits}
use Rattle.transmitter.specs.Cutting.{Group, cutting, start_of, group_at}

-- the groups of the run
abbrev pub groups_of : ℕ → List ℕ → List ℕ → List Group
groups_of size ks d = cutting (room_of size) (cut ks d)

-- over the whole run: the first of 19, 44, 13, 14, 52 that applies, or 0
unfoldable pub run_ground : ℕ → ℕ → List ℕ → List ℕ → ℕ
run_ground size n ks d =
    if not (eqb (size_ground size) 0) then size_ground size
    else if not (add_up ks d) then lengths_differ
    else if eqb n 0 then number_zero
    else if run_out n (length ks) then numbers_run_out
    else if not (each_fits (room_of size) ks) then message_long
    else 0

-- for the packet at a place: then 54
unfoldable pub transmit_ground : ℕ → ℕ → List ℕ → List ℕ → ℕ → ℕ
transmit_ground size n ks d place =
    if not (eqb (run_ground size n ks d) 0) then run_ground size n ks d
    else if leb (length (groups_of size ks d)) place then no_such_packet
    else 0

-- its first number
abbrev pub number_at : ℕ → ℕ → List ℕ → List ℕ → ℕ → ℕ
number_at size n ks d place = n + start_of (groups_of size ks d) place

-- its bytes
unfoldable pub packet_at : List ℕ → ℕ → ℕ → List ℕ → List ℕ → ℕ → List ℕ
packet_at session size n ks d place =
    encoded session (number_at size n ks d place) (group_at (groups_of size ks d) place)
