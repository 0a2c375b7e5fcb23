-- What the writers of downstream packets are given, and what they refuse.
use Rattle.std.specs.Prelude.{ℕ, ◌+◌, ◌*◌, ◌-◌, List, [], ◌∷◌, Bool, not, length, take, drop, ltb, leb, eqb, if◌then◌else◌, Option, Some, None}
use Rattle.wire.specs.Bounds.{length_size}
use Rattle.wire.specs.Refusals.{datagram_long, number_zero, numbers_run_out, too_many_messages, lengths_differ}
use Rattle.moldudp64.specs.Header.{header_size, largest_datagram, end_count}
use Rattle.moldudp64.specs.Downstream.{run_out}
use Rattle.moldudp64.specs.Written.{encoded}

-- ---- data and heartbeat: the writer is given lengths and joined data

-- the joined data cut into messages of these lengths
unfoldable pub cut : List ℕ → List ℕ → List (List ℕ)
cut [] d = []
cut (k ∷ ks) d = take k d ∷ cut ks (drop k d)

-- the packet of the messages that the writer is given
abbrev pub encoded_cut : List ℕ → ℕ → List ℕ → List ℕ → List ℕ
encoded_cut session n ks d = encoded session n (cut ks d)

-- the sum of the lengths
unfoldable pub total : List ℕ → ℕ
total [] = 0
total (k ∷ ks) = k + total ks

-- what is left of so many bytes after messages of these lengths, where they were enough
abbrev pub left_after : List ℕ → ℕ → Option ℕ
left_after ks b = if leb (total ks) b then Some (b - total ks) else None

-- the lengths of messages
unfoldable pub lengths_of : List (List ℕ) → List ℕ
lengths_of [] = []
lengths_of (m ∷ ms) = length m ∷ lengths_of ms

-- the most messages of one datagram: one count is an end of session's
abbrev pub most_messages : ℕ
most_messages = end_count - 1

-- a header, and for each message its length field and its data
abbrev pub packet_size : List ℕ → List ℕ → ℕ
packet_size ks d = header_size + length_size * length ks + length d

-- the lengths add up to the data, else 44
abbrev pub add_up : List ℕ → List ℕ → Bool
add_up ks d = eqb (total ks) (length d)

-- the first of 42, 44, 13, 14, 12 that applies, or 0
unfoldable pub packet_ground : ℕ → List ℕ → List ℕ → ℕ
packet_ground n ks d =
    if ltb most_messages (length ks) then too_many_messages
    else if not (add_up ks d) then lengths_differ
    else if eqb n 0 then number_zero
    else if run_out n (length ks) then numbers_run_out
    else if ltb largest_datagram (packet_size ks d) then datagram_long
    else 0

-- ---- end of session

-- its one ground but 41: number 0
unfoldable pub end_ground : ℕ → ℕ
end_ground n = if eqb n 0 then number_zero else 0
