-- The packets of a run one after another: p is how far earlier packets have come, and each turn writes the next one.
use Rattle.std.specs.Prelude.{ℕ, suc, ◌+◌, List, [], ◌∷◌, Bool, not, ◌≡◌, length, take, drop, leb, eqb, if◌then◌else◌}
use Rattle.wire.specs.Refusals.{number_zero, numbers_run_out, lengths_differ, message_long, no_such_packet}
use Rattle.wire.specs.Output.{write_refusal}
use Rattle.moldudp64.specs.Downstream.{run_out}
use Rattle.moldudp64_writer.specs.Writer.{total, add_up, encoded_cut}
use Rattle.packing.specs.Fit.{size_ground, room_of, most_that_fit}
use Rattle.transmitter.specs.declared.turns.Progress.{Progress}
use Rattle.transmitter.specs.Transmitter.{run_ground, transmit_ground, packet_at}

-- ---- how far earlier packets have come

-- so many messages, and so many bytes of their data
abbrev pub progress : ℕ → ℕ → Progress
progress messages bytes = record { messages = messages; bytes = bytes }

-- before the first packet
abbrev pub beginning : Progress
beginning = progress 0 0

-- a run that isn't refused begins at its first message; of a refused one nothing is left
unfoldable pub start_of_run : ℕ → ℕ → List ℕ → List ℕ → Progress
start_of_run size n ks d = if eqb (run_ground size n ks d) 0 then beginning else progress (length ks) (length d)

-- ---- the next packet, whoever made the progress up

-- its lengths: the most that fit of those that are left
unfoldable pub next_lengths : ℕ → List ℕ → Progress → List ℕ
next_lengths size ks p = take (most_that_fit (room_of size) (drop p.messages ks)) (drop p.messages ks)

-- its data: as much as these lengths make of what is left
unfoldable pub next_data : ℕ → List ℕ → List ℕ → Progress → List ℕ
next_data size ks d p = take (total (next_lengths size ks p)) (drop p.bytes d)

-- the number of its first message
abbrev pub next_number : ℕ → Progress → ℕ
next_number n p = n + p.messages

-- the grounds of the whole run, over this packet alone: 19, 54 where no message is left, 44, 13, 14, 52, or 0
unfoldable pub next_ground : ℕ → ℕ → List ℕ → List ℕ → Progress → ℕ
next_ground size n ks d p =
    if not (eqb (size_ground size) 0) then size_ground size
    else if leb (length ks) p.messages then no_such_packet
    else if not (add_up (next_lengths size ks p) (next_data size ks d p)) then lengths_differ
    else if eqb (next_number n p) 0 then number_zero
    else if run_out (next_number n p) (length (next_lengths size ks p)) then numbers_run_out
    else if eqb (length (next_lengths size ks p)) 0 then message_long
    else 0

-- its bytes
unfoldable pub next_bytes : List ℕ → ℕ → ℕ → List ℕ → List ℕ → Progress → List ℕ
next_bytes session size n ks d p =
    encoded_cut session (next_number n p) (next_lengths size ks p) (next_data size ks d p)

-- whether it is written into the output o
abbrev pub is_written : List ℕ → ℕ → ℕ → List ℕ → List ℕ → Progress → List ℕ → Bool
is_written session size n ks d p o =
    eqb (write_refusal (next_ground size n ks d p) o 0 (next_bytes session size n ks d p)) 0

-- the progress then; a refusal leaves it as it was
unfoldable pub progress_after : List ℕ → ℕ → ℕ → List ℕ → List ℕ → Progress → List ℕ → Progress
progress_after session size n ks d p o =
    if is_written session size n ks d p o
    then progress (p.messages + length (next_lengths size ks p)) (p.bytes + total (next_lengths size ks p))
    else p

-- ---- turns, one for each lent output

module _ (session : List ℕ) (size n : ℕ) (ks d : List ℕ) where
  unfoldable pub after_turns : Progress → List (List ℕ) → Progress
  after_turns p [] = p
  after_turns p (o ∷ os) = after_turns (progress_after session size n ks d p o) os

  -- how many of them wrote a packet
  unfoldable pub packets_written : Progress → List (List ℕ) → ℕ
  packets_written p [] = 0
  packets_written p (o ∷ os) =
      if is_written session size n ks d p o then suc (packets_written (progress_after session size n ks d p o) os)
      else packets_written (progress_after session size n ks d p o) os

  -- the next packet is the one at a place
  pub record IsAtPlace (p : Progress) (place : ℕ) : Type 0 where
    pub same_ground : next_ground size n ks d p ≡ transmit_ground size n ks d place
    pub same_bytes : transmit_ground size n ks d place ≡ 0
        → next_bytes session size n ks d p ≡ packet_at session size n ks d place

-- whatever outputs were lent to the turns before, refused or not: the next packet of a run that isn't refused is the
-- one whose place is how many were written
abbrev pub TurnsGoByPlace : Type 0
TurnsGoByPlace = (session : List ℕ) (size n : ℕ) (ks d : List ℕ) (os : List (List ℕ)) → run_ground size n ks d ≡ 0
    → IsAtPlace session size n ks d (after_turns session size n ks d (start_of_run size n ks d) os)
    (packets_written session size n ks d (start_of_run size n ks d) os)
