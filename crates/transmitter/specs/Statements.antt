-- What is promised of the transmitter's packets.
use Rattle.std.specs.Prelude.{ℕ, ◌≤◌, List, [], ◌∷◌, ◌≡◌, length, take}
use Rattle.wire.specs.Bounds.{session_size}
use Rattle.wire.specs.Refusals.{no_such_packet}
use Rattle.wire.specs.Words.{says}
use Rattle.wire.specs.Output.{wrote, write_answer, write_output}
use Rattle.moldudp64.specs.Downstream.{data_packet}
use Rattle.moldudp64_writer.specs.Writer.{cut}
use Rattle.moldudp64_writer.specs.RoundTrips.{DatagramReadsAs}
use Rattle.packing.specs.Fit.{room_of}
use Rattle.transmitter.specs.Cutting.{Message, Group, CuttingUnder, TakesTheMost, NoneEmpty, group_at}
use Rattle.transmitter.specs.Transmitter.{groups_of, run_ground, transmit_ground, number_at, packet_at}

-- what holds of every run that isn't refused
pub record CutsTheRun (size : ℕ) (ms : List Message) (gs : List Group) : Type 0 where
  -- in order, each message once, none split, each packet of at most the size
  pub is_a_cutting : CuttingUnder (room_of size) ms gs
  -- each packet takes the most that fit
  pub takes_the_most : TakesTheMost (room_of size) ms gs
  pub none_empty : NoneEmpty gs
  -- no cutting under the same size uses fewer packets
  pub fewest : (other : List Group) → CuttingUnder (room_of size) ms other → length gs ≤ length other

abbrev pub CutsEveryRun : Type 0
CutsEveryRun = (size n : ℕ) (ks d : List ℕ) → run_ground size n ks d ≡ 0
    → CutsTheRun size (cut ks d) (groups_of size ks d)

-- the bytes that the writer reports are a datagram of just that group, and are no more than the size
pub record IsPacket (session : List ℕ) (size n : ℕ) (ks d : List ℕ) (place bytes : ℕ) (p : List ℕ) : Type 0 where
  pub small : bytes ≤ size
  pub reads : DatagramReadsAs p session data_packet
      (number_at size n ks d place ∷ length (group_at (groups_of size ks d) place) ∷ [])
      (group_at (groups_of size ks d) place)

abbrev pub EveryPacketReadsBack : Type 0
EveryPacketReadsBack = (out session : List ℕ) (size n : ℕ) (ks d : List ℕ) (place bytes : ℕ)
    → length session ≡ session_size
    → write_answer (transmit_ground size n ks d place) out 0 (packet_at session size n ks d place)
    ≡ says wrote (bytes ∷ [])
    → IsPacket session size n ks d place bytes
    (take bytes (write_output (transmit_ground size n ks d place) out 0 (packet_at session size n ks d place)))

-- an empty run has no packet: every place is 54
abbrev pub EmptyRunHasNone : Type 0
EmptyRunHasNone = (size n place : ℕ) → run_ground size n [] [] ≡ 0 → transmit_ground size n [] [] place ≡ no_such_packet

pub record TransmitterPromises : Type 0 where
  pub cuts_every_run : CutsEveryRun
  pub every_packet_reads_back : EveryPacketReadsBack
  pub empty_run : EmptyRunHasNone
