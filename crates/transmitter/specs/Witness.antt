-- A run of five messages, one of no bytes, that three packets hold, so that the statements speak of something.
use Rattle.std.specs.Prelude.{ℕ, List, [], ◌∷◌, ◌≡◌, replicate}
use Rattle.wire.specs.Bytes.{joined}
use Rattle.wire.specs.Output.{write_refusal}
use Rattle.wire.specs.Refusals.{output_short, message_long, no_such_packet}
use Rattle.wire.specs.Text.{ascii, readroom}
use Rattle.moldudp64.specs.Written.{encoded}
use Rattle.moldudp64_writer.specs.Writer.{lengths_of}
use Rattle.transmitter.specs.declared.turns.Progress.{Progress}
use Rattle.transmitter.specs.Cutting.{Message}
use Rattle.transmitter.specs.Transmitter.{groups_of, run_ground, transmit_ground, packet_at}
use Rattle.transmitter.specs.Turns.{progress, start_of_run, next_ground, next_bytes, progress_after}
use Rattle.transmitter.specs.Turns.{after_turns, packets_written}

abbrev pub messages : List Message
messages = ascii "one" ∷ [] ∷ ascii "go" ∷ ascii "four" ∷ ascii "x" ∷ []

abbrev pub ks : List ℕ
ks = lengths_of messages

abbrev pub d : List ℕ
d = joined messages

abbrev pub first : ℕ
first = 6

-- it leaves nine bytes for blocks: the first packet leaves two of them free, the second five and the third none
abbrev pub size : ℕ
size = 29

abbrev pub start : Progress
start = start_of_run size first ks d

-- what each turn refuses, one for each lent output
unfoldable pub refusals : Progress → List (List ℕ) → List ℕ
refusals p [] = []
refusals p (o ∷ os) =
    write_refusal (next_ground size first ks d p) o 0 (next_bytes readroom size first ks d p)
    ∷ refusals (progress_after readroom size first ks d p o) os

-- the second is too short for any packet
abbrev pub outputs : List (List ℕ)
outputs =
    replicate size 0 ∷ replicate 19 0 ∷ replicate size 0 ∷ replicate size 0 ∷ replicate size 0 ∷ []

pub record NotVacuous : Type 0 where
  pub not_refused : run_ground size first ks d ≡ 0
  pub cuts : groups_of size ks d ≡ (ascii "one" ∷ [] ∷ []) ∷ (ascii "go" ∷ []) ∷ (ascii "four" ∷ ascii "x" ∷ []) ∷ []
  pub second : packet_at readroom size first ks d 1 ≡ encoded readroom 8 (ascii "go" ∷ [])
  pub no_fourth : transmit_ground size first ks d 3 ≡ no_such_packet
  -- "four" alone needs 26 bytes, which refuses the first packet too
  pub too_long : transmit_ground 25 first ks d 0 ≡ message_long
  pub turns : refusals start outputs ≡ 0 ∷ output_short ∷ 0 ∷ 0 ∷ no_such_packet ∷ []
  pub written : packets_written readroom size first ks d start outputs ≡ 3
  pub ends : after_turns readroom size first ks d start outputs ≡ progress 5 10
