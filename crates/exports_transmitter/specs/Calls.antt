-- What the exported functions of the transmitter promise: the state's bytes l become m, the lent output o becomes o',
-- and the lent words ws become ws'.
use Rattle.std.specs.Prelude.{ℕ, List, ◌≡◌, length, ltb}
use Rattle.wire.specs.Bounds.{session_size}
use Rattle.wire.specs.Parts.{first_bytes}
use Rattle.packing.specs.Fit.{size_ground}
use Rattle.transmitter.specs.Transmitter.{run_ground}
use Rattle.transmitter.specs.Turns.{start_of_run, next_ground, next_bytes, progress_after}
use Rattle.host_answers.specs.Answers.{or_else, short, named, state_ladder, AnswersWriting}
use Rattle.host_states.specs.States.{on_code}
use Rattle.host_transmitter.specs.Progress.{progress_size, progress_in, KeepsProgress}

-- a run is started
pub record StartsTransmitter (r size n : ℕ) (ks d l m : List ℕ) : Type 0 where
  pub returns : r ≡ or_else (run_ground size n ks d) (short (ltb (length l) progress_size))
  pub keeps : KeepsProgress (on_code r) l m (start_of_run size n ks d)

-- the next packet by the progress in the bytes: the size alone needs no state
pub record NextPacket (r : ℕ) (name : List ℕ) (size n : ℕ) (ks d l m o o' ws ws' : List ℕ) : Type 0 where
  pub answers : AnswersWriting r ws ws' o o'
      (named name (state_ladder (size_ground size) (ltb (length l) progress_size) (next_ground size n ks d (progress_in l))))
      (next_bytes (first_bytes session_size name) size n ks d (progress_in l))
  pub keeps : KeepsProgress (on_code r) l m
      (progress_after (first_bytes session_size name) size n ks d (progress_in l) o)
