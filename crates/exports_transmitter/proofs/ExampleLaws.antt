-- The computed run.
use Prim.Native.Nat.{ℕ}
use mathlib.Core.List.{[], ◌∷◌, ◌++◌}
use mathlib.Core.Path.{◌≡◌, refl}
use native.Mathlib.Omega.{arith}
use lib.ListN.{replicate}
use Rattle.wire.specs.Bytes.{bytes}
use Rattle.wire.specs.Output.{put, write_refusal}
use Rattle.wire.specs.Parts.{first_bytes}
use Rattle.wire.specs.Text.{ascii, readroom}
use Rattle.moldudp64.specs.Header.{header}
use Rattle.moldudp64.specs.Blocks.{blocks_of}
use Rattle.moldudp64.specs.Written.{encoded}
use Rattle.moldudp64_writer.specs.Writer.{cut, total}
use Rattle.packing.specs.Fit.{size_ground, fits_alone, each_fits, most_that_fit}
use Rattle.transmitter.specs.Transmitter.{run_ground}
use Rattle.transmitter.specs.Turns.{start_of_run, next_lengths, next_data, next_ground, next_bytes, progress_after}
use Rattle.host_answers.specs.Answers.{or_else, short, on_success}
use Rattle.host_states.specs.Little.{little, little_bytes}
use Rattle.host_states.specs.States.{is_open}
use Rattle.host_transmitter.specs.Progress.{progress_bytes, progress_in}
use Rattle.exports_transmitter.specs.Run.{by_refusal, by_packet, StartCall, NextCall, none, one}
use Rattle.exports_transmitter.specs.Example.{ks, d, size, first, at_first, at_second, at_end, HandedExample}

starts : StartCall readroom size first ks d at_first
unfolding total size_ground fits_alone each_fits run_ground start_of_run or_else short put little little_bytes is_open progress_bytes progress_in
starts =
    record {
      lent = replicate 17 0;
      call = record { returns = refl; keeps = record { fits = refl; leaves = refl; reads_back = λ _ _. refl } };
    }

short-call : NextCall readroom size first ks d at_first at_first []
unfolding bytes put write_refusal first_bytes header blocks_of encoded cut total size_ground fits_alone most_that_fit next_lengths next_data next_ground next_bytes progress_after or_else short on_success little little_bytes is_open progress_bytes progress_in
short-call =
    record {
      code = 41;
      output = replicate 22 0;
      written = replicate 22 0;
      words = 0 ∷ [];
      laid = 0 ∷ [];
      call = record { answers = record { returns = refl; words = refl; output = refl }; keeps = record { fits = refl; leaves = refl; reads_back = λ e _. absurd (let z : ◌≡◌ {A = ℕ} 0 1 = cc in omega arith) } };
      gets = by_refusal (λ e. omega arith);
    }

first-call : NextCall readroom size first ks d at_first at_second (encoded readroom 6 (ascii "a" ∷ []) ∷ [])
unfolding bytes put write_refusal first_bytes header blocks_of encoded cut total size_ground fits_alone most_that_fit next_lengths next_data next_ground next_bytes progress_after or_else short on_success little little_bytes is_open progress_bytes progress_in
first-call =
    record {
      code = 0;
      output = replicate 23 0;
      written = encoded readroom 6 (ascii "a" ∷ []);
      words = 0 ∷ [];
      laid = 23 ∷ [];
      call = record { answers = record { returns = refl; words = refl; output = refl }; keeps = record { fits = refl; leaves = refl; reads_back = λ _ _. refl } };
      gets = by_packet refl;
    }

second_call : NextCall readroom size first ks d at_second at_end (encoded readroom 7 ([] ∷ []) ∷ [])
unfolding bytes put write_refusal first_bytes header blocks_of encoded cut total size_ground fits_alone most_that_fit next_lengths next_data next_ground next_bytes progress_after or_else short on_success little little_bytes is_open progress_bytes progress_in
second_call =
    record {
      code = 0;
      output = replicate 23 0;
      written = encoded readroom 7 ([] ∷ []) ++ 0 ∷ [];
      words = 0 ∷ [];
      laid = 22 ∷ [];
      call = record { answers = record { returns = refl; words = refl; output = refl }; keeps = record { fits = refl; leaves = refl; reads_back = λ _ _. refl } };
      gets = by_packet refl;
    }

last-call : NextCall readroom size first ks d at_end at_end []
unfolding bytes put write_refusal first_bytes header blocks_of encoded cut total size_ground fits_alone most_that_fit next_lengths next_data next_ground next_bytes progress_after or_else short on_success little little_bytes is_open progress_bytes progress_in
last-call =
    record {
      code = 54;
      output = replicate 23 0;
      written = replicate 23 0;
      words = 0 ∷ [];
      laid = 0 ∷ [];
      call = record { answers = record { returns = refl; words = refl; output = refl }; keeps = record { fits = refl; leaves = refl; reads_back = λ e _. absurd (let z : ◌≡◌ {A = ℕ} 0 1 = cc in omega arith) } };
      gets = by_refusal (λ e. omega arith);
    }

pub handed-example : HandedExample
handed-example = record { starts = starts; hands = one short-call (one first-call (one second_call (one last-call none))) }
