-- The witness is computed.
use mathlib.Core.Path.{refl}
use Rattle.wire.specs.Bytes.{bytes, joined}
use Rattle.wire.specs.Output.{write_refusal}
use Rattle.moldudp64.specs.Header.{header}
use Rattle.moldudp64.specs.Blocks.{blocks_of}
use Rattle.moldudp64.specs.Written.{encoded}
use Rattle.moldudp64_writer.specs.Writer.{cut, total, lengths_of}
use Rattle.packing.specs.Fit.{size_ground, fits_alone, each_fits, most_that_fit}
use Rattle.transmitter.specs.Cutting.{taken, cut_up_to, cutting, flat}
use Rattle.transmitter.specs.Transmitter.{run_ground, transmit_ground, packet_at}
use Rattle.transmitter.specs.Turns.{start_of_run, next_lengths, next_data, next_ground, next_bytes, progress_after, after_turns, packets_written}
use Rattle.transmitter.specs.Witness.{refusals, NotVacuous}

pub not_vacuous : NotVacuous
unfolding bytes joined write_refusal header blocks_of encoded cut total lengths_of size_ground fits_alone each_fits most_that_fit taken cut_up_to cutting flat run_ground transmit_ground packet_at start_of_run next_lengths next_data next_ground next_bytes progress_after after_turns packets_written refusals
not_vacuous =
    record {
      not_refused = refl;
      cuts = refl;
      second = refl;
      no_fourth = refl;
      too_long = refl;
      turns = refl;
      written = refl;
      ends = refl;
    }
