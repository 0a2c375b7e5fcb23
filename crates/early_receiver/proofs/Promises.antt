-- What taking a datagram promises beside its answer.
use Rattle.early_receiver.specs.Statements.{EarlyPromises}
use Rattle.early_receiver.proofs.RequestLaws.{early-refusal-keeps, asks_exactly_when, counts_all, answers_apart, requests_apart}
use Rattle.early_receiver.proofs.ByteLaws.{only_held_bytes_change}
use Rattle.early_receiver.proofs.AloneLaws.{slots_dont_matter}

pub early-promises : EarlyPromises
early-promises =
    record {
      refusal_keeps = early-refusal-keeps;
      only_held_bytes_change = only_held_bytes_change;
      slots_dont_matter = slots_dont_matter;
      asks_exactly_when = asks_exactly_when;
      counts_all = counts_all;
      answers_apart = answers_apart;
      requests_apart = requests_apart;
    }
