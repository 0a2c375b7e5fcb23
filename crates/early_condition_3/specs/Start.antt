-- The start of the receiver that keeps early messages.
use Rattle.std.specs.Prelude.{ℕ, List, ◌≡◌}
use Rattle.receiver.specs.Receiver.{receiver_start_refusal}
use Rattle.early_receiver.specs.Early.{start_early}
use Rattle.early_condition_3.specs.declared.Started.{Started}

-- what `start` promises, which returned x
abbrev pub StartsEarly : Started → List ℕ → ℕ → ℕ → Type 0
StartsEarly x name n limit =
    (x.refusal.number ≡ receiver_start_refusal n limit) × (x.receiver ≡ start_early name n limit)
