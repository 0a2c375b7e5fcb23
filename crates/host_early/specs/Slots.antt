-- Slots that are lent beside a state.
use Rattle.std.specs.Prelude.{ℕ, List, Bool, length, eqb, if◌then◌else◌}
use Rattle.wire.specs.Refusals.{bad_setting}
use Rattle.early_holding.specs.Holding.{slot_bytes}
use Rattle.host_answers.specs.Answers.{or_else, short}

-- 19 where the slots aren't of their size
unfoldable pub slots_refusal : List ℕ → ℕ
slots_refusal ss = if eqb (length ss) slot_bytes then 0 else bad_setting

-- first 41 where a state is too short, then 19
abbrev pub slots_ladder : Bool → List ℕ → ℕ
slots_ladder lacks ss = or_else (short lacks) (slots_refusal ss)
