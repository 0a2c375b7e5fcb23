-- The two lines as they were read are those that the definition names.
use Rattle.std.proofs.Common.{arith}
use Rattle.capture_settings.proofs.SettingsLaws.{line-there, both-fit}
use Rattle.capture_settings.proofs.settings.numbers.Goals as goal

pub overflow_add-result-2 : goal.overflow_add-result-2
overflow_add-result-2 c =
    both-fit _ _ _ _ _ c.past-a.ensures (line-there _ _ _ c.in_ok-next.ensures.ok_part c.number_line.ensures) c.past-b.ensures
    (line-there _ _ _ c.in_ok-limit.ensures.ok_part c.number_line-2.ensures) (omega arith)
