-- The stage that the last bytes lead to says what the end is.
use Rattle.capture.proofs.Rules.{finishing}
use Rattle.capture.proofs.reading.Reading.finish.Goals as goal

pub overflow_sub-bytes : goal.overflow_sub-bytes
overflow_sub-bytes c = search finishing

pub returns-in-Records : goal.returns-in-Records
returns-in-Records c = search finishing

pub returns-in_default : goal.returns-in_default
returns-in_default c = search finishing
