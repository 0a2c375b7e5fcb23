-- It waits where the settings may be longer than what is there, and advances otherwise.
use Rattle.capture.proofs.Rules.{feeding}
use Rattle.capture.proofs.reading.Reading.feed.Goals as goal

pub returns-clause-slots_after : goal.returns-clause-slots_after
returns-clause-slots_after c = search feeding
