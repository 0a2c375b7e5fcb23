-- It waits for enough bytes to tell the settings, and else reads on.
use Rattle.missing_capture.proofs.Rules.{feeding}
use Rattle.missing_capture.proofs.reading.Reading.feed.Goals as goal

pub returns-clause-edges_after : goal.returns-clause-edges_after
returns-clause-edges_after c = search feeding
