-- Every text fits the room, so it is written, and stands at its front.
use Rattle.capture.proofs.Rules.{printing}
use Rattle.capture.proofs.reading.Reading.printed.Goals as goal

pub returns : goal.returns
returns c = search printing
