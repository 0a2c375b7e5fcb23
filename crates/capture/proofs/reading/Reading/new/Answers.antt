-- A start at number 0 is refused, and gives the refused receiver.
use Rattle.capture.proofs.Rules.{starting}
use Rattle.capture.proofs.reading.Reading.new.Goals as goal

pub returns : goal.returns
returns c = search starting
