-- Each stage prints its own text.
use Rattle.capture.proofs.Rules.{writing}
use Rattle.capture.proofs.reading.Reading.write.Goals as goal

pub returns-in-Settings : goal.returns-in-Settings
returns-in-Settings c = search writing

pub returns-in-Records : goal.returns-in-Records
returns-in-Records c = search writing
