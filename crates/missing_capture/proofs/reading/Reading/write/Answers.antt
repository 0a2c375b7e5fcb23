-- Each place prints its own text.
use Rattle.missing_capture.proofs.Rules.{writing}
use Rattle.missing_capture.proofs.reading.Reading.write.Goals as goal

pub returns-then-out-lt-ROOM : goal.returns-then-out-lt-ROOM
returns-then-out-lt-ROOM c = search writing

pub returns-in-Settings : goal.returns-in-Settings
returns-in-Settings c = search writing

pub returns-in-Records : goal.returns-in-Records
returns-in-Records c = search writing
