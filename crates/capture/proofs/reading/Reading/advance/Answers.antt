-- One law for each stage.
use Rattle.capture.proofs.Rules.{advancing}
use Rattle.capture.proofs.reading.Reading.advance.Goals as goal

pub returns-in-Settings : goal.returns-in-Settings
returns-in-Settings c = search advancing

pub returns-in-Records : goal.returns-in-Records
returns-in-Records c = search advancing
