-- What comes next at the end doesn't hang on what is left, and what is left is noted nowhere.
use Rattle.missing_capture.proofs.Rules.{feeding}
use Rattle.missing_capture.proofs.reading.Reading.finish.Goals as goal

pub returns : goal.returns
returns c = search feeding
