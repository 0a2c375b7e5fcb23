-- Any text fits a room of its size, so what is refused had less.
use Rattle.missing_capture.proofs.Rules.{printing}
use Rattle.missing_capture.proofs.reading.Reading.printed.Goals as goal

pub returns : goal.returns
returns c = search printing
