-- A fresh reading is kept.
use Rattle.exports_capture.proofs.Rules.{starts}
use Rattle.exports_capture.proofs.eiderwagon_capture_start.Goals as goal

pub returns-clause-starts_reading : goal.returns-clause-starts_reading
returns-clause-starts_reading c = search starts

pub returns-clause-refuses : goal.returns-clause-refuses
returns-clause-refuses c = search starts
