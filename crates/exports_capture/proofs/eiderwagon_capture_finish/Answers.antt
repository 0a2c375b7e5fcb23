-- Refused before anything changes, or finished, and the reading kept around its lengths.
use Rattle.exports_capture.proofs.Rules.{finishes}
use Rattle.exports_capture.proofs.eiderwagon_capture_finish.Goals as goal

pub returns-then-state-lt-SIZE-clause-finishes_reading : goal.returns-then-state-lt-SIZE-clause-finishes_reading
returns-then-state-lt-SIZE-clause-finishes_reading c = search finishes

pub returns-then-slots-ne-SLOT_BYTES-clause-finishes_reading : goal.returns-then-slots-ne-SLOT_BYTES-clause-finishes_reading
returns-then-slots-ne-SLOT_BYTES-clause-finishes_reading c = search finishes

pub returns-clause-finishes_reading : goal.returns-clause-finishes_reading
returns-clause-finishes_reading c = search finishes
