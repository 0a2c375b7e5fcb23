-- One law for each event.
use Rattle.missing_capture.proofs.Rules.{noting}
use Rattle.missing_capture.proofs.reading.note.Goals as goal

pub returns-in-Opened : goal.returns-in-Opened
returns-in-Opened c = search noting

pub returns-in-Datagram : goal.returns-in-Datagram
returns-in-Datagram c = search noting
