-- What the events still to be read make of the notes so far is what all of them make of the first.
use Rattle.std.proofs.Common.{length}
use Rattle.capture_events.specs.Events.{read_on}
use Rattle.capture_events.specs.Next.{at_of}
use Rattle.missing_records.specs.Records.{lent_notes}
use Rattle.missing_capture.proofs.ReadLaws.{Looping}
use Rattle.missing_capture.proofs.reading.Reading.advance.Given as goal

abbrev pub invariant-loop-event : goal.invariant-loop-event
invariant-loop-event l = Looping (lent_notes l.fn.self.notes l.fn.edges) l.fn.self.place l.fn.bytes (lent_notes l.notes l.edges) l.place l.rest

abbrev pub decreases-loop-event : goal.decreases-loop-event
decreases-loop-event l = length (read_on (at_of l.place) l.rest).events
