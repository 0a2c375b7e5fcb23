-- A datagram of the session's name is noted.
use Rattle.missing_records.proofs.TakeLaws.{ours-noted}
use Rattle.missing_records.proofs.Notes.note.Goals as goal

pub returns-then-has_session : goal.returns-then-has_session
returns-then-has_session c = ours-noted _ _ _ _ _ _ c.has_session.ensures _ _ c.if-has_session.true c.note.ensures
