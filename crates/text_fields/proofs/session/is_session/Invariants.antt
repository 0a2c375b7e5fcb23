-- The state after some bytes, with the bytes that follow, gives what the whole field gives.
use Rattle.std.proofs.Common.{◌≡◌, drop}
use Rattle.text_fields.specs.declared.session.SessionState.TheVariants.{Blank}
use Rattle.text_fields.specs.Session.{session_from}
use Rattle.text_fields.proofs.session.is_session.Given as goal

abbrev pub invariant-loop-b : goal.invariant-loop-b
invariant-loop-b l = session_from l.state (drop l.b-index l.field) ≡ session_from Blank l.field
