-- What was read is noted, and else nothing is.
use Rattle.missing_records.proofs.TakeLaws.{take-read, take-refused}
use Rattle.missing_records.proofs.Notes.take.Goals as goal

pub returns-in-Ok-clause-edges_after : goal.returns-in-Ok-clause-edges_after
returns-in-Ok-clause-edges_after c =
    take-read c.args.self c.args.edges.now c.args.datagram.now c.said_in.result c.said_in.ensures c.in-Ok.said _ _ c.in-Ok.is c.note.ensures

pub returns-in-Err-clause-edges_after : goal.returns-in-Err-clause-edges_after
returns-in-Err-clause-edges_after c =
    take-refused c.args.self c.args.edges.now c.args.datagram.now c.said_in.result c.said_in.ensures c.in-Err.field-0 c.in-Err.is
