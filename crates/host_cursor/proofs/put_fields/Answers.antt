use Rattle.host_cursor.proofs.Rules.{cursors}
use Rattle.host_cursor.proofs.put_fields.Goals as goal

pub returns : goal.returns
returns c = search cursors
