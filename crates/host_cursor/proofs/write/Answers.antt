use Rattle.host_cursor.proofs.Rules.{cursors}
use Rattle.host_cursor.proofs.write.Goals as goal

pub returns-then-kept-ne0-clause-keeps : goal.returns-then-kept-ne0-clause-keeps
returns-then-kept-ne0-clause-keeps c = search cursors

pub returns-clause-keeps : goal.returns-clause-keeps
returns-clause-keeps c = search cursors
