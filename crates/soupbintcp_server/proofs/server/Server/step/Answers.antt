-- The table's 19, then what the front says, and then the row of the packet there, by what the table has for it.
use Rattle.soupbintcp_server.proofs.Rules.{ruled, tables}
use Rattle.soupbintcp_server.proofs.server.Server.step.Goals as goal

pub found_for-requires : goal.found_for-requires
found_for-requires c = search tables

pub take-requires : goal.take-requires
take-requires c = search tables

pub returns-in-NeedMore-clause-server_steps : goal.returns-in-NeedMore-clause-server_steps
returns-in-NeedMore-clause-server_steps c = search tables

pub returns-in-Refused-clause-server_steps : goal.returns-in-Refused-clause-server_steps
returns-in-Refused-clause-server_steps c = search tables

pub returns-in-Refused-clause-accepts : goal.returns-in-Refused-clause-accepts
returns-in-Refused-clause-accepts c = search ruled

pub returns-in-Whole-clause-server_steps : goal.returns-in-Whole-clause-server_steps
returns-in-Whole-clause-server_steps c = search tables

pub returns-in-Whole-clause-accepts : goal.returns-in-Whole-clause-accepts
returns-in-Whole-clause-accepts c = search ruled
