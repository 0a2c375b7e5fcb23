-- The table's refusal, then what the front says, and then the row of the packet there.
use Rattle.soupbintcp_server.proofs.Rules.{recorded, server_fronts}
use Rattle.soupbintcp_server.proofs.StatementLaws.{by-a-record}
use Rattle.soupbintcp_server.proofs.server.Server.step_with.Goals as goal

pub returns-in-Err-clause-server_steps : goal.returns-in-Err-clause-server_steps
returns-in-Err-clause-server_steps c = search server_fronts

pub take-requires : goal.take-requires
take-requires c = search server_fronts

pub returns-in-NeedMore-clause-server_steps : goal.returns-in-NeedMore-clause-server_steps
returns-in-NeedMore-clause-server_steps c = search server_fronts

pub returns-in-Refused-clause-server_steps : goal.returns-in-Refused-clause-server_steps
returns-in-Refused-clause-server_steps c = search server_fronts

pub returns-in-Refused-clause-accepts : goal.returns-in-Refused-clause-accepts
returns-in-Refused-clause-accepts c = search recorded

pub returns-in-Whole-clause-server_steps : goal.returns-in-Whole-clause-server_steps
returns-in-Whole-clause-server_steps c = search server_fronts

pub returns-in-Whole-clause-accepts : goal.returns-in-Whole-clause-accepts
returns-in-Whole-clause-accepts c = search recorded

pub returns-in-Err-clause-accepts : goal.returns-in-Err-clause-accepts
returns-in-Err-clause-accepts c = by-a-record _ _ _ _ (returns-in-Err-clause-server_steps c)
