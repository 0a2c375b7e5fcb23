use Rattle.soupbintcp_client.proofs.Rules.{client_fronts}
use Rattle.soupbintcp_client.proofs.client.Client.step.Goals as goal

pub take-requires : goal.take-requires
take-requires c = search client_fronts

pub returns-in-NeedMore-clause-client_steps : goal.returns-in-NeedMore-clause-client_steps
returns-in-NeedMore-clause-client_steps c = search client_fronts

pub returns-in-Refused-clause-client_steps : goal.returns-in-Refused-clause-client_steps
returns-in-Refused-clause-client_steps c = search client_fronts

pub returns-in-Whole-clause-client_steps : goal.returns-in-Whole-clause-client_steps
returns-in-Whole-clause-client_steps c = search client_fronts
