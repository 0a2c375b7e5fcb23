use Rattle.accounts.proofs.Rules.{accounts}
use Rattle.accounts.proofs.step_among.Goals as goal

pub returns-clause-server_steps : goal.returns-clause-server_steps
returns-clause-server_steps c = search accounts

pub returns-clause-accepts : goal.returns-clause-accepts
returns-clause-accepts c = search accounts
