use Rattle.exports_moldudp64.proofs.Rules.{names}
use Rattle.exports_moldudp64.proofs.writers.eiderwagon_mold_write_request.Goals as goal

pub returns-clause-answers_writing : goal.returns-clause-answers_writing
returns-clause-answers_writing c = search names

pub returns-clause-refuses : goal.returns-clause-refuses
returns-clause-refuses c = search names
