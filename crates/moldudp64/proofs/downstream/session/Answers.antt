use Rattle.moldudp64.proofs.Rules.{downstreams}
use Rattle.moldudp64.proofs.downstream.session.Goals as goal

pub returns-in-Ok : goal.returns-in-Ok
returns-in-Ok c = search downstreams

pub returns-in-Err : goal.returns-in-Err
returns-in-Err c = search downstreams
