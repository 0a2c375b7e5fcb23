-- The fresh client is kept, and none on a refusal.
use Rattle.exports_client.specs.Calls.{StartsClient}
use Rattle.exports_client.proofs.ClientLaws.{start-only}
use Rattle.exports_client.proofs.Rules.{clients}
use Rattle.exports_client.proofs.eiderwagon_client_start.Goals as goal

pub returns : goal.returns
returns c =
    let starts : StartsClient c.write.result c.args.session.now c.args.number c.args.state.now c.write.new.state = search clients in
    record { starts_client = starts; refuses = start-only _ _ _ _ _ starts }
