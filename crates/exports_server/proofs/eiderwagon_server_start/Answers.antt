-- The fresh server is kept, and none on a refusal.
use Rattle.exports_server.specs.Calls.{StartsServer}
use Rattle.exports_server.proofs.ServerLaws.{start-only}
use Rattle.exports_server.proofs.Rules.{servers}
use Rattle.exports_server.proofs.eiderwagon_server_start.Goals as goal

pub returns : goal.returns
returns c =
    let starts : StartsServer c.write.result c.args.session.now c.args.last c.args.state.now c.write.new.state = search servers in
    record { starts_server = starts; refuses = start-only _ _ _ _ _ starts }
