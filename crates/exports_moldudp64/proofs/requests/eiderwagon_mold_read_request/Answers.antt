use Rattle.exports_moldudp64.proofs.Rules.{reads}
use Rattle.exports_moldudp64.proofs.requests.eiderwagon_mold_read_request.Goals as goal

pub returns-clause-refuses : goal.returns-clause-refuses
returns-clause-refuses c = search reads
