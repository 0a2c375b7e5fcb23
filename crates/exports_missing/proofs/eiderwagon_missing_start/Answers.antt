-- A fresh reading is laid.
use Rattle.exports_missing.proofs.Rules.{starts}
use Rattle.exports_missing.proofs.eiderwagon_missing_start.Goals as goal

pub returns-clause-starts_missing : goal.returns-clause-starts_missing
returns-clause-starts_missing c = search starts

pub returns-clause-refuses : goal.returns-clause-refuses
returns-clause-refuses c = search starts
