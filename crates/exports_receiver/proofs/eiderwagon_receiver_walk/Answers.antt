use Rattle.exports_receiver.proofs.Rules.{cursors}
use Rattle.exports_receiver.proofs.eiderwagon_receiver_walk.Goals as goal

pub returns-clause-sets_cursor : goal.returns-clause-sets_cursor
returns-clause-sets_cursor c = search cursors

pub returns-clause-refuses : goal.returns-clause-refuses
returns-clause-refuses c = search cursors
