use Rattle.exports_moldudp64.proofs.Rules.{messages}
use Rattle.exports_moldudp64.proofs.messages.eiderwagon_mold_walk.Goals as goal

pub returns-clause-sets_cursor : goal.returns-clause-sets_cursor
returns-clause-sets_cursor c = search messages

pub returns-clause-refuses : goal.returns-clause-refuses
returns-clause-refuses c = search messages
