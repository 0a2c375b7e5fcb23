use Rattle.exports_moldudp64.proofs.Rules.{messages}
use Rattle.exports_moldudp64.proofs.messages.eiderwagon_mold_locate.Goals as goal

pub returns-clause-answers_with : goal.returns-clause-answers_with
returns-clause-answers_with c = search messages

pub returns-clause-refuses : goal.returns-clause-refuses
returns-clause-refuses c = search messages
