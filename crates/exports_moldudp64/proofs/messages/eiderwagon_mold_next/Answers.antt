use Rattle.exports_moldudp64.proofs.Rules.{messages}
use Rattle.exports_moldudp64.proofs.messages.eiderwagon_mold_next.Goals as goal

pub returns-then-cursor-lt-SIZE-clause-next_message : goal.returns-then-cursor-lt-SIZE-clause-next_message
returns-then-cursor-lt-SIZE-clause-next_message c = search messages

pub returns-then-found-clause-next_message : goal.returns-then-found-clause-next_message
returns-then-found-clause-next_message c = search messages

pub returns-then-found-clause-refuses : goal.returns-then-found-clause-refuses
returns-then-found-clause-refuses c = search messages

pub returns-clause-next_message : goal.returns-clause-next_message
returns-clause-next_message c = search messages

pub returns-clause-refuses : goal.returns-clause-refuses
returns-clause-refuses c = search messages
