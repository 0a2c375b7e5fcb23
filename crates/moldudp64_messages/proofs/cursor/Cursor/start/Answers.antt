-- Data has as many messages as its count; any other datagram has none.
use Rattle.moldudp64_messages.proofs.Rules.{starting}
use Rattle.moldudp64_messages.proofs.cursor.Cursor.start.Goals as goal

pub returns-in-Ok-Data-clause-value : goal.returns-in-Ok-Data-clause-value
returns-in-Ok-Data-clause-value c = search starting

pub returns-in-Ok-Heartbeat-clause-value : goal.returns-in-Ok-Heartbeat-clause-value
returns-in-Ok-Heartbeat-clause-value c = search starting

pub returns-in-Ok-EndOfSession-clause-value : goal.returns-in-Ok-EndOfSession-clause-value
returns-in-Ok-EndOfSession-clause-value c = search starting

pub returns-in-Err-clause-value : goal.returns-in-Err-clause-value
returns-in-Err-clause-value c = search starting
