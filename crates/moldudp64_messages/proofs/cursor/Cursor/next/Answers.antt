-- It moves exactly where a message is there.
use Rattle.moldudp64_messages.proofs.Rules.{moving}
use Rattle.moldudp64_messages.proofs.cursor.Cursor.next.Goals as goal

pub returns-then-found : goal.returns-then-found
returns-then-found c = search moving
