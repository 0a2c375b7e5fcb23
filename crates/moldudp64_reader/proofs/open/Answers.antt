-- The cursor stands at the first message, and the walk from there is a law.
use Rattle.std.proofs.Common.{refl}
use Rattle.moldudp64_reader.proofs.ReaderLaws.{reads-the-messages}
use Rattle.moldudp64_reader.proofs.open.Goals as goal

pub returns : goal.returns
returns c = (refl, c.start-cursor.ensures.value, reads-the-messages)
