-- The cursor stands behind the skipped messages, and the walk from there is a law.
use Rattle.std.proofs.Common.{refl}
use Rattle.moldudp64_reader.proofs.ReaderLaws.{reads-the-delivery}
use Rattle.moldudp64_reader.proofs.deliver.Goals as goal

pub returns : goal.returns
returns c = (refl, c.start-cursor.ensures.value, c.start-cursor.ensures.visits, reads-the-delivery)
