use Rattle.exports_deliver.proofs.OnlyLaws.{deliver-only}
use Rattle.exports_deliver.proofs.DeliverLaws.{delivers-datagram}
use Rattle.exports_deliver.proofs.deliver_read.Goals as goal

pub returns-clause-delivers_datagram : goal.returns-clause-delivers_datagram
returns-clause-delivers_datagram c =
    delivers-datagram _ _ c.requires.0 _ _ c.read.ensures _ c.take_read-taken.ensures.takes_read.0 _ _ _ _ _ _ _ c.requires.1 c.lay_answer-code.ensures
    c.take_read-taken.ensures.takes_read.1 c.write.ensures.value c.write.ensures.keeps

pub returns-clause-refuses : goal.returns-clause-refuses
returns-clause-refuses c =
    deliver-only _ _ c.requires.0 _ _ _ _ _ _ _ _ _ c.take_read-taken.ensures.takes_read.0 c.lay_answer-code.ensures c.write.ensures.value
