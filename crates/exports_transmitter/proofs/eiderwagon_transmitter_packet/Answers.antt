use Rattle.exports_transmitter.proofs.RefusalLaws.{packet-only}
use Rattle.exports_transmitter.proofs.CallLaws.{packet-reported}
use Rattle.exports_transmitter.proofs.eiderwagon_transmitter_packet.Goals as goal

pub returns-clause-answers_writing : goal.returns-clause-answers_writing
returns-clause-answers_writing c =
    packet-reported _ _ _ _ _ _ _ _ _ c.first-name.ensures c.lent_from-from.ensures c.answer_written.ensures.answers_with _ _ _ _ _ c.write-written.ensures.writes

pub returns-clause-refuses : goal.returns-clause-refuses
returns-clause-refuses c = packet-only _ _ _ _ _ _ _ _ _ _ _ _ _ c.answer_written.ensures.answers_with _ c.write-written.ensures.writes
