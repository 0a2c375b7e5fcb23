-- The turn's answer is reported, and its progress kept; a state that is too short has no turn.
use Rattle.exports_transmitter.proofs.RefusalLaws.{next-only}
use Rattle.exports_transmitter.proofs.CallLaws.{next-sized, next-unsized, next-packet}
use Rattle.exports_transmitter.proofs.eiderwagon_transmitter_next.Goals as goal

pub returns-in-Ok-clause-next_packet : goal.returns-in-Ok-clause-next_packet
returns-in-Ok-clause-next_packet c = next-sized _ _ _ _ _ _ _ _ _ _ c.if-state-lt-SIZE.true c.check.ensures c.in-Ok.is

pub returns-in-Err-clause-next_packet : goal.returns-in-Err-clause-next_packet
returns-in-Err-clause-next_packet c = next-unsized _ _ _ _ _ _ _ _ _ _ _ c.if-state-lt-SIZE.true c.check.ensures c.in-Err.is c.from.ensures

pub returns-clause-next_packet : goal.returns-clause-next_packet
returns-clause-next_packet c =
    next-packet _ _ _ _ _ _ _ _ _ c.first-name.ensures c.lent_from-from.ensures c.answer_written-code.ensures.answers_with _ _ _ _ _ _ c.next-turn.ensures.0
    c.next-turn.ensures.1 _ _ _ c.if-state-lt-SIZE.false c.read.ensures c.write.ensures.value c.write.ensures.keeps

pub returns-clause-refuses : goal.returns-clause-refuses
returns-clause-refuses c =
    next-only _ _ _ _ _ _ _ _ _ _ _ _ _ c.answer_written-code.ensures.answers_with _ _ _ c.next-turn.ensures.0 c.write.ensures.value
