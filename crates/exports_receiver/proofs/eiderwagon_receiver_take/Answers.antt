-- What can't be read, then a state that is too short.
use mathlib.Core.Path.{refl, sym}
use Rattle.moldudp64.proofs.DownstreamLaws.{no_refusal}
use Rattle.exports_receiver.proofs.LadderLaws.{refused-only}
use Rattle.exports_receiver.proofs.ReceiverLaws.{takes-refused, takes-short}
use Rattle.exports_receiver.proofs.eiderwagon_receiver_take.Goals as goal

pub returns-in-Err-clause-takes_datagram : goal.returns-in-Err-clause-takes_datagram
returns-in-Err-clause-takes_datagram c = takes-refused _ _ _ _ _ c.in-Err.ensures.result_value c.from.ensures

pub returns-in-Err-clause-refuses : goal.returns-in-Err-clause-refuses
returns-in-Err-clause-refuses c = refused-only _ _ _ c.in-Err.ensures.result_value c.from.ensures

pub returns-then-state-lt-SIZE-clause-takes_datagram : goal.returns-then-state-lt-SIZE-clause-takes_datagram
returns-then-state-lt-SIZE-clause-takes_datagram c =
    takes-short _ _ _ _ 0 c.in-Ok.ensures.result_value (sym (no_refusal _)) refl c.if-state-lt-SIZE.true
