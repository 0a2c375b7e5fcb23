-- What can't be read, then a state that is too short.
use mathlib.Core.Path.{refl, sym}
use Rattle.moldudp64.proofs.DownstreamLaws.{no_refusal}
use Rattle.exports_deliver.proofs.DeliverLaws.{delivers-refused, delivers-short}
use Rattle.exports_deliver.proofs.MessageLaws.{places_are_messages, enough_places}
use Rattle.exports_deliver.proofs.RunLaws.{hands_on}
use Rattle.exports_deliver.proofs.ExampleLaws.{handed-example}
use Rattle.exports_deliver.proofs.eiderwagon_receiver_deliver.Goals as goal

pub returns-in-Err-clause-delivers_datagram : goal.returns-in-Err-clause-delivers_datagram
returns-in-Err-clause-delivers_datagram c = delivers-refused _ _ _ _ _ _ c.in-Err.ensures.result_value c.from.ensures

pub returns-then-state-lt-SIZE-clause-delivers_datagram : goal.returns-then-state-lt-SIZE-clause-delivers_datagram
returns-then-state-lt-SIZE-clause-delivers_datagram c =
    delivers-short _ _ _ _ _ 0 c.in-Ok.ensures.result_value (sym (no_refusal _)) refl c.if-state-lt-SIZE.true

pub returns-in-Err-clause-messages : goal.returns-in-Err-clause-messages
returns-in-Err-clause-messages c = places_are_messages

pub returns-in-Err-clause-enough : goal.returns-in-Err-clause-enough
returns-in-Err-clause-enough c = enough_places

pub returns-in-Err-clause-hands_on : goal.returns-in-Err-clause-hands_on
returns-in-Err-clause-hands_on c = hands_on

pub returns-in-Err-clause-not_vacuous : goal.returns-in-Err-clause-not_vacuous
returns-in-Err-clause-not_vacuous c = handed-example

pub returns-then-state-lt-SIZE-clause-messages : goal.returns-then-state-lt-SIZE-clause-messages
returns-then-state-lt-SIZE-clause-messages c = places_are_messages

pub returns-then-state-lt-SIZE-clause-enough : goal.returns-then-state-lt-SIZE-clause-enough
returns-then-state-lt-SIZE-clause-enough c = enough_places

pub returns-then-state-lt-SIZE-clause-hands_on : goal.returns-then-state-lt-SIZE-clause-hands_on
returns-then-state-lt-SIZE-clause-hands_on c = hands_on

pub returns-then-state-lt-SIZE-clause-not_vacuous : goal.returns-then-state-lt-SIZE-clause-not_vacuous
returns-then-state-lt-SIZE-clause-not_vacuous c = handed-example

pub returns-clause-messages : goal.returns-clause-messages
returns-clause-messages c = places_are_messages

pub returns-clause-enough : goal.returns-clause-enough
returns-clause-enough c = enough_places

pub returns-clause-hands_on : goal.returns-clause-hands_on
returns-clause-hands_on c = hands_on

pub returns-clause-not_vacuous : goal.returns-clause-not_vacuous
returns-clause-not_vacuous c = handed-example
