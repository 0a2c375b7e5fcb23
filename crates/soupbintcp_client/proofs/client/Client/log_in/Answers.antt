-- Refused where the session or the number differs; else both are taken from A.
use Rattle.soupbintcp_client.proofs.ClientLaws.{other-session, other-number, logged-in}
use Rattle.soupbintcp_client.proofs.client.Client.log_in.Goals as goal
use Rattle.soupbintcp_client.proofs.client.Client.log_in.Goals.{then-not-asked_session-via-then-not-asked_session, then-not-asked_session-via-else-not-asked_session+then-not-asked_number}

pub returns-then-not-asked_session : goal.returns-then-not-asked_session
returns-then-not-asked_session c =
    elim c.then-not-asked_session.branch [
      | then-not-asked_session-via-then-not-asked_session w ↦ other-session _ _ _ _ _ _ c.asked_session.ensures w.if-not-asked_session.true c.stay.ensures
      | then-not-asked_session-via-else-not-asked_session+then-not-asked_number w ↦
          other-number
          _ _ _ _ _ _ _
          c.asked_session.ensures
          w.if-not-asked_session.false
          w.asked_number.ensures
          w.if-not-asked_number.true
          c.stay.ensures
    ]

pub returns : goal.returns
returns c =
    logged-in
    _ _ _ _ _ _ _
    c.asked_session.ensures
    c.if-not-asked_session.false
    c.asked_number.ensures
    c.if-not-asked_number.false
    c.first.ensures
