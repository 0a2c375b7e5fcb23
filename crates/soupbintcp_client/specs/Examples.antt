-- A whole stream at the client, from its start.
use Rattle.std.specs.Prelude.{ℕ, List, [], ◌∷◌, ◌++◌, ◌≡◌, replicate}
use Rattle.wire.specs.Text.{ascii, readroom}
use Rattle.wire.specs.Bounds.{blank}
use Rattle.wire.specs.Refusals.{state_closed}
use Rattle.wire.specs.Words.{refuses}
use Rattle.text_fields.specs.Letters.{space}
use Rattle.soupbintcp.specs.Letters.{letter_accepted, letter_sequenced, letter_server_heartbeat, letter_end}
use Rattle.soupbintcp_session.specs.Stream.{Run, run}
use Rattle.soupbintcp_session.specs.Examples.{short_packet}
use Rattle.soupbintcp_client.specs.declared.client.ClientState.TheVariants.{Ended}
use Rattle.soupbintcp_client.specs.declared.client.Client.{Client}
use Rattle.soupbintcp_client.specs.Client.{client, start_client, client_step}
use Rattle.soupbintcp_client.specs.HandedUp.{numbered_from, handed_up}

-- S after Z is left where it is
abbrev pub late : List ℕ
late = short_packet letter_sequenced (ascii "c")

abbrev pub stream : List ℕ
stream =
    short_packet letter_accepted (readroom ++ replicate 19 space ++ (ascii "7"))
    ++ short_packet letter_sequenced (ascii "a")
    ++ short_packet letter_server_heartbeat []
    ++ short_packet letter_sequenced []
    ++ short_packet letter_end []
    ++ late

-- it asks for any session and any number, and is granted READROOM01 from 7 on
abbrev pub ran : Run Client
ran = run client_step (start_client blank 0) stream

pub record ClientExample : Type 0 where
  pub hands_up : handed_up ran.taken ≡ numbered_from 7 ((ascii "a") ∷ [] ∷ [])
  pub ends : ran.after ≡ client readroom 9 Ended
  pub leaves : ran.rest ≡ late
  pub why : ran.why ≡ refuses state_closed
