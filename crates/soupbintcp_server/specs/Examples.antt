-- A whole stream at the server, from its start: `ann` logs in, sends a message and logs out; what follows is left
-- where it is.
use Rattle.std.specs.Prelude.{ℕ, List, [], ◌∷◌, ◌++◌, ◌≡◌, replicate}
use Rattle.wire.specs.Text.{ascii, readroom}
use Rattle.wire.specs.Bounds.{blank}
use Rattle.wire.specs.Refusals.{state_closed}
use Rattle.wire.specs.Words.{Words, says, refuses}
use Rattle.text_fields.specs.Letters.{space}
use Rattle.soupbintcp.specs.Letters.{letter_login, letter_unsequenced, letter_client_heartbeat, letter_logout}
use Rattle.login.specs.Examples.{ann}
use Rattle.soupbintcp_session.specs.Answer.{SessionAnswerKind, accepted, unsequenced, logged_out}
use Rattle.soupbintcp_session.specs.Stream.{Taking, Run, run}
use Rattle.soupbintcp_session.specs.Examples.{short_packet}
use Rattle.soupbintcp_server.specs.declared.server.ServerState.TheVariants.{Closed}
use Rattle.soupbintcp_server.specs.declared.server.Server.{Server}
use Rattle.soupbintcp_server.specs.Server.{server, start_server, server_step}

abbrev pub after_logout : List ℕ
after_logout = short_packet letter_client_heartbeat []

abbrev pub from_client : List ℕ
from_client =
    short_packet letter_login (ann.username ++ ann.password ++ blank ++ replicate 19 space ++ (ascii "0"))
    ++ short_packet letter_unsequenced (ascii "a")
    ++ short_packet letter_logout []
    ++ after_logout

abbrev pub served : Run Server
served = run (server_step (ann ∷ [])) (start_server readroom 5) from_client

unfoldable pub replies_of : List Taking → List (Words SessionAnswerKind)
replies_of [] = []
replies_of (x ∷ xs) = x.reply ∷ replies_of xs

pub record ServerExample : Type 0 where
  pub answers : replies_of served.taken
      ≡ says accepted (5 ∷ []) ∷ says unsequenced (3 ∷ 1 ∷ []) ∷ says logged_out [] ∷ []
  pub closes : served.after ≡ server readroom 5 Closed
  pub leaves : served.rest ≡ after_logout
  pub why : served.why ≡ refuses state_closed
