-- A server as bytes: the fields of a session.
use Rattle.std.specs.Prelude.{ℕ, List, Bool, true, false, length, ltb, eqb, if◌then◌else◌}
use Rattle.wire.specs.Refusals.{bad_setting}
use Rattle.soupbintcp.specs.declared.packet.Sender.TheVariants.{Client}
use Rattle.soupbintcp.specs.Front.{front_of}
use Rattle.login.specs.declared.account.Account.{Account}
use Rattle.login.specs.Account.{most_accounts}
use Rattle.soupbintcp_server.specs.declared.server.ServerState.{ServerState}
use Rattle.soupbintcp_server.specs.declared.server.ServerState.TheVariants.{Waiting, In, Closed}
use Rattle.soupbintcp_server.specs.declared.server.Server.{Server}
use Rattle.soupbintcp_server.specs.Server.{server, refused_server}
use Rattle.host_answers.specs.Answers.{or_else}
use Rattle.host_states.specs.States.{server_code, is_open, open_byte, Keeps}
use Rattle.host_session.specs.Session.{session_state_size, session_fields, session_state_bytes, session_state_in}

-- what isn't open is closed; what is, is in by phase 2, and waiting by every other one
unfoldable pub server_state_of : Bool → ℕ → ServerState
server_state_of opened b = if opened then (if eqb b 2 then In else Waiting) else Closed

unfoldable pub server_is_open : ServerState → Bool
server_is_open Waiting = true
server_is_open In = true
server_is_open Closed = false

unfoldable pub server_phase : ServerState → ℕ
server_phase Waiting = 1
server_phase In = 2
server_phase Closed = 0

unfoldable pub server_bytes : Server → List ℕ
server_bytes s =
    session_state_bytes
    (session_fields (open_byte server_code (server_is_open s.state)) s.session s.last.0 (server_phase s.state))

-- any bytes are one: too few are the server of a refused start
unfoldable pub server_in : List ℕ → Server
server_in l =
    if ltb (length l) session_state_size then refused_server
    else server (session_state_in l).name (session_state_in l).num
    (server_state_of (is_open server_code l) (session_state_in l).phase)

abbrev pub KeepsServer : Bool → List ℕ → List ℕ → Server → Type 0
KeepsServer lays l m s = Keeps lays l m session_state_size server_in (server_bytes s) s

-- ---- the grounds of a step that need no server: 19 of the table t, and 21 to 25 of the stream d
abbrev pub table_refusal : List Account → ℕ
table_refusal t = if ltb most_accounts (length t) then bad_setting else 0

abbrev pub server_stateless : List Account → List ℕ → ℕ
server_stateless t d = or_else (table_refusal t) (front_of Client d).refusal
