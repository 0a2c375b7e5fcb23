-- The session at the server.
use Rattle.std.specs.Prelude.{ℕ, ◌-◌, List, [], ◌∷◌, false, ◌≡◌, get_or, drop, ltb, eqb, if◌then◌else◌}
use Rattle.wire.specs.Bounds.{largest_number, blank}
use Rattle.wire.specs.Refusals.{bad_setting, packet_not_taken, state_closed}
use Rattle.wire.specs.Words.{Words, Case, answer, refused, says, refuses}
use Rattle.wire.specs.Parts.{first_bytes}
use Rattle.text_fields.specs.Session.{good_session}
use Rattle.text_fields.specs.Sound.{username_size, password_size}
use Rattle.soupbintcp.specs.declared.packet.Sender.TheVariants.{Client}
use Rattle.soupbintcp.specs.Letters.{letter_debug, letter_login, letter_unsequenced, letter_client_heartbeat, letter_logout}
use Rattle.soupbintcp.specs.Letters.{letter_for}
use Rattle.soupbintcp.specs.Head.{head_size}
use Rattle.soupbintcp.specs.Front.{FrontKind, packet, wants_more, front_of, session_of, username_of, password_of}
use Rattle.login.specs.declared.account.Account.{Account}
use Rattle.login.specs.Account.{VerdictKind, lookup_of}
use Rattle.login.specs.Decision.{DecisionKind, accepted, rejected, decision_of}
use Rattle.soupbintcp_session.specs.Answer.{unsequenced, heartbeat, debug, logged_out, session_answer_words, Incoming}
use Rattle.soupbintcp_session.specs.Answer.{incoming, StepOutcome, stays, takes}
use Rattle.soupbintcp_session.specs.Answer as reply
use Rattle.soupbintcp_server.specs.declared.server.ServerState.{ServerState}
use Rattle.soupbintcp_server.specs.declared.server.ServerState.TheVariants.{Waiting, In, Closed}
use Rattle.soupbintcp_server.specs.declared.server.Server.{Server}
use Rattle.soupbintcp_server.specs.declared.server.Stepped.{Stepped}

-- a server of this session, last number and state
abbrev pub server : List ℕ → ℕ → ServerState → Server
server name last state = record { session = name; last = record { 0 = last }; state = state }

-- the same server in another state
abbrev pub becomes : Server → ServerState → Server
becomes s state = server s.session s.last.0 state

-- ---- the start

-- the smallest last number, where there is no message yet, and the largest, 2^64 - 2
abbrev pub least_last : ℕ
least_last = 0

abbrev pub largest_last : ℕ
largest_last = largest_number - 1

-- 19 where the session isn't one as in A, or last is out of its bounds
unfoldable pub server_start_refusal : List ℕ → ℕ → ℕ
server_start_refusal name last =
    if good_session false name
    then (if ltb last least_last then bad_setting else if ltb largest_last last then bad_setting else 0)
    else bad_setting

-- a refused start gives a closed server, its name blank, its number 1
abbrev pub refused_server : Server
refused_server = server blank 1 Closed

unfoldable pub start_server : List ℕ → ℕ → Server
start_server name last = if eqb (server_start_refusal name last) 0 then server name last Waiting else refused_server

-- ---- the last number moves, as messages are added

-- 19 where it falls, or passes the largest
unfoldable pub last_refusal : Server → ℕ → ℕ
last_refusal s last =
    if ltb last s.last.0 then bad_setting
    else if ltb largest_last last then bad_setting
    else 0

-- a refusal leaves the server as it was
unfoldable pub with_last : Server → ℕ → Server
with_last s last = if eqb (last_refusal s last) 0 then server s.session last s.state else s

-- ---- the table

-- a login, by what is decided: to in, or to closed on J
unfoldable pub login_at : Server → ℕ → Case DecisionKind → ℕ → List ℕ → StepOutcome Server
login_at s size (answer accepted) r vs = takes size (says reply.accepted vs) (becomes s In)
login_at s size (answer rejected) r vs = takes size (says reply.rejected vs) (becomes s Closed)
login_at s size refused r vs = stays s (refuses r)

abbrev pub login_row : Server → ℕ → Words DecisionKind → StepOutcome Server
login_row s size w = login_at s size w.which w.refusal w.values

-- waiting takes L and +; verdict is what the table says of the packet's entry
unfoldable pub waiting_row : Server → Words VerdictKind → Incoming → StepOutcome Server
waiting_row s verdict p =
    if eqb p.letter letter_login
    then login_row s p.size (decision_of verdict p.session (get_or p.values 0 0) s.session s.last.0)
    else if eqb p.letter letter_debug then takes p.size (says debug []) (becomes s Waiting)
    else stays s (refuses packet_not_taken)

-- in takes U, R, + and O
unfoldable pub in_row : Server → ℕ → ℕ → StepOutcome Server
in_row s size letter =
    if eqb letter letter_unsequenced
    then takes size (says unsequenced (head_size ∷ (size - head_size) ∷ [])) (becomes s In)
    else if eqb letter letter_client_heartbeat then takes size (says heartbeat []) (becomes s In)
    else if eqb letter letter_debug then takes size (says debug []) (becomes s In)
    else if eqb letter letter_logout then takes size (says logged_out []) (becomes s Closed)
    else stays s (refuses packet_not_taken)

unfoldable pub row_at : ServerState → Server → Words VerdictKind → Incoming → StepOutcome Server
row_at Waiting s verdict p = waiting_row s verdict p
row_at In s verdict p = in_row s p.size p.letter
row_at Closed s verdict p = stays s (refuses state_closed)

abbrev pub server_row : Server → Words VerdictKind → Incoming → StepOutcome Server
server_row s verdict p = row_at s.state s verdict p

-- ---- a step, over the front of a stream l

-- by what stands in front: need more and a refusal change nothing
unfoldable pub front_row_at : Server → Words VerdictKind → List ℕ → Words FrontKind → Case FrontKind → StepOutcome Server
front_row_at s verdict asked w (answer (packet p)) =
    server_row s verdict (incoming (get_or w.values 0 0) (letter_for p) (drop 1 w.values) asked)
front_row_at s verdict asked w (answer wants_more) = stays s (says reply.wants_more [])
front_row_at s verdict asked w refused = stays s (refuses w.refusal)

abbrev pub front_row : Server → Words VerdictKind → List ℕ → Words FrontKind → StepOutcome Server
front_row s verdict asked w = front_row_at s verdict asked w w.which

-- 19 for the table comes first
unfoldable pub step_at : Case VerdictKind → Server → Words VerdictKind → List ℕ → StepOutcome Server
step_at (answer x) s verdict l = front_row s verdict (session_of Client l) (front_of Client l)
step_at refused s verdict l = stays s (refuses verdict.refusal)

-- from what the table says of the entry in front
abbrev pub step_with : Server → Words VerdictKind → List ℕ → StepOutcome Server
step_with s verdict l = step_at verdict.which s verdict l

-- the entry of the login request in front; zero bytes where there is none
unfoldable pub entry_of : List ℕ → Account
entry_of l =
    record {
      username = first_bytes username_size (username_of Client l);
      password = first_bytes password_size (password_of Client l);
    }

-- with a table of account records
unfoldable pub server_step : List Account → Server → List ℕ → StepOutcome Server
server_step t s l = step_with s (lookup_of t (entry_of l)) l

-- the promise of a step that answers r
pub record ServerSteps (r : Stepped) (o : StepOutcome Server) : Type 0 where
  pub answers : session_answer_words r.answer ≡ o.reply
  pub size : r.size ≡ o.size
  pub leaves : r.server ≡ o.after
