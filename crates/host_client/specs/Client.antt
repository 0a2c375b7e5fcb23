-- A client as bytes: the fields of a session.
use Rattle.std.specs.Prelude.{ℕ, List, Bool, true, false, length, ltb, eqb, if◌then◌else◌}
use Rattle.soupbintcp_client.specs.declared.client.ClientState.{ClientState}
use Rattle.soupbintcp_client.specs.declared.client.ClientState.TheVariants as state
use Rattle.soupbintcp_client.specs.declared.client.Client.{Client}
use Rattle.soupbintcp_client.specs.Client.{client, refused_client}
use Rattle.host_states.specs.States.{client_code, is_open, open_byte, Keeps}
use Rattle.host_session.specs.Session.{session_state_size, session_fields, session_state_bytes, session_state_in}

-- what is open is in by phase 2, and has asked by every other one; what isn't is ended by phase 3, and else closed
unfoldable pub client_state_of : Bool → ℕ → ClientState
client_state_of opened b =
    if opened then (if eqb b 2 then state.In else state.Asked)
    else if eqb b 3 then state.Ended
    else state.Closed

unfoldable pub client_is_open : ClientState → Bool
client_is_open state.Asked = true
client_is_open state.In = true
client_is_open state.Ended = false
client_is_open state.Closed = false

unfoldable pub client_phase : ClientState → ℕ
client_phase state.Asked = 1
client_phase state.In = 2
client_phase state.Ended = 3
client_phase state.Closed = 0

unfoldable pub client_bytes : Client → List ℕ
client_bytes c =
    session_state_bytes
    (session_fields (open_byte client_code (client_is_open c.state)) c.session c.number.0
    (client_phase c.state))

-- any bytes are one: too few are the client of a refused start
unfoldable pub client_in : List ℕ → Client
client_in l =
    if ltb (length l) session_state_size then refused_client
    else client (session_state_in l).name (session_state_in l).num
    (client_state_of (is_open client_code l) (session_state_in l).phase)

abbrev pub KeepsClient : Bool → List ℕ → List ℕ → Client → Type 0
KeepsClient lays l m c = Keeps lays l m session_state_size client_in (client_bytes c) c
