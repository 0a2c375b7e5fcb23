-- The session at the client.
use Rattle.std.specs.Prelude.{ℕ, ◌+◌, ◌-◌, List, [], ◌∷◌, Bool, true, ◌≡◌, get_or, drop, ltb, eqb, if◌then◌else◌}
use Rattle.wire.specs.Bounds.{blank, largest_number, session_size}
use Rattle.wire.specs.Refusals.{bad_setting, packet_not_taken, state_closed, login_not_asked, numbers_used_up}
use Rattle.wire.specs.Words.{Words, Case, answer, refused, says, refuses}
use Rattle.wire.specs.Bytes.{same_bytes}
use Rattle.wire.specs.Parts.{first_bytes}
use Rattle.text_fields.specs.Session.{good_session}
use Rattle.soupbintcp.specs.declared.packet.Sender.TheVariants.{Server}
use Rattle.soupbintcp.specs.Letters.{letter_debug, letter_accepted, letter_rejected, letter_sequenced}
use Rattle.soupbintcp.specs.Letters.{letter_server_heartbeat, letter_end, letter_for}
use Rattle.soupbintcp.specs.Head.{head_size}
use Rattle.soupbintcp.specs.Front.{FrontKind, packet, wants_more, front_of, session_of}
use Rattle.soupbintcp_session.specs.Answer.{accepted, rejected, sequenced, heartbeat, debug, end_of_session}
use Rattle.soupbintcp_session.specs.Answer.{session_answer_words, Incoming, incoming, StepOutcome, stays, takes}
use Rattle.soupbintcp_session.specs.Answer as reply
use Rattle.soupbintcp_client.specs.declared.client.ClientState.{ClientState}
use Rattle.soupbintcp_client.specs.declared.client.ClientState.TheVariants.{Asked, In, Ended, Closed}
use Rattle.soupbintcp_client.specs.declared.client.Client.{Client}
use Rattle.soupbintcp_client.specs.declared.client.Stepped.{Stepped}

-- a client of this session, number and state
abbrev pub client : List ℕ → ℕ → ClientState → Client
client name n state = record { session = name; number = record { 0 = n }; state = state }

-- the same client in another state
abbrev pub becomes : Client → ClientState → Client
becomes c state = client c.session c.number.0 state

-- ---- the start

-- the smallest number to ask for, which asks for any
abbrev pub least_asked : ℕ
least_asked = 0

-- 19 where the session isn't one as in L; every number is good
unfoldable pub client_start_refusal : List ℕ → ℕ → ℕ
client_start_refusal name n =
    if good_session true name
    then (if ltb n least_asked then bad_setting else if ltb largest_number n then bad_setting else 0)
    else bad_setting

-- a refused start gives a closed client, its name blank, its number 1
abbrev pub refused_client : Client
refused_client = client blank 1 Closed

unfoldable pub start_client : List ℕ → ℕ → Client
start_client name n = if eqb (client_start_refusal name n) 0 then client name n Asked else refused_client

-- ---- the table

-- A must carry the asked session unless that was blank
unfoldable pub session_asked : List ℕ → List ℕ → Bool
session_asked asked given = if same_bytes asked blank then true else same_bytes given asked

-- and the asked number unless that was 0
unfoldable pub number_asked : ℕ → ℕ → Bool
number_asked asked given = if eqb asked 0 then true else eqb given asked

-- A: session and number come from it; 33 where it doesn't match what was asked
unfoldable pub accepted_row : Client → ℕ → List ℕ → ℕ → StepOutcome Client
accepted_row c size given n =
    if session_asked c.session given
    then (if number_asked c.number.0 n
    then takes size (says accepted (n ∷ [])) (client (first_bytes session_size given) n In)
    else stays c (refuses login_not_asked))
    else stays c (refuses login_not_asked)

-- S: message n, then n + 1; 34 where n is 2^64 - 1
unfoldable pub sequenced_row : Client → ℕ → StepOutcome Client
sequenced_row c size =
    if eqb c.number.0 largest_number then stays c (refuses numbers_used_up)
    else takes size (says sequenced (c.number.0 ∷ head_size ∷ (size - head_size) ∷ []))
    (client c.session (c.number.0 + 1) In)

-- asked takes A, J and +
unfoldable pub asked_row : Client → Incoming → StepOutcome Client
asked_row c p =
    if eqb p.letter letter_accepted then accepted_row c p.size p.session (get_or p.values 0 0)
    else if eqb p.letter letter_rejected then takes p.size (says rejected p.values) (becomes c Closed)
    else if eqb p.letter letter_debug then takes p.size (says debug []) (becomes c Asked)
    else stays c (refuses packet_not_taken)

-- in takes S, H, + and Z
unfoldable pub in_row : Client → ℕ → ℕ → StepOutcome Client
in_row c size letter =
    if eqb letter letter_sequenced then sequenced_row c size
    else if eqb letter letter_server_heartbeat then takes size (says heartbeat []) (becomes c In)
    else if eqb letter letter_debug then takes size (says debug []) (becomes c In)
    else if eqb letter letter_end then takes size (says end_of_session []) (becomes c Ended)
    else stays c (refuses packet_not_taken)

unfoldable pub row_at : ClientState → Client → Incoming → StepOutcome Client
row_at Asked c p = asked_row c p
row_at In c p = in_row c p.size p.letter
row_at Ended c p = stays c (refuses state_closed)
row_at Closed c p = stays c (refuses state_closed)

abbrev pub client_row : Client → Incoming → StepOutcome Client
client_row c p = row_at c.state c p

-- ---- a step, over the front of a stream l

-- by what stands in front: need more and a refusal change nothing
unfoldable pub front_row_at : Client → List ℕ → Words FrontKind → Case FrontKind → StepOutcome Client
front_row_at c given w (answer (packet p)) =
    client_row c (incoming (get_or w.values 0 0) (letter_for p) (drop 1 w.values) given)
front_row_at c given w (answer wants_more) = stays c (says reply.wants_more [])
front_row_at c given w refused = stays c (refuses w.refusal)

unfoldable pub client_step : Client → List ℕ → StepOutcome Client
client_step c l = front_row_at c (session_of Server l) (front_of Server l) (front_of Server l).which

-- the promise of a step that answers r
pub record ClientSteps (r : Stepped) (o : StepOutcome Client) : Type 0 where
  pub answers : session_answer_words r.answer ≡ o.reply
  pub size : r.size ≡ o.size
  pub leaves : r.client ≡ o.after
