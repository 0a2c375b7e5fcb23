-- What is promised of the session at the server.
use Rattle.std.specs.Prelude.{ℕ, ◌-◌, ◌<◌, ◌≤◌, List, [], ◌∷◌, true, is_ok, ◌≡◌, length}
use Rattle.wire.specs.Refusals.{bad_setting, packet_not_taken, state_closed}
use Rattle.wire.specs.Words.{Words, answer, says, refuses}
use Rattle.soupbintcp.specs.declared.packet.Sender.TheVariants.{Client}
use Rattle.soupbintcp.specs.Letters.{login}
use Rattle.soupbintcp.specs.Letters as Letters
use Rattle.soupbintcp.specs.Head.{head_size}
use Rattle.soupbintcp.specs.Fields.{not_authorized, session_not_available, good_reason}
use Rattle.soupbintcp.specs.Front.{packet, front_of, session_of, username_of, password_of}
use Rattle.login.specs.declared.account.Account.{Account}
use Rattle.login.specs.Account.{VerdictKind, most_accounts, Found, found_records, verdict_on}
use Rattle.login.specs.Decision.{granted, Attempt}
use Rattle.login.specs.Statements.{AccountRule, NotRefused, Rules, NoText}
use Rattle.soupbintcp_session.specs.Answer.{accepted, rejected, unsequenced, heartbeat, debug, logged_out, stays, takes}
use Rattle.soupbintcp_session.specs.Answer.{session_answer_words}
use Rattle.soupbintcp_session.specs.Stream.{Run, run, packets_of}
use Rattle.soupbintcp_session.specs.Statements.{StaysOver, StepStable, RunsByStep}
use Rattle.soupbintcp_session.specs.Statements.{ChangesNothing, TakesPackets, HandsUpPayload, AnyStreamCutting, RunsOn}
use Rattle.soupbintcp_server.specs.declared.server.ServerState.TheVariants.{Waiting, In, Closed}
use Rattle.soupbintcp_server.specs.declared.server.Server.{Server}
use Rattle.soupbintcp_server.specs.declared.server.Stepped.{Stepped}
use Rattle.soupbintcp_server.specs.HandedUp.{handed_up, before_login, unsequenced_in}
use Rattle.soupbintcp_server.specs.Server.{becomes, entry_of, step_with, server_step}
use Rattle.soupbintcp_server.specs.Examples.{ServerExample}

-- a login request in front
abbrev pub LoginInFront : List ℕ → ℕ → ℕ → Type 0
LoginInFront l size n = front_of Client l ≡ says (packet login) (size ∷ n ∷ [])

-- its entry: its username and its password
abbrev pub entry_fields : List ℕ → Account
entry_fields l = record { username = username_of Client l; password = password_of Client l }

unfoldable pub EntryIsItsFields : Type 0
EntryIsItsFields = (l : List ℕ) (size n : ℕ) → LoginInFront l size n → entry_of l ≡ entry_fields l

-- what it attempts
abbrev pub attempt_of : List Account → Server → List ℕ → ℕ → Attempt
attempt_of t s l n =
    record {
      table = t;
      entry = entry_fields l;
      asked = session_of Client l;
      wanted = n;
      session = s.session;
      last = s.last.0;
    }

-- a login request that a waiting server accepts
pub record Accepts (t : List Account) (s : Server) (l : List ℕ) : Type 0 where
  pub waiting : s.state ≡ Waiting
  pub size : ℕ
  pub number : ℕ
  pub front : LoginInFront l size number
  pub rules : Rules (attempt_of t s l number)

-- what a step over a table answers lets no one in but by such a request
unfoldable pub OnlyByTheRules : Stepped → List Account → Server → List ℕ → Type 0
OnlyByTheRules r t s l = (session_answer_words r.answer).which ≡ answer accepted → Accepts t s l

-- a login that isn't refused is accepted exactly when the account, session and number rules hold; J with A where the
-- account rule doesn't, and J with S where it does and another doesn't
pub record LoginExactlyWhen : Type 0 where
  pub when : (t : List Account) (s : Server) (l : List ℕ) (size n : ℕ) → s.state ≡ Waiting → LoginInFront l size n
      → NotRefused (attempt_of t s l n) → Rules (attempt_of t s l n)
      → server_step t s l ≡ takes size (says accepted (granted n s.last.0 ∷ [])) (becomes s In)
  pub only_when : (t : List Account) (s : Server) (l : List ℕ) → (server_step t s l).reply.which ≡ answer accepted
      → Accepts t s l
  pub else_A : (t : List Account) (s : Server) (l : List ℕ) (size n : ℕ) → s.state ≡ Waiting → LoginInFront l size n
      → NotRefused (attempt_of t s l n) → (AccountRule (attempt_of t s l n) → ⊥)
      → server_step t s l ≡ takes size (says rejected (not_authorized ∷ [])) (becomes s Closed)
  pub else_S : (t : List Account) (s : Server) (l : List ℕ) (size n : ℕ) → s.state ≡ Waiting → LoginInFront l size n
      → NotRefused (attempt_of t s l n) → AccountRule (attempt_of t s l n) → (Rules (attempt_of t s l n) → ⊥)
      → server_step t s l ≡ takes size (says rejected (session_not_available ∷ [])) (becomes s Closed)
  -- a username or a password that is no text gets J with A, whatever the table holds
  pub no_username : (t : List Account) (s : Server) (l : List ℕ) (size n : ℕ) → s.state ≡ Waiting
      → LoginInFront l size n
      → NotRefused (attempt_of t s l n) → NoText (username_of Client l)
      → server_step t s l ≡ takes size (says rejected (not_authorized ∷ [])) (becomes s Closed)
  pub no_password : (t : List Account) (s : Server) (l : List ℕ) (size n : ℕ) → s.state ≡ Waiting
      → LoginInFront l size n
      → NotRefused (attempt_of t s l n) → NoText (password_of Client l)
      → server_step t s l ≡ takes size (says rejected (not_authorized ∷ [])) (becomes s Closed)
  -- 19 comes first, in every state and on every stream
  pub too_many : (t : List Account) (s : Server) (l : List ℕ) → most_accounts < length t
      → server_step t s l ≡ stays s (refuses bad_setting)

-- a login request that a waiting server rejects, with reason A or S
pub record Rejects (t : List Account) (s : Server) (l : List ℕ) : Type 0 where
  pub waiting : s.state ≡ Waiting
  pub size : ℕ
  pub number : ℕ
  pub front : LoginInFront l size number
  pub reason : ℕ
  pub good : good_reason reason ≡ true
  pub answers : server_step t s l ≡ takes size (says rejected (reason ∷ [])) (becomes s Closed)

-- why a server is in after a step: it was in, or it accepts the login request in front
pub data WasIn (t : List Account) (s : Server) (l : List ℕ) : Type 0 where
  before : s.state ≡ In → WasIn t s l
  by_login : Accepts t s l → WasIn t s l

-- no step changes the session's name or the last number, so that a login accepted can be written with the server that
-- is handed back
pub record KeepsItsSettings (s x : Server) : Type 0 where
  pub session : x.session ≡ s.session
  pub last : x.last ≡ s.last

-- another packet in front, with no value but its size
abbrev pub PlainInFront : List ℕ → Letters.PacketKind → ℕ → Type 0
PlainInFront l kind size = front_of Client l ≡ says (packet kind) (size ∷ [])

-- the other rows, with a table that isn't too long: in takes U, R and +, and is closed by O; waiting takes +
pub record TakesTheOthers : Type 0 where
  pub in_unsequenced : (t : List Account) (s : Server) (l : List ℕ) (size : ℕ) → length t ≤ most_accounts
      → s.state ≡ In → PlainInFront l Letters.unsequenced size
      → server_step t s l ≡ takes size (says unsequenced (head_size ∷ (size - head_size) ∷ [])) s
  pub heartbeat_in : (t : List Account) (s : Server) (l : List ℕ) (size : ℕ) → length t ≤ most_accounts
      → s.state ≡ In → PlainInFront l Letters.client_heartbeat size
      → server_step t s l ≡ takes size (says heartbeat []) s
  pub debug_in : (t : List Account) (s : Server) (l : List ℕ) (size : ℕ) → length t ≤ most_accounts
      → s.state ≡ In → PlainInFront l Letters.debug size
      → server_step t s l ≡ takes size (says debug []) s
  pub logout_in : (t : List Account) (s : Server) (l : List ℕ) (size : ℕ) → length t ≤ most_accounts
      → s.state ≡ In → PlainInFront l Letters.logout size
      → server_step t s l ≡ takes size (says logged_out []) (becomes s Closed)
  pub debug_waiting : (t : List Account) (s : Server) (l : List ℕ) (size : ℕ) → length t ≤ most_accounts
      → s.state ≡ Waiting → PlainInFront l Letters.debug size
      → server_step t s l ≡ takes size (says debug []) s

-- and what no row takes, with such a table: waiting refuses U, R and O by 31, in refuses L by 31, and closed refuses
-- every packet by 32
pub record RefusesTheOthers : Type 0 where
  pub unsequenced_waiting : (t : List Account) (s : Server) (l : List ℕ) (size : ℕ) → length t ≤ most_accounts
      → s.state ≡ Waiting → PlainInFront l Letters.unsequenced size
      → server_step t s l ≡ stays s (refuses packet_not_taken)
  pub heartbeat_waiting : (t : List Account) (s : Server) (l : List ℕ) (size : ℕ) → length t ≤ most_accounts
      → s.state ≡ Waiting → PlainInFront l Letters.client_heartbeat size
      → server_step t s l ≡ stays s (refuses packet_not_taken)
  pub logout_waiting : (t : List Account) (s : Server) (l : List ℕ) (size : ℕ) → length t ≤ most_accounts
      → s.state ≡ Waiting → PlainInFront l Letters.logout size
      → server_step t s l ≡ stays s (refuses packet_not_taken)
  pub login_in : (t : List Account) (s : Server) (l : List ℕ) (size n : ℕ) → length t ≤ most_accounts
      → s.state ≡ In → LoginInFront l size n
      → server_step t s l ≡ stays s (refuses packet_not_taken)
  pub any_closed : (t : List Account) (s : Server) (l : List ℕ) (kind : Letters.PacketKind) (size : ℕ) (vs : List ℕ)
      → length t ≤ most_accounts → s.state ≡ Closed → front_of Client l ≡ says (packet kind) (size ∷ vs)
      → server_step t s l ≡ stays s (refuses state_closed)

-- over a stream: the payloads of U in the packets taken are handed up, each once and in order, and, where the server
-- wasn't in, none before an accepted login
pub record HandsUpInOrder (s : Server) (r : Run Server) : Type 0 where
  pub in_order : handed_up r.taken ≡ unsequenced_in (packets_of r.taken)
  pub none_before : (s.state ≡ In → ⊥) → handed_up (before_login r.taken) ≡ []

-- what a step promises beside its answer, with every table
pub record ServerPromises : Type 0 where
  pub login_exactly_when : LoginExactlyWhen
  -- nobody is in but by a login that meets the rules, and messages are handed up only of one who is in
  pub only_in : (t : List Account) (s : Server) (l : List ℕ) → (server_step t s l).after.state ≡ In → WasIn t s l
  pub hands_up_only_in : (t : List Account) (s : Server) (l : List ℕ)
      → (server_step t s l).reply.which ≡ answer unsequenced → s.state ≡ In
  -- whatever is said to be found, who is let in meets the rules with its record alone as the table
  pub only_by_its_record : (f : Found) (s : Server) (l : List ℕ)
      → (step_with s (verdict_on f (entry_of l)) l).reply.which ≡ answer accepted → Accepts (found_records f) s l
  pub made_up_is_a_table_of_one : (f : Found) (s : Server) (l : List ℕ) → is_ok f ≡ true
      → step_with s (verdict_on f (entry_of l)) l ≡ server_step (found_records f) s l
  -- nothing but a login request is rejected
  pub only_rejects : (t : List Account) (s : Server) (l : List ℕ)
      → (server_step t s l).reply.which ≡ answer rejected → Rejects t s l
  pub takes_the_others : TakesTheOthers
  pub refuses_the_others : RefusesTheOthers
  -- closed, whatever comes
  pub stays_over : (t : List Account) (s : Server) (l : List ℕ) → s.state ≡ Closed
      → StaysOver Server s (server_step t s l)
  pub example : ServerExample
  pub changes_nothing : (t : List Account) → ChangesNothing Server (server_step t)
  -- so does a step with any verdict on the entry in front
  pub changes_nothing_with : (verdict : List ℕ → Words VerdictKind)
      → ChangesNothing Server (λ s l. step_with s (verdict l) l)
  pub takes_packets : (t : List Account) → TakesPackets Server (server_step t) Client
  pub keeps : (t : List Account) (s : Server) (l : List ℕ) → KeepsItsSettings s (server_step t s l).after
  pub hands_up_in_order : (t : List Account) (s : Server) (l : List ℕ) → HandsUpInOrder s (run (server_step t) s l)
  pub hands_up_payload : (t : List Account) → HandsUpPayload Server (server_step t) Client unsequenced
  pub step_stable : (t : List Account) → StepStable Server (server_step t)
  pub runs_on : (t : List Account) (s : Server) (l : List ℕ) → RunsOn Server (server_step t) s l
  pub runs_by_step : (t : List Account) (s : Server) (l : List ℕ) → RunsByStep Server (server_step t) s l
  pub any_cutting : (t : List Account) → AnyStreamCutting Server (server_step t)
