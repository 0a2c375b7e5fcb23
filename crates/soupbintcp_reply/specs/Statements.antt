-- What is promised of a server's reply, and of the client that gets it.
use Rattle.std.specs.Prelude.{ℕ, ◌+◌, ◌≤◌, ◌<◌, List, [], ◌∷◌, ◌++◌, ◌≡◌, length, take, replicate}
use Rattle.wire.specs.Bounds.{session_size}
use Rattle.wire.specs.Text.{ascii, readroom}
use Rattle.text_fields.specs.Letters.{space}
use Rattle.wire.specs.Refusals.{output_short}
use Rattle.wire.specs.Words.{answer, refused, says, refuses}
use Rattle.wire.specs.Output.{Outside}
use Rattle.soupbintcp.specs.declared.packet.Sender.TheVariants as sender
use Rattle.soupbintcp.specs.Letters.{accepted_payload_size, rejected_payload_size}
use Rattle.soupbintcp.specs.Head.{head_size}
use Rattle.soupbintcp.specs.Front.{session_of}
use Rattle.login.specs.declared.account.Account.{Account}
use Rattle.login.specs.Account.{most_accounts}
use Rattle.soupbintcp_session.specs.Answer.{accepted, rejected, heartbeat, StepOutcome, stays, takes}
use Rattle.soupbintcp_server.specs.declared.server.ServerState.TheVariants as state
use Rattle.soupbintcp_server.specs.declared.server.Server.{Server}
use Rattle.soupbintcp_server.specs.Server as server
use Rattle.soupbintcp_server.specs.Statements.{LoginInFront, Accepts}
use Rattle.soupbintcp_client.specs.declared.client.ClientState.TheVariants.{Asked, In, Closed}
use Rattle.soupbintcp_client.specs.declared.client.Client.{Client}
use Rattle.soupbintcp_client.specs.Client.{client, becomes, client_step}
use Rattle.soupbintcp_reply.specs.Reply.{reply_of, reply_refusal, reply_outcome, reply_written, reply_output}

-- nothing is taken and nothing written, and the server and the output are as they were
pub record Undone (s : Server) (o : StepOutcome Server) (out : List ℕ) : Type 0 where
  pub outcome : reply_outcome s o out ≡ stays s (refuses (reply_outcome s o out).reply.refusal)
  pub written : reply_written s o out ≡ 0
  pub output : reply_output s o out ≡ out

-- so it is on every refusal, the step's and the reply's
unfoldable pub RefusalUndoes : Type 0
RefusalUndoes = (t : List Account) (s : Server) (l out : List ℕ)
    → (reply_outcome s (server.server_step t s l) out).reply.which ≡ refused → Undone s (server.server_step t s l) out

-- what is written stands in front of the output, and nothing behind it changes
pub record WrittenInFront (s : Server) (o : StepOutcome Server) (out : List ℕ) : Type 0 where
  pub front : take (reply_written s o out) (reply_output s o out) ≡ reply_of s.session o.reply
  pub behind : Outside out (reply_output s o out) 0 (reply_written s o out)

unfoldable pub ReplyStands : Type 0
ReplyStands = (s : Server) (o : StepOutcome Server) (out : List ℕ) → reply_refusal s o out ≡ 0 → WrittenInFront s o out

-- byte by byte: A has length 31, the session and the number behind spaces, J length 2 and its reason
pub record ReplyBytes : Type 0 where
  pub granted : reply_of readroom (says accepted (5 ∷ []))
      ≡ 0 ∷ 31 ∷ ascii "A" ++ readroom ++ replicate 19 space ++ ascii "5"
  pub not_authorised : reply_of readroom (says rejected (65 ∷ [])) ≡ 0 ∷ 2 ∷ ascii "JA"
  pub no_session : reply_of readroom (says rejected (83 ∷ [])) ≡ 0 ∷ 2 ∷ ascii "JS"
  pub no_other : reply_of readroom (says heartbeat []) ≡ []

-- ---- a server that was started

-- a session and a last number that a start takes, in any state
pub record WasStarted (s : Server) : Type 0 where
  pub ten_bytes : length s.session ≡ session_size
  pub taken : server.server_start_refusal s.session s.last.0 ≡ 0

-- so it is after a start that took them, after every step, and after the last number moved
pub record StaysStarted : Type 0 where
  pub by_start : (name : List ℕ) (last : ℕ) → length name ≡ session_size → server.server_start_refusal name last ≡ 0
      → WasStarted (server.start_server name last)
  pub by_step : (t : List Account) (s : Server) (l : List ℕ) → WasStarted s
      → WasStarted (server.server_step t s l).after
  pub by_last : (s : Server) (last : ℕ) → WasStarted s → WasStarted (server.with_last s last)

-- the longest reply, an A
abbrev pub longest_reply : ℕ
longest_reply = head_size + accepted_payload_size

-- its reply is written where it has room, and 41 is the one refusal but the step's
pub record ReplyIsWritten : Type 0 where
  pub with_room : (t : List Account) (s : Server) (l out : List ℕ) → WasStarted s
      → length (reply_of s.session (server.server_step t s l).reply) ≤ length out
      → reply_refusal s (server.server_step t s l) out ≡ 0
  pub without_room : (t : List Account) (s : Server) (l out : List ℕ) → WasStarted s
      → length out < length (reply_of s.session (server.server_step t s l).reply)
      → reply_refusal s (server.server_step t s l) out ≡ output_short
  pub longest : (t : List Account) (s : Server) (l : List ℕ) → WasStarted s
      → length (reply_of s.session (server.server_step t s l).reply) ≤ longest_reply

-- ---- the handshake

-- the bytes that the server's step over a stream writes
abbrev pub written_by : Server → StepOutcome Server → List ℕ → List ℕ
written_by s o out = take (reply_written s o out) (reply_output s o out)

-- how a login ends: the server s takes it from the stream l and writes into out; the client c gets what was written,
-- and perhaps more behind it
pub data Ends (t : List Account) (s : Server) (c : Client) (l out rest : List ℕ) : Type 0 where
  -- both are in, at the server's session and one number
  both_in : (size n : ℕ)
      → reply_outcome s (server.server_step t s l) out ≡ takes size (says accepted (n ∷ [])) (server.becomes s state.In)
      → client_step c (written_by s (server.server_step t s l) out ++ rest)
      ≡ takes longest_reply (says accepted (n ∷ [])) (client s.session n In)
      → Ends t s c l out rest
  -- both are closed, for one reason
  both_closed : (size reason : ℕ)
      → reply_outcome s (server.server_step t s l) out
      ≡ takes size (says rejected (reason ∷ [])) (server.becomes s state.Closed)
      → client_step c (written_by s (server.server_step t s l) out ++ rest)
      ≡ takes (head_size + rejected_payload_size) (says rejected (reason ∷ [])) (becomes c Closed)
      → Ends t s c l out rest

-- the login that a client asked by stands in front of l: its session and its number, whatever its username and password
pub record AskedBy (c : Client) (l : List ℕ) : Type 0 where
  pub asked : c.state ≡ Asked
  pub size : ℕ
  pub front : LoginInFront l size c.number.0
  pub session : session_of sender.Client l ≡ c.session

-- at a waiting server that was started, over every table that isn't too long, such a login brings both in or closes
-- both, and 33 never arises
unfoldable pub Handshake : Type 0
Handshake = (t : List Account) (s : Server) (c : Client) (l out rest : List ℕ) → WasStarted s
    → s.state ≡ state.Waiting → length t ≤ most_accounts → AskedBy c l → longest_reply ≤ length out
    → Ends t s c l out rest

pub record ReplyPromises : Type 0 where
  -- nobody is let in but by a login that meets the rules
  pub accepts_only_by_the_rules : (t : List Account) (s : Server) (l out : List ℕ)
      → (reply_outcome s (server.server_step t s l) out).reply.which ≡ answer accepted → Accepts t s l
  pub refusal_undoes : RefusalUndoes
  pub reply_stands : ReplyStands
  pub reply_bytes : ReplyBytes
  pub stays_started : StaysStarted
  pub reply_is_written : ReplyIsWritten
  pub handshake : Handshake
