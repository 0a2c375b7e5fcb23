-- A host that serves one connection: it lends the server's bytes to `eiderwagon_server_step`, `eiderwagon_server_reply`
-- and `eiderwagon_server_set_last`, in any order, and keeps them between two calls. Each call is the very promise of its
-- function.
use Rattle.std.specs.Prelude.{ℕ, ◌≤◌, List, [], ◌∷◌, ◌++◌, ◌≡◌, length, get_or, take}
use Rattle.login.specs.declared.account.Account.{Account}
use Rattle.soupbintcp_server.specs.declared.server.Server.{Server}
use Rattle.soupbintcp_server.specs.Server.{with_last, server_step}
use Rattle.soupbintcp_reply.specs.Reply.{reply_outcome}
use Rattle.soupbintcp_reply.specs.Statements.{written_by}
use Rattle.host_session.specs.Session.{session_state_size}
use Rattle.host_server.specs.Server.{server_in}
use Rattle.exports_server.specs.Calls.{MovesLast, StepsAtServer}
use Rattle.exports_reply.specs.Calls.{RepliesAtServer}

-- what a call is given: accounts and a stream; those and an output for the reply; or the last number
pub data ServerInput : Type 0 where
  to_step : List Account → List ℕ → ServerInput
  to_reply : List Account → List ℕ → List ℕ → ServerInput
  to_last : ℕ → ServerInput

-- the server after it, and the bytes that there are to send
unfoldable pub server_after : Server → ServerInput → Server
server_after s (to_step t d) = (server_step t s d).after
server_after s (to_reply t d o) = (reply_outcome s (server_step t s d) o).after
server_after s (to_last n) = with_last s n

unfoldable pub to_send : Server → ServerInput → List ℕ
to_send s (to_step t d) = []
to_send s (to_reply t d o) = written_by s (server_step t s d) o
to_send s (to_last n) = []

-- the bytes of the output that a call of the reply says to send: as many as its sixth word
pub data Sends (r : ℕ) (ws o : List ℕ) : List ℕ → Type 0 where
  by_refusal : (r ≡ 0 → ⊥) → Sends r ws o []
  by_word : r ≡ 0 → Sends r ws o (take (get_or ws 5 0) o)

-- a call that is lent its words: the state's bytes l become m, and the host sends the bytes out
pub data ServerCall (l : List ℕ) : ServerInput → List ℕ → List ℕ → Type 0 where
  steps : {t : List Account} {d m : List ℕ} (r : ℕ) (ws ws' : List ℕ) → 5 ≤ length ws
      → StepsAtServer r l m t d ws ws'
      → ServerCall l (to_step t d) m []
  replies : {t : List Account} {d o m out : List ℕ} (r : ℕ) (o' ws ws' : List ℕ) → 6 ≤ length ws
      → RepliesAtServer r l m t d o o' ws ws'
      → Sends r ws' o' out
      → ServerCall l (to_reply t d o) m out
  moves : {n : ℕ} {m : List ℕ} (r : ℕ) → MovesLast r n l m → ServerCall l (to_last n) m []

-- a list of calls: each is lent the bytes that the call before left; the host sends the bytes out
pub data ServerHanded : List ℕ → List ServerInput → List ℕ → List ℕ → Type 0 where
  none : {l : List ℕ} → ServerHanded l [] l []
  one : {l m n out more : List ℕ} {i : ServerInput} {is : List ServerInput} → ServerCall l i m out
      → ServerHanded m is n more
      → ServerHanded l (i ∷ is) n (out ++ more)

-- the server after all of them, and what there is to send
unfoldable pub server_after_all : Server → List ServerInput → Server
server_after_all s [] = s
server_after_all s (i ∷ is) = server_after_all (server_after s i) is

unfoldable pub to_send_all : Server → List ServerInput → List ℕ
to_send_all s [] = []
to_send_all s (i ∷ is) = to_send s i ++ to_send_all (server_after s i) is

-- over every list of calls the server in the bytes that are left, and what the host sends, are those of the definitions
pub record ServerHands (l m : List ℕ) (is : List ServerInput) (out : List ℕ) : Type 0 where
  pub leaves : server_in m ≡ server_after_all (server_in l) is
  pub sends : out ≡ to_send_all (server_in l) is

unfoldable pub EveryServerCallHandsOn : Type 0
EveryServerCallHandsOn = (l m : List ℕ) (is : List ServerInput) (out : List ℕ) → session_state_size ≤ length l
    → ServerHanded l is m out
    → ServerHands l m is out
