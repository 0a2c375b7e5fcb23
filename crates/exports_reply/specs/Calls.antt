-- What the exported step that writes its reply promises: the lent bytes l become m, the lent words ws become ws', and
-- the lent output o becomes o'.
use Rattle.std.specs.Prelude.{ℕ, List, [], ◌∷◌, ◌++◌, ◌≡◌, length, get_or, ltb, Result, Ok, Err}
use Rattle.wire.specs.declared.refusal.Refusal.{Refusal}
use Rattle.login.specs.declared.account.Account.{Account}
use Rattle.soupbintcp_session.specs.Answer.{StepOutcome}
use Rattle.soupbintcp_server.specs.declared.server.Server.{Server}
use Rattle.soupbintcp_server.specs.Server.{server_step}
use Rattle.soupbintcp_reply.specs.Reply.{reply_outcome, reply_written, reply_output}
use Rattle.host_answers.specs.Answers.{state_ladder, on_success, words_of, AnswersWith}
use Rattle.host_states.specs.States.{on_step}
use Rattle.host_session.specs.Session.{session_state_size}
use Rattle.host_session.specs.Replies.{session_answer_number, step_words}
use Rattle.host_server.specs.Server.{server_in, server_stateless, KeepsServer}

-- what the step over the stream d, at the server in the bytes and with the table t, comes to with its reply in the
-- output o
abbrev pub replied : List ℕ → List Account → List ℕ → List ℕ → StepOutcome Server
replied l t d o = reply_outcome (server_in l) (server_step t (server_in l) d) o

-- the words of the step, and how many bytes of the output the reply has
abbrev pub replied_words : List ℕ → List Account → List ℕ → List ℕ → List ℕ
replied_words l t d o =
    words_of session_answer_number 5 (step_words (replied l t d o))
    ++ (reply_written (server_in l) (server_step t (server_in l) d) o ∷ [])

-- the same step, and its reply is written into the output o
pub record RepliesAtServer (r : ℕ) (l m : List ℕ) (t : List Account) (d o o' ws ws' : List ℕ) : Type 0 where
  pub answers : AnswersWith r ws ws' (state_ladder (server_stateless t d) (ltb (length l) session_state_size)
      (replied l t d o).reply.refusal) (replied_words l t d o)
  pub keeps : KeepsServer (on_step r (replied l t d o).size) l m (replied l t d o).after
  pub output : o' ≡ on_success r (reply_output (server_in l) (server_step t (server_in l) d) o) o

-- a refusal changes no byte of the state, none of the output, and no word
pub record Unchanged (l m o o' ws ws' : List ℕ) : Type 0 where
  pub state : m ≡ l
  pub output : o' ≡ o
  pub words : ws' ≡ ws

unfoldable pub RefusedReplyChangesNothing : Type 0
RefusedReplyChangesNothing = (r : ℕ) (l m : List ℕ) (t : List Account) (d o o' ws ws' : List ℕ)
    → RepliesAtServer r l m t d o o' ws ws' → (r ≡ 0 → ⊥) → Unchanged l m o o' ws ws'

-- ---- for private helpers alone; no public promise uses it

-- the words of a step, and behind them how many bytes were written
unfoldable pub with_written : Result (List ℕ) Refusal → ℕ → Result (List ℕ) Refusal
with_written (Ok ws) n = Ok (get_or ws 0 0 ∷ get_or ws 1 0 ∷ get_or ws 2 0 ∷ get_or ws 3 0 ∷ get_or ws 4 0 ∷ n ∷ [])
with_written (Err r) n = Err r
