-- What the exported functions of the server promise: the lent bytes l become m, and the lent words ws become ws'.
use Rattle.std.specs.Prelude.{ℕ, List, ◌≡◌, length, ltb, if◌then◌else◌}
use Rattle.wire.specs.Bounds.{session_size}
use Rattle.wire.specs.Refusals.{bad_setting}
use Rattle.wire.specs.Parts.{first_bytes}
use Rattle.login.specs.declared.account.Account.{Account}
use Rattle.soupbintcp_server.specs.Server.{server_start_refusal, start_server, largest_last, last_refusal, with_last, server_step}
use Rattle.host_answers.specs.Answers.{or_else, short, unless_sized, state_ladder, StateAnswers}
use Rattle.host_states.specs.States.{on_code, on_step}
use Rattle.host_session.specs.Session.{session_state_size}
use Rattle.host_session.specs.Replies.{session_answer_number, step_words}
use Rattle.host_session.specs.Run.{HandsOn}
use Rattle.host_server.specs.Server.{server_in, server_stateless, KeepsServer}

-- a server is started on a session's name; 19 where that isn't ten bytes too
pub record StartsServer (r : ℕ) (name : List ℕ) (last : ℕ) (l m : List ℕ) : Type 0 where
  pub returns : r ≡ or_else (unless_sized (length name) session_size bad_setting
      (server_start_refusal (first_bytes session_size name) last)) (short (ltb (length l) session_state_size))
  pub keeps : KeepsServer (on_code r) l m (start_server (first_bytes session_size name) last)

-- its last number moves: one above the largest needs no server to be refused
pub record MovesLast (r : ℕ) (last : ℕ) (l m : List ℕ) : Type 0 where
  pub returns : r ≡ state_ladder (if ltb largest_last last then bad_setting else 0) (ltb (length l) session_state_size)
      (last_refusal (server_in l) last)
  pub keeps : KeepsServer (on_code r) l m (with_last (server_in l) last)

-- the server in the bytes takes the front of the stream d; need more changes no byte
pub record StepsAtServer (r : ℕ) (l m : List ℕ) (t : List Account) (d ws ws' : List ℕ) : Type 0 where
  pub answers : StateAnswers r ws ws' (server_stateless t d) (ltb (length l) session_state_size) session_answer_number 5
      (step_words (server_step t (server_in l) d))
  pub keeps : KeepsServer (on_step r (server_step t (server_in l) d).size) l m (server_step t (server_in l) d).after

-- over every list of streams, with the accounts t, the server's bytes hand on the server of the steps
unfoldable pub ServerHandsOn : Type 0
ServerHandsOn = (t : List Account) → HandsOn server_in (server_step t) (λ r l m d ws ws'. StepsAtServer r l m t d ws ws')
