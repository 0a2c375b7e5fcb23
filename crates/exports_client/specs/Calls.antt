-- What the exported functions of the client promise: the lent bytes l become m, and the lent words ws become ws'.
use Rattle.std.specs.Prelude.{ℕ, List, ◌≡◌, length, ltb}
use Rattle.wire.specs.Bounds.{session_size}
use Rattle.wire.specs.Refusals.{bad_setting}
use Rattle.wire.specs.Parts.{first_bytes}
use Rattle.soupbintcp.specs.declared.packet.Sender.TheVariants.{Server}
use Rattle.soupbintcp.specs.Front.{front_of}
use Rattle.soupbintcp_client.specs.Client.{client_start_refusal, start_client, client_step}
use Rattle.host_answers.specs.Answers.{or_else, short, unless_sized, StateAnswers}
use Rattle.host_states.specs.States.{on_code, on_step}
use Rattle.host_session.specs.Session.{session_state_size}
use Rattle.host_session.specs.Replies.{session_answer_number, step_words}
use Rattle.host_session.specs.Run.{HandsOn}
use Rattle.host_client.specs.Client.{client_in, KeepsClient}

-- a client is started on a session's name; 19 where that isn't ten bytes too
pub record StartsClient (r : ℕ) (name : List ℕ) (n : ℕ) (l m : List ℕ) : Type 0 where
  pub returns : r ≡ or_else (unless_sized (length name) session_size bad_setting
      (client_start_refusal (first_bytes session_size name) n)) (short (ltb (length l) session_state_size))
  pub keeps : KeepsClient (on_code r) l m (start_client (first_bytes session_size name) n)

-- the client in the bytes takes the front of the stream d; 21 to 25 need no client, and need more changes no byte
pub record StepsAtClient (r : ℕ) (l m d ws ws' : List ℕ) : Type 0 where
  pub answers : StateAnswers r ws ws' (front_of Server d).refusal (ltb (length l) session_state_size)
      session_answer_number 5 (step_words (client_step (client_in l) d))
  pub keeps : KeepsClient (on_step r (client_step (client_in l) d).size) l m (client_step (client_in l) d).after

-- over every list of streams the client's bytes hand on the client of the steps
unfoldable pub ClientHandsOn : Type 0
ClientHandsOn = HandsOn client_in client_step StepsAtClient
