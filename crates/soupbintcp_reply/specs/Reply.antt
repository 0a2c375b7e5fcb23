-- A server's step that writes its reply: A with the server's session and the granted number, J with its reason, and
-- nothing for another answer.
use Rattle.std.specs.Prelude.{ℕ, List, [], ◌∷◌, ◌≡◌, length, get_or, eqb, if◌then◌else◌}
use Rattle.wire.specs.Words.{Words, Case, answer, refused, refuses}
use Rattle.wire.specs.Output.{write_refusal, write_output}
use Rattle.wire.specs.Output.{Written}
use Rattle.std.specs.Prelude.{Ok, Err}
use Rattle.soupbintcp.specs.Letters.{letter_accepted, letter_rejected}
use Rattle.soupbintcp_writer.specs.Packets.{encoded, accepted_ground, accepted_payload, reason_ground}
use Rattle.soupbintcp_session.specs.Answer.{SessionAnswerKind, wants_more, accepted, rejected, sequenced, unsequenced}
use Rattle.soupbintcp_session.specs.Answer.{heartbeat, debug, logged_out, end_of_session, session_answer_words}
use Rattle.soupbintcp_session.specs.Answer.{StepOutcome, stays}
use Rattle.soupbintcp_session.specs.declared.answer.Answer.TheVariants as answers
use Rattle.soupbintcp_server.specs.declared.server.Server.{Server}
use Rattle.soupbintcp_server.specs.declared.server.Stepped.{Stepped}
use Rattle.soupbintcp_reply.specs.declared.Replied.{Replied}

-- ---- the reply to an answer with these values, at a server of this session

-- its bytes
unfoldable pub reply_at : List ℕ → Case SessionAnswerKind → List ℕ → List ℕ
reply_at session (answer wants_more) vs = []
reply_at session (answer accepted) vs = encoded letter_accepted (accepted_payload session (get_or vs 0 0))
reply_at session (answer rejected) vs = encoded letter_rejected (get_or vs 0 0 ∷ [])
reply_at session (answer sequenced) vs = []
reply_at session (answer unsequenced) vs = []
reply_at session (answer heartbeat) vs = []
reply_at session (answer debug) vs = []
reply_at session (answer logged_out) vs = []
reply_at session (answer end_of_session) vs = []
reply_at session refused vs = []

-- its own ground: 46, at a server that no start gave
unfoldable pub reply_ground_at : List ℕ → Case SessionAnswerKind → List ℕ → ℕ
reply_ground_at session (answer wants_more) vs = 0
reply_ground_at session (answer accepted) vs = accepted_ground session (get_or vs 0 0)
reply_ground_at session (answer rejected) vs = reason_ground (get_or vs 0 0)
reply_ground_at session (answer sequenced) vs = 0
reply_ground_at session (answer unsequenced) vs = 0
reply_ground_at session (answer heartbeat) vs = 0
reply_ground_at session (answer debug) vs = 0
reply_ground_at session (answer logged_out) vs = 0
reply_ground_at session (answer end_of_session) vs = 0
reply_ground_at session refused vs = 0

abbrev pub reply_of : List ℕ → Words SessionAnswerKind → List ℕ
reply_of session w = reply_at session w.which w.values

abbrev pub reply_ground : List ℕ → Words SessionAnswerKind → ℕ
reply_ground session w = reply_ground_at session w.which w.values

-- ---- a step that writes its reply into the output l: s is the server before it, o what the step comes to

-- the reply's own ground, then 41 where it has no room; a refused step has no reply
abbrev pub reply_refusal : Server → StepOutcome Server → List ℕ → ℕ
reply_refusal s o l = write_refusal (reply_ground s.session o.reply) l 0 (reply_of s.session o.reply)

-- a reply that isn't written undoes the step
unfoldable pub reply_outcome : Server → StepOutcome Server → List ℕ → StepOutcome Server
reply_outcome s o l = if eqb (reply_refusal s o l) 0 then o else stays s (refuses (reply_refusal s o l))

-- how many bytes are written
unfoldable pub reply_written : Server → StepOutcome Server → List ℕ → ℕ
reply_written s o l = if eqb (reply_refusal s o l) 0 then length (reply_of s.session o.reply) else 0

-- the output at exit
abbrev pub reply_output : Server → StepOutcome Server → List ℕ → List ℕ
reply_output s o l = write_output (reply_ground s.session o.reply) l 0 (reply_of s.session o.reply)

-- the promise of a step that answers r and turns the output l into m
pub record Replies (r : Replied) (s : Server) (o : StepOutcome Server) (l m : List ℕ) : Type 0 where
  pub answers : session_answer_words r.answer ≡ (reply_outcome s o l).reply
  pub size : r.size ≡ (reply_outcome s o l).size
  pub after : r.server ≡ (reply_outcome s o l).after
  pub written : r.written ≡ reply_written s o l
  pub output : m ≡ reply_output s o l

-- ---- for private helpers alone; no public promise uses it

-- what a step k of s comes to, once its reply was written or refused
unfoldable pub with_reply : Server → Stepped → Written → Replied
with_reply s k (Ok size) = record { answer = k.answer; size = k.size; written = size; server = k.server }
with_reply s k (Err x) = record { answer = answers.Refused x; size = 0; written = 0; server = s }
