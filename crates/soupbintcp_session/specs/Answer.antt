-- What a session answers, and what it then is.
use Rattle.std.specs.Prelude.{ℕ, List, [], ◌∷◌, get_or, take, drop}
use Rattle.wire.specs.Words.{Words, Case, answer, refused, says, refused_words, Injective}
use Rattle.soupbintcp_session.specs.declared.answer.Answer.{Answer}
use Rattle.soupbintcp_session.specs.declared.answer.Answer.TheVariants.{NeedMore, Accepted, Rejected}
use Rattle.soupbintcp_session.specs.declared.answer.Answer.TheVariants.{Sequenced, Unsequenced, Heartbeat}
use Rattle.soupbintcp_session.specs.declared.answer.Answer.TheVariants.{Debug, LoggedOut, EndOfSession}
use Rattle.soupbintcp_session.specs.declared.answer.Answer.TheVariants.{Refused}

-- the answers, but for a refusal
pub data SessionAnswerKind : Type 0 where
  wants_more accepted rejected sequenced unsequenced heartbeat debug logged_out end_of_session : SessionAnswerKind

-- an answer in document 01's words
unfoldable pub session_answer_words : Answer → Words SessionAnswerKind
session_answer_words NeedMore = says wants_more []
session_answer_words (Accepted n) = says accepted (n.0 ∷ [])
session_answer_words (Rejected reason) = says rejected (reason ∷ [])
session_answer_words (Sequenced n at k) = says sequenced (n.0 ∷ at.0 ∷ k ∷ [])
session_answer_words (Unsequenced at k) = says unsequenced (at.0 ∷ k ∷ [])
session_answer_words Heartbeat = says heartbeat []
session_answer_words Debug = says debug []
session_answer_words LoggedOut = says logged_out []
session_answer_words EndOfSession = says end_of_session []
session_answer_words (Refused r) = refused_words r

-- they tell all answers apart
unfoldable pub SessionAnswersApart : Type 0
SessionAnswersApart = Injective session_answer_words

-- what is handed up of a stream: the bytes at the place that the answer gives; nothing by another answer
unfoldable pub answer_message_at : Case SessionAnswerKind → List ℕ → List ℕ → List ℕ
answer_message_at (answer wants_more) vs l = []
answer_message_at (answer accepted) vs l = []
answer_message_at (answer rejected) vs l = []
answer_message_at (answer sequenced) vs l = take (get_or vs 2 0) (drop (get_or vs 1 0) l)
answer_message_at (answer unsequenced) vs l = take (get_or vs 1 0) (drop (get_or vs 0 0) l)
answer_message_at (answer heartbeat) vs l = []
answer_message_at (answer debug) vs l = []
answer_message_at (answer logged_out) vs l = []
answer_message_at (answer end_of_session) vs l = []
answer_message_at refused vs l = []

abbrev pub answer_message : Words SessionAnswerKind → List ℕ → List ℕ
answer_message w l = answer_message_at w.which w.values l

-- ---- the packet that a step takes

-- how many bytes it has, its letter, its values, and its session, which A and L have
pub record Incoming : Type 0 where
  pub size : ℕ
  pub letter : ℕ
  pub values : List ℕ
  pub session : List ℕ

abbrev pub incoming : ℕ → ℕ → List ℕ → List ℕ → Incoming
incoming size letter vs session = record { size = size; letter = letter; values = vs; session = session }

-- ---- a step of a session S: its answer, the bytes it takes, and the session after it

pub record StepOutcome (S : Type 0) : Type 0 where
  pub reply : Words SessionAnswerKind
  pub size : ℕ
  pub after : S

-- an answer that takes nothing and changes nothing: need more, and every refusal
abbrev pub stays : {S : Type 0} → S → Words SessionAnswerKind → StepOutcome S
stays s w = record { reply = w; size = 0; after = s }

-- a packet of this size is taken
abbrev pub takes : {S : Type 0} → ℕ → Words SessionAnswerKind → S → StepOutcome S
takes size w s = record { reply = w; size = size; after = s }
