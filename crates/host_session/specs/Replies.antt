-- What a step of a SoupBinTCP session answers, at either end, by number.
use Rattle.std.specs.Prelude.{ℕ, ◌<◌, ◌∷◌, length}
use Rattle.wire.specs.Words.{Words, Injective}
use Rattle.soupbintcp_session.specs.declared.answer.Answer.{Answer}
use Rattle.soupbintcp_session.specs.Answer.{session_answer_words, SessionAnswerKind, wants_more, accepted, rejected}
use Rattle.soupbintcp_session.specs.Answer.{sequenced, unsequenced, heartbeat, debug, logged_out, end_of_session}
use Rattle.soupbintcp_session.specs.Answer.{StepOutcome}

unfoldable pub session_answer_number : SessionAnswerKind → ℕ
session_answer_number wants_more = 0
session_answer_number accepted = 1
session_answer_number rejected = 2
session_answer_number sequenced = 3
session_answer_number unsequenced = 4
session_answer_number heartbeat = 5
session_answer_number debug = 6
session_answer_number logged_out = 7
session_answer_number end_of_session = 8

-- a reply that says first how many bytes the step took
abbrev pub sized : ℕ → Words SessionAnswerKind → Words SessionAnswerKind
sized size w = record { which = w.which; refusal = w.refusal; values = size ∷ w.values }

-- what a step of either end answers
abbrev pub step_words : {S : Type 0} → StepOutcome S → Words SessionAnswerKind
step_words o = sized o.size o.reply

-- ---- what is promised: the numbers tell all answers apart, and there is a word for each value, behind the bytes taken

pub record SessionNumbersApart : Type 0 where
  pub numbers : Injective session_answer_number
  pub values_fit : (x : Answer) → length (session_answer_words x).values < 4
