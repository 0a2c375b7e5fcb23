-- What a receiver answers a host, by number.
use Rattle.std.specs.Prelude.{ℕ, ◌<◌, length}
use Rattle.wire.specs.Words.{Injective}
use Rattle.receiver.specs.declared.receiver.Answer.{Answer}
use Rattle.receiver.specs.Table.{AnswerKind, deliver, old, quiet, ask, ended, answer_words}

-- what a receiver answers; its values follow
unfoldable pub answer_number : AnswerKind → ℕ
answer_number deliver = 1
answer_number old = 2
answer_number quiet = 3
answer_number ask = 4
answer_number ended = 5

-- ---- what is promised: the numbers tell all answers apart, and there is a word for each value

pub record AnswerNumbersApart : Type 0 where
  pub numbers : Injective answer_number
  pub values_fit : (x : Answer) → length (answer_words x).values < 4
