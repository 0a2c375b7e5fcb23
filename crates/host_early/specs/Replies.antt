-- What a receiver that keeps early messages answers a host: words of its answer by the table, then those of its request;
-- and where a message lies.
use Rattle.std.specs.Prelude.{ℕ, ◌≤◌, List, [], ◌∷◌, ◌++◌, length, Option}
use Rattle.wire.specs.Words.{Words, Injective}
use Rattle.receiver.specs.Table.{AnswerKind}
use Rattle.early_receiver.specs.declared.early.Answer.{Answer}
use Rattle.early_receiver.specs.declared.early.Ask.{Ask}
use Rattle.early_receiver.specs.Answers.{early_words, request_words}
use Rattle.early_messages.specs.declared.message.Part.{Part}
use Rattle.host_answers.specs.Answers.{flag, padded, words_of}
use Rattle.host_receiver.specs.Replies.{answer_number}

-- an answer by the table, as the plain receiver's
abbrev pub row_words : Words AnswerKind → List ℕ
row_words w = words_of answer_number 4 w

-- a request: 1, the first number wanted and how many; else zeros
unfoldable pub ask_words : List ℕ → List ℕ
ask_words [] = padded 3 []
ask_words (x ∷ xs) = padded 3 (1 ∷ x ∷ xs)

-- both
abbrev pub said_words : Words AnswerKind → List ℕ → List ℕ
said_words w request = row_words w ++ ask_words request

-- whether a message is there, whether it lies in the slots, its offset and its length
abbrev pub part_words : Part → List ℕ
part_words p = flag p.exists ∷ flag p.held ∷ p.offset.0 ∷ p.length ∷ []

-- ---- what is promised: the words tell all requests apart, and have room for each value

pub record EarlyWordsApart : Type 0 where
  pub requests : Injective (λ (x : Option Ask). ask_words (request_words x))
  pub values_fit : (x : Answer) → length (early_words x).values ≤ 3
