-- What the receiver that keeps early messages answers, in words: an answer by the table, and perhaps a request beside.
use Rattle.std.specs.Prelude.{ℕ, List, [], ◌∷◌, Option, Some, None}
use Rattle.wire.specs.Words.{Words, says, refused_words}
use Rattle.receiver.specs.Table.{AnswerKind, deliver, old, quiet, ask, ended}
use Rattle.early_receiver.specs.declared.early.Answer.{Answer}
use Rattle.early_receiver.specs.declared.early.Answer.TheVariants.{Deliver, Old, Quiet, Ahead, Ended, Refused}
use Rattle.early_receiver.specs.declared.early.Ask.{Ask}

-- the answer by the table's row; what is asked for where it is ahead stands in the request
unfoldable pub early_words : Answer → Words AnswerKind
early_words (Deliver first count skipped) = says deliver (first.0 ∷ count.0 ∷ skipped.0 ∷ [])
early_words Old = says old []
early_words Quiet = says quiet []
early_words Ahead = says ask []
early_words Ended = says ended []
early_words (Refused r) = refused_words r

-- the first number wanted and how many, or nothing
unfoldable pub request_words : Option Ask → List ℕ
request_words None = []
request_words (Some a) = a.from.0 ∷ a.count.0 ∷ []
