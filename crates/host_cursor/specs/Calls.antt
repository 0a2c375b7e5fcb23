-- What the exported functions that are lent a cursor promise.
use Rattle.std.specs.Prelude.{ℕ, List, [], ◌∷◌, ◌≡◌, length, ltb}
use Rattle.moldudp64_messages.specs.declared.cursor.Cursor.{Cursor}
use Rattle.moldudp64_messages.specs.declared.cursor.Located.{Located}
use Rattle.moldudp64_messages.specs.Cursor.{located, advanced}
use Rattle.host_answers.specs.Answers.{short, flag, AnswersWith}
use Rattle.host_states.specs.States.{on_code, on_step}
use Rattle.host_cursor.specs.Cursor.{cursor_size, cursor_in, KeepsCursor}

-- whether a message is there, its offset and its length
abbrev pub located_words : Located → List ℕ
located_words p = flag p.exists ∷ p.offset.0 ∷ p.length ∷ []

-- the bytes l are set to the cursor c
pub record SetsCursor (r : ℕ) (l m : List ℕ) (c : Cursor) : Type 0 where
  pub returns : r ≡ short (ltb (length l) cursor_size)
  pub keeps : KeepsCursor (on_code r) l m c

-- the message of the datagram d at the cursor in the bytes l is answered, and the cursor moves to the next one; where
-- none is there no byte changes
pub record NextMessage (r : ℕ) (l m d ws ws' : List ℕ) : Type 0 where
  pub answers : AnswersWith r ws ws' (short (ltb (length l) cursor_size)) (located_words (located d (cursor_in l)))
  pub keeps : KeepsCursor (on_step r (flag (located d (cursor_in l)).exists)) l m (advanced d (cursor_in l))
