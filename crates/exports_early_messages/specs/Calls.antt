-- What is promised of what a datagram d will deliver, before it is taken: l are the receiver's bytes, ss the slots, and the
-- lent words ws become ws'.
use Rattle.std.specs.Prelude.{ℕ, List, [], ◌∷◌, ◌||◌, ◌≡◌, length, ltb}
use Rattle.early_messages.specs.Delivery.{delivered_count, part_at}
use Rattle.early_messages.specs.Walk.{start_walk, walk_part, walk_on}
use Rattle.host_answers.specs.Answers.{or_else, short, flag, AnswersWith}
use Rattle.host_states.specs.States.{on_code, on_step}
use Rattle.host_early.specs.Early.{early_size, lent_in}
use Rattle.host_early.specs.Replies.{part_words}
use Rattle.host_early.specs.Slots.{slots_ladder}
use Rattle.host_early.specs.Walk.{walk_size, walk_in, KeepsWalk}

-- how many messages
abbrev pub CountsMessages : ℕ → List ℕ → List ℕ → List ℕ → List ℕ → List ℕ → Type 0
CountsMessages r l ss d ws ws' =
    AnswersWith r ws ws' (slots_ladder (ltb (length l) early_size) ss) (delivered_count (lent_in l ss) d ∷ [])

-- where the message at a place lies
abbrev pub LocatesMessage : ℕ → List ℕ → List ℕ → List ℕ → ℕ → List ℕ → List ℕ → Type 0
LocatesMessage r l ss d place ws ws' =
    AnswersWith r ws ws' (slots_ladder (ltb (length l) early_size) ss) (part_words (part_at (lent_in l ss) d place))

-- the bytes w of a walk are set to the first one, and become w'
pub record SetsWalk (r : ℕ) (l ss d w w' : List ℕ) : Type 0 where
  pub returns : r ≡ or_else (slots_ladder (ltb (length l) early_size) ss) (short (ltb (length w) walk_size))
  pub keeps : KeepsWalk (on_code r) w w' (start_walk (lent_in l ss) d)

-- the message at the walk in the bytes w is answered, and the walk moves to the next one; where none is there no byte
-- changes
pub record NextPart (r : ℕ) (w w' l ss d ws ws' : List ℕ) : Type 0 where
  pub answers : AnswersWith r ws ws' (slots_ladder (ltb (length w) walk_size || ltb (length l) early_size) ss)
      (part_words (walk_part (lent_in l ss) d (walk_in w)))
  pub keeps : KeepsWalk (on_step r (flag (walk_part (lent_in l ss) d (walk_in w)).exists)) w w' (walk_on d (walk_in w))
