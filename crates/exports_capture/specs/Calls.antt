-- What the exported functions of a reading promise: the lent bytes l become m, the slots ss become ss', and the lent
-- words ws become ws'.
use Rattle.std.specs.Prelude.{ℕ, ◌≤◌, List, [], ◌∷◌, Bool, false, not, ◌||◌, ◌≡◌, length, ltb, eqb, if◌then◌else◌}
use Rattle.early_holding.specs.Holding.{slot_bytes}
use Rattle.capture.specs.declared.reading.Fed.{Fed}
use Rattle.capture.specs.Reading.{start_reading, LentReading, LentFed, fed_reading, feed_of, finish_of, is_over}
use Rattle.host_answers.specs.Answers.{short, flag, on_success, AnswersWith}
use Rattle.host_states.specs.States.{on_code}
use Rattle.host_early.specs.Early.{no_lengths}
use Rattle.host_early.specs.Slots.{slots_ladder}
use Rattle.host_capture.specs.Reading.{reading_size, KeptReading, kept_reading, lent_reading_in, KeepsReading}

-- a fresh reading is laid, with no lengths
pub record StartsReading (r : ℕ) (l m : List ℕ) : Type 0 where
  pub returns : r ≡ short (ltb (length l) reading_size)
  pub keeps : KeepsReading (on_code r) l m (kept_reading start_reading no_lengths)

-- ---- the state's reading is fed or finished

-- what is kept of a reading
abbrev pub kept_of : LentReading → KeptReading
kept_of s = kept_reading s.reading s.lengths

-- how many bytes were used, and whether nothing that follows changes the report
abbrev pub fed_words : Fed → List ℕ
fed_words f = f.used ∷ flag (is_over f.reading.stage) ∷ []

-- where no byte was used, and more may come, no byte of the state changes
unfoldable pub on_feed : ℕ → Fed → Bool
on_feed code f = if eqb code 0 then not (eqb f.used 0) || is_over f.reading.stage else false

-- the reading in the bytes is fed
abbrev pub feed_in : List ℕ → List ℕ → List ℕ → LentFed
feed_in l ss d = feed_of (lent_reading_in l ss) d

pub record FeedsReading (r : ℕ) (l m ss ss' d ws ws' : List ℕ) : Type 0 where
  pub answers : AnswersWith r ws ws' (slots_ladder (ltb (length l) reading_size) ss) (fed_words (feed_in l ss d).fed)
  pub keeps : KeepsReading (on_feed r (feed_in l ss d).fed) l m (kept_of (fed_reading (feed_in l ss d)))
  pub slots : ss' ≡ on_success r (feed_in l ss d).slots ss

-- it is given the last bytes
abbrev pub finish_in : List ℕ → List ℕ → List ℕ → LentReading
finish_in l ss d = finish_of (lent_reading_in l ss) d

pub record FinishesReading (r : ℕ) (l m ss ss' d : List ℕ) : Type 0 where
  pub returns : r ≡ slots_ladder (ltb (length l) reading_size) ss
  pub keeps : KeepsReading (on_code r) l m (kept_of (finish_in l ss d))
  pub slots : ss' ≡ on_success r (finish_in l ss d).slots ss

-- ---- a host that feeds pieces one by one, and keeps the state's bytes and the slots between two calls

-- a call that is lent its two words
pub record FeedCall (l ss d m ss' : List ℕ) : Type 0 where
  pub code : ℕ
  pub words : List ℕ
  pub laid : List ℕ
  pub room : 2 ≤ length words
  pub call : FeedsReading code l m ss ss' d words laid

-- a list of pieces: each call is lent the bytes and the slots that the call before left
pub data Handed : List ℕ → List ℕ → List (List ℕ) → List ℕ → List ℕ → Type 0 where
  none : {l ss : List ℕ} → Handed l ss [] l ss
  one : {l ss m st n su d : List ℕ} {ds : List (List ℕ)} → FeedCall l ss d m st → Handed m st ds n su
      → Handed l ss (d ∷ ds) n su

-- the reading after these pieces
unfoldable pub reading_after : LentReading → List (List ℕ) → LentReading
reading_after x [] = x
reading_after x (d ∷ ds) = reading_after (fed_reading (feed_of x d)) ds

-- over every list of pieces the bytes and the slots hand on that reading
unfoldable pub ReadingHandsOn : Type 0
ReadingHandsOn = (l ss m st : List ℕ) (ds : List (List ℕ)) → reading_size ≤ length l → length ss ≡ slot_bytes
    → Handed l ss ds m st
    → lent_reading_in m st ≡ reading_after (lent_reading_in l ss) ds

-- ---- for private helpers alone: no exported function promises it

-- a state that is long enough, and slots of their size
abbrev pub IsSized : List ℕ → List ℕ → Type 0
IsSized l ss = (reading_size ≤ length l) × (length ss ≡ slot_bytes)
