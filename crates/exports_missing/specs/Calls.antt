-- What the exported functions of what is missing promise: the lent bytes l become m, the words of the edges es become
-- es', and the lent words ws become ws'.
use Rattle.std.specs.Prelude.{ℕ, ◌≤◌, List, [], ◌∷◌, Bool, true, false, not, ◌&&◌, ◌||◌, ◌≡◌, length, ltb, eqb, if◌then◌else◌}
use Rattle.wire.specs.Refusals.{bad_setting}
use Rattle.capture_events.specs.declared.place.Place.{Place}
use Rattle.capture_events.specs.declared.place.Place.TheVariants.{Settings, Records, Done, Refused}
use Rattle.capture_events.specs.Events.{is_over_at}
use Rattle.capture_events.specs.Next.{at_of}
use Rattle.missing_ranges.specs.Edges.{Range, total_from}
use Rattle.missing_ranges.specs.declared.ranges.Missing.{Missing}
use Rattle.missing_ranges.specs.Notes.{missing, is_usable, ranges_in, range_at}
use Rattle.missing_ranges.specs.Notes as ranges
use Rattle.missing_records.specs.Records.{lent_in}
use Rattle.missing_text.specs.Text.{room_ground}
use Rattle.missing_capture.specs.declared.reading.Reading.{Reading}
use Rattle.missing_capture.specs.declared.reading.Fed.{Fed}
use Rattle.missing_capture.specs.Reading.{start_reading, LentReading, notes_in, LentFed, fed_reading}
use Rattle.missing_capture.specs.Reading.{feed_of, finish_of, text_of}
use Rattle.host_answers.specs.Answers.{or_else, short, flag, on_success, AnswersWith, AnswersWriting}
use Rattle.host_states.specs.States.{on_code}
use Rattle.host_missing.specs.Reading.{missing_size, lent_reading_in, KeepsMissing}

-- 19 where the words of the edges aren't as many as they are to be
unfoldable pub edges_refusal : List ℕ → ℕ
edges_refusal es = if eqb (length es) ranges.room then 0 else bad_setting

-- first 41 where the state is too short, then 19
abbrev pub edges_ladder : List ℕ → List ℕ → ℕ
edges_ladder l es = or_else (short (ltb (length l) missing_size)) (edges_refusal es)

-- a fresh reading is laid
pub record StartsMissing (r : ℕ) (l m : List ℕ) : Type 0 where
  pub returns : r ≡ short (ltb (length l) missing_size)
  pub keeps : KeepsMissing (on_code r) l m start_reading

-- ---- the state's reading is fed or finished

-- how many bytes were used, and whether nothing that follows changes what is missing
abbrev pub fed_words : Fed → List ℕ
fed_words f = f.used ∷ flag (is_over_at (at_of f.reading.place)) ∷ []

-- where no byte was used, and more may come, no byte of the state changes
unfoldable pub on_feed : ℕ → Fed → Bool
on_feed code f = if eqb code 0 then not (eqb f.used 0) || is_over_at (at_of f.reading.place) else false

-- the reading in the bytes is fed
abbrev pub feed_in : List ℕ → List ℕ → List ℕ → LentFed
feed_in l es d = feed_of (lent_reading_in l es) d

pub record FeedsMissing (r : ℕ) (l m es es' d ws ws' : List ℕ) : Type 0 where
  pub answers : AnswersWith r ws ws' (edges_ladder l es) (fed_words (feed_in l es d).fed)
  pub keeps : KeepsMissing (on_feed r (feed_in l es d).fed) l m (feed_in l es d).fed.reading
  pub edges : es' ≡ on_success r (feed_in l es d).edges es

-- it is given the last bytes
abbrev pub finish_in : List ℕ → List ℕ → List ℕ → LentReading
finish_in l es d = finish_of (lent_reading_in l es) d

pub record FinishesMissing (r : ℕ) (l m es es' d : List ℕ) : Type 0 where
  pub returns : r ≡ edges_ladder l es
  pub keeps : KeepsMissing (on_code r) l m (finish_in l es d).reading
  pub edges : es' ≡ on_success r (finish_in l es d).edges es

-- ---- what is missing is read out

-- settings were read
unfoldable pub is_opened : Place → Bool
is_opened Settings = false
is_opened (Records left) = true
is_opened Done = true
is_opened Refused = false

-- ranges are listed once settings were read, unless they are refused
unfoldable pub is_listing : LentReading → Bool
is_listing s = is_opened s.reading.place && is_usable (lent_in (notes_in s))

-- the ranges; none where none are listed
unfoldable pub ranges_of : LentReading → List Range
ranges_of s = if is_listing s then ranges_in (lent_in (notes_in s)) else []

-- whether they are listed, how many they are, and how many numbers are missing
abbrev pub count_words : LentReading → List ℕ
count_words s = flag (is_listing s) ∷ length (ranges_of s) ∷ total_from 0 (ranges_of s) ∷ []

abbrev pub CountsMissing : ℕ → List ℕ → List ℕ → List ℕ → List ℕ → Type 0
CountsMissing r l es ws ws' = AnswersWith r ws ws' (edges_ladder l es) (count_words (lent_reading_in l es))

-- whether there is a range at a place, its first number and its last; 0 and 0 where there is none
abbrev pub range_words : ℕ → List Range → List ℕ
range_words place rs = flag (ltb place (length rs)) ∷ (range_at place rs).from ∷ (range_at place rs).to ∷ []

abbrev pub ListsRange : ℕ → List ℕ → List ℕ → ℕ → List ℕ → List ℕ → Type 0
ListsRange r l es place ws ws' =
    AnswersWith r ws ws' (edges_ladder l es) (range_words place (ranges_of (lent_reading_in l es)))

-- the text is written into the output out, which becomes out'
abbrev pub WritesMissing : ℕ → List ℕ → List ℕ → List ℕ → List ℕ → List ℕ → List ℕ → Type 0
WritesMissing r l es out out' ws ws' =
    AnswersWriting r ws ws' out out' (or_else (edges_ladder l es) (room_ground out)) (text_of (lent_reading_in l es))

-- ---- a host that feeds pieces one by one, and keeps the state's bytes and the words of the edges between two calls

-- a call that is lent its two words
pub record FeedCall (l es d m es' : List ℕ) : Type 0 where
  pub code : ℕ
  pub words : List ℕ
  pub laid : List ℕ
  pub room : 2 ≤ length words
  pub call : FeedsMissing code l m es es' d words laid

-- a list of pieces: each call is lent what the call before left
pub data Handed : List ℕ → List ℕ → List (List ℕ) → List ℕ → List ℕ → Type 0 where
  none : {l es : List ℕ} → Handed l es [] l es
  one : {l es m et n eu d : List ℕ} {ds : List (List ℕ)} → FeedCall l es d m et → Handed m et ds n eu
      → Handed l es (d ∷ ds) n eu

-- the reading after these pieces
unfoldable pub reading_after : LentReading → List (List ℕ) → LentReading
reading_after x [] = x
reading_after x (d ∷ ds) = reading_after (fed_reading (feed_of x d)) ds

-- over every list of pieces the bytes and the words of the edges hand on that reading
unfoldable pub MissingHandsOn : Type 0
MissingHandsOn = (l es m et : List ℕ) (ds : List (List ℕ)) → missing_size ≤ length l → length es ≡ ranges.room
    → Handed l es ds m et
    → lent_reading_in m et ≡ reading_after (lent_reading_in l es) ds

-- ---- for private helpers alone; no exported function promises it

-- the ranges that are listed: refused ones while no settings were read
unfoldable pub listed_of : Reading → Missing
listed_of x = if is_opened x.place then x.notes.missing else missing true 0 0
