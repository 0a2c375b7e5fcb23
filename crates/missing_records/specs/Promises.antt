-- What is promised of the missing ranges of every list of datagrams.
use Rattle.std.specs.Prelude.{ℕ, ◌+◌, ◌≤◌, ◌<◌, List, [], ◌∷◌, Bool, true, false, not, ◌&&◌, ◌≡◌, length, take, ltb, leb, if◌then◌else◌}
use Rattle.wire.specs.Bounds.{largest_number}
use Rattle.wire.specs.Text.{ascii, readroom}
use Rattle.moldudp64.specs.Header.{number_of}
use Rattle.moldudp64.specs.Downstream.{messages_of}
use Rattle.moldudp64.specs.Written.{encoded, encoded_end}
use Rattle.missing_ranges.specs.Edges.{Range, range, is_listed, rises_from, total_from, listed_below, most_ranges}
use Rattle.missing_ranges.specs.Notes.{ranges_in, room, later}
use Rattle.missing_records.specs.Records.{accepted, next_in, LentNotes, lent_in, start_notes, take_of, over}

-- an accepted datagram carries the number x
unfoldable pub carries : List ℕ → ℕ → List ℕ → Bool
carries name x d = if accepted name d then leb (number_of d) x && ltb x (next_in d) else false

-- as many numbers as it has messages, from its own on: the next number that it states or implies lies just behind them
unfoldable pub CarriesItsMessages : Type 0
CarriesItsMessages = (name d : List ℕ) → accepted name d ≡ true → next_in d ≡ number_of d + length (messages_of d)

-- one of them does
unfoldable pub is_carried : List ℕ → ℕ → List (List ℕ) → Bool
is_carried name x [] = false
is_carried name x (d ∷ ds) = if carries name x d then true else is_carried name x ds

-- the highest next number that an accepted one of them states or implies, at least n
unfoldable pub highest_of : List ℕ → ℕ → List (List ℕ) → ℕ
highest_of name n [] = n
highest_of name n (d ∷ ds) = highest_of name (if accepted name d then later n (next_in d) else n) ds

-- ranges list a number exactly when it lies from n to just below the highest next number and no accepted datagram
-- carries it; they rise, and no two touch
pub record ListsMissing (name : List ℕ) (n : ℕ) (ds : List (List ℕ)) (rs : List Range) : Type 0 where
  pub exactly : (x : ℕ) → is_listed x rs ≡ leb n x && ltb x (highest_of name n ds) && not (is_carried name x ds)
  pub apart : rises_from 0 rs ≡ true

-- the ranges after a list of datagrams, from number n on, in the lent words l; and that they are refused
abbrev pub ranges_after : List ℕ → List ℕ → ℕ → List (List ℕ) → List Range
ranges_after name l n ds = ranges_in (lent_in (over (start_notes name l n) ds))

abbrev pub is_refused : List ℕ → List ℕ → ℕ → List (List ℕ) → Bool
is_refused name l n ds = (over (start_notes name l n) ds).notes.missing.refused

-- unless refused, and whatever the lent words were
unfoldable pub ListsWhatIsMissing : Type 0
ListsWhatIsMissing = (name l : List ℕ) (n : ℕ) (ds : List (List ℕ)) → room ≤ length l → is_refused name l n ds ≡ false
    → ListsMissing name n ds (ranges_after name l n ds)

-- no two lists list just what is missing
unfoldable pub JustOne : Type 0
JustOne = (name : List ℕ) (n : ℕ) (ds : List (List ℕ)) (rs qs : List Range) → ListsMissing name n ds rs
    → ListsMissing name n ds qs → rs ≡ qs

-- unless refused, the sum of the ranges' sizes, which is never capped, is how many numbers they list
unfoldable pub TotalIsExact : Type 0
TotalIsExact = (name l : List ℕ) (n : ℕ) (ds : List (List ℕ)) → room ≤ length l → n ≤ largest_number
    → is_refused name l n ds ≡ false
    → total_from 0 (ranges_after name l n ds) ≡ listed_below (highest_of name n ds) (ranges_after name l n ds)

-- ---- what is refused

-- more ranges than are kept would be missing after ds
pub record NeedsMore (name : List ℕ) (n : ℕ) (ds : List (List ℕ)) : Type 0 where
  pub ranges : List Range
  pub lists : ListsMissing name n ds ranges
  pub many : most_ranges < length ranges

-- after so many of them, the first ones
pub record NeedsMoreWithin (name : List ℕ) (n : ℕ) (ds : List (List ℕ)) : Type 0 where
  pub first : ℕ
  pub more : NeedsMore name n (take first ds)

-- never more ranges than that are kept; a list is refused just where more are needed after some of it, at once; and
-- what was refused stays so
pub record RefusesTooMany : Type 0 where
  pub keeps_few : (name l : List ℕ) (n : ℕ) (ds : List (List ℕ)) → room ≤ length l → is_refused name l n ds ≡ false
      → length (ranges_after name l n ds) ≤ most_ranges
  pub refuses_many : (name l : List ℕ) (n : ℕ) (ds : List (List ℕ)) → room ≤ length l → is_refused name l n ds ≡ true
      → NeedsMoreWithin name n ds
  pub at_once : (name l : List ℕ) (n : ℕ) (ds : List (List ℕ)) → room ≤ length l → NeedsMoreWithin name n ds
      → is_refused name l n ds ≡ true
  pub stays : (x : LentNotes) (d : List ℕ) → x.notes.missing.refused ≡ true → take_of x d ≡ x

-- ---- an example, from 1: data 1 and 2, data 5, heartbeat 9, an end of session at 4, data 7 behind it, and data 3 of
-- another session

abbrev pub message : List ℕ
message = ascii "a"

abbrev pub example_datagrams : List (List ℕ)
example_datagrams =
    encoded readroom 1 (message ∷ message ∷ [])
    ∷ encoded readroom 5 (message ∷ [])
    ∷ encoded readroom 9 []
    ∷ encoded_end readroom 4
    ∷ encoded readroom 7 (message ∷ [])
    ∷ encoded (ascii "READROOM02") 3 (message ∷ [])
    ∷ []

-- 3 and 4, 6, and 8 are missing
pub record NotVacuous : Type 0 where
  pub lists : ListsMissing readroom 1 example_datagrams (range 3 4 ∷ range 6 6 ∷ range 8 8 ∷ [])

-- a tool that lists nothing, one that lists ranges that touch, and one that forgets a range when it is split, as 7
-- splits 6 to 8, each break it
pub record NotWeak : Type 0 where
  pub lists_nothing : ListsMissing readroom 1 example_datagrams [] → ⊥
  pub ranges_touch : ListsMissing readroom 1 example_datagrams (range 3 3 ∷ range 4 4 ∷ range 6 6 ∷ range 8 8 ∷ []) → ⊥
  pub forgets_a_half : ListsMissing readroom 1 example_datagrams (range 3 4 ∷ range 8 8 ∷ []) → ⊥

pub record DatagramPromises : Type 0 where
  pub carries_its_messages : CarriesItsMessages
  pub lists_what_is_missing : ListsWhatIsMissing
  pub just_one : JustOne
  pub total_is_exact : TotalIsExact
  pub refuses_too_many : RefusesTooMany
  pub not_vacuous : NotVacuous
  pub not_weak : NotWeak
