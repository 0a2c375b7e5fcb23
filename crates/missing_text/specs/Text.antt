-- The missing ranges as text: every line ends with a line feed.
use Rattle.std.specs.Prelude.{ℕ, ◌+◌, ◌*◌, List, [], ◌∷◌, ◌++◌, length, ltb, if◌then◌else◌}
use Rattle.wire.specs.Refusals.{output_short}
use Rattle.wire.specs.Text.{ascii}
use Rattle.capture_lines.specs.Lines.{number_line, session_line, refused_line}
use Rattle.missing_ranges.specs.Edges.{Range, most_ranges, total_from}
use Rattle.missing_ranges.specs.Notes.{Lent, is_usable, ranges_in}

abbrev pub from_key : List ℕ
from_key = ascii "from="

abbrev pub to_key : List ℕ
to_key = ascii "to="

abbrev pub missing_key : List ℕ
missing_key = ascii "missing="

abbrev pub ranges_key : List ℕ
ranges_key = ascii "ranges="

-- a range, both numbers missing themselves
unfoldable pub range_text : Range → List ℕ
range_text r = number_line from_key r.from ++ number_line to_key r.to

-- all of them, in their order
unfoldable pub ranges_text : List Range → List ℕ
ranges_text [] = []
ranges_text (r ∷ rs) = range_text r ++ ranges_text rs

-- the session, its missing ranges, and last how many numbers are missing
unfoldable pub list_text : List ℕ → List Range → List ℕ
list_text name rs = session_line name ++ ranges_text rs ++ number_line missing_key (total_from 0 rs)

-- more ranges than are kept
unfoldable pub too_many_text : List ℕ
too_many_text = refused_line ranges_key

-- what is written of the missing ranges: too many, and those that the lent words don't hold, are refused alone
unfoldable pub missing_text : List ℕ → Lent → List ℕ
missing_text name x = if is_usable x then list_text name (ranges_in x) else too_many_text

-- the bytes that are room enough for any text: a line of 19 bytes, two lines of at most 26 and 24 for each range, of
-- which words that a caller made up may hold one more than are kept, and a line of at most 29
abbrev pub room : ℕ
room = 19 + 50 * (most_ranges + 1) + 29

-- an output with less room is refused, whatever the text
unfoldable pub room_ground : List ℕ → ℕ
room_ground l = if ltb (length l) room then output_short else 0
