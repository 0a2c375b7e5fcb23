-- Lines of text, each a key, a value and a line feed, and lines laid one after the other.
use Rattle.std.specs.Prelude.{ℕ, ◌+◌, ◌≤◌, List, ◌≡◌, length}
use Rattle.wire.specs.Bounds.{up_to}
use Rattle.wire.specs.Text.{ascii}
use Rattle.wire.specs.Output.{put}
use Rattle.wire.specs.Output.{Written}
use Rattle.std.specs.Prelude.{Ok, Err}
use Rattle.decimal.specs.Decimal.{digits}
use Rattle.capture_settings.specs.Settings.{session_key}
use Rattle.capture_settings.specs.Statements.{line}

-- a line with a number, without leading zeros
unfoldable pub number_line : List ℕ → ℕ → List ℕ
number_line key n = line key (digits n)

-- the line with the name of the session
unfoldable pub session_line : List ℕ → List ℕ
session_line name = line session_key name

-- the line that says that what a key names is refused: the settings, or the ranges
abbrev pub settings_key : List ℕ
settings_key = ascii "settings="

abbrev pub refused_word : List ℕ
refused_word = ascii "refused"

unfoldable pub refused_line : List ℕ → List ℕ
refused_line key = line key refused_word

-- `settings=refused`
abbrev pub settings_refused : List ℕ
settings_refused = refused_line settings_key

-- the place behind what was written at one; a refusal wrote nothing
unfoldable pub behind_of : ℕ → Written → ℕ
behind_of at (Ok size) = up_to at size
behind_of at (Err r) = at

-- ---- laying a text, line by line: for private helpers alone; no public promise uses it

-- bs was laid at a place of l, which gave m; the next place follows it, and it is no longer than most
pub record LaysLine (next : ℕ) (l m : List ℕ) (at : ℕ) (bs : List ℕ) (most : ℕ) : Type 0 where
  pub place : next ≡ at + length bs
  pub bytes : m ≡ put l at bs
  pub within : length bs ≤ most
