-- What the settings read are, plainly: the one text that document 01 gives, and a name that isn't blank (order 12).
use Rattle.std.specs.Prelude.{ℕ, ◌+◌, ◌≤◌, List, [], ◌∷◌, ◌++◌, true, ◌≡◌, length, drop}
use Rattle.wire.specs.Bounds.{least_number, largest_number, least_limit, largest_limit, session_size, blank}
use Rattle.decimal.specs.Decimal.{digits}
use Rattle.capture_settings.specs.Settings.{session_key, next_key, limit_key, line_feed, is_printable, settings}
use Rattle.capture_settings.specs.Settings.{fixed_size, settings_of}

-- a line
abbrev pub line : List ℕ → List ℕ → List ℕ
line key value = key ++ value ++ (line_feed ∷ [])

-- the settings as text
unfoldable pub settings_text : List ℕ → ℕ → ℕ → List ℕ
settings_text name n limit = line session_key name ++ line next_key (digits n) ++ line limit_key (digits limit)

-- good settings
pub record Good (name : List ℕ) (n limit : ℕ) : Type 0 where
  pub ten_bytes : length name ≡ session_size
  pub printable : is_printable name ≡ true
  pub not_blank : name ≡ blank → ⊥
  pub number_least : least_number ≤ n
  pub number_most : n ≤ largest_number
  pub limit_least : least_limit ≤ limit
  pub limit_most : limit ≤ largest_limit

-- what was read of l: good settings, and their text in front of the rest
pub record ReadSo (l : List ℕ) (name : List ℕ) (n limit size : ℕ) : Type 0 where
  pub good : Good name n limit
  pub is_text : l ≡ settings_text name n limit ++ drop size l

-- good settings are read, whatever follows them, and nothing else is
pub record ReadsExactly : Type 0 where
  pub reads : (name : List ℕ) (n limit : ℕ) (rest : List ℕ) → Good name n limit
      → settings_of (settings_text name n limit ++ rest)
      ≡ record {
        refusal = record { number = 0 };
        settings = settings name n limit;
        size = length (settings_text name n limit);
      }
  pub only : (l : List ℕ) → (settings_of l).refusal.number ≡ 0
      → ReadSo l (settings_of l).settings.session (settings_of l).settings.next.0
      (settings_of l).settings.limit.0 (settings_of l).size

-- the most bytes that good settings take: 2^64 - 1 has 20 digits, 65,534 has 5, and a line feed follows each
abbrev pub longest : ℕ
longest = fixed_size + (20 + 1) + (5 + 1)

-- that many bytes tell: what comes after them changes nothing
unfoldable pub Settled : Type 0
Settled = (a b : List ℕ) → longest ≤ length a → settings_of (a ++ b) ≡ settings_of a

-- settings that were read are there whole
unfoldable pub SizeWithin : Type 0
SizeWithin = (l : List ℕ) → (settings_of l).size ≤ length l

pub record SettingsPromises : Type 0 where
  pub reads_exactly : ReadsExactly
  pub settled : Settled
  pub size_within : SizeWithin
