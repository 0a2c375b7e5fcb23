-- The missing ranges read out.
use Rattle.std.specs.Prelude.{ℕ, ◌≡◌, length, ltb, Option, Some, None, is_some}
use Rattle.missing_ranges.specs.Notes.{Lent, ranges_in, range_at}
use Rattle.missing_ranges.specs.declared.listing.Listed.{Listed}

-- the numbers of what is read out: 0 and 0 where it is none
unfoldable pub first_of : Option Listed → ℕ
first_of (Some r) = r.from.0
first_of None = 0

unfoldable pub last_of : Option Listed → ℕ
last_of (Some r) = r.to.0
last_of None = 0

-- the range at a place is read out, where one is there
pub record IsRange (r : Option Listed) (x : Lent) (place : ℕ) : Type 0 where
  pub there : is_some r ≡ ltb place (length (ranges_in x))
  pub first : first_of r ≡ (range_at place (ranges_in x)).from
  pub last : last_of r ≡ (range_at place (ranges_in x)).to
