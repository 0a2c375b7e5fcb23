-- What noting numbers one after the other comes to, and what it means.
use Rattle.std.specs.Prelude.{ℕ, ◌≤◌, ◌<◌, List, [], ◌∷◌, ◌++◌, Bool, true, false, not, ◌&&◌, ◌≡◌, length, ltb, leb, if◌then◌else◌}
use Rattle.wire.specs.Bounds.{largest_number}
use Rattle.missing_ranges.specs.Edges.{Range, is_listed, rises_from, total_from, listed_below, most_ranges}
use Rattle.missing_ranges.specs.Notes.{Lent, ranges_in, room, later, start_in, note_of}

-- what one datagram says: it carries the numbers from first to just below next, and states or implies next
pub record Said : Type 0 where
  pub first : ℕ
  pub next : ℕ

abbrev pub said : ℕ → ℕ → Said
said f e = record { first = f; next = e }

-- one after the other
unfoldable pub over : Lent → List Said → Lent
over x [] = x
over x (d ∷ ds) = over (note_of x d.first d.next) ds

-- from the start at n, in the lent words l
abbrev pub noted : List ℕ → ℕ → List Said → Lent
noted l n ds = over (start_in l n) ds

-- ---- what it means

-- the highest next number, at least n
unfoldable pub highest_of : ℕ → List Said → ℕ
highest_of n [] = n
highest_of n (d ∷ ds) = highest_of (later n d.next) ds

abbrev pub carries : ℕ → Said → Bool
carries x d = leb d.first x && ltb x d.next

-- one of them carries x
unfoldable pub is_carried : ℕ → List Said → Bool
is_carried x [] = false
is_carried x (d ∷ ds) = if carries x d then true else is_carried x ds

-- ranges list a number exactly when it lies from n to just below the highest next number and none of ds carries it;
-- they rise, and no two touch
pub record ListsExactly (n : ℕ) (ds : List Said) (rs : List Range) : Type 0 where
  pub exactly : (x : ℕ) → is_listed x rs ≡ leb n x && ltb x (highest_of n ds) && not (is_carried x ds)
  pub apart : rises_from 0 rs ≡ true

-- no two lists do
unfoldable pub JustOne : Type 0
JustOne = (n : ℕ) (ds : List Said) (rs qs : List Range) → ListsExactly n ds rs → ListsExactly n ds qs → rs ≡ qs

-- unless refused, these are the ranges that are kept
unfoldable pub Exactly : Type 0
Exactly = (l : List ℕ) (n : ℕ) (ds : List Said) → room ≤ length l → (noted l n ds).missing.refused ≡ false
    → ListsExactly n ds (ranges_in (noted l n ds))

-- each next number is at most 2^64 - 1
unfoldable pub AllNumbers : List Said → Type 0
AllNumbers [] = Unit
AllNumbers (d ∷ ds) = (d.next ≤ largest_number) × AllNumbers ds

-- and the sum of their sizes, which is never capped, is how many numbers they list
unfoldable pub TotalIsExact : Type 0
TotalIsExact = (l : List ℕ) (n : ℕ) (ds : List Said) → room ≤ length l → n ≤ largest_number → AllNumbers ds
    → (noted l n ds).missing.refused ≡ false
    → total_from 0 (ranges_in (noted l n ds)) ≡ listed_below (highest_of n ds) (ranges_in (noted l n ds))

-- ---- what is refused

-- more ranges than are kept would be missing after ds
pub record NeedsMore (n : ℕ) (ds : List Said) : Type 0 where
  pub ranges : List Range
  pub lists : ListsExactly n ds ranges
  pub many : most_ranges < length ranges

-- never more ranges than that are kept; a step is refused only where more are needed after it; and what was refused
-- stays so
pub record RefusesTooMany : Type 0 where
  pub keeps_few : (l : List ℕ) (n : ℕ) (ds : List Said) → room ≤ length l → (noted l n ds).missing.refused ≡ false
      → length (ranges_in (noted l n ds)) ≤ most_ranges
  pub refuses_many : (l : List ℕ) (n : ℕ) (ds : List Said) (d : Said) → room ≤ length l
      → (noted l n ds).missing.refused ≡ false
      → (note_of (noted l n ds) d.first d.next).missing.refused ≡ true
      → NeedsMore n (ds ++ (d ∷ []))
  pub stays : (x : Lent) (d : Said) → x.missing.refused ≡ true → note_of x d.first d.next ≡ x
