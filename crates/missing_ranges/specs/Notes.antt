-- The missing ranges of a session, kept in lent words while its datagrams are read.
use Rattle.std.specs.Prelude.{ℕ, ◌+◌, ◌-◌, ◌/◌, ◌%◌, ◌≤◌, ◌<◌, List, [], ◌∷◌, Bool, true, false, not, ◌&&◌, ◌≡◌, length, take, get_or, ltb, leb, eqb, if◌then◌else◌}
use Rattle.wire.specs.Output.{put}
use Rattle.missing_ranges.specs.Edges.{Range, range, ranges_of, total_from, most_ranges}
use Rattle.missing_ranges.specs.Edges.{place_past, place_of, middle, without}
use Rattle.missing_ranges.specs.declared.ranges.Missing.{Missing}
use Rattle.missing_ranges.specs.declared.ranges.Plan.{Plan}

abbrev pub missing : Bool → ℕ → ℕ → Missing
missing refused k top = record { refused = refused; closed = k; highest = record { 0 = top } }

-- the words that are room enough: two edges for a range, and one more
abbrev pub room : ℕ
room = most_ranges + most_ranges + 1

-- with the words that are lent to it
pub record Lent : Type 0 where
  pub missing : Missing
  pub edges : List ℕ

abbrev pub lent : Missing → List ℕ → Lent
lent s l = record { missing = s; edges = l }

-- ---- what is kept

-- two edges for each range that has both, and one from which everything is open
abbrev pub edges_in : Lent → List ℕ
edges_in x = take (x.missing.closed + x.missing.closed + 1) x.edges

-- it isn't refused, has no more ranges with both edges than are kept, and the lent words hold its edges
unfoldable pub is_usable : Lent → Bool
is_usable x =
    not x.missing.refused && leb x.missing.closed most_ranges
    && leb (x.missing.closed + x.missing.closed + 1) (length x.edges)

-- the ranges below the highest next number; none of a state that is refused, or that the lent words don't hold
unfoldable pub ranges_in : Lent → List Range
ranges_in x = if is_usable x then ranges_of x.missing.highest.0 (edges_in x) else []

-- how many numbers they have
abbrev pub total_in : Lent → ℕ
total_in x = total_from 0 (ranges_in x)

-- the range at a place; 0 and 0 where there is none
unfoldable pub range_at : ℕ → List Range → Range
range_at place [] = range 0 0
range_at place (r ∷ rs) = if eqb place 0 then r else range_at (place - 1) rs

-- ---- the start, at a number

unfoldable pub start_in : List ℕ → ℕ → Lent
start_in l n = lent (missing (eqb (length l) 0) 0 n) (put l 0 (n ∷ []))

-- ---- a step: the numbers from f to just below e are carried, and e is stated

-- the larger of two
unfoldable pub later : ℕ → ℕ → ℕ
later a b = if ltb a b then b else a

abbrev pub edges_after : Lent → ℕ → ℕ → List ℕ
edges_after x f e = without f e (edges_in x)

abbrev pub top_after : Lent → ℕ → ℕ
top_after x e = later x.missing.highest.0 e

-- there is room for the edges then, and the ranges are counted once all of these numbers are present
unfoldable pub is_kept : Lent → ℕ → ℕ → Bool
is_kept x f e =
    is_usable x && leb (length (edges_after x f e)) (length x.edges)
    && leb (length (ranges_of (top_after x e) (edges_after x f e))) most_ranges

-- too many ranges leave all edges as they were, and are refused from then on
unfoldable pub note_of : Lent → ℕ → ℕ → Lent
note_of x f e =
    if is_kept x f e
    then lent (missing false (length (edges_after x f e) / 2) (top_after x e)) (put x.edges 0 (edges_after x f e))
    else lent (missing true x.missing.closed x.missing.highest.0) x.edges

-- ---- for private helpers alone; no public promise uses it

-- k ranges with both edges are too many, with one more from the last edge on where that lies below top
unfoldable pub too_many : ℕ → ℕ → ℕ → Bool
too_many k last top = if ltb last top then leb most_ranges k else ltb most_ranges k

-- the last edge once e is laid at place j of n edges
unfoldable pub last_after : List ℕ → ℕ → ℕ → ℕ → ℕ
last_after l n j e = if ltb j n then get_or l (n - 1) 0 else e

-- places i and j among n edges of l, with room for what stands between them then
pub record Fitting (l : List ℕ) (n i j f e : ℕ) : Type 0 where
  pub rising : i ≤ j
  pub among : j ≤ n
  pub there : n ≤ length l
  pub room : i + length (middle i j f e) + (n - j) ≤ length l

-- a state that is usable, numbers that are carried, and the highest next number then
pub record Ready (x : Lent) (f e top : ℕ) : Type 0 where
  pub usable : is_usable x ≡ true
  pub highest_is : top ≡ top_after x e
  pub carried : f < e

-- the two places of numbers from f to just below e among n edges, how many edges there are then, and the last of them
pub record Plans (r : Plan) (l : List ℕ) (n f e : ℕ) : Type 0 where
  pub second : r.j ≡ place_past e l n
  pub first : r.i ≡ place_of f l r.j
  pub many : r.size ≡ r.i + r.i % 2 + r.j % 2 + (n - r.j)
  pub last_is : r.last ≡ last_after l n r.j e
