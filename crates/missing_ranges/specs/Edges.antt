-- The missing numbers as edges: a rising list of the numbers at which missing and present change places.
use Rattle.std.specs.Prelude.{ℕ, zero, suc, ◌+◌, ◌-◌, ◌/◌, List, [], ◌∷◌, ◌++◌, Bool, true, false, not, ◌&&◌, length, take, drop, get_or, ltb, leb, eqb, if◌then◌else◌}
use Rattle.wire.specs.Bounds.{up_to}

-- ---- the ranges that edges bound

-- the first and the last number of a range, both missing themselves
pub record Range : Type 0 where
  pub from : ℕ
  pub to : ℕ

abbrev pub range : ℕ → ℕ → Range
range a b = record { from = a; to = b }

-- missing are the numbers from the first edge to just below the second, from the third to just below the fourth, and so
-- on; from a last edge without a second, all that lie below top
unfoldable pub ranges_of : ℕ → List ℕ → List Range
ranges_of top [] = []
ranges_of top (a ∷ []) = if ltb a top then range a (top - 1) ∷ [] else []
ranges_of top (a ∷ b ∷ bs) = range a (b - 1) ∷ ranges_of top bs

-- a number lies in one of them
unfoldable pub is_listed : ℕ → List Range → Bool
is_listed x [] = false
is_listed x (r ∷ rs) = if leb r.from x && leb x r.to then true else is_listed x rs

-- each has a number, and the next begins at least two after its last: each once, rising, joined where two would touch
unfoldable pub rises_from : ℕ → List Range → Bool
rises_from low [] = true
rises_from low (r ∷ rs) = leb low r.from && leb r.from r.to && rises_from (r.to + 2) rs

-- how many numbers they have, added from n on, as far as 64 bits hold it
unfoldable pub total_from : ℕ → List Range → ℕ
total_from n [] = n
total_from n (r ∷ rs) = total_from (up_to n (r.to + 1 - r.from)) rs

-- how many of the numbers below n are listed
unfoldable pub listed_below : ℕ → List Range → ℕ
listed_below zero rs = 0
listed_below (suc n) rs = (if is_listed n rs then 1 else 0) + listed_below n rs

-- the most missing ranges that are kept
abbrev pub most_ranges : ℕ
most_ranges = 4096

-- ---- numbers taken out

unfoldable pub is_odd : ℕ → Bool
is_odd zero = false
is_odd (suc n) = not (is_odd n)

-- the place after the last edge that is e or lies below it, where the edges rise, looked for by halves from place lo to
-- just below hi in so many steps at most; of other edges, what the halving gives
unfoldable pub halved : ℕ → ℕ → List ℕ → ℕ → ℕ → ℕ
halved zero e bs lo hi = lo
halved (suc k) e bs lo hi =
    if ltb lo hi
    then (if leb (get_or bs (lo + (hi - lo) / 2) 0) e then halved k e bs (lo + (hi - lo) / 2 + 1) hi
    else halved k e bs lo (lo + (hi - lo) / 2))
    else lo

-- the same among the first n edges
unfoldable pub place_past : ℕ → List ℕ → ℕ → ℕ
place_past e bs n = halved n e bs 0 n

-- the place after the last of them that lies below f
unfoldable pub place_of : ℕ → List ℕ → ℕ → ℕ
place_of f bs n = if eqb f 0 then 0 else place_past (f - 1) bs n

-- where numbers from f to just below e stand among all edges: before those above e, and before those from f on
abbrev pub end_place : ℕ → List ℕ → ℕ
end_place e bs = place_past e bs (length bs)

abbrev pub start_place : ℕ → ℕ → List ℕ → ℕ
start_place f e bs = place_of f bs (end_place e bs)

-- a number as an edge, or none
abbrev pub edge_if : Bool → ℕ → List ℕ
edge_if true x = x ∷ []
edge_if false x = []

-- the edges between two places, where the numbers from f to just below e are present: f where those before it are
-- missing, as they are after an odd number of edges, and e where those from it on are
unfoldable pub middle : ℕ → ℕ → ℕ → ℕ → List ℕ
middle i j f e = edge_if (is_odd i) f ++ edge_if (is_odd j) e

-- these instead of the edges from place i to just below j
unfoldable pub replaced : ℕ → ℕ → ℕ → ℕ → List ℕ → List ℕ
replaced i j f e bs = take i bs ++ middle i j f e ++ drop j bs

-- the edges once the numbers from f to just below e are present; as they were where there is no such number
unfoldable pub without : ℕ → ℕ → List ℕ → List ℕ
without f e bs = if ltb f e then replaced (start_place f e bs) (end_place e bs) f e bs else bs
