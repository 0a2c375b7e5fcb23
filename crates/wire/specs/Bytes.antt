-- Numbers in a list of bytes, and lists compared.
use Rattle.std.specs.Prelude.{ℕ, zero, suc, ◌+◌, ◌*◌, ◌/◌, ◌%◌, ◌<◌, List, [], ◌∷◌, ◌++◌, Bool, true, false, get_or, eqb, if◌then◌else◌}

-- the number that n bytes make at a place, the most significant first; a byte past the end counts as 0
unfoldable pub number : List ℕ → ℕ → ℕ → ℕ
number l at zero = 0
number l at (suc n) = number l at n * 256 + get_or l (at + n) 0

-- the n low bytes of a number, the most significant first
unfoldable pub bytes : ℕ → ℕ → List ℕ
bytes zero v = []
bytes (suc n) v = bytes n (v / 256) ++ (v % 256 ∷ [])

-- all pieces as one
unfoldable pub joined : List (List ℕ) → List ℕ
joined [] = []
joined (p ∷ ps) = p ++ joined ps

-- two lists have the same bytes in the same order, and no more
unfoldable pub same_bytes : List ℕ → List ℕ → Bool
same_bytes [] [] = true
same_bytes [] (b ∷ m) = false
same_bytes (a ∷ l) [] = false
same_bytes (a ∷ l) (b ∷ m) = if eqb a b then same_bytes l m else false

-- every element is a byte
abbrev pub AreBytes : List ℕ → Type 0
AreBytes l = (i : ℕ) → get_or l i 0 < 256

-- ---- for private helpers alone; no public promise uses it

-- all bytes as one number, the least significant first: as they stand in memory, so that two lists are compared without
-- a swap
unfoldable pub as_number : List ℕ → ℕ
as_number [] = 0
as_number (b ∷ l) = as_number l * 256 + b
