-- The first bytes of a slice, where an array of them is wanted.
use Rattle.std.specs.Prelude.{ℕ, List, length, take, replicate, ltb, if◌then◌else◌}

-- the first k bytes; k zeros where there are fewer
unfoldable pub first_bytes : ℕ → List ℕ → List ℕ
first_bytes k l = if ltb (length l) k then replicate k 0 else take k l
