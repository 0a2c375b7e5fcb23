-- Little-endian numbers in a list of bytes.
use Rattle.std.specs.Prelude.{ℕ, zero, suc, ◌+◌, ◌*◌, ◌/◌, ◌%◌, ◌^◌, ◌<◌, ◌≤◌, List, [], ◌∷◌, ◌≡◌, length, get_or}
use Rattle.wire.specs.Output.{put}

-- the number that n bytes make at a place, the least significant first; a byte past the end counts as 0
unfoldable pub little : List ℕ → ℕ → ℕ → ℕ
little l at zero = 0
little l at (suc n) = get_or l at 0 + 256 * little l (at + 1) n

-- the n low bytes of a number, the least significant first
unfoldable pub little_bytes : ℕ → ℕ → List ℕ
little_bytes zero v = []
little_bytes (suc n) v = v % 256 ∷ little_bytes n (v / 256)

-- what is laid reads back, over the width
unfoldable pub LittleReadsBack : Type 0
LittleReadsBack = (n v : ℕ) (l : List ℕ) (at : ℕ) → v < 256 ^ n → at + n ≤ length l
    → little (put l at (little_bytes n v)) at n ≡ v
