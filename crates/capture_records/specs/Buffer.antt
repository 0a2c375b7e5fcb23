-- The buffer of a program that reads piece by piece.
use Rattle.std.specs.Prelude.{ℕ, ◌-◌, List, Bool, false, not, length, take, drop, ltb, if◌then◌else◌}
use Rattle.wire.specs.Output.{put}

-- these are places of a buffer of n, one not behind the other
unfoldable pub are_places : ℕ → ℕ → ℕ → Bool
are_places n from to = if ltb n to then false else not (ltb to from)

-- how many bytes of it are moved to its front: those between them, and none where there are no such places
unfoldable pub kept_size : ℕ → ℕ → ℕ → ℕ
kept_size n from to = if ltb n to then 0 else if ltb to from then 0 else to - from

-- the buffer with them at its front
unfoldable pub kept_of : List ℕ → ℕ → ℕ → List ℕ
kept_of l from to = put l 0 (take (kept_size (length l) from to) (drop from l))
