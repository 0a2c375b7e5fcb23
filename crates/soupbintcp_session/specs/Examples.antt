-- What the example of each end is written with.
use Rattle.std.specs.Prelude.{ℕ, ◌+◌, List, ◌∷◌, length}

-- a packet of a letter and a payload of at most 254 bytes
abbrev pub short_packet : ℕ → List ℕ → List ℕ
short_packet letter payload = 0 ∷ (length payload + 1) ∷ letter ∷ payload
