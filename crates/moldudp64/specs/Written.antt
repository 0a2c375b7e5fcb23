-- Downstream packets as they are written.
use Rattle.std.specs.Prelude.{ℕ, List, ◌++◌, length}
use Rattle.moldudp64.specs.Header.{end_count, header}
use Rattle.moldudp64.specs.Blocks.{blocks_of}

-- the packet of a list of messages, the first with number n; no messages make a heartbeat
unfoldable pub encoded : List ℕ → ℕ → List (List ℕ) → List ℕ
encoded session n ms = header session n (length ms) ++ blocks_of ms

-- an end of session with the next number
unfoldable pub encoded_end : List ℕ → ℕ → List ℕ
encoded_end session n = header session n end_count
