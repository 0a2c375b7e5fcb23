-- Message blocks: a 2-byte length that doesn't count itself, and so many data bytes, perhaps none.
use Rattle.std.specs.Prelude.{ℕ, zero, suc, ◌+◌, List, [], ◌∷◌, ◌++◌, Bool, true, false, length, take, drop, leb, eqb, if◌then◌else◌}
use Rattle.wire.specs.Bounds.{length_size}
use Rattle.wire.specs.Refusals.{block_past_end, bytes_after_blocks}
use Rattle.wire.specs.Bytes.{number, bytes}

-- ---- read: l is what is left of the datagram

-- the data bytes that the first block says it has
unfoldable pub block_length : List ℕ → ℕ
block_length l = number l 0 length_size

-- the bytes of the first block, its length field with them
abbrev pub block_size : List ℕ → ℕ
block_size l = block_length l + length_size

-- the first block ends within the datagram (a length field that isn't all there does not)
unfoldable pub fits : List ℕ → Bool
fits l = leb (block_size l) (length l)

-- what is left after the first block
abbrev pub after_block : List ℕ → List ℕ
after_block l = drop (block_size l) l

-- each of n blocks ends within the datagram
unfoldable pub all_fit : ℕ → List ℕ → Bool
all_fit zero l = true
all_fit (suc n) l = if fits l then all_fit n (after_block l) else false

-- what is left after n blocks
unfoldable pub after_blocks : ℕ → List ℕ → List ℕ
after_blocks zero l = l
after_blocks (suc n) l = after_blocks n (after_block l)

-- the data bytes of n blocks, in order
unfoldable pub messages : ℕ → List ℕ → List (List ℕ)
messages zero l = []
messages (suc n) l = take (block_length l) (drop length_size l) ∷ messages n (after_block l)

-- 15 where one of n blocks runs past the end, 16 where bytes stand after the last one
unfoldable pub blocks_refusal : ℕ → List ℕ → ℕ
blocks_refusal n l =
    if all_fit n l then (if eqb (length (after_blocks n l)) 0 then 0 else bytes_after_blocks)
    else block_past_end

-- ---- written

-- messages as blocks, in order
unfoldable pub blocks_of : List (List ℕ) → List ℕ
blocks_of [] = []
blocks_of (m ∷ ms) = bytes length_size (length m) ++ m ++ blocks_of ms
