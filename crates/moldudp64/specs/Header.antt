-- The header of a downstream packet, which is also the whole of a request: session at 0 (10 bytes), sequence number at
-- 10 (8), message count at 18 (2), each number big-endian.
use Rattle.std.specs.Prelude.{ℕ, ◌+◌, List, ◌++◌}
use Rattle.wire.specs.Bounds.{largest_count, session_size, number_size, count_size}
use Rattle.wire.specs.Bytes.{number, bytes}

-- the bytes of the largest datagram
abbrev pub largest_datagram : ℕ
largest_datagram = 65507

-- a count of 65,535 is end of session
abbrev pub end_count : ℕ
end_count = largest_count

-- the session stands in front, then the sequence number, then the message count
abbrev pub number_at : ℕ
number_at = session_size

abbrev pub count_at : ℕ
count_at = number_at + number_size

-- the bytes of a header
abbrev pub header_size : ℕ
header_size = count_at + count_size

-- the sequence number
unfoldable pub number_of : List ℕ → ℕ
number_of l = number l number_at number_size

-- the message count
unfoldable pub count_of : List ℕ → ℕ
count_of l = number l count_at count_size

-- a header as it is written
unfoldable pub header : List ℕ → ℕ → ℕ → List ℕ
header session n c = session ++ bytes number_size n ++ bytes count_size c
