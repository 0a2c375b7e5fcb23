-- Bounds that more than one crate names.
use Rattle.std.specs.Prelude.{ℕ, ◌+◌, ◌-◌, ◌^◌, List, replicate, ltb, if◌then◌else◌}
use Rattle.wire.specs.Text.{letter}

-- the smallest number that a message has
abbrev pub least_number : ℕ
least_number = 1

-- the largest sequence number, 2^64 - 1
abbrev pub largest_number : ℕ
largest_number = 2 ^ 64 - 1

-- the bytes of a session name
abbrev pub session_size : ℕ
session_size = 10

-- the bytes of a sequence number and of a message count, wherever they are laid as bytes
abbrev pub number_size : ℕ
number_size = 8

abbrev pub count_size : ℕ
count_size = 2

-- the bytes of a length, which stands in front of a block, of a packet and of a record
abbrev pub length_size : ℕ
length_size = 2

-- document 01's "blank": a name of ten spaces
abbrev pub blank : List ℕ
blank = replicate session_size (letter " ")

-- the largest number of 16 bits, as a count or a length has
abbrev pub largest_count : ℕ
largest_count = 2 ^ 16 - 1

-- the bounds of a receiver's asking limit, which are the fewest and the most messages that a request asks for: none
-- is 48, and so is 65,535, the count of an end of session
abbrev pub least_limit : ℕ
least_limit = 1

abbrev pub largest_limit : ℕ
largest_limit = largest_count - 1

-- a sum of counts, capped at the largest number
unfoldable pub up_to : ℕ → ℕ → ℕ
up_to a b = if ltb largest_number (a + b) then largest_number else a + b
