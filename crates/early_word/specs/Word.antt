-- The word of 64 bits that marks held numbers: its lowest bit is bit 0.
use Rattle.std.specs.Prelude.{ℕ, zero, suc, ◌/◌, ◌%◌, ◌^◌, Bool, eqb, ltb, if◌then◌else◌}
use Rattle.std.specs.Int.Bits.{bit_or}

-- the bits of a word
abbrev pub word_bits : ℕ
word_bits = 64

-- bit k of a word is set
unfoldable pub bit : ℕ → ℕ → Bool
bit h k = eqb (h / 2 ^ k % 2) 1

-- how many ones stand at the low end, of the k lowest bits
unfoldable pub ones_of : ℕ → ℕ → ℕ
ones_of zero h = 0
ones_of (suc k) h = if bit h 0 then suc (ones_of k (h / 2)) else 0

-- the run of ones at the low end of a word
abbrev pub run : ℕ → ℕ
run h = ones_of word_bits h

-- how many zeros stand at the low end, of the k lowest bits
unfoldable pub zeros_of : ℕ → ℕ → ℕ
zeros_of zero h = 0
zeros_of (suc k) h = if bit h 0 then 0 else suc (zeros_of k (h / 2))

-- the place of the lowest one, 64 where there is none
abbrev pub lowest : ℕ → ℕ
lowest h = zeros_of word_bits h

-- the word without its k lowest bits
unfoldable pub past : ℕ → ℕ → ℕ
past h k = h / 2 ^ k

-- the word with bit k set too; a word has no bit from 64 on
unfoldable pub marked : ℕ → ℕ → ℕ
marked h k = if ltb k word_bits then bit_or h (2 ^ k) else h
