-- How many whole messages a packet of a size holds: ks are the lengths of the messages, in order.
use Rattle.std.specs.Prelude.{ℕ, suc, ◌+◌, ◌*◌, ◌-◌, ◌≤◌, List, [], ◌∷◌, Bool, true, false, ◌≡◌, length, take, ltb, leb, if◌then◌else◌}
use Rattle.wire.specs.Bounds.{length_size}
use Rattle.wire.specs.Refusals.{bad_setting}
use Rattle.moldudp64.specs.Header.{header_size, largest_datagram}
use Rattle.moldudp64_writer.specs.Writer.{total}
use Rattle.packing.specs.declared.fit.Fit.{Fit}

-- ---- the size of a packet, which counts its header

-- the smallest holds a message of no bytes
abbrev pub least_size : ℕ
least_size = header_size + length_size

abbrev pub largest_size : ℕ
largest_size = largest_datagram

-- 19 where it is out of its bounds
unfoldable pub size_ground : ℕ → ℕ
size_ground size =
    if ltb size least_size then bad_setting else if ltb largest_size size then bad_setting else 0

-- what it leaves for blocks
abbrev pub room_of : ℕ → ℕ
room_of size = size - header_size

-- ---- messages of these lengths as blocks

-- their bytes: for each its length field and its data
abbrev pub blocks_size : List ℕ → ℕ
blocks_size ks = length_size * length ks + total ks

-- a message of this length fits alone
unfoldable pub fits_alone : ℕ → ℕ → Bool
fits_alone room k = leb (length_size + k) room

-- and so does each
unfoldable pub each_fits : ℕ → List ℕ → Bool
each_fits room [] = true
each_fits room (k ∷ ks) = if fits_alone room k then each_fits room ks else false

-- ---- the most that fit

-- one after another, as long as the next one fits into what is left
unfoldable pub most_that_fit : ℕ → List ℕ → ℕ
most_that_fit room [] = 0
most_that_fit room (k ∷ ks) = if fits_alone room k then suc (most_that_fit (room - (length_size + k)) ks) else 0

-- as a function answers it: how many, and the bytes of their data
abbrev pub fitting : ℕ → List ℕ → Fit
fitting room ks = record { count = most_that_fit room ks; bytes = total (take (most_that_fit room ks) ks) }

-- the first c of them fit
pub record FirstFit (room : ℕ) (ks : List ℕ) (c : ℕ) : Type 0 where
  pub there : c ≤ length ks
  pub fit : blocks_size (take c ks) ≤ room

-- c is the most whole messages that fit: the first c do, and no more do
pub record Most (room : ℕ) (ks : List ℕ) (c : ℕ) : Type 0 where
  pub fits : FirstFit room ks c
  pub no_more : (n : ℕ) → FirstFit room ks n → n ≤ c

-- ---- what is promised

-- what is counted one by one is the most that fit, and nothing else is
pub record PackingPromises : Type 0 where
  pub is_most : (room : ℕ) (ks : List ℕ) → Most room ks (most_that_fit room ks)
  pub only : (room : ℕ) (ks : List ℕ) (c : ℕ) → Most room ks c → c ≡ most_that_fit room ks
  -- the first fits alone exactly where at least one is taken
  pub some : (room k : ℕ) (ks : List ℕ) → fits_alone room k ≡ true → 1 ≤ most_that_fit room (k ∷ ks)
  pub none : (room k : ℕ) (ks : List ℕ) → fits_alone room k ≡ false → most_that_fit room (k ∷ ks) ≡ 0
