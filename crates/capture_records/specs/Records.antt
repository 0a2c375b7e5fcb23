-- The records of a capture, as a list of bytes.
use Rattle.std.specs.Prelude.{ℕ, zero, suc, ◌+◌, ◌-◌, ◌^◌, ◌≤◌, Bool, false, not, ◌≡◌, length, take, drop, ltb, if◌then◌else◌, Option, Some, None}
use mathlib.Core.List.{List, [], ◌∷◌, ◌++◌, Memᴰ}
use Rattle.wire.specs.Bounds.{largest_count, length_size}
use Rattle.wire.specs.Words.{Words, says, Injective}
use Rattle.wire.specs.Bytes.{number, bytes, AreBytes}

-- the bytes of a record that carries a datagram; its length doesn't count itself
abbrev pub record_bytes : List ℕ → List ℕ
record_bytes d = bytes length_size (length d) ++ d

-- ---- the record in front

-- the bytes that it takes, its length with them
unfoldable pub record_size : List ℕ → ℕ
record_size l = number l 0 length_size + length_size

-- all of them are there
unfoldable pub is_whole : List ℕ → Bool
is_whole l = if ltb (length l) length_size then false else not (ltb (length l) (record_size l))

-- its datagram
abbrev pub datagram_of : List ℕ → List ℕ
datagram_of l = take (record_size l - length_size) (drop length_size l)

-- what stands in front, in words
pub data RecordKind : Type 0 where
  whole short : RecordKind

unfoldable pub record_words : Option ℕ → Words RecordKind
record_words (Some size) = says whole (size ∷ [])
record_words None = says short []

unfoldable pub record_in_front : List ℕ → Words RecordKind
record_in_front l = if is_whole l then says whole (record_size l ∷ []) else says short []

-- ---- all records

-- the datagrams of the whole records in front, at most k of them
unfoldable pub datagrams_of : ℕ → List ℕ → List (List ℕ)
datagrams_of zero l = []
datagrams_of (suc k) l = if is_whole l then datagram_of l ∷ datagrams_of k (drop (record_size l) l) else []

-- what is left after those records
unfoldable pub rest_of : ℕ → List ℕ → List ℕ
rest_of zero l = l
rest_of (suc k) l = if is_whole l then rest_of k (drop (record_size l) l) else l

-- the most records that are read, 2^32 - 1
abbrev pub most_records : ℕ
most_records = 2 ^ 32 - 1

-- the datagrams of a capture's records
abbrev pub records_of : List ℕ → List (List ℕ)
records_of l = datagrams_of most_records l

-- document 01's "cut short": bytes are left after those records, and one more could be read
unfoldable pub is_cut : List ℕ → Bool
is_cut l = if ltb 0 (length (rest_of most_records l)) then ltb (length (records_of l)) most_records else false

-- ---- what is promised

-- the bytes of many records, one after the other
unfoldable pub records_bytes : List (List ℕ) → List ℕ
records_bytes [] = []
records_bytes (d ∷ ds) = record_bytes d ++ records_bytes ds

-- records that were read make the bytes: theirs, in order, and then what is left
unfoldable pub RecordsMakeTheBytes : Type 0
RecordsMakeTheBytes = (k : ℕ) (l : List ℕ) → AreBytes l → records_bytes (datagrams_of k l) ++ rest_of k l ≡ l

-- the largest length that two bytes hold
abbrev pub largest_length : ℕ
largest_length = largest_count

-- each datagram can stand in a record
unfoldable pub AllHeld : List (List ℕ) → Type 0
AllHeld ds = (d : List ℕ) → Memᴰ d ds → length d ≤ largest_length

-- records that were made are read, whatever follows that isn't a whole record
pub record RecordsReadBack : Type 0 where
  pub datagrams : (ds : List (List ℕ)) (rest : List ℕ) (k : ℕ) → AllHeld ds → is_whole rest ≡ false → length ds ≤ k
      → datagrams_of k (records_bytes ds ++ rest) ≡ ds
  pub left : (ds : List (List ℕ)) (rest : List ℕ) (k : ℕ) → AllHeld ds → is_whole rest ≡ false → length ds ≤ k
      → rest_of k (records_bytes ds ++ rest) ≡ rest

pub record RecordPromises : Type 0 where
  pub make_the_bytes : RecordsMakeTheBytes
  pub read_back : RecordsReadBack
  pub tells_apart : Injective record_words
