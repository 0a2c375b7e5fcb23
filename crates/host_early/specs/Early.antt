-- A receiver that keeps early messages as bytes: its code while it isn't ended, its session's name, its number, its asking
-- limit, the word of held numbers, and the lengths of the messages in its slots.
use Rattle.std.specs.Prelude.{ℕ, ◌+◌, ◌≤◌, List, ◌++◌, Bool, not, ◌≡◌, length, take, drop, replicate, ltb, if◌then◌else◌}
use Rattle.wire.specs.Bounds.{number_size, count_size}
use Rattle.wire.specs.Output.{put}
use Rattle.receiver.specs.Receiver.{receiver, refused_receiver}
use Rattle.early_holding.specs.declared.holding.EarlyReceiver.{EarlyReceiver}
use Rattle.early_holding.specs.Holding.{length_bytes, Lent, lent, early, next_of}
use Rattle.host_states.specs.Little.{little, little_bytes}
use Rattle.host_states.specs.States.{early_code, is_open, open_byte, Keeps, name_in, number_at, front_size, front_bytes}

abbrev pub limit_at : ℕ
limit_at = front_size

abbrev pub word_size : ℕ
word_size = 8

abbrev pub word_at : ℕ
word_at = limit_at + count_size

abbrev pub lengths_at : ℕ
lengths_at = word_at + word_size

abbrev pub early_size : ℕ
early_size = lengths_at + length_bytes

-- a receiver with its lengths
pub record Kept : Type 0 where
  pub receiver : EarlyReceiver
  pub lengths : List ℕ

abbrev pub kept : EarlyReceiver → List ℕ → Kept
kept r lengths = record { receiver = r; lengths = lengths }

-- what stands before the lengths
unfoldable pub head_bytes : EarlyReceiver → List ℕ
head_bytes r =
    front_bytes (open_byte early_code (not r.base.ended)) r.base.session (next_of r)
    ++ little_bytes count_size r.base.limit.0
    ++ little_bytes word_size r.held.0

unfoldable pub kept_bytes : Kept → List ℕ
kept_bytes k = head_bytes k.receiver ++ k.lengths

-- any bytes are one: too few are the receiver of a refused start, and what isn't open is ended
unfoldable pub early_in : List ℕ → EarlyReceiver
early_in l =
    if ltb (length l) early_size then early refused_receiver 0
    else early
    (receiver (name_in l) (little l number_at number_size) (little l limit_at count_size) (not (is_open early_code l)))
    (little l word_at word_size)

-- no lengths yet
abbrev pub no_lengths : List ℕ
no_lengths = replicate length_bytes 0

unfoldable pub lengths_in : List ℕ → List ℕ
lengths_in l = if ltb (length l) early_size then no_lengths else take length_bytes (drop lengths_at l)

abbrev pub kept_in : List ℕ → Kept
kept_in l = kept (early_in l) (lengths_in l)

-- the receiver in the bytes, with the slots ss lent beside them
abbrev pub lent_in : List ℕ → List ℕ → Lent
lent_in l ss = lent (early_in l) (lengths_in l) ss

abbrev pub KeepsKept : Bool → List ℕ → List ℕ → Kept → Type 0
KeepsKept lays l m k = Keeps lays l m early_size kept_in (kept_bytes k) k

-- ---- what `write` promises: the bytes before the lengths are laid where there is room for all, and read back

pub record LaysHead (l m : List ℕ) (r : EarlyReceiver) : Type 0 where
  pub laid : m ≡ if ltb (length l) early_size then l else put l 0 (head_bytes r)
  pub back : early_size ≤ length l → early_in m ≡ r
