-- A capture that comes in pieces gives the whole's events, and so does a program that turns over one lent buffer.
use Rattle.std.specs.Prelude.{ℕ, ◌+◌, ◌-◌, ◌≤◌, ◌<◌, List, [], ◌∷◌, ◌++◌, true, ◌≡◌, length, take, drop, eqb, if◌then◌else◌}
use Rattle.wire.specs.Bounds.{length_size}
use Rattle.wire.specs.Bytes.{joined, AreBytes}
use Rattle.wire.specs.Output.{put}
use Rattle.capture_records.specs.Records.{largest_length}
use Rattle.capture_events.specs.Events.{Event, At, settings, is_over_at, read_piece, End, ends, and_then, read_last, read_whole}

-- ---- pieces

-- each piece is read behind the bytes that were kept, and what isn't used is kept
unfoldable pub by_pieces : At → List ℕ → List (List ℕ) → End
by_pieces a l [] = read_last a l
by_pieces a l (p ∷ ps) =
    and_then (read_piece a (l ++ p)).events
    (by_pieces (read_piece a (l ++ p)).at (drop (read_piece a (l ++ p)).used (l ++ p)) ps)

-- for every cutting of the input into pieces, the events are the whole's, in order
unfoldable pub AnyCutting : Type 0
AnyCutting = (ps : List (List ℕ)) → by_pieces settings [] ps ≡ read_whole (joined ps)

-- ---- turns over a buffer

-- what stands in a buffer m where so many bytes were kept at its front, and so many came behind them
abbrev pub there : List ℕ → ℕ → ℕ → List ℕ
there m have got = take (have + got) m

-- a turn: what comes next, the events, the buffer, and how many bytes are kept at its front
pub record Turn : Type 0 where
  pub at : At
  pub events : List Event
  pub buffer : List ℕ
  pub have : ℕ

-- the bytes that a piece leaves
abbrev pub left : At → List ℕ → List ℕ
left a l = drop (read_piece a l).used l

-- what is there is read; what isn't used moves to the front. Where nothing came the input has ended: what was kept is
-- the last of it
unfoldable pub turn_of : At → List ℕ → ℕ → ℕ → Turn
turn_of a m have got =
    if eqb got 0
    then record { at = (read_last a (there m have 0)).at; events = (read_last a (there m have 0)).events; buffer = m; have = 0 }
    else record {
      at = (read_piece a (there m have got)).at;
      events = (read_piece a (there m have got)).events;
      buffer = put m 0 (left a (there m have got));
      have = length (left a (there m have got));
    }

-- the turn in which a piece is read behind the bytes that were kept
abbrev pub turn_with : At → List ℕ → ℕ → List ℕ → Turn
turn_with a m have p = turn_of a (put m have p) have (length p)

-- a program: it turns while something may follow, and once more at the end of the input
unfoldable pub by_turns : At → List ℕ → ℕ → List (List ℕ) → End
by_turns a m have [] = ends (turn_of a m have 0).at (turn_of a m have 0).events
by_turns a m have (p ∷ ps) =
    if is_over_at (turn_with a m have p).at then ends (turn_with a m have p).at (turn_with a m have p).events
    else and_then (turn_with a m have p).events
    (by_turns (turn_with a m have p).at (turn_with a m have p).buffer (turn_with a m have p).have ps)

-- each piece has a byte, and room behind what was kept: what a read into the rest of the buffer gives
unfoldable pub Fit : At → List ℕ → ℕ → List (List ℕ) → Type 0
Fit a m have [] = have ≤ length m
Fit a m have (p ∷ ps) =
    (0 < length p) × (have + length p ≤ length m)
    × Fit (turn_with a m have p).at (turn_with a m have p).buffer (turn_with a m have p).have ps

-- for every buffer and every cutting of the input into pieces that fit, the events are the whole's, in order
unfoldable pub AnyTurns : Type 0
AnyTurns = (m : List ℕ) (ps : List (List ℕ)) → Fit settings m 0 ps → by_turns settings m 0 ps ≡ read_whole (joined ps)

-- ---- what is kept between two pieces

-- the most bytes: all but the last byte of the longest record
abbrev pub most_kept : ℕ
most_kept = largest_length + length_size - 1

-- so there is always room behind them in a buffer of one byte more, and the memory needed is constant
unfoldable pub KeepsLittle : Type 0
KeepsLittle = (a : At) (m : List ℕ) (have got : ℕ) → AreBytes m → (turn_of a m have got).have ≤ most_kept

-- a turn at the end of the input is the last one
unfoldable pub EndIsOver : Type 0
EndIsOver = (a : At) (m : List ℕ) (have : ℕ) → is_over_at (turn_of a m have 0).at ≡ true

pub record TurnPromises : Type 0 where
  pub any_cutting : AnyCutting
  pub any_turns : AnyTurns
  pub keeps_little : KeepsLittle
  pub end_is_over : EndIsOver
