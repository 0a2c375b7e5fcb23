-- What is noted is a fold over events: pieces and turns are those of the events.
use mathlib.Core.Path.{◌≡◌, refl, ap, sym, ◌∙◌}
use mathlib.Core.List.{List, [], ◌∷◌, ◌++◌}
use mathlib.Core.Bool.{Bool, true, false}
use Prim.Native.Nat.{ℕ}
use native.Mathlib.Omega.{arith}
use lib.ListN.{length, drop}
use Rattle.std.specs.Prelude.{if◌then◌else◌}
use Rattle.wire.specs.Output.{put}
use Rattle.capture_events.specs.declared.place.Place.{Place}
use Rattle.capture_events.specs.declared.place.Place.TheVariants.{Settings, Records, Done, Refused}
use Rattle.capture_events.specs.Events.{Event, datagrams, fold, At, is_over_at, read_on, waits_at, read_piece, End, ends, and_then, end_at, read_last}
use Rattle.capture_events.specs.Next.{at_of, place_at}
use Rattle.capture_events.specs.Turns.{Turn, turn_with}
use Rattle.capture_events.specs.Turns as Events
use Rattle.capture_events.proofs.EventLaws.{fold-joins, piece-used}
use Rattle.capture_events.proofs.TurnLaws.{little-piece}
use Rattle.missing_records.specs.Records.{LentNotes, take_of, over}
use Rattle.missing_capture.specs.Reading.{LentReading, reading_with, fed_reading, fed_with, notes_in, noted_by, feed_of, ended_by, finish_of}
use Rattle.missing_capture.specs.Turning.{LentTurning, turned_reading, turn_at, turned_of, buffer_of, turned_by, by_turns}
use Rattle.missing_capture.specs.Whole.{by_pieces, KeepsLittle, OverStays}
use Rattle.capture_events.proofs.NextLaws.{at_place}

pub fold-datagrams : (x : LentNotes) (ds : List (List ℕ)) → fold noted_by x (datagrams ds) ≡ over x ds
unfolding fold datagrams noted_by over
fold-datagrams x [] = refl
fold-datagrams x (d ∷ ds) = fold-datagrams (take_of x d) ds

-- the end of a fold that goes on
ended-then : (x : LentNotes) (es : List Event) (e : End) → ended_by (fold noted_by x es) e ≡ ended_by x (and_then es e)
ended-then x es e = ap (reading_with (place_at e.at)) (sym (fold-joins noted_by x es e.events))

-- ---- pieces

abbrev place_in : LentReading → At
place_in s = at_of s.reading.place

pub pieces-fold : (s : LentReading) (l : List ℕ) (ps : List (List ℕ)) → by_pieces s l ps ≡ ended_by (notes_in s) (Events.by_pieces (place_in s) l ps)
unfolding by_pieces Events.by_pieces feed_of finish_of
pieces-fold s l [] = refl
pieces-fold s l (p ∷ ps) =
    let r = read_piece (place_in s) (l ++ p) in
    pieces-fold (fed_reading (feed_of s (l ++ p))) (drop (feed_of s (l ++ p)).fed.used (l ++ p)) ps
    ∙ ap (λ (a : At). ended_by (fold noted_by (notes_in s) r.events) (Events.by_pieces a (drop r.used (l ++ p)) ps)) (at_place r.at)
    ∙ ended-then (notes_in s) r.events (Events.by_pieces r.at (drop r.used (l ++ p)) ps)

-- ---- turns

-- what comes next of a turning, and how much it keeps
abbrev at : LentTurning → At
at s = at_of s.turning.reading.place

abbrev have : LentTurning → ℕ
have s = s.turning.have

-- the turn that a piece gives
abbrev next : LentTurning → List ℕ → List ℕ → Turn
next s m p = turn_with (at s) m (have s) p

pub tells-turn : (s : LentTurning) (m : List ℕ) (got : ℕ) → at (turned_of s m got) ≡ (turn_at s.turning m got).at
unfolding turned_of
tells-turn s m got = at_place (turn_at s.turning m got).at

pub turns-fold : (s : LentTurning) (m : List ℕ) (ps : List (List ℕ)) → by_turns s m ps ≡ ended_by (notes_in (turned_reading s)) (Events.by_turns (at s) m (have s) ps)
unfolding by_turns Events.by_turns turned_of buffer_of
turns-fold s m [] = refl
turns-fold s m (p ∷ ps) = go (is_over_at (next s m p).at) refl (turns-fold (turned_by s m p) (next s m p).buffer ps)
  where
    go : (b : Bool) → is_over_at (next s m p).at ≡ b
        → by_turns (turned_by s m p) (next s m p).buffer ps ≡ ended_by (notes_in (turned_reading (turned_by s m p))) (Events.by_turns (at (turned_by s m p)) (next s m p).buffer (next s m p).have ps)
        → (if is_over_at (at_of (place_at (next s m p).at)) then turned_reading (turned_by s m p) else by_turns (turned_by s m p) (next s m p).buffer ps)
        ≡ ended_by (notes_in (turned_reading s)) (if is_over_at (next s m p).at then ends (next s m p).at (next s m p).events else and_then (next s m p).events (Events.by_turns (next s m p).at (next s m p).buffer (next s m p).have ps))
    go true e i = rw (at_place (next s m p).at, e)
    go false e i =
        rw (at_place (next s m p).at, e)
        (i
        ∙ ap (λ (a : At). ended_by (fold noted_by (notes_in (turned_reading s)) (next s m p).events) (Events.by_turns a (next s m p).buffer (next s m p).have ps)) (tells-turn s (put m (have s) p) (length p))
        ∙ ended-then (notes_in (turned_reading s)) (next s m p).events (Events.by_turns (next s m p).at (next s m p).buffer (next s m p).have ps))

-- ---- what is kept, and what is over

pub keeps_little : (s : LentReading) (l : List ℕ) → KeepsLittle s l
unfolding feed_of
keeps_little s l = record { used_within = piece-used (place_in s) l; little = little-piece (place_in s) l }

over-at : (p : Place) (x : LentNotes) (l : List ℕ) → is_over_at (at_of p) ≡ true
    → (feed_of (reading_with p x) l ≡ fed_with (reading_with p x) (length l)) × (finish_of (reading_with p x) l ≡ reading_with p x)
unfolding is_over_at feed_of finish_of at_of place_at waits_at read_on read_piece end_at read_last fold
over-at Settings x l e = let z : ◌≡◌ {A = ℕ} 0 1 = cc in absurd (omega arith)
over-at (Records k) x l e = let z : ◌≡◌ {A = ℕ} 0 1 = cc in absurd (omega arith)
over-at Done x l e = (refl, refl)
over-at Refused x l e = (refl, refl)

pub over_stays : OverStays
unfolding OverStays
over_stays s l e = over-at s.reading.place (notes_in s) l e
