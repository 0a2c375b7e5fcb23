-- The session's name stays one of ten bytes: settings alone give it one, and theirs has ten. The words of the edges stay as many.
use mathlib.Core.Path.{◌≡◌, refl, ap, ◌∙◌}
use mathlib.Core.List.{List, []}
use mathlib.Core.Bool.{Bool, true, false}
use Prim.Native.Nat.{ℕ, zero, suc, ◌-◌}
use lib.ListN.{length}
use Rattle.std.specs.Prelude.{if◌then◌else◌}
use Rattle.wire.proofs.Cases.{zero_or_not}
use Rattle.capture_settings.specs.Settings.{settings_of}
use Rattle.capture_settings.proofs.TextLaws.{settings-promises}
use Rattle.capture_records.specs.Records.{most_records, datagrams_of, rest_of}
use Rattle.capture_events.specs.Events.{Event, opened, fold, datagrams, At, settings, records, done, refused, Read, reads, read_to, read_records, read_on, waits_at, read_piece, end_at, read_last}
use Rattle.capture_events.specs.Next.{at_of}
use Rattle.capture_events.proofs.EventLaws.{fold-joins, settings-so, settings-bad, behind}
use Rattle.missing_records.specs.Records.{LentNotes}
use Rattle.missing_records.proofs.OverLaws.{session-stays}
use Rattle.missing_capture.specs.Reading.{LentReading, notes_in, noted_by, feed_of, finish_of}
use Rattle.missing_capture.proofs.ReadLaws.{fold-long, end-notes}
use Rattle.missing_capture.proofs.FoldLaws.{fold-datagrams}

abbrev name_of : LentNotes → List ℕ
name_of x = x.notes.session

-- records leave the name
to-events : (n : ℕ) (ds : List (List ℕ)) (rest l : List ℕ) → (read_to n ds rest l).events ≡ datagrams ds
unfolding read_to
to-events zero ds rest l = refl
to-events (suc n) ds rest l = refl

records-name : (x : LentNotes) (k : ℕ) (l : List ℕ) → name_of (fold noted_by x (read_records k l).events) ≡ name_of x
unfolding read_records
records-name x k l =
    let ds = datagrams_of k l in
    ap (λ (es : List Event). name_of (fold noted_by x es)) (to-events (k - length ds) ds (rest_of k l) l)
    ∙ ap name_of (fold-datagrams x ds)
    ∙ session-stays x ds

on-ten : (x : LentNotes) (a : At) (l : List ℕ) → length (name_of x) ≡ 10 → length (name_of (fold noted_by x (read_on a l).events)) ≡ 10
unfolding read_on fold noted_by
on-ten x settings l e =
    zero_or_not _ (settings_of l).refusal.number
    (λ z. rw (settings-so l z)
    (ap length (records-name (noted_by x (opened (settings_of l).settings)) most_records (behind l)) ∙ (settings-promises.reads_exactly.only l z).good.ten_bytes))
    (λ z. rw (settings-bad l z) e)
on-ten x (records k) l e = ap length (records-name x k l) ∙ e
on-ten x done l e = e
on-ten x refused l e = e

piece-ten : (x : LentNotes) (a : At) (l : List ℕ) → length (name_of x) ≡ 10 → length (name_of (fold noted_by x (read_piece a l).events)) ≡ 10
unfolding read_piece fold
piece-ten x a l e = go (waits_at a (length l))
  where
    go : (b : Bool) → length (name_of (fold noted_by x (if b then reads a [] 0 else read_on a l).events)) ≡ 10
    go true = e
    go false = on-ten x a l e

last-ten : (x : LentNotes) (a : At) (l : List ℕ) → length (name_of x) ≡ 10 → length (name_of (fold noted_by x (read_last a l).events)) ≡ 10
unfolding read_last
last-ten x a l e =
    let r : Read = read_on a l in
    let n : ℕ = length l - r.used in
    ap (λ (y : LentNotes). length (name_of y)) (fold-joins noted_by x r.events (end_at r.at n).events ∙ end-notes (fold noted_by x r.events) r.at n) ∙ on-ten x a l e

-- ---- a reading that is fed or finished

module _ (s : LentReading) (l : List ℕ) where
  pub feed-ten : length s.reading.notes.session ≡ 10 → length (feed_of s l).fed.reading.notes.session ≡ 10
  unfolding feed_of
  feed-ten e = piece-ten (notes_in s) (at_of s.reading.place) l e

  pub feed-long : length (feed_of s l).edges ≡ length s.edges
  unfolding feed_of
  feed-long = fold-long (notes_in s) (read_piece (at_of s.reading.place) l).events

  pub finish-ten : length s.reading.notes.session ≡ 10 → length (finish_of s l).reading.notes.session ≡ 10
  unfolding finish_of
  finish-ten e = last-ten (notes_in s) (at_of s.reading.place) l e
