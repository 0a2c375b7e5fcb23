-- The report as a fold over events: what comes next is told by the reading, and pieces and turns are those of the
-- events.
use mathlib.Core.Path.{◌≡◌, refl, ap, sym, ◌∙◌}
use mathlib.Core.List.{List, [], ◌∷◌, ◌++◌}
use mathlib.Core.Bool.{Bool, true, false}
use Prim.Native.Nat.{ℕ, zero, suc, ◌+◌, ◌-◌, ◌≤◌, ◌<◌}
use native.Mathlib.Omega.{arith}
use lib.ListN.{length, drop}
use lib.Dec.{leb}
use borrow.Author.Tests.{leb-true, leb-false}
use Rattle.std.specs.Prelude.{if◌then◌else◌}
use Rattle.wire.specs.Output.{put}
use Rattle.wire.proofs.Cases.{zero_or_not}
use Rattle.feed.specs.Session.{Datagram}
use Rattle.capture_settings.specs.Settings.{settings_of}
use Rattle.capture_records.specs.Records.{most_records, datagrams_of, rest_of}
use Rattle.capture_records.proofs.FrontLaws.{few, datagrams-zero}
use Rattle.capture_events.specs.Events.{Event, datagrams, fold, At, settings, records, done, refused, is_over_at, Read, reads, read_to, read_records, read_settings, read_on, waits_at, read_piece, End, ends, and_then, read_last}
use Rattle.capture_events.specs.Turns.{there, Turn, turn_with}
use Rattle.capture_events.specs.Turns as Events
use Rattle.capture_events.proofs.EventLaws.{fold-joins, settings-so, settings-bad, behind}
use Rattle.capture_events.proofs.TurnLaws.{turn_last, turn-reads, last-over}
use Rattle.capture_tally.specs.declared.report.Report.{Report}
use Rattle.capture_tally.specs.Report.{fresh_of, LentReport, lent_report, step_of, over}
use Rattle.capture_tally.proofs.ReportLaws.{step-more}
use Rattle.capture.specs.declared.reading.Stage.{Stage}
use Rattle.capture.specs.declared.reading.Stage.TheVariants.{Settings, Records, Done, Refused}
use Rattle.capture.specs.Reading.{LentReading, reading_with, report_in, fed_reading, started_of, reported, room_of, at_stage, at_of, stage_of, is_over, reading_after, feed_of, ended_by, finish_of}
use Rattle.capture.specs.Turning.{LentTurning, turned_reading, turn_at, turned_of, buffer_of, turned_by, by_turns}
use Rattle.capture.specs.Whole.{by_pieces}

-- ---- stages

pub stage_at : (g : Stage) (k : ℕ) → stage_of (at_stage g k) ≡ g
unfolding stage_of at_stage
stage_at Settings k = refl
stage_at Records k = refl
stage_at Done k = refl
stage_at Refused k = refl

pub over-stage : (a : At) → is_over (stage_of a) ≡ is_over_at a
unfolding is_over stage_of is_over_at
over-stage settings = refl
over-stage (records k) = refl
over-stage done = refl
over-stage refused = refl

-- ---- datagrams

pub fold-datagrams : (x : LentReport) (ds : List Datagram) → fold reported x (datagrams ds) ≡ over x ds
unfolding fold datagrams reported over
fold-datagrams x [] = refl
fold-datagrams x (d ∷ ds) = fold-datagrams (step_of x d) ds

step-records : (x : LentReport) (d : Datagram) → x.report.records < most_records → (step_of x d).report.records ≡ x.report.records + 1
step-records x d h =
    let z : x.report.records ≡ most_records → ⊥ = λ (e : x.report.records ≡ most_records). omega arith in
    ap (λ (y : LentReport). y.report.records) (step-more x d z)

over-records : (x : LentReport) (ds : List Datagram) → x.report.records + length ds ≤ most_records → (over x ds).report.records ≡ x.report.records + length ds
unfolding over
over-records x [] h = omega arith
over-records x (d ∷ ds) h =
    let e = step-records x d (omega arith) in
    let i = over-records (step_of x d) ds (omega arith) in
    omega arith

over_none : (x : LentReport) → over x [] ≡ x
unfolding over
over_none x = refl

-- how many more records a report takes after those in l
room-left : (x : LentReport) (l : List ℕ)
    → room_of (over x (datagrams_of (room_of x.report) l)).report ≡ room_of x.report - length (datagrams_of (room_of x.report) l)
room-left x l = go (leb x.report.records most_records) refl
  where
    go : (b : Bool) → leb x.report.records most_records ≡ b
        → room_of (over x (datagrams_of (room_of x.report) l)).report ≡ room_of x.report - length (datagrams_of (room_of x.report) l)
    go true e =
        let h : x.report.records ≤ most_records = leb-true _ _ e in
        let f = few (room_of x.report) l in
        let g = over-records x (datagrams_of (room_of x.report) l) (omega arith) in
        omega arith
    go false e =
        let h : most_records < x.report.records = leb-false _ _ e in
        let z : most_records - x.report.records ≡ 0 = omega arith in
        let g : over x (datagrams_of (room_of x.report) l) ≡ x = rw (z, datagrams-zero l) (over_none x) in
        let n : (over x (datagrams_of (room_of x.report) l)).report.records ≡ x.report.records = ap (λ (y : LentReport). y.report.records) g in
        omega arith

-- ---- what comes next is told by the reading

-- the reading of a report after what was read tells what comes next
unfoldable pub Tells : LentReport → Read → Type 0
Tells x r = at_of (reading_after x r.at r.events).reading ≡ r.at

tells-to : (x : LentReport) (n : ℕ) (ds : List Datagram) (rest l : List ℕ) → room_of (over x ds).report ≡ n → Tells x (read_to n ds rest l)
unfolding Tells read_to stage_of at_stage
tells-to x zero ds rest l e = refl
tells-to x (suc n) ds rest l e = rw (fold-datagrams x ds) (ap records e)

tells-records : (x : LentReport) (l : List ℕ) → Tells x (read_records (room_of x.report) l)
unfolding read_records
tells-records x l =
    let k = room_of x.report in
    tells-to x (k - length (datagrams_of k l)) (datagrams_of k l) (rest_of k l) l (room-left x l)

tells-settings : (x : LentReport) (l : List ℕ) → Tells x (read_settings l)
unfolding Tells fold reported stage_of at_stage
tells-settings x l =
    zero_or_not _ (settings_of l).refusal.number
    (λ z. rw (settings-so l z) (tells-records (lent_report (fresh_of (started_of (settings_of l).settings)) x.lengths x.slots) (behind l)))
    (λ z. rw (settings-bad l z))

tells-on : (g : Stage) (x : LentReport) (l : List ℕ) → Tells x (read_on (at_stage g (room_of x.report)) l)
unfolding Tells read_on at_stage stage_of
tells-on Settings x l = tells-settings x l
tells-on Records x l = tells-records x l
tells-on Done x l = refl
tells-on Refused x l = refl

-- while it waits, as before
tells-wait : (g : Stage) (x : Report) → at_stage (stage_of (at_stage g (room_of x))) (room_of x) ≡ at_stage g (room_of x)
tells-wait g x = rw (stage_at g (room_of x))

pub tells : (s : LentReading) (l : List ℕ) → Tells (report_in s) (read_piece (at_of s.reading) l)
unfolding Tells read_piece fold
tells s l = go (waits_at (at_of s.reading) (length l)) refl
  where
    go : (b : Bool) → waits_at (at_of s.reading) (length l) ≡ b
        → Tells (report_in s) (if waits_at (at_of s.reading) (length l) then reads (at_of s.reading) [] 0 else read_on (at_of s.reading) l)
    go true e = rw e (tells-wait s.reading.stage s.reading.report)
    go false e = rw e (tells-on s.reading.stage (report_in s) l)

-- what is over, however many records may still be read
over-tells : (a : At) (k : ℕ) → is_over_at a ≡ true → at_stage (stage_of a) k ≡ a
unfolding is_over_at stage_of at_stage
over-tells settings k e = let z : ◌≡◌ {A = ℕ} 0 1 = cc in absurd (omega arith)
over-tells (records n) k e = let z : ◌≡◌ {A = ℕ} 0 1 = cc in absurd (omega arith)
over-tells done k e = refl
over-tells refused k e = refl

-- ---- pieces

-- the end of a fold that goes on
ended-then : (x : LentReport) (es : List Event) (e : End) → ended_by (fold reported x es) e ≡ ended_by x (and_then es e)
ended-then x es e = ap (reading_with (stage_of e.at)) (sym (fold-joins reported x es e.events))

pub pieces-fold : (s : LentReading) (l : List ℕ) (ps : List (List ℕ)) → by_pieces s l ps ≡ ended_by (report_in s) (Events.by_pieces (at_of s.reading) l ps)
unfolding by_pieces Events.by_pieces feed_of finish_of Tells
pieces-fold s l [] = refl
pieces-fold s l (p ∷ ps) =
    let r = read_piece (at_of s.reading) (l ++ p) in
    pieces-fold (fed_reading (feed_of s (l ++ p))) (drop (feed_of s (l ++ p)).fed.used (l ++ p)) ps
    ∙ ap (λ (a : At). ended_by (fold reported (report_in s) r.events) (Events.by_pieces a (drop r.used (l ++ p)) ps)) (tells s (l ++ p))
    ∙ ended-then (report_in s) r.events (Events.by_pieces r.at (drop r.used (l ++ p)) ps)

-- ---- turns

-- what comes next of a turning
abbrev at : LentTurning → At
at s = at_of s.turning.reading

abbrev have : LentTurning → ℕ
have s = s.turning.have

pub tells-turn : (s : LentTurning) (m : List ℕ) (got : ℕ) → at (turned_of s m got) ≡ (turn_at s.turning m got).at
unfolding turned_of Tells
tells-turn s m got =
    zero_or_not _ got
    (λ e. rw (turn_last (at s) m (have s) got e) (over-tells (read_last (at s) (there m (have s) 0)).at _ (last-over (at s) (there m (have s) 0))))
    (λ z. rw (turn-reads (at s) m (have s) got z) (tells (turned_reading s) (there m (have s) got)))

-- the turn that a piece gives
abbrev next : LentTurning → List ℕ → List ℕ → Turn
next s m p = turn_with (at s) m (have s) p

pub turns-fold : (s : LentTurning) (m : List ℕ) (ps : List (List ℕ)) → by_turns s m ps ≡ ended_by (report_in (turned_reading s)) (Events.by_turns (at s) m (have s) ps)
unfolding by_turns Events.by_turns turned_of buffer_of
turns-fold s m [] = refl
turns-fold s m (p ∷ ps) = go (is_over_at (next s m p).at) refl (turns-fold (turned_by s m p) (next s m p).buffer ps)
  where
    go : (b : Bool) → is_over_at (next s m p).at ≡ b
        → by_turns (turned_by s m p) (next s m p).buffer ps ≡ ended_by (report_in (turned_reading (turned_by s m p))) (Events.by_turns (at (turned_by s m p)) (next s m p).buffer (next s m p).have ps)
        → (if is_over (stage_of (next s m p).at) then turned_reading (turned_by s m p) else by_turns (turned_by s m p) (next s m p).buffer ps)
        ≡ ended_by (report_in (turned_reading s)) (if is_over_at (next s m p).at then ends (next s m p).at (next s m p).events else and_then (next s m p).events (Events.by_turns (next s m p).at (next s m p).buffer (next s m p).have ps))
    go true e i = rw (over-stage (next s m p).at, e)
    go false e i =
        rw (over-stage (next s m p).at, e)
        (i
        ∙ ap (λ (a : At). ended_by (fold reported (report_in (turned_reading s)) (next s m p).events) (Events.by_turns a (next s m p).buffer (next s m p).have ps)) (tells-turn s (put m (have s) p) (length p))
        ∙ ended-then (report_in (turned_reading s)) (next s m p).events (Events.by_turns (next s m p).at (next s m p).buffer (next s m p).have ps))
