-- The receiver's name stays one of ten bytes: settings and accepted datagrams alone give it one, and theirs have ten. What is lent
-- keeps its size.
use mathlib.Core.Path.{◌≡◌, refl, ap, ◌∙◌}
use mathlib.Core.List.{List, [], ◌∷◌, ◌++◌}
use mathlib.Core.Bool.{Bool, true, false}
use Prim.Native.Nat.{ℕ, zero, suc, ◌+◌, ◌-◌}
use lib.ListN.{length}
use lib.Dec.{eqb}
use Rattle.std.specs.Prelude.{if◌then◌else◌}
use Rattle.wire.specs.Bounds.{blank}
use Rattle.wire.specs.Bytes.{same_bytes}
use Rattle.wire.specs.Parts.{first_bytes}
use Rattle.wire.proofs.Cases.{zero_or_not}
use Rattle.wire.proofs.PartLaws.{name-ten}
use Rattle.moldudp64.specs.Header.{number_of}
use Rattle.moldudp64.specs.Downstream.{DownstreamKind, data_packet, heartbeat, end_of_session, kind_of, messages_of}
use Rattle.receiver.specs.declared.receiver.Receiver.{Receiver}
use Rattle.receiver.specs.Receiver.{receiver_start_refusal, start_receiver, name_by}
use Rattle.feed.specs.Session.{Datagram}
use Rattle.feed.specs.Machine.{after}
use Rattle.early_holding.specs.Holding.{Lent, next_of, advance, take_one, take_all}
use Rattle.early_holding.proofs.HoldingLaws.{either}
use Rattle.early_receiver.specs.Early.{start_early, early_refusal, named_lent, end_at, take_kind, lent_after}
use Rattle.early_receiver.specs.Statements.{EarlyRefusalKeeps}
use Rattle.early_receiver.proofs.KeepingLaws.{one-base}
use Rattle.early_receiver.proofs.RequestLaws.{early-refusal-keeps, after_open}
use Rattle.early_condition_3.specs.Condition3.{keeper}
use Rattle.capture_settings.specs.declared.settings.Settings as declared
use Rattle.capture_settings.specs.Settings.{settings_of}
use Rattle.capture_settings.proofs.TextLaws.{settings-promises}
use Rattle.capture_records.specs.Records.{most_records, datagrams_of, rest_of}
use Rattle.capture_events.specs.Events.{Event, opened, bad_settings, datagram, cut_short, fold, datagrams, At, settings, records, done, refused}
use Rattle.capture_events.specs.Events.{read_to, read_records, read_settings, read_on, waits_at, read_piece, read_last}
use Rattle.capture_events.specs.Events as events
use Rattle.capture_events.proofs.EventLaws.{settings-so, settings-bad, behind}
use Rattle.capture_tally.specs.declared.report.Report.{Report}
use Rattle.capture_tally.specs.Report.{is_full, cut_of, LentReport, lent_of, step_of, cut_lent}
use Rattle.capture_tally.proofs.ReportLaws.{step-lengths, step-slots}
use Rattle.capture.specs.Reading.{LentReading, report_in, reported, at_of, feed_of, finish_of}

abbrev name_of : Lent → List ℕ
name_of s = s.receiver.base.session

one_name : (s : Lent) (j : ℕ) (m : List ℕ) → name_of (take_one s j m) ≡ name_of s
unfolding take_one advance
one_name s j m = either (eqb j (next_of s.receiver)) _ (λ q. rw q) (λ q. rw q (ap (λ (r : Receiver). r.session) (one-base s j m)))

all-name : (ms : List (List ℕ)) (s : Lent) (f : ℕ) → name_of (take_all s f ms) ≡ name_of s
unfolding take_all
all-name [] s f = refl
all-name (m ∷ ms) s f = all-name ms (take_one s f m) (f + 1) ∙ one_name s f m

kind-name : (s : Lent) (k : DownstreamKind) (l : List ℕ) → name_of (take_kind s k l) ≡ name_of s
unfolding take_kind end_at
kind-name s data_packet l = all-name (messages_of l) s (number_of l)
kind-name s heartbeat l = refl
kind-name s end_of_session l = either (eqb (number_of l) (next_of s.receiver)) _ (λ q. rw q) (λ q. rw q)

named-ten : (name l : List ℕ) → length name ≡ 10 → length (name_by name l) ≡ 10
unfolding name_by
named-ten name l n = go (same_bytes name blank)
  where
    go : (b : Bool) → length (if b then first_bytes 10 l else name) ≡ 10
    go true = name-ten l
    go false = n

after-ten : (s : Lent) (l : List ℕ) → length (name_of s) ≡ 10 → length (name_of (lent_after s l)) ≡ 10
unfolding EarlyRefusalKeeps
after-ten s l n =
    zero_or_not _ (early_refusal s l)
    (λ e. ap (λ (t : Lent). length (name_of t)) (after_open s l e) ∙ ap length (kind-name (named_lent s l) (kind_of l) l) ∙ named-ten (name_of s) l n)
    (λ z. ap (λ (t : Lent). length (name_of t)) (early-refusal-keeps s l z).0 ∙ n)

pub ten-after : (s : Lent) (ds : List Datagram) → length (name_of s) ≡ 10 → length (name_of (after keeper s ds)) ≡ 10
unfolding after
ten-after s [] e = e
ten-after s (d ∷ ds) e = ten-after (lent_after s d) ds (after-ten s d e)

-- ---- events

step-ten : (x : LentReport) (d : Datagram) → length (name_of (lent_of x)) ≡ 10 → length (name_of (lent_of (step_of x d))) ≡ 10
unfolding step_of
step-ten x d e = either (is_full x.report) _ (λ q. rw q e) (λ q. rw q (after-ten (lent_of x) d e))

cut-ten : (x : Report) → length x.receiver.base.session ≡ 10 → length (cut_of x).receiver.base.session ≡ 10
unfolding cut_of
cut-ten x e = either (is_full x) _ (λ q. rw q e) (λ q. rw q e)

started-ten : (name : List ℕ) (n limit : ℕ) → length name ≡ 10 → length (start_early name n limit).base.session ≡ 10
unfolding start_early start_receiver
started-ten name n limit e = either (eqb (receiver_start_refusal n limit) 0) _ (λ q. rw q e) (λ q. rw q refl)

-- events whose settings name a session of ten bytes
data Tens : List Event → Type 0 where
  no_more : Tens []
  by-settings : {s : declared.Settings} {es : List Event} → length s.session ≡ 10 → Tens es → Tens (opened s ∷ es)
  by-bad : {es : List Event} → Tens es → Tens (bad_settings ∷ es)
  by-datagram : {d : List ℕ} {es : List Event} → Tens es → Tens (datagram d ∷ es)
  by-cut : {es : List Event} → Tens es → Tens (cut_short ∷ es)

tens-datagrams : (ds : List (List ℕ)) → Tens (datagrams ds)
unfolding datagrams
tens-datagrams [] = no_more
tens-datagrams (d ∷ ds) = by-datagram (tens-datagrams ds)

tens-join : {es fs : List Event} → Tens es → Tens fs → Tens (es ++ fs)
tens-join no_more t = t
tens-join (by-settings e r) t = by-settings e (tens-join r t)
tens-join (by-bad r) t = by-bad (tens-join r t)
tens-join (by-datagram r) t = by-datagram (tens-join r t)
tens-join (by-cut r) t = by-cut (tens-join r t)

tens-to : (n : ℕ) (ds : List (List ℕ)) (rest l : List ℕ) → Tens (read_to n ds rest l).events
unfolding read_to
tens-to zero ds rest l = tens-datagrams ds
tens-to (suc n) ds rest l = tens-datagrams ds

tens-records : (k : ℕ) (l : List ℕ) → Tens (read_records k l).events
unfolding read_records
tens-records k l = tens-to (k - length (datagrams_of k l)) (datagrams_of k l) (rest_of k l) l

tens-settings : (l : List ℕ) → Tens (read_settings l).events
tens-settings l =
    zero_or_not _ (settings_of l).refusal.number
    (λ z. rw (settings-so l z) (by-settings (settings-promises.reads_exactly.only l z).good.ten_bytes (tens-records most_records (behind l))))
    (λ z. rw (settings-bad l z) (by-bad no_more))

tens-on : (a : At) (l : List ℕ) → Tens (read_on a l).events
unfolding read_on
tens-on settings l = tens-settings l
tens-on (records k) l = tens-records k l
tens-on done l = no_more
tens-on refused l = no_more

tens-piece : (a : At) (l : List ℕ) → Tens (read_piece a l).events
unfolding read_piece
tens-piece a l = either (waits_at a (length l)) _ (λ q. rw q no_more) (λ q. rw q (tens-on a l))

tens-end : (a : At) (n : ℕ) → Tens (events.end_at a n).events
unfolding events.end_at
tens-end settings n = no_more
tens-end (records k) n = either (eqb n 0) _ (λ q. rw q no_more) (λ q. rw q (by-cut no_more))
tens-end done n = no_more
tens-end refused n = no_more

tens-last : (a : At) (l : List ℕ) → Tens (read_last a l).events
unfolding read_last
tens-last a l = tens-join (tens-on a l) (tens-end (read_on a l).at (length l - (read_on a l).used))

fold-ten : (x : LentReport) {es : List Event} → Tens es → length (name_of (lent_of x)) ≡ 10 → length (name_of (lent_of (fold reported x es))) ≡ 10
unfolding fold reported
fold-ten x no_more e = e
fold-ten x (by-settings {s = s} t r) e = fold-ten _ r (started-ten s.session s.next.0 s.limit.0 t)
fold-ten x (by-bad r) e = fold-ten x r e
fold-ten x (by-datagram {d = d} r) e = fold-ten (step_of x d) r (step-ten x d e)
fold-ten x (by-cut r) e = fold-ten (cut_lent x) r (cut-ten x.report e)

-- what is lent keeps its size
fold-lengths : (x : LentReport) (es : List Event) → length (fold reported x es).lengths ≡ length x.lengths
unfolding fold reported
fold-lengths x [] = refl
fold-lengths x (opened s ∷ es) = fold-lengths _ es
fold-lengths x (bad_settings ∷ es) = fold-lengths x es
fold-lengths x (datagram d ∷ es) = fold-lengths (step_of x d) es ∙ step-lengths x d
fold-lengths x (cut_short ∷ es) = fold-lengths (cut_lent x) es

fold-slots : (x : LentReport) (es : List Event) → length (fold reported x es).slots ≡ length x.slots
unfolding fold reported
fold-slots x [] = refl
fold-slots x (opened s ∷ es) = fold-slots _ es
fold-slots x (bad_settings ∷ es) = fold-slots x es
fold-slots x (datagram d ∷ es) = fold-slots (step_of x d) es ∙ step-slots x d
fold-slots x (cut_short ∷ es) = fold-slots (cut_lent x) es

-- ---- a reading that is fed or finished

module _ (s : LentReading) (l : List ℕ) where
  pub feed-ten : length s.reading.report.receiver.base.session ≡ 10 → length (feed_of s l).fed.reading.report.receiver.base.session ≡ 10
  unfolding feed_of
  feed-ten e = fold-ten (report_in s) (tens-piece (at_of s.reading) l) e

  pub feed-lengths : length (feed_of s l).lengths ≡ length s.lengths
  unfolding feed_of
  feed-lengths = fold-lengths (report_in s) (read_piece (at_of s.reading) l).events

  pub feed-slots : length (feed_of s l).slots ≡ length s.slots
  unfolding feed_of
  feed-slots = fold-slots (report_in s) (read_piece (at_of s.reading) l).events

  pub finish-ten : length s.reading.report.receiver.base.session ≡ 10 → length (finish_of s l).reading.report.receiver.base.session ≡ 10
  unfolding finish_of
  finish-ten e = fold-ten (report_in s) (tens-last (at_of s.reading) l) e

  pub finish-lengths : length (finish_of s l).lengths ≡ length s.lengths
  unfolding finish_of
  finish-lengths = fold-lengths (report_in s) (read_last (at_of s.reading) l).events
