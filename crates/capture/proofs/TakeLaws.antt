-- The loop of `take_records`: what is still to be read makes of the report so far what all of it makes of the first.
use mathlib.Core.Path.{◌≡◌, refl, ap, sym, ◌∙◌}
use mathlib.Core.List.{List, [], ◌∷◌}
use Prim.Native.Nat.{ℕ, zero, suc, ◌+◌, ◌-◌, ◌≤◌, ◌<◌}
use native.Mathlib.Omega.{arith}
use native.Mathlib.Numerals.{sub-one}
use lib.ListN.{length, take, drop, length-drop}
use borrow.Author.Tests.{ne_eqb}
use Rattle.wire.proofs.Numbers.{part_to_end}
use Rattle.feed.specs.Session.{Datagram}
use Rattle.std.specs.Prelude.{Option, Some, None}
use Rattle.capture_records.specs.Records.{most_records, record_size, datagram_of, record_words, record_in_front, datagrams_of, rest_of}
use Rattle.capture_records.proofs.RecordLaws.{said-short}
use Rattle.capture_records.proofs.FrontLaws.{front-is, datagrams-none, datagrams-some, datagrams-zero, rest-none, rest_some, rest-zero}
use Rattle.capture_events.specs.Events.{datagrams, fold, read_to, read_records}
use Rattle.capture_tally.specs.declared.report.Report.{Report}
use Rattle.capture_tally.specs.Report.{LentReport, lent_report, step_of, over}
use Rattle.capture_tally.proofs.ReportLaws.{step-lengths, step-slots}
use Rattle.capture.specs.declared.reading.Stage.TheVariants.{Records, Done}
use Rattle.capture.specs.Reading.{reading, fed, reading_with, lent_fed, fed_with, reported, room_of, stage_of, fed_by}
use Rattle.capture.proofs.FoldLaws.{fold-datagrams}

-- x₀ and l₀ as they came, left records may still be read
pub record Going (x₀ : LentReport) (l₀ : List ℕ) (x : LentReport) (l : List ℕ) (left : ℕ) : Type 0 where
  pub reports : over x (datagrams_of left l) ≡ over x₀ (datagrams_of (room_of x₀.report) l₀)
  pub leaves : rest_of left l ≡ rest_of (room_of x₀.report) l₀
  pub counts : left - length (datagrams_of left l) ≡ room_of x₀.report - length (datagrams_of (room_of x₀.report) l₀)
  pub shorter : length l ≤ length l₀
  pub lengths : length x.lengths ≡ length x₀.lengths
  pub slots : length x.slots ≡ length x₀.slots

pub going_start : (x₀ : Report) (ls ss l₀ : List ℕ) → Going (lent_report x₀ ls ss) l₀ (lent_report x₀ ls ss) l₀ (most_records - x₀.records)
going_start x₀ ls ss l₀ = record { reports = refl; leaves = refl; counts = refl; shorter = omega arith; lengths = refl; slots = refl }

over-cons : (x : LentReport) (d : Datagram) (ds : List Datagram) → over x (d ∷ ds) ≡ over (step_of x d) ds
unfolding over
over-cons x d ds = refl

over_none : (x : LentReport) → over x [] ≡ x
unfolding over
over_none x = refl

pub going_step : {x₀ : LentReport} {l₀ : List ℕ} {x : Report} {l ls ss ls₁ ss₁ : List ℕ} {left : ℕ} (p : Option ℕ) (k : ℕ) (y : Report)
    → Going x₀ l₀ (lent_report x ls ss) l left → 0 < left
    → record_words p ≡ record_in_front l → p ≡ Some k → lent_report y ls₁ ss₁ ≡ step_of (lent_report x ls ss) (take (k - 2) (drop 2 l))
    → Going x₀ l₀ (lent_report y ls₁ ss₁) (take (length l - k) (drop k l)) (left - 1)
going_step {left = zero} p k y g h e f s = absurd (omega arith)
going_step {x₀} {l₀} {x} {l} {ls} {ss} {ls₁} {ss₁} {left = suc n} p k y g h e f s =
    let i = front-is l p k e f in
    let d = datagrams-some n l i.all in
    let r = rest_some n l i.all in
    let x₁ = lent_report x ls ss in
    let t : lent_report y ls₁ ss₁ ≡ step_of x₁ (datagram_of l) = s ∙ ap (λ (j : ℕ). step_of x₁ (take (j - 2) (drop 2 l))) i.size in
    let c : suc n - length (datagram_of l ∷ datagrams_of n (drop (record_size l) l)) ≡ n - length (datagrams_of n (drop (record_size l) l)) = omega arith in
    rw (part_to_end k l, sub-one, t)
    (record {
      reports = rw i.size (sym (over-cons x₁ (datagram_of l) (datagrams_of n (drop (record_size l) l))) ∙ ap (over x₁) (sym d) ∙ g.reports);
      leaves = rw i.size (sym r ∙ g.leaves);
      counts = rw i.size (sym c ∙ ap (λ (ds : List Datagram). suc n - length ds) (sym d) ∙ g.counts);
      shorter = omega (arith, length-drop k l, g.shorter);
      lengths = step-lengths x₁ (datagram_of l) ∙ g.lengths;
      slots = step-slots x₁ (datagram_of l) ∙ g.slots;
    })

-- a record more leaves one fewer that may be read
step-records : (x : LentReport) (d : Datagram) → x.report.records < most_records → (step_of x d).report.records ≡ x.report.records + 1
unfolding step_of
step-records x d h = let z : x.report.records ≡ most_records → ⊥ = λ e. omega arith in rw (ne_eqb _ _ z)

module _ {x₀ : LentReport} {l₀ : List ℕ} {x : Report} {l ls ss ls₁ ss₁ : List ℕ} (p : Option ℕ) (k : ℕ) (y : Report)
    (g : Going x₀ l₀ (lent_report x ls ss) l (most_records - x.records)) (h : x.records < most_records)
    (e : record_words p ≡ record_in_front l) (f : p ≡ Some k)
    (s : lent_report y ls₁ ss₁ ≡ step_of (lent_report x ls ss) (take (k - 2) (drop 2 l))) where
  one-more : y.records ≡ x.records + 1
  one-more = ap (λ (z : LentReport). z.report.records) s ∙ step-records (lent_report x ls ss) (take (k - 2) (drop 2 l)) h

  pub going-next : Going x₀ l₀ (lent_report y ls₁ ss₁) (take (length l - k) (drop k l)) (most_records - y.records)
  going-next =
      let m : most_records - x.records - 1 ≡ most_records - y.records = let n = one-more in omega arith in
      rw (← m) (going_step p k y g (omega arith) e f s)

  pub going-fewer : most_records - y.records < most_records - x.records
  going-fewer = let n = one-more in omega arith

-- the loop ends where the record in front is short, or none may be read any more
module _ (x₀ : LentReport) (l₀ : List ℕ) (x : LentReport) (l : List ℕ) (left : ℕ) (g : Going x₀ l₀ x l left) (d : datagrams_of left l ≡ []) (r : rest_of left l ≡ l) where
  abbrev most : ℕ
  most = room_of x₀.report

  report-so : x ≡ fold reported x₀ (datagrams (datagrams_of most l₀))
  report-so = sym (ap (over x) d ∙ over_none x) ∙ g.reports ∙ sym (fold-datagrams x₀ (datagrams_of most l₀))

  rest-so : l ≡ rest_of most l₀
  rest-so = sym r ∙ g.leaves

  count-so : most - length (datagrams_of most l₀) ≡ left
  count-so = let n : left - length (datagrams_of left l) ≡ left = rw d (omega arith) in sym g.counts ∙ n

  read-so : fed_by x₀ (read_records most l₀) ≡ fed_by x₀ (read_to left (datagrams_of most l₀) (rest_of most l₀) l₀)
  unfolding read_records
  read-so = ap (λ (n : ℕ). fed_by x₀ (read_to n (datagrams_of most l₀) (rest_of most l₀) l₀)) count-so

to-short : (x₀ x : LentReport) (n : ℕ) (ds : List Datagram) (rest l l₀ : List ℕ) → x ≡ fold reported x₀ (datagrams ds) → l ≡ rest
    → fed_with (reading_with Records x) (length l₀ - length l) ≡ fed_by x₀ (read_to (suc n) ds rest l₀)
unfolding read_to stage_of
to-short x₀ x n ds rest l l₀ e f = rw (e, f)

to-most : (x₀ x : LentReport) (ds : List Datagram) (rest l₀ : List ℕ) → x ≡ fold reported x₀ (datagrams ds)
    → fed_with (reading_with Done x) (length l₀) ≡ fed_by x₀ (read_to zero ds rest l₀)
unfolding read_to stage_of
to-most x₀ x ds rest l₀ e = rw e

-- ---- as the loop has them: x₀ with what was lent at first, x with what is lent now

module _ {x₀ : Report} {ls₀ ss₀ l₀ : List ℕ} {x : Report} {ls ss l : List ℕ} where
  pub going-stop : {left : ℕ} (p : Option ℕ) → Going (lent_report x₀ ls₀ ss₀) l₀ (lent_report x ls ss) l left → 0 < left
      → record_words p ≡ record_in_front l → p ≡ None
      → lent_fed (fed (reading Records x) (length l₀ - length l)) ls ss ≡ fed_by (lent_report x₀ ls₀ ss₀) (read_records (room_of x₀) l₀)
  going-stop {left = zero} p g h e f = absurd (omega arith)
  going-stop {left = suc n} p g h e f =
      let w = said-short l (rw f at e) in
      let d = datagrams-none n l w in
      let r = rest-none n l w in
      let k = room_of x₀ in
      let first = lent_report x₀ ls₀ ss₀ in
      let so_far = lent_report x ls ss in
      to-short first so_far n (datagrams_of k l₀) (rest_of k l₀) l l₀ (report-so first l₀ so_far l (suc n) g d r) (rest-so first l₀ so_far l (suc n) g d r)
      ∙ sym (read-so first l₀ so_far l (suc n) g d r)

  pub going-most : {left : ℕ} → Going (lent_report x₀ ls₀ ss₀) l₀ (lent_report x ls ss) l left → left ≤ 0
      → lent_fed (fed (reading Done x) (length l₀)) ls ss ≡ fed_by (lent_report x₀ ls₀ ss₀) (read_records (room_of x₀) l₀)
  going-most {left = zero} g h =
      let d = datagrams-zero l in
      let r = rest-zero l in
      let k = room_of x₀ in
      let first = lent_report x₀ ls₀ ss₀ in
      let so_far = lent_report x ls ss in
      to-most first so_far (datagrams_of k l₀) (rest_of k l₀) l₀ (report-so first l₀ so_far l 0 g d r) ∙ sym (read-so first l₀ so_far l 0 g d r)
  going-most {left = suc n} g h = absurd (omega arith)

  module _ {left : ℕ} (g : Going (lent_report x₀ ls₀ ss₀) l₀ (lent_report x ls ss) l left) where
    pub going-shorter : length l ≤ length l₀
    going-shorter = g.shorter

    pub going-lengths : length ls ≡ length ls₀
    going-lengths = g.lengths

    pub going-slots : length ss ≡ length ss₀
    going-slots = g.slots
