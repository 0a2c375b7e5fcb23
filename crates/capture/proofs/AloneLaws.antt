-- A report alone, without what is lent to its receiver: computed from the datagrams, whatever bytes are lent.
use mathlib.Core.Path.{◌≡◌, refl, ap, sym, ◌∙◌}
use mathlib.Core.List.{List, [], ◌∷◌}
use mathlib.Core.Bool.{Bool, true, false}
use Prim.Native.Nat.{ℕ, ◌+◌, ◌≤◌, ◌<◌}
use native.Mathlib.Omega.{arith}
use lib.ListN.{length, drop, replicate, length-replicate}
use lib.Dec.{ltb, eqb}
use borrow.Author.Tests.{eq-eqb, ltb-true}
use Rattle.std.specs.Prelude.{if◌then◌else◌}
use Rattle.receiver.specs.Receiver.{refused_receiver}
use Rattle.feed.specs.Session.{Datagram}
use Rattle.early_holding.specs.declared.holding.EarlyReceiver.{EarlyReceiver}
use Rattle.early_holding.specs.Holding.{slot_bytes, length_bytes, Lent, lent, early}
use Rattle.early_holding.proofs.HoldingLaws.{either}
use Rattle.early_receiver.specs.Early.{right_size}
use Rattle.early_receiver.proofs.AloneLaws.{after_alone, answer_alone, request_alone, after-alone, answer-alone, request-alone}
use Rattle.capture_settings.specs.Settings.{settings_of}
use Rattle.capture_records.specs.Records.{most_records, rest_of, records_of, is_cut}
use Rattle.capture_records.proofs.FrontLaws.{few}
use Rattle.capture_tally.specs.declared.report.Report.{Report}
use Rattle.capture_tally.specs.Tally.{parts_of}
use Rattle.capture_tally.specs.Report.{fresh_of, is_full, counted, cut_of, LentReport, lent_of, fresh_lent, step_of, over}
use Rattle.capture_tally.specs.Sums.{summed, summed_cut}
use Rattle.capture_tally.proofs.ReportLaws.{step-lengths, step-slots}
use Rattle.capture_tally.proofs.SumLaws.{sums}
use Rattle.capture.specs.declared.reading.Stage.TheVariants.{Done, Refused}
use Rattle.capture.specs.declared.reading.Reading.{Reading}
use Rattle.capture.specs.Reading.{reading, started_of, text_of}
use Rattle.capture.specs.Whole.{records_report, capture_of, capture_text, AnySlots}

-- ---- from datagram to datagram

unfoldable pub step_alone : Report → Datagram → Report
step_alone x d =
    if is_full x then x
    else counted x (after_alone x.receiver d) (parts_of (answer_alone x.receiver d) (request_alone x.receiver d))

unfoldable pub over_alone : Report → List Datagram → Report
over_alone x [] = x
over_alone x (d ∷ ds) = over_alone (step_alone x d) ds

step-alone : (x : LentReport) (d : Datagram) → right_size (lent_of x) ≡ true → (step_of x d).report ≡ step_alone x.report d
unfolding step_of step_alone
step-alone x d e =
    either (is_full x.report) _ (λ q. rw q)
    (λ q. rw (q, after-alone (lent_of x) d e, answer-alone (lent_of x) d e, request-alone (lent_of x) d e))

step-size : (x : LentReport) (d : Datagram) → right_size (lent_of x) ≡ true → right_size (lent_of (step_of x d)) ≡ true
step-size x d e = rw (step-lengths x d, step-slots x d) e

over-alone : (ds : List Datagram) (x : LentReport) → right_size (lent_of x) ≡ true → (over x ds).report ≡ over_alone x.report ds
unfolding over over_alone
over-alone [] x e = refl
over-alone (d ∷ ds) x e =
    over-alone ds (step_of x d) (step-size x d e) ∙ ap (λ (y : Report). over_alone y ds) (step-alone x d e)

-- ---- the records of a capture

unfoldable pub records_alone : EarlyReceiver → List ℕ → Report
records_alone r l = if is_cut l then cut_of (over_alone (fresh_of r) (records_of l)) else over_alone (fresh_of r) (records_of l)

cut-few : (l : List ℕ) → is_cut l ≡ true → length (records_of l) + 1 ≤ most_records
unfolding is_cut
cut-few l e = go (ltb 0 (length (rest_of most_records l))) e
  where
    go : (b : Bool) → (if b then ltb (length (records_of l)) most_records else false) ≡ true → length (records_of l) + 1 ≤ most_records
    go true q = let h : length (records_of l) < most_records = ltb-true _ _ q in omega arith
    go false q = let z : ◌≡◌ {A = ℕ} 0 1 = cc in absurd (omega arith)

module _ (s : Lent) (e : right_size s ≡ true) where
  sums-alone : (ds : List Datagram) → length ds ≤ most_records → (summed s ds).report ≡ over_alone (fresh_of s.receiver) ds
  sums-alone ds h = ap (λ (x : LentReport). x.report) (sym (sums.whole s ds h)) ∙ over-alone ds (fresh_lent s) e

  cut-alone : (ds : List Datagram) → length ds + 1 ≤ most_records → (summed_cut s ds).report ≡ cut_of (over_alone (fresh_of s.receiver) ds)
  cut-alone ds h = ap (λ (x : LentReport). x.report) (sym (sums.with_cut s ds h)) ∙ ap cut_of (over-alone ds (fresh_lent s) e)

  records-alone : (l : List ℕ) → (records_report s l).report ≡ records_alone s.receiver l
  unfolding records_report records_alone
  records-alone l =
      either (is_cut l) _ (λ q. rw q (cut-alone (records_of l) (cut-few l q))) (λ q. rw q (sums-alone (records_of l) (few most_records l)))

-- ---- a whole capture

unfoldable pub capture_alone : List ℕ → Reading
capture_alone l =
    if eqb (settings_of l).refusal.number 0
    then reading Done (records_alone (started_of (settings_of l).settings) (drop (settings_of l).size l))
    else reading Refused (fresh_of (early refused_receiver 0))

right-size : (r : EarlyReceiver) (lengths slots : List ℕ) → length lengths ≡ length_bytes → length slots ≡ slot_bytes → right_size (lent r lengths slots) ≡ true
right-size r lengths slots e f = rw (eq-eqb _ _ f, eq-eqb _ _ e)

pub capture-alone : (lengths slots l : List ℕ) → length lengths ≡ length_bytes → length slots ≡ slot_bytes → (capture_of lengths slots l).reading ≡ capture_alone l
unfolding capture_of capture_alone
capture-alone lengths slots l e f =
    either (eqb (settings_of l).refusal.number 0) _
    (λ q.
    let r = started_of (settings_of l).settings in
    rw q (ap (reading Done) (records-alone (lent r lengths slots) (right-size r lengths slots e f) (drop (settings_of l).size l))))
    (λ q. rw q)

pub text-alone : (l : List ℕ) → capture_text l ≡ text_of (capture_alone l)
unfolding capture_text
text-alone l =
    ap text_of (capture-alone (replicate length_bytes 0) (replicate slot_bytes 0) l (length-replicate {A = ℕ} length_bytes 0) (length-replicate {A = ℕ} slot_bytes 0))

pub any_slots : AnySlots
unfolding AnySlots
any_slots lengths slots l e f = ap text_of (capture-alone lengths slots l e f) ∙ sym (text-alone l)
