-- One more record, as the code has it.
use mathlib.Core.Path.{◌≡◌}
use mathlib.Core.List.{List}
use Prim.Native.Nat.{ℕ, ◌+◌}
use lib.ListN.{length}
use borrow.Author.Tests.{eq-eqb, ne_eqb}
use Rattle.feed.specs.Session.{Datagram}
use Rattle.early_holding.proofs.HoldingLaws.{either}
use Rattle.early_receiver.specs.declared.early.Taken.{Taken}
use Rattle.early_receiver.specs.Answers.{early_words, request_words}
use Rattle.early_receiver.specs.Early.{lent_after, early_answer, request_of, TakesEarly}
use Rattle.early_receiver.proofs.ByteLaws.{after-lengths, after-slots}
use Rattle.capture_records.specs.Records.{most_records}
use Rattle.capture_tally.specs.declared.tally.Tally.{Tally}
use Rattle.capture_tally.specs.declared.report.Report.{Report}
use Rattle.capture_tally.specs.Tally.{parts_of, cut_parts, plus_of}
use Rattle.capture_tally.specs.Report.{report, is_full, counted, cut_of, LentReport, lent_report, lent_of, counted_lent, step_of}

-- ---- a full report stays, and any other has one record more

pub step-full : (x : LentReport) (d : Datagram) → x.report.records ≡ most_records → x ≡ step_of x d
unfolding step_of
step-full x d h = simp (eq-eqb _ _ h)

pub step-more : (x : LentReport) (d : Datagram) → (x.report.records ≡ most_records → ⊥)
    → step_of x d ≡ counted_lent x (lent_after (lent_of x) d) (parts_of (early_answer (lent_of x) d) (request_of (lent_of x) d))
unfolding step_of
step-more x d h = simp (ne_eqb _ _ h)

-- what is lent keeps its size
pub step-lengths : (x : LentReport) (d : Datagram) → length (step_of x d).lengths ≡ length x.lengths
unfolding step_of
step-lengths x d = either (is_full x.report) _ (λ q. rw q) (λ q. rw q (after-lengths (lent_of x) d))

pub step-slots : (x : LentReport) (d : Datagram) → length (step_of x d).slots ≡ length x.slots
unfolding step_of
step-slots x d = either (is_full x.report) _ (λ q. rw q) (λ q. rw q (after-slots (lent_of x) d))

pub cut-full : (x : Report) → x.records ≡ most_records → x ≡ cut_of x
unfolding cut_of
cut-full x h = simp (eq-eqb _ _ h)

pub cut-more : (x : Report) → (x.records ≡ most_records → ⊥) → cut_of x ≡ counted x x.receiver cut_parts
unfolding cut_of
cut-more x h = simp (ne_eqb _ _ h)

-- ---- as the code of `step` and `cut` has them

module _ (x : Report) where
  pub step-most : (ls ss : List ℕ) (d : Datagram) → x.records ≡ most_records → lent_report x ls ss ≡ step_of (lent_report x ls ss) d
  step-most ls ss d h = step-full (lent_report x ls ss) d h

  pub step-counted : (ls ss ls₁ ss₁ : List ℕ) (d : Datagram) (k : Taken) (p t : Tally) → (x.records ≡ most_records → ⊥)
      → TakesEarly k ls₁ ss₁ (lent_of (lent_report x ls ss)) d → p ≡ parts_of (early_words k.answer) (request_words k.request) → t ≡ plus_of x.tally p
      → lent_report (report k.receiver (x.records + 1) t) ls₁ ss₁ ≡ step_of (lent_report x ls ss) d
  step-counted ls ss ls₁ ss₁ d k p t h y e f =
      rw (step-more (lent_report x ls ss) d h, ← y.leaves, ← y.answers, ← y.asks, f, e)

  pub cut-counted : (t : Tally) → (x.records ≡ most_records → ⊥) → t ≡ plus_of x.tally cut_parts → report x.receiver (x.records + 1) t ≡ cut_of x
  cut-counted t h e = rw (cut-more x h, e)
