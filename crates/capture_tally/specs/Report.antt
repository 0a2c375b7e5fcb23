-- The report, from record to record.
use Rattle.std.specs.Prelude.{ℕ, ◌+◌, List, [], ◌∷◌, Bool, eqb, if◌then◌else◌}
use Rattle.feed.specs.Session.{Datagram}
use Rattle.early_holding.specs.declared.holding.EarlyReceiver.{EarlyReceiver}
use Rattle.early_holding.specs.Holding.{Lent, lent}
use Rattle.early_receiver.specs.Early.{lent_after, early_answer, request_of}
use Rattle.capture_records.specs.Records.{most_records}
use Rattle.capture_tally.specs.declared.tally.Tally.{Tally}
use Rattle.capture_tally.specs.declared.report.Report.{Report}
use Rattle.capture_tally.specs.Tally.{tally, parts_of, cut_parts, plus_of}

abbrev pub report : EarlyReceiver → ℕ → Tally → Report
report r n t = record { receiver = r; records = n; tally = t }

-- no record yet
abbrev pub fresh_of : EarlyReceiver → Report
fresh_of r = report r 0 (tally 0 0 0 0 0)

-- it has the most records already
abbrev pub is_full : Report → Bool
is_full x = eqb x.records most_records

-- one more record and its parts: the receiver is then r
abbrev pub counted : Report → EarlyReceiver → Tally → Report
counted x r parts = report r (x.records + 1) (plus_of x.tally parts)

-- document 01's "cut short": one refusal, of which the receiver learns nothing; unchanged where it is full
unfoldable pub cut_of : Report → Report
cut_of x = if is_full x then x else counted x x.receiver cut_parts

-- ---- with the lengths and the slots that are lent to its receiver

pub record LentReport : Type 0 where
  pub report : Report
  pub lengths : List ℕ
  pub slots : List ℕ

abbrev pub lent_report : Report → List ℕ → List ℕ → LentReport
lent_report x lengths slots = record { report = x; lengths = lengths; slots = slots }

-- its receiver, with what is lent to it
abbrev pub lent_of : LentReport → Lent
lent_of x = lent x.report.receiver x.lengths x.slots

-- no record yet of this receiver
abbrev pub fresh_lent : Lent → LentReport
fresh_lent s = lent_report (fresh_of s.receiver) s.lengths s.slots

-- one more record and its parts: the receiver, the lengths and the slots are then those of s
abbrev pub counted_lent : LentReport → Lent → Tally → LentReport
counted_lent x s parts = lent_report (counted x.report s.receiver parts) s.lengths s.slots

-- a record with this datagram: what the receiver answers and what it asks for is counted; unchanged where it is full
unfoldable pub step_of : LentReport → Datagram → LentReport
step_of x d =
    if is_full x.report then x
    else counted_lent x (lent_after (lent_of x) d) (parts_of (early_answer (lent_of x) d) (request_of (lent_of x) d))

-- a record that is cut short changes nothing that is lent
abbrev pub cut_lent : LentReport → LentReport
cut_lent x = lent_report (cut_of x.report) x.lengths x.slots

-- a list of datagrams
unfoldable pub over : LentReport → List Datagram → LentReport
over x [] = x
over x (d ∷ ds) = over (step_of x d) ds
