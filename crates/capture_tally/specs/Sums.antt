-- The counts of a report are sums of the receiver's answers and requests over the records.
use Rattle.std.specs.Prelude.{ℕ, ◌+◌, ◌≤◌, List, [], ◌∷◌, ◌≡◌, length}
use Rattle.wire.specs.Words.{Words}
use Rattle.receiver.specs.Table.{AnswerKind}
use Rattle.feed.specs.Session.{Datagram}
use Rattle.feed.specs.Machine.{after, delivered}
use Rattle.early_holding.specs.Holding.{Lent}
use Rattle.early_receiver.specs.Early.{lent_after, early_answer, request_of}
use Rattle.early_condition_3.specs.Condition3.{keeper}
use Rattle.capture_records.specs.Records.{most_records}
use Rattle.capture_tally.specs.declared.tally.Tally.{Tally}
use Rattle.capture_tally.specs.Tally.{tally, answer_parts, asks_of}
use Rattle.capture_tally.specs.Report.{report, LentReport, lent_report, fresh_lent, cut_lent, over}

-- the receiver's answers to the datagrams, one after the other
unfoldable pub answers_of : Lent → List Datagram → List (Words AnswerKind)
answers_of s [] = []
answers_of s (d ∷ ds) = early_answer s d ∷ answers_of (lent_after s d) ds

-- and its requests, no words where there is none
unfoldable pub requests_of : Lent → List Datagram → List (List ℕ)
requests_of s [] = []
requests_of s (d ∷ ds) = request_of s d ∷ requests_of (lent_after s d) ds

-- the sum of one part over all answers
unfoldable pub sum_of : (Tally → ℕ) → List (Words AnswerKind) → ℕ
sum_of part [] = 0
sum_of part (w ∷ ws) = part (answer_parts w) + sum_of part ws

-- how many requests there are
unfoldable pub asked_in : List (List ℕ) → ℕ
asked_in [] = 0
asked_in (q ∷ qs) = asks_of q + asked_in qs

-- how many refusals there are
abbrev pub refusals_of : Lent → List Datagram → ℕ
refusals_of s ds = sum_of (λ t. t.refused) (answers_of s ds)

-- the report of the datagrams with so many records and refusals: the receiver after them, with what is lent to it, the
-- messages that condition 3 delivers, and the other sums
abbrev pub summed_with : Lent → List Datagram → ℕ → ℕ → LentReport
summed_with s ds records refusals =
    lent_report
    (report (after keeper s ds).receiver records
    (tally (length (delivered keeper s ds)) (sum_of (λ t. t.old) (answers_of s ds))
    (sum_of (λ t. t.quiet) (answers_of s ds)) (asked_in (requests_of s ds)) refusals))
    (after keeper s ds).lengths
    (after keeper s ds).slots

abbrev pub summed : Lent → List Datagram → LentReport
summed s ds = summed_with s ds (length ds) (refusals_of s ds)

-- and with a record after them that is cut short
abbrev pub summed_cut : Lent → List Datagram → LentReport
summed_cut s ds = summed_with s ds (length ds + 1) (refusals_of s ds + 1)

-- for every receiver, whatever is lent to it, and every list that isn't too long, with a cut record after it or
-- without: no sum is capped
pub record Sums : Type 0 where
  pub whole : (s : Lent) (ds : List Datagram) → length ds ≤ most_records → over (fresh_lent s) ds ≡ summed s ds
  pub with_cut : (s : Lent) (ds : List Datagram) → length ds + 1 ≤ most_records
      → cut_lent (over (fresh_lent s) ds) ≡ summed_cut s ds
  pub delivered_sum : (s : Lent) (ds : List Datagram)
      → length (delivered keeper s ds) ≡ sum_of (λ t. t.delivered) (answers_of s ds)
