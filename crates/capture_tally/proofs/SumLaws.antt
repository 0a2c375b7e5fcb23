-- The counts of a report are the sums of the receiver's answers and requests over its records, and no sum is capped: what is delivered
-- lies between the receiver's number and 2^64 - 1, and every other part is at most 1.
use mathlib.Core.Path.{◌≡◌, refl, ap, sym, ◌∙◌}
use mathlib.Core.List.{List, [], ◌∷◌}
use Prim.Native.Nat.{ℕ, ◌+◌, ◌-◌, ◌≤◌}
use native.Mathlib.Omega.{arith}
use native.Mathlib.Nat.{zero-add, add-zero}
use lib.ListN.{length, length-append}
use borrow.Author.Tests.{le-ltb, ne_eqb}
use Rattle.wire.specs.Bounds.{largest_number, up_to}
use Rattle.wire.specs.Words.{Words, Case, answer, refused, refuses}
use Rattle.wire.proofs.Words.{which-of}
use Rattle.wire.proofs.Cases.{zero_or_not}
use Rattle.moldudp64.specs.Header.{number_of, count_of}
use Rattle.receiver.specs.Table.{AnswerKind, deliver, old, quiet, ask, ended}
use Rattle.receiver.specs.Receiver.{table_row}
use Rattle.receiver.proofs.TableLaws.{row-answer}
use Rattle.feed.specs.Session.{Datagram}
use Rattle.feed.specs.Machine.{after, delivered}
use Rattle.early_word.specs.declared.Held.{Held}
use Rattle.early_holding.specs.Holding.{Lent, next_of, move_to}
use Rattle.early_receiver.specs.Early.{early_refusal, lent_after, request_of, answer_by, early_answer}
use Rattle.early_receiver.proofs.KeepingLaws.{move-rises}
use Rattle.early_messages.specs.Delivery.{delivered_count, delivery}
use Rattle.early_messages.proofs.ReachLaws.{opens, Moves, Step, moves, stays, step, moved_to}
use Rattle.early_messages.proofs.CountLaws.{few, reached}
use Rattle.early_condition_3.specs.Condition3.{keeper}
use Rattle.early_condition_3.proofs.PlaceLaws.{places-length}
use Rattle.capture_records.specs.Records.{most_records}
use Rattle.capture_tally.specs.declared.tally.Tally.{Tally}
use Rattle.capture_tally.specs.Tally.{tally, parts_in, answer_parts, asks_of, parts_of, cut_parts, plus_of}
use Rattle.capture_tally.specs.Report.{report, LentReport, lent_report, lent_of, fresh_lent, step_of, cut_lent, over}
use Rattle.capture_tally.specs.Sums.{answers_of, requests_of, sum_of, asked_in, summed, summed_cut, Sums}
use Rattle.capture_tally.proofs.ReportLaws.{step-more, cut-more}

-- ---- one answer

-- what it delivers, counted, and how far the receiver's number is from the largest before it and after it
record Delivers (w : Words AnswerKind) (many n next : ℕ) : Type 0 where
  all : (answer_parts w).delivered ≡ many
  room : (answer_parts w).delivered + (largest_number - next) ≤ largest_number - n

-- a deliver answer counts as far as the number moves, and any other counts nothing
by_answer : (w : Case AnswerKind) (n f after : ℕ) → (answer_parts (answer_by w n f after)).delivered ≤ after - n
unfolding answer_by parts_in
by_answer (answer deliver) n f after = omega arith
by_answer (answer old) n f after = omega arith
by_answer (answer quiet) n f after = omega arith
by_answer (answer ask) n f after = omega arith
by_answer (answer ended) n f after = omega arith
by_answer refused n f after = omega arith

refused_none : (k : ℕ) → (answer_parts (refuses k)).delivered ≡ 0
unfolding parts_in
refused_none k = refl

delivers_all : (n f after : ℕ) → after - n ≤ 65535 → (answer_parts (answer_by (answer deliver) n f after)).delivered ≡ after - n
unfolding answer_by parts_in
delivers_all n f after h = omega arith

-- no answer counts more than the number moves
counts-little : (s : Lent) (d : Datagram) → (answer_parts (early_answer s d)).delivered ≤ delivered_count s d
unfolding early_answer delivered_count
counts-little s d =
    zero_or_not _ (early_refusal s d) (λ e. rw e (by_answer (table_row s.receiver.base d).reply.which _ _ _))
    (λ z. rw (ne_eqb _ _ z) (omega (arith, refused_none (early_refusal s d))))

-- data that moves the number counts all of it
counts-moved : (s : Lent) (d : Datagram) → Moves s d → (answer_parts (early_answer s d)).delivered ≡ delivered_count s d
unfolding early_answer delivered_count
counts-moved s d g =
    let w = which-of (sym (row-answer s.receiver.base d (opens s d g.open-so).plain) ∙ g.answers) in
    rw (g.open-so, w) (delivers_all (next_of s.receiver) (number_of d) (next_of (lent_after s d).receiver) (moved-few s d))
  where
    moved-few : (s : Lent) (d : Datagram) → next_of (lent_after s d).receiver - next_of s.receiver ≤ 65535
    moved-few s d = few s d

-- and never moves it down
rises : (s : Lent) (d : Datagram) → Moves s d → next_of s.receiver ≤ next_of (lent_after s d).receiver
unfolding move_to
rises s d g =
    let n = next_of s.receiver in
    let word : Held = s.receiver.held in
    let h : n ≤ largest_number = omega (arith, g.ends, (reached s d g).fit) in
    rw (moved_to s d g) (move-rises (number_of d + count_of d - n) n n word.0 h)

delivers-so : (s : Lent) (d : Datagram) → Delivers (early_answer s d) (length (delivery s d)) (next_of s.receiver) (next_of (lent_after s d).receiver)
unfolding delivered_count
delivers-so s d = go (step s d)
  where
    go : Step s d → Delivers (early_answer s d) (length (delivery s d)) (next_of s.receiver) (next_of (lent_after s d).receiver)
    go (moves g) =
        let c = counts-moved s d g in
        record { all = c ∙ sym (places-length s d 0 (delivered_count s d)); room = omega (arith, rises s d g, (reached s d g).top) }
    go (stays g) =
        let c = counts-little s d in
        let p = places-length s d 0 (delivered_count s d) in
        record { all = omega (arith, g.number); room = omega (arith, g.number) }

-- every other part is at most 1
record Single (t : Tally) : Type 0 where
  old-one : t.old ≤ 1
  quiet_one : t.quiet ≤ 1
  refused-one : t.refused ≤ 1

single-in : (w : Case AnswerKind) (vs : List ℕ) → Single (parts_in w vs)
unfolding parts_in
single-in (answer deliver) vs = record { old-one = omega arith; quiet_one = omega arith; refused-one = omega arith }
single-in (answer old) vs = record { old-one = omega arith; quiet_one = omega arith; refused-one = omega arith }
single-in (answer quiet) vs = record { old-one = omega arith; quiet_one = omega arith; refused-one = omega arith }
single-in (answer ask) vs = record { old-one = omega arith; quiet_one = omega arith; refused-one = omega arith }
single-in (answer ended) vs = record { old-one = omega arith; quiet_one = omega arith; refused-one = omega arith }
single-in refused vs = record { old-one = omega arith; quiet_one = omega arith; refused-one = omega arith }

asks-one : (q : List ℕ) → asks_of q ≤ 1
unfolding asks_of
asks-one [] = omega arith
asks-one (n ∷ ns) = omega arith

-- ---- a list of datagrams

-- a part that is at most 1 sums to at most as many as there are
sum-few : (part : Tally → ℕ) → ((w : Words AnswerKind) → part (answer_parts w) ≤ 1) → (s : Lent) (ds : List Datagram) → sum_of part (answers_of s ds) ≤ length ds
unfolding sum_of answers_of
sum-few part one s [] = omega arith
sum-few part one s (d ∷ ds) = let i = sum-few part one (lent_after s d) ds in omega (arith, one (early_answer s d))

asked-few : (s : Lent) (ds : List Datagram) → asked_in (requests_of s ds) ≤ length ds
unfolding asked_in requests_of
asked-few s [] = omega arith
asked-few s (d ∷ ds) = let i = asked-few (lent_after s d) ds in omega (arith, asks-one (request_of s d))

module _ (s : Lent) (ds : List Datagram) where
  old-few : sum_of (λ t. t.old) (answers_of s ds) ≤ length ds
  old-few = sum-few (λ t. t.old) (λ w. (single-in w.which w.values).old-one) s ds

  quiet-few : sum_of (λ t. t.quiet) (answers_of s ds) ≤ length ds
  quiet-few = sum-few (λ t. t.quiet) (λ w. (single-in w.which w.values).quiet_one) s ds

  refused-few : sum_of (λ t. t.refused) (answers_of s ds) ≤ length ds
  refused-few = sum-few (λ t. t.refused) (λ w. (single-in w.which w.values).refused-one) s ds

-- what is delivered is the sum of what the answers deliver
delivered_sum : (s : Lent) (ds : List Datagram) → length (delivered keeper s ds) ≡ sum_of (λ t. t.delivered) (answers_of s ds)
unfolding delivered sum_of answers_of
delivered_sum s [] = refl
delivered_sum s (d ∷ ds) =
    let i = delivered_sum (lent_after s d) ds in
    let m = (delivers-so s d).all in
    omega (arith, length-append (delivery s d) (delivered keeper (lent_after s d) ds))

-- and lies between the receiver's number and the largest
delivered-room : (s : Lent) (ds : List Datagram) → sum_of (λ t. t.delivered) (answers_of s ds) ≤ largest_number - next_of s.receiver
unfolding sum_of answers_of
delivered-room s [] = omega arith
delivered-room s (d ∷ ds) = let i = delivered-room (lent_after s d) ds in omega (arith, (delivers-so s d).room)

-- ---- a report that goes on from another

up_to-fits : (a b : ℕ) → a + b ≤ largest_number → up_to a b ≡ a + b
unfolding up_to
up_to-fits a b h = simp (le-ltb _ _ h)

-- so many more records fit
record Roomy (x : LentReport) (n : ℕ) : Type 0 where
  records-fit : x.report.records + n ≤ most_records
  delivered-fit : x.report.tally.delivered + (largest_number - next_of x.report.receiver) ≤ largest_number
  old-fit : x.report.tally.old + n ≤ largest_number
  quiet-fit : x.report.tally.quiet + n ≤ largest_number
  asked-fit : x.report.tally.asked + n ≤ largest_number
  refused-fit : x.report.tally.refused + n ≤ largest_number

-- parts added without a cap
abbrev plainly : Tally → Tally → Tally
plainly x y = tally (x.delivered + y.delivered) (x.old + y.old) (x.quiet + y.quiet) (x.asked + y.asked) (x.refused + y.refused)

plus-plainly : (x y : Tally) → x.delivered + y.delivered ≤ largest_number → x.old + y.old ≤ largest_number → x.quiet + y.quiet ≤ largest_number
    → x.asked + y.asked ≤ largest_number → x.refused + y.refused ≤ largest_number → plus_of x y ≡ plainly x y
plus-plainly x y a b c d e = rw (up_to-fits _ _ a, up_to-fits _ _ b, up_to-fits _ _ c, up_to-fits _ _ d, up_to-fits _ _ e)

-- x with the receiver and what is lent to it of s, so many records and this tally
abbrev laid : Lent → ℕ → Tally → LentReport
laid s n t = lent_report (report s.receiver n t) s.lengths s.slots

-- the parts of one datagram
abbrev parts_at : LentReport → Datagram → Tally
parts_at x d = parts_of (early_answer (lent_of x) d) (request_of (lent_of x) d)

abbrev stepped : LentReport → Datagram → LentReport
stepped x d = laid (lent_after (lent_of x) d) (x.report.records + 1) (plainly x.report.tally (parts_at x d))

step-plainly : (x : LentReport) (d : Datagram) (n : ℕ) → Roomy x (n + 1) → step_of x d ≡ stepped x d
step-plainly x d n m =
    let w = early_answer (lent_of x) d in
    let k = (delivers-so (lent_of x) d).room in
    let s = single-in w.which w.values in
    let z : x.report.records ≡ most_records → ⊥ = λ (e : x.report.records ≡ most_records). omega (arith, m.records-fit) in
    step-more x d z
    ∙ ap (laid (lent_after (lent_of x) d) (x.report.records + 1))
    (plus-plainly x.report.tally (parts_at x d) (omega (arith, m.delivered-fit)) (omega (arith, m.old-fit, s.old-one))
    (omega (arith, m.quiet-fit, s.quiet_one)) (omega (arith, m.asked-fit, asks-one (request_of (lent_of x) d))) (omega (arith, m.refused-fit, s.refused-one)))

stepped-roomy : (x : LentReport) (d : Datagram) (n : ℕ) → Roomy x (n + 1) → Roomy (stepped x d) n
stepped-roomy x d n m =
    let w = early_answer (lent_of x) d in
    let k = (delivers-so (lent_of x) d).room in
    let s = single-in w.which w.values in
    record {
      records-fit = omega (arith, m.records-fit);
      delivered-fit = omega (arith, m.delivered-fit);
      old-fit = omega (arith, m.old-fit, s.old-one);
      quiet-fit = omega (arith, m.quiet-fit, s.quiet_one);
      asked-fit = omega (arith, m.asked-fit, asks-one (request_of (lent_of x) d));
      refused-fit = omega (arith, m.refused-fit, s.refused-one);
    }

-- the sums over a list, behind what a report has
abbrev sums_of : Lent → List Datagram → Tally
sums_of s ds =
    tally (sum_of (λ t. t.delivered) (answers_of s ds)) (sum_of (λ t. t.old) (answers_of s ds)) (sum_of (λ t. t.quiet) (answers_of s ds))
    (asked_in (requests_of s ds)) (sum_of (λ t. t.refused) (answers_of s ds))

abbrev added : LentReport → List Datagram → LentReport
added x ds = laid (after keeper (lent_of x) ds) (x.report.records + length ds) (plainly x.report.tally (sums_of (lent_of x) ds))

same-report : {s : Lent} {a b c d e f a₁ b₁ c₁ d₁ e₁ f₁ : ℕ} → a ≡ a₁ → b ≡ b₁ → c ≡ c₁ → d ≡ d₁ → e ≡ e₁ → f ≡ f₁
    → laid s a (tally b c d e f) ≡ laid s a₁ (tally b₁ c₁ d₁ e₁ f₁)
same-report p q r s t u = cc

added-cons : (x : LentReport) (d : Datagram) (ds : List Datagram) → added (stepped x d) ds ≡ added x (d ∷ ds)
unfolding after sum_of asked_in answers_of requests_of
added-cons x d ds = same-report (omega arith) (omega arith) (omega arith) (omega arith) (omega arith) (omega arith)

added_none : (x : LentReport) → x ≡ added x []
unfolding after sum_of asked_in answers_of requests_of
added_none x = simp add-zero

over-added : (x : LentReport) (ds : List Datagram) → Roomy x (length ds) → over x ds ≡ added x ds
unfolding over
over-added x [] m = added_none x
over-added x (d ∷ ds) m =
    let e : length (d ∷ ds) ≡ length ds + 1 = omega arith in
    let m₁ : Roomy x (length ds + 1) = rw e at m in
    let i = over-added (stepped x d) ds (stepped-roomy x d (length ds) m₁) in
    rw (step-plainly x d (length ds) m₁) (i ∙ added-cons x d ds)

-- ---- from a fresh report

fresh-roomy : (s : Lent) (n : ℕ) → n ≤ most_records → Roomy (fresh_lent s) n
fresh-roomy s n h =
    record {
      records-fit = omega arith;
      delivered-fit = omega arith;
      old-fit = omega arith;
      quiet-fit = omega arith;
      asked-fit = omega arith;
      refused-fit = omega arith;
    }

fresh_added : (s : Lent) (ds : List Datagram) → added (fresh_lent s) ds ≡ summed s ds
fresh_added s ds = rw (delivered_sum s ds) (simp zero-add)

whole-sums : (s : Lent) (ds : List Datagram) → length ds ≤ most_records → over (fresh_lent s) ds ≡ summed s ds
whole-sums s ds h = over-added (fresh_lent s) ds (fresh-roomy s (length ds) h) ∙ fresh_added s ds

cut_sums : (s : Lent) (ds : List Datagram) → length ds + 1 ≤ most_records → cut_lent (over (fresh_lent s) ds) ≡ summed_cut s ds
cut_sums s ds h =
    let z : length ds ≡ most_records → ⊥ = λ (e : length ds ≡ most_records). omega arith in
    let k = delivered-room s ds in
    let e = delivered_sum s ds in
    rw (whole-sums s ds (omega arith), cut-more (summed s ds).report z)
    (ap (laid (after keeper s ds) (length ds + 1))
    (plus-plainly (summed s ds).report.tally cut_parts (omega arith) (omega (arith, old-few s ds)) (omega (arith, quiet-few s ds))
    (omega (arith, asked-few s ds)) (omega (arith, refused-few s ds)) ∙ simp add-zero))

pub sums : Sums
sums = record { whole = whole-sums; with_cut = cut_sums; delivered_sum = delivered_sum }
