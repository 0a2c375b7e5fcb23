-- A reading by its stage, as the code has it.
use mathlib.Core.Path.{◌≡◌, refl, ap, sym, ◌∙◌}
use mathlib.Core.List.{List}
use mathlib.Core.Bool.{Bool, true, false}
use mathlib.Core.Logic.{◌⊎◌, inl, inr}
use Rattle.std.specs.Prelude.{Result, Ok, Err}
use Rattle.wire.specs.declared.refusal.Refusal.{Refusal}
use Prim.Native.Nat.{ℕ, ◌+◌, ◌*◌, ◌-◌, ◌^◌, ◌≤◌, ◌<◌}
use native.Mathlib.Omega.{arith}
use lib.ListN.{length, take, drop, length-drop}
use lib.Dec.{ltb}
use mir.Val.{Fits}
use mir.Syntax.{w64}
use borrow.Author.Tests.{eq-eqb, ne_eqb}
use Rattle.wire.specs.Bounds.{blank}
use Rattle.wire.specs.Output.{Writes}
use Rattle.wire.specs.Output.{Written}
use Rattle.wire.proofs.Numbers.{part_to_end}
use Rattle.wire.proofs.Cases.{zero_or_not}
use Rattle.receiver.specs.Receiver.{receiver_start_refusal, start_receiver}
use Rattle.early_receiver.specs.Early.{start_early}
use Rattle.early_condition_3.specs.declared.Started.{Started}
use Rattle.capture_settings.specs.declared.settings.Settings as declared
use Rattle.capture_settings.specs.declared.settings.Opened.{Opened}
use Rattle.capture_settings.specs.Settings.{opened_of, settings_of}
use Rattle.capture_settings.proofs.OpenedLaws.{ReadAs, ok-read, err_read}
use Rattle.capture_events.specs.Events.{fold, At, settings, records, done, refused, read_records, read_behind, read_settings, read_on, waits_at, read_piece, end_at, read_last}
use Rattle.capture_events.proofs.EventLaws.{fold-joins, size_within, settings-so, settings-bad, records-used, on-used}
use Rattle.capture_tally.specs.declared.report.Report.{Report}
use Rattle.capture_tally.specs.Report.{fresh_of, cut_of, LentReport, lent_report}
use Rattle.capture_lines.specs.Lines.{settings_refused}
use Rattle.capture_text.specs.Text.{report_text}
use Rattle.capture.specs.declared.reading.Stage.{Stage}
use Rattle.capture.specs.declared.reading.Stage.TheVariants.{Settings, Records, Done, Refused}
use Rattle.capture.specs.declared.reading.Reading.{Reading}
use Rattle.capture.specs.declared.reading.Fed.{Fed}
use Rattle.capture.specs.Reading.{reading, fed, start_reading, LentReading, lent_reading, reading_with, report_in, LentFed, lent_fed, fed_with, fed_reading, started_of, reported, room_of, at_stage, at_of, stage_of, is_over, fed_by, feed_of, end_of, finish_of, text_at, text_of}
use Rattle.capture.proofs.FoldLaws.{stage_at}

-- ---- the start

pub start-reading : (s : Started) (x : Report) → s.receiver ≡ start_early blank 0 0 → x ≡ fresh_of s.receiver → reading Settings x ≡ start_reading
unfolding start_reading start_early start_receiver receiver_start_refusal
start-reading s x e f = rw (f, e)

-- ---- settings, and then records: w is what was read of l

pub start-fresh : (s : declared.Settings) (t : Started) (x : Report) → t.receiver ≡ start_early s.session s.next.0 s.limit.0
    → x ≡ fresh_of t.receiver → x ≡ fresh_of (started_of s)
start-fresh s t x e f = f ∙ ap fresh_of e

pub open-refused : (x : Report) (ls ss l : List ℕ) (w : Result Opened Refusal) (r : Refusal) → w ≡ opened_of (settings_of l) → w ≡ Err r
    → lent_fed (fed (reading Refused x) (length l)) ls ss ≡ fed_by (lent_report x ls ss) (read_settings l)
unfolding fold reported stage_of
open-refused x ls ss l w r e f =
    let g : (settings_of l).refusal.number ≡ 0 → ⊥ = err_read (settings_of l) r (sym f ∙ e) in rw (settings-bad l g)

module _ (l : List ℕ) (w : Result Opened Refusal) (o : Opened) (e : w ≡ opened_of (settings_of l)) (i : w ≡ Ok o) where
  read-as : ReadAs o (settings_of l)
  read-as = ok-read (settings_of l) o (sym i ∙ e)

  pub open-within : o.size ≤ length l
  open-within = rw read-as.size (size_within l)

  module _ (x y : Report) (ls ss ls₁ ss₁ : List ℕ) (f : Fed)
      (t : lent_fed f ls₁ ss₁ ≡ fed_by (lent_report y ls ss) (read_records (room_of y) (take (length l - o.size) (drop o.size l)))) where
    pub open-good : y ≡ fresh_of (started_of o.settings)
        → lent_fed (fed f.reading (o.size + f.used)) ls₁ ss₁ ≡ fed_by (lent_report x ls ss) (read_settings l)
    unfolding fold reported
    open-good g =
        let a = read-as in
        let u : lent_fed f ls₁ ss₁ ≡ fed_by (lent_report (fresh_of (started_of (settings_of l).settings)) ls ss) (read_behind l) =
        t ∙ rw (part_to_end, g, a.settings, a.size) in
        rw (settings-so l a.good, a.size) (ap (λ (h : LentFed). fed_with (fed_reading h) ((settings_of l).size + h.fed.used)) u)

    pub open-fits : length l * 1 < 2 ^ 63 → Fits w64 (o.size + f.used)
    open-fits h =
        let a = open-within in
        let b : f.used ≤ length (drop o.size l) =
        rw (ap (λ (h : LentFed). h.fed.used) (t ∙ ap (λ (m : List ℕ). fed_by (lent_report y ls ss) (read_records (room_of y) m)) (part_to_end o.size l)))
        (records-used (room_of y) (drop o.size l)) in
        record { fits = omega (arith, length-drop o.size l) }

-- ---- the stages

-- a reading by its two parts
by_parts : (s : Reading) (g : Stage) → s.stage ≡ g → s ≡ reading g s.report
by_parts s g e = ap (λ (h : Stage). reading h s.report) e

module _ (s : Reading) (ls ss ls₁ ss₁ l : List ℕ) (f : Fed) where
  pub advance-settings : s.stage ≡ Settings → lent_fed f ls₁ ss₁ ≡ fed_by (lent_report s.report ls ss) (read_settings l)
      → lent_fed f ls₁ ss₁ ≡ fed_by (lent_report s.report ls ss) (read_on (at_of s) l)
  unfolding read_on at_stage
  advance-settings e g = rw e g

  pub advance-records : s.stage ≡ Records → lent_fed f ls₁ ss₁ ≡ fed_by (lent_report s.report ls ss) (read_records (room_of s.report) l)
      → lent_fed f ls₁ ss₁ ≡ fed_by (lent_report s.report ls ss) (read_on (at_of s) l)
  unfolding read_on at_stage
  advance-records e g = rw e g

pub advance-over : (s : Reading) (ls ss l : List ℕ) → (s.stage ≡ Done) ⊎ (s.stage ≡ Refused)
    → lent_fed (fed s (length l)) ls ss ≡ fed_by (lent_report s.report ls ss) (read_on (at_of s) l)
unfolding read_on at_stage stage_of fold
advance-over s ls ss l (inl e) = ap (λ (t : Reading). lent_fed (fed t (length l)) ls ss) (by_parts s Done e) ∙ rw e
advance-over s ls ss l (inr e) = ap (λ (t : Reading). lent_fed (fed t (length l)) ls ss) (by_parts s Refused e) ∙ rw e

module _ (s : Reading) (n : ℕ) where
  pub waits-settings : s.stage ≡ Settings → ltb n 57 ≡ waits_at (at_of s) n
  unfolding waits_at at_stage
  waits-settings e = rw e

  pub waits-records : s.stage ≡ Records → false ≡ waits_at (at_of s) n
  unfolding waits_at at_stage
  waits-records e = rw e

  pub waits-done : s.stage ≡ Done → false ≡ waits_at (at_of s) n
  unfolding waits_at at_stage
  waits-done e = rw e

  pub waits-refused : s.stage ≡ Refused → false ≡ waits_at (at_of s) n
  unfolding waits_at at_stage
  waits-refused e = rw e

module _ (g : Stage) where
  pub over-settings : g ≡ Settings → false ≡ is_over g
  unfolding is_over
  over-settings e = rw e

  pub over-records : g ≡ Records → false ≡ is_over g
  unfolding is_over
  over-records e = rw e

  pub over_done : g ≡ Done → true ≡ is_over g
  unfolding is_over
  over_done e = rw e

  pub over-refused : g ≡ Refused → true ≡ is_over g
  unfolding is_over
  over-refused e = rw e

-- ---- feeding

module _ (s : Reading) (ls ss l : List ℕ) (w : Bool) where
  pub feed-waits : w ≡ waits_at (at_of s) (length l) → w ≡ true → lent_fed (fed s 0) ls ss ≡ feed_of (lent_reading s ls ss) l
  unfolding feed_of read_piece fold
  feed-waits e h =
      rw (← e, h) (ap (λ (g : Stage). lent_fed (fed (reading g s.report) 0) ls ss) (sym (stage_at s.stage (room_of s.report))))

  pub feed-advances : (f : Fed) (ls₁ ss₁ : List ℕ) → w ≡ waits_at (at_of s) (length l) → w ≡ false
      → lent_fed f ls₁ ss₁ ≡ fed_by (lent_report s.report ls ss) (read_on (at_of s) l) → lent_fed f ls₁ ss₁ ≡ feed_of (lent_reading s ls ss) l
  unfolding feed_of read_piece
  feed-advances f ls₁ ss₁ e h g = rw (← e, h) g

-- ---- finishing

pub advance-used : (s : Reading) (ls ss ls₁ ss₁ l : List ℕ) (f : Fed) → lent_fed f ls₁ ss₁ ≡ fed_by (lent_report s.report ls ss) (read_on (at_of s) l)
    → f.used ≤ length l
advance-used s ls ss ls₁ ss₁ l f e = rw (ap (λ (h : LentFed). h.fed.used) e) (on-used (at_of s) l)

pub end_none : (x : Report) (n : ℕ) → n ≡ 0 → x ≡ end_of x n
unfolding end_of
end_none x n e = simp (eq-eqb _ _ e)

pub end-cut : (x y : Report) (n : ℕ) → (n ≡ 0 → ⊥) → y ≡ cut_of x → y ≡ end_of x n
unfolding end_of
end-cut x y n z e = rw (ne_eqb _ _ z) e

-- the end of a reading, by what comes next
ending_at : LentReport → At → ℕ → LentReading
ending_at x a n = reading_with (stage_of (end_at a n).at) (fold reported x (end_at a n).events)

-- the report ended, with what is lent
abbrev end_lent : LentReport → ℕ → LentReport
end_lent x n = lent_report (end_of x.report n) x.lengths x.slots

ending-records : (x : LentReport) (a : At) (n : ℕ) → stage_of a ≡ Records → reading_with Done (end_lent x n) ≡ ending_at x a n
unfolding ending_at end_at stage_of end_of fold reported
ending-records x settings n e = let z : ◌≡◌ {A = ℕ} 0 1 = cc in absurd (omega arith)
ending-records x (records k) n e = zero_or_not _ n (λ h. rw (eq-eqb _ _ h)) (λ h. rw (ne_eqb _ _ h))
ending-records x done n e = let z : ◌≡◌ {A = ℕ} 0 1 = cc in absurd (omega arith)
ending-records x refused n e = let z : ◌≡◌ {A = ℕ} 0 1 = cc in absurd (omega arith)

-- every other stage stays
ending-other : (x : LentReport) (a : At) (n : ℕ) → (stage_of a ≡ Records → ⊥) → reading_with (stage_of a) x ≡ ending_at x a n
unfolding ending_at end_at stage_of fold
ending-other x settings n z = refl
ending-other x (records k) n z = absurd (z refl)
ending-other x done n z = refl
ending-other x refused n z = refl

-- s was advanced to f
module _ (s : Reading) (ls ss ls₁ ss₁ l : List ℕ) (f : Fed) (e : lent_fed f ls₁ ss₁ ≡ fed_by (lent_report s.report ls ss) (read_on (at_of s) l)) where
  abbrev now : LentReading
  now = lent_reading f.reading ls₁ ss₁

  abbrev end : LentReading
  end = finish_of (lent_reading s ls ss) l

  finish-so : end ≡ ending_at (report_in now) (read_on (at_of s) l).at (length l - f.used)
  unfolding finish_of read_last ending_at
  finish-so =
      let r = read_on (at_of s) l in
      let n = length l - r.used in
      ap (reading_with (stage_of (end_at r.at n).at)) (fold-joins reported (lent_report s.report ls ss) r.events (end_at r.at n).events)
      ∙ ap (λ (h : LentFed). ending_at (report_in (fed_reading h)) r.at (length l - h.fed.used)) (sym e)

  stage-so : f.reading.stage ≡ stage_of (read_on (at_of s) l).at
  stage-so = ap (λ (h : LentFed). h.fed.reading.stage) e

  other-stays : (g : Stage) → f.reading.stage ≡ g → (g ≡ Records → ⊥) → now ≡ end
  other-stays g h z =
      ap (λ (i : Stage). reading_with i (report_in now)) stage-so
      ∙ ending-other (report_in now) (read_on (at_of s) l).at (length l - f.used) (λ (k : stage_of (read_on (at_of s) l).at ≡ Records). z (sym h ∙ stage-so ∙ k))
      ∙ sym finish-so

  pub finish-records : (x : Report) → f.reading.stage ≡ Records → x ≡ end_of f.reading.report (length l - f.used)
      → lent_reading (reading Done x) ls₁ ss₁ ≡ finish_of (lent_reading s ls ss) l
  finish-records x h g =
      ap (λ (y : Report). lent_reading (reading Done y) ls₁ ss₁) g
      ∙ ending-records (report_in now) (read_on (at_of s) l).at (length l - f.used) (sym stage-so ∙ h)
      ∙ sym finish-so

  pub finish-other : (f.reading.stage ≡ Records → ⊥) → lent_reading f.reading ls₁ ss₁ ≡ finish_of (lent_reading s ls ss) l
  finish-other z = other-stays f.reading.stage refl z

-- ---- writing

module _ (s : Reading) (w : Written) (a b : List ℕ) where
  pub write-refused : (s.stage ≡ Settings) ⊎ (s.stage ≡ Refused) → Writes w a b 0 0 settings_refused → Writes w a b 0 0 (text_of s)
  unfolding text_at
  write-refused (inl e) h = rw e h
  write-refused (inr e) h = rw e h

  pub write-report : (s.stage ≡ Records) ⊎ (s.stage ≡ Done) → Writes w a b 0 0 (report_text s.report) → Writes w a b 0 0 (text_of s)
  unfolding text_at
  write-report (inl e) h = rw e h
  write-report (inr e) h = rw e h
