-- The whole capture: its report is the sums over its records, and what else is promised of it.
use mathlib.Core.Path.{◌≡◌, refl, ap, sym, ◌∙◌}
use mathlib.Core.List.{List, [], ◌∷◌, ◌++◌}
use mathlib.Core.Bool.{Bool, true, false}
use Prim.Native.Nat.{ℕ, zero, suc, ◌+◌, ◌-◌, ◌≤◌, ◌<◌}
use native.Mathlib.Omega.{arith}
use lib.ListN.{length, drop}
use borrow.Author.Tests.{lt-ltb, le-ltb, eq-eqb, ne_eqb}
use Rattle.std.specs.Prelude.{if◌then◌else◌}
use Rattle.wire.specs.Bytes.{joined}
use Rattle.wire.specs.Bounds.{session_size}
use Rattle.wire.specs.Words.{answer, refused, says}
use Rattle.wire.specs.Output.{wrote, written_words, write_refusal, write_answer, Writes}
use Rattle.wire.specs.declared.refusal.Refusal.{Refusal}
use Rattle.wire.specs.Output.{Written}
use Rattle.std.specs.Prelude.{Ok, Err}
use Rattle.std.specs.Result.{result_unwrap_or}
use Rattle.wire.proofs.Words.{which-of}
use Rattle.wire.proofs.Outputs.{no-write-refusal, wrote_so, wrote-front}
use Rattle.wire.proofs.Cases.{below_or_not, zero_or_not}
use Rattle.receiver.specs.Receiver.{receiver_start_refusal, start_receiver, refused_receiver}
use Rattle.feed.specs.Session.{Datagram}
use Rattle.early_holding.specs.Holding.{slot_bytes, length_bytes, Lent, lent, early}
use Rattle.early_receiver.specs.Early.{start_early}
use Rattle.capture_settings.specs.Settings.{settings_of}
use Rattle.capture_settings.specs.Statements.{Good}
use Rattle.capture_settings.proofs.TextLaws.{settings-promises}
use Rattle.capture_records.specs.Records.{most_records, rest_of, records_of, is_cut}
use Rattle.capture_records.proofs.FrontLaws.{few}
use Rattle.capture_events.specs.Events.{Event, cut_short, fold, datagrams, settings, end_at, read_last}
use Rattle.capture_events.specs.Turns as Events
use Rattle.capture_events.proofs.EventLaws.{fold-joins, records_end, rest-done, all_records, behind, last-settings, last-bad}
use Rattle.capture_events.proofs.TurnLaws.{turn-promises}
use Rattle.capture_tally.specs.declared.report.Report.{Report}
use Rattle.capture_tally.specs.Report.{fresh_of, LentReport, lent_report, fresh_lent, cut_lent, over}
use Rattle.capture_tally.specs.Sums.{summed, summed_cut}
use Rattle.capture_tally.proofs.SumLaws.{sums}
use Rattle.capture_text.specs.Text.{room}
use Rattle.capture_lines.proofs.LineLaws.{refused-fits}
use Rattle.capture_text.proofs.TextLaws.{report-fits}
use Rattle.capture.specs.declared.reading.Stage.{Stage}
use Rattle.capture.specs.declared.reading.Stage.TheVariants.{Settings, Records, Done, Refused}
use Rattle.capture.specs.declared.reading.Reading.{Reading}
use Rattle.capture.specs.Reading.{start_reading, LentReading, lent_reading, reading_with, report_in, started_of, reported, at_stage, at_of, stage_of, ended_by, finish_of, text_at, text_of, Prints}
use Rattle.capture.specs.Turning.{turning, start_turning, lent_turning, turn_at, turned_of}
use Rattle.capture.specs.Whole.{records_report, capture_of, capture_text, AnyCutting, AnyTurns, AnySlots, EndIsOver, StartTakesSettings, CapturePromises}
use Rattle.capture.proofs.FoldLaws.{over-stage, fold-datagrams, pieces-fold, turns-fold}
use Rattle.capture.proofs.PieceLaws.{keeps_little, over_stays}
use Rattle.capture.proofs.NameLaws.{ten-after}
use Rattle.capture.proofs.AloneLaws.{any_slots}

-- ---- the sums

-- the report at the end of the records in l
abbrev end_report : Lent → List ℕ → LentReport
end_report s l = report_in (ended_by (fresh_lent s) (all_records most_records l))

-- k more records may be read, and rest is what the records before it left
rest-none : (k : ℕ) (rest : List ℕ) → length rest ≡ 0 → (records_end k rest).events ≡ []
unfolding records_end end_at
rest-none zero rest e = refl
rest-none (suc k) rest e = rw (eq-eqb _ _ e)

rest-cut : (k : ℕ) (rest : List ℕ) → (length rest ≡ 0 → ⊥) → 0 < k → (records_end k rest).events ≡ cut_short ∷ []
unfolding records_end end_at
rest-cut zero rest z h = absurd (omega arith)
rest-cut (suc k) rest z h = rw (ne_eqb _ _ z)

rest-most : (k : ℕ) (rest : List ℕ) → k ≡ 0 → (records_end k rest).events ≡ []
unfolding records_end
rest-most zero rest e = refl
rest-most (suc k) rest e = absurd (omega arith)

above : (n : ℕ) → (n ≡ 0 → ⊥) → 0 < n
above zero z = absurd (z refl)
above (suc n) z = omega arith

-- a fold over datagrams, and then over the events of the end
folded : (x : LentReport) (ds : List Datagram) (es : List Event) → fold reported x (datagrams ds ++ es) ≡ fold reported (over x ds) es
folded x ds es = fold-joins reported x (datagrams ds) es ∙ ap (λ (y : LentReport). fold reported y es) (fold-datagrams x ds)

fold-none : (x : LentReport) → fold reported x [] ≡ x
unfolding fold
fold-none x = refl

fold-cut : (x : LentReport) → fold reported x (cut_short ∷ []) ≡ cut_lent x
unfolding fold reported
fold-cut x = refl

module _ (s : Lent) (l : List ℕ) where
  -- by the events of the end
  ended_over : (es : List Event) → (records_end (most_records - length (records_of l)) (rest_of most_records l)).events ≡ es → end_report s l ≡ fold reported (over (fresh_lent s) (records_of l)) es
  ended_over es e = folded (fresh_lent s) (records_of l) (records_end (most_records - length (records_of l)) (rest_of most_records l)).events ∙ ap (fold reported (over (fresh_lent s) (records_of l))) e

  ended-whole : (records_end (most_records - length (records_of l)) (rest_of most_records l)).events ≡ [] → end_report s l ≡ summed s (records_of l)
  ended-whole e = ended_over [] e ∙ fold-none (over (fresh_lent s) (records_of l)) ∙ sums.whole s (records_of l) (few most_records l)

  ended-none : length (rest_of most_records l) ≡ 0 → end_report s l ≡ records_report s l
  unfolding records_report is_cut
  ended-none e =
      let h : length (rest_of most_records l) ≤ 0 = omega arith in
      rw (le-ltb _ _ h) (ended-whole (rest-none (most_records - length (records_of l)) (rest_of most_records l) e))

  ended-most : (length (rest_of most_records l) ≡ 0 → ⊥) → most_records ≤ length (records_of l) → end_report s l ≡ records_report s l
  unfolding records_report is_cut
  ended-most z m =
      let h : 0 < length (rest_of most_records l) = above (length (rest_of most_records l)) z in
      rw (lt-ltb _ _ h, le-ltb _ _ m) (ended-whole (rest-most (most_records - length (records_of l)) (rest_of most_records l) (omega arith)))

  ended-cut : (length (rest_of most_records l) ≡ 0 → ⊥) → length (records_of l) < most_records → end_report s l ≡ records_report s l
  unfolding records_report is_cut
  ended-cut z m =
      let h : 0 < length (rest_of most_records l) = above (length (rest_of most_records l)) z in
      let e = rest-cut (most_records - length (records_of l)) (rest_of most_records l) z (omega arith) in
      rw (lt-ltb _ _ h, lt-ltb _ _ m)
      (ended_over (cut_short ∷ []) e ∙ fold-cut (over (fresh_lent s) (records_of l)) ∙ sums.with_cut s (records_of l) (omega arith))

  ended_so : end_report s l ≡ records_report s l
  ended_so =
      zero_or_not _ (length (rest_of most_records l)) ended-none
      (λ z. below_or_not _ (length (records_of l)) most_records (ended-cut z) (ended-most z))

-- the report of a fresh reading
abbrev first : List ℕ → List ℕ → LentReport
first lengths slots = lent_report (fresh_of (early refused_receiver 0)) lengths slots

module _ (lengths slots l : List ℕ) where
  good : (settings_of l).refusal.number ≡ 0 → finish_of (reading_with Settings (first lengths slots)) l ≡ capture_of lengths slots l
  unfolding capture_of finish_of at_stage stage_of fold reported
  good z =
      rw (eq-eqb _ _ z, last-settings l z, rest-done (most_records - length (records_of (behind l))) (rest_of most_records (behind l)))
      (ap (reading_with Done) (ended_so (lent (started_of (settings_of l).settings) lengths slots) (behind l)))

  bad : ((settings_of l).refusal.number ≡ 0 → ⊥) → finish_of (reading_with Settings (first lengths slots)) l ≡ capture_of lengths slots l
  unfolding capture_of finish_of at_stage stage_of fold reported
  bad z = rw (ne_eqb _ _ z, last-bad l z)

  -- finishing with all bytes is the whole capture
  pub finish-whole : finish_of (lent_reading start_reading lengths slots) l ≡ capture_of lengths slots l
  unfolding start_reading
  finish-whole = zero_or_not _ (settings_of l).refusal.number good bad

-- ---- as the code of `report` has it: it lends lengths and slots of their size

pub whole-report : (l a b ls ss ls₁ ss₁ : List ℕ) (w : Written) (s t : Reading) → s ≡ start_reading → lent_reading t ls₁ ss₁ ≡ finish_of (lent_reading s ls ss) l
    → length ls ≡ length_bytes → length ss ≡ slot_bytes → Writes w a b 0 0 (text_of t) → Writes w a b 0 0 (capture_text l)
unfolding AnySlots
whole-report l a b ls ss ls₁ ss₁ w s t e f n k h =
    let g = f ∙ ap (λ (x : Reading). finish_of (lent_reading x ls ss) l) e ∙ finish-whole ls ss l in
    rw (ap (λ (x : LentReading). text_of x.reading) g ∙ any_slots ls ss l n k) at h

-- ---- the promises

-- a fresh reading waits for settings
start-at : at_of start_reading ≡ settings
unfolding start_reading at_stage
start-at = refl

finish-start : (lengths slots l : List ℕ)
    → ended_by (lent_report start_reading.report lengths slots) (read_last settings l) ≡ finish_of (lent_reading start_reading lengths slots) l
unfolding finish_of
finish-start lengths slots l = rw start-at

cutting : (ps : List (List ℕ)) → Events.by_pieces settings [] ps ≡ read_last settings (joined ps)
unfolding Events.AnyCutting
cutting = turn-promises.any_cutting

turns : (m : List ℕ) (ps : List (List ℕ)) → Events.Fit settings m 0 ps → Events.by_turns settings m 0 ps ≡ read_last settings (joined ps)
unfolding Events.AnyTurns
turns = turn-promises.any_turns

any_cutting : AnyCutting
unfolding AnyCutting
any_cutting lengths slots ps =
    pieces-fold (lent_reading start_reading lengths slots) [] ps
    ∙ rw (start-at, cutting ps) (finish-start lengths slots (joined ps) ∙ finish-whole lengths slots (joined ps))

any_turns : AnyTurns
unfolding AnyTurns start_turning
any_turns lengths slots m ps f =
    turns-fold (lent_turning (turning start_reading 0) lengths slots) m ps
    ∙ rw (start-at, turns m ps f) (finish-start lengths slots (joined ps) ∙ finish-whole lengths slots (joined ps))

end_is_over : EndIsOver
unfolding EndIsOver turned_of Events.EndIsOver
end_is_over s m =
    over-stage (turn_at s.turning m 0).at ∙ turn-promises.end_is_over (at_of s.turning.reading) m s.turning.have

good-read : (l : List ℕ) → (settings_of l).refusal.number ≡ 0 → Good (settings_of l).settings.session (settings_of l).settings.next.0 (settings_of l).settings.limit.0
good-read l z = (settings-promises.reads_exactly.only l z).good

good_start : (name : List ℕ) (n limit : ℕ) → Good name n limit → receiver_start_refusal n limit ≡ 0
unfolding receiver_start_refusal
good_start name n limit g = rw (le-ltb _ _ g.number_least, le-ltb _ _ g.number_most, le-ltb _ _ g.limit_least, le-ltb _ _ g.limit_most)

start_takes_settings : StartTakesSettings
unfolding StartTakesSettings
start_takes_settings l z = good_start _ _ _ (good-read l z)

-- a name of ten bytes stays one
report-ten : (s : Lent) (l : List ℕ) → length s.receiver.base.session ≡ 10 → length (records_report s l).report.receiver.base.session ≡ 10
unfolding records_report
report-ten s l e = go (is_cut l)
  where
    go : (b : Bool) → length (if b then summed_cut s (records_of l) else summed s (records_of l)).report.receiver.base.session ≡ 10
    go true = ten-after s (records_of l) e
    go false = ten-after s (records_of l) e

started-session : (name : List ℕ) (n limit : ℕ) → Good name n limit → (start_early name n limit).base.session ≡ name
unfolding start_early start_receiver
started-session name n limit g = rw (good_start name n limit g)

reading-fits : (g : Stage) (x : Report) → length x.receiver.base.session ≡ 10 → length (text_at g x) ≤ room
unfolding text_at
reading-fits Settings x e = omega (arith, refused-fits)
reading-fits Records x e = omega (arith, report-fits x e)
reading-fits Done x e = omega (arith, report-fits x e)
reading-fits Refused x e = omega (arith, refused-fits)

capture-fits : (lengths slots l : List ℕ) → length (text_of (capture_of lengths slots l).reading) ≤ room
unfolding capture_of text_at
capture-fits lengths slots l = zero_or_not _ (settings_of l).refusal.number fit not-read
  where
    fit : (settings_of l).refusal.number ≡ 0 → length (text_of (capture_of lengths slots l).reading) ≤ room
    fit z =
        let g = good-read l z in
        let s = lent (started_of (settings_of l).settings) lengths slots in
        let ten = report-ten s (drop (settings_of l).size l) (ap length (started-session _ _ _ g) ∙ g.ten_bytes) in
        let n = report-fits (records_report s (drop (settings_of l).size l)).report ten in
        rw (eq-eqb _ _ z) (omega arith)

    not-read : ((settings_of l).refusal.number ≡ 0 → ⊥) → length (text_of (capture_of lengths slots l).reading) ≤ room
    not-read z = rw (ne_eqb _ _ z) (omega (arith, refused-fits))

pub capture-promises : CapturePromises
capture-promises =
    record {
      any_cutting = any_cutting;
      any_turns = any_turns;
      any_slots = any_slots;
      end_is_over = end_is_over;
      start_takes_settings = start_takes_settings;
      keeps_little = keeps_little;
      over_stays = over_stays;
      fits_the_room = record { any_reading = λ s e. reading-fits s.stage s.report e; any_capture = capture-fits };
    }

-- ---- as the code of `printed` has it: a room of its size is lent

said-room : (l bs : List ℕ) → write_refusal 0 l 0 bs ≡ 0 → write_answer 0 l 0 bs ≡ says wrote (length bs ∷ [])
unfolding write_answer
said-room l bs z = rw z

module _ (s : Reading) (w : Written) (l m : List ℕ) (h : Writes w l m 0 0 (text_of s)) where
  printed-so : (k : ℕ) → w ≡ Ok k → length l ≡ room → Prints (record { text = m; size = k }) (text_of s)
  unfolding written_words
  printed-so k e n =
      let a : write_answer 0 l 0 (text_of s) ≡ says wrote (k ∷ []) = sym h.answers ∙ ap written_words e in
      let o = wrote_so 0 l 0 (text_of s) k a in
      record {
        whole = rw h.leaves (wrote-front 0 l (text_of s) k a);
        within = omega (arith, o.room, o.size);
      }

  printed-not : (r : Refusal) → w ≡ Err r → length l ≡ room → length s.report.receiver.base.session ≡ session_size
      → Prints (record { text = m; size = 0 }) (text_of s)
  unfolding written_words
  printed-not r e n ten =
      let f : 0 + length (text_of s) ≤ length l = omega (arith, reading-fits s.stage s.report ten) in
      let a = said-room l (text_of s) (no-write-refusal 0 l 0 (text_of s) refl f) in
      let v : refused ≡ answer wrote = which-of (sym (ap written_words e) ∙ h.answers ∙ a) in
      let z : ◌≡◌ {A = ℕ} 0 1 = cc in
      absurd (omega arith)

  pub printed-all : (k : ℕ) → k ≡ result_unwrap_or w 0 → length l ≡ room → length s.report.receiver.base.session ≡ session_size
      → Prints (record { text = m; size = k }) (text_of s)
  printed-all k e n ten = go w refl
    where
      go : (v : Written) → w ≡ v → Prints (record { text = m; size = k }) (text_of s)
      go (Ok i) f = let g : k ≡ i = e ∙ ap (λ (v : Written). result_unwrap_or v 0) f in rw g (printed-so i f n)
      go (Err q) f = let g : k ≡ 0 = e ∙ ap (λ (v : Written). result_unwrap_or v 0) f in rw g (printed-not q f n ten)
