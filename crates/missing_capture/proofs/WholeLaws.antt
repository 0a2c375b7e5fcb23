-- The whole capture: what is printed of it, and what else is promised.
use mathlib.Core.Path.{◌≡◌, refl, ap, sym, ◌∙◌}
use mathlib.Core.List.{List, [], ◌∷◌, ◌++◌}
use mathlib.Core.Bool.{Bool, true, false}
use Prim.Native.Nat.{ℕ, zero, suc, ◌+◌, ◌-◌, ◌≤◌}
use native.Mathlib.Omega.{arith}
use lib.ListN.{length, replicate, length-replicate}
use borrow.Author.Tests.{eq-eqb, ne_eqb}
use Rattle.wire.specs.Bytes.{joined}
use Rattle.wire.specs.Words.{says}
use Rattle.wire.specs.Output.{put, wrote, written_words, write_answer, Writes}
use Rattle.wire.specs.declared.refusal.Refusal.{Refusal}
use Rattle.wire.specs.Output.{Written}
use Rattle.std.specs.Prelude.{Ok, Err}
use Rattle.std.specs.Result.{result_unwrap_or}
use Rattle.wire.proofs.Words.{which-of}
use Rattle.wire.proofs.Outputs.{length-put, wrote_so, wrote-front, writes-done}
use Rattle.wire.proofs.Cases.{zero_or_not}
use Rattle.capture_settings.specs.Settings.{settings_of}
use Rattle.capture_settings.specs.Statements.{Good}
use Rattle.capture_settings.proofs.TextLaws.{settings-promises}
use Rattle.capture_lines.specs.Lines.{settings_refused}
use Rattle.capture_lines.proofs.LineLaws.{refused-fits}
use Rattle.capture_records.specs.Records.{most_records, rest_of, records_of}
use Rattle.capture_events.specs.declared.place.Place.{Place}
use Rattle.capture_events.specs.declared.place.Place.TheVariants.{Settings, Records, Done, Refused}
use Rattle.capture_events.specs.Events.{fold, datagrams, settings, records, is_over_at, read_last}
use Rattle.capture_events.specs.Next.{at_of, place_at}
use Rattle.capture_events.specs.Turns as Events
use Rattle.capture_events.proofs.EventLaws.{fold-joins, records_end, rest-done, all_records, behind, last-settings, last-bad}
use Rattle.capture_events.proofs.TurnLaws.{turn-promises}
use Rattle.missing_ranges.specs.Notes.{is_usable, ranges_in}
use Rattle.missing_ranges.specs.Notes as ranges
use Rattle.missing_records.specs.Records.{LentNotes, lent_notes, lent_in, start_notes, over}
use Rattle.missing_records.specs.Promises.{ListsWhatIsMissing, TotalIsExact}
use Rattle.missing_records.proofs.OverLaws.{datagram-promises, session-stays, usable_after, refused-agree, ranges-agree}
use Rattle.missing_text.specs.Text.{list_text, too_many_text, missing_text, room, room_ground}
use Rattle.missing_text.proofs.TextLaws.{missing-fits, with_room}
use Rattle.missing_capture.specs.declared.reading.Reading.{Reading}
use Rattle.missing_capture.specs.Reading.{no_notes, start_reading, lent_reading, reading_with, notes_in, noted_by, ended_by, finish_of, text_at, text_of, PrintsIn}
use Rattle.missing_capture.specs.Turning.{turning, start_turning, lent_turning, turn_at, turned_of}
use Rattle.missing_capture.specs.Whole.{session_in, start_number_in, datagrams_in, missing_capture_of, missing_capture_text, PrintedMissing, bad, listed, too_many, PrintsWhatIsMissing, AnyWords, IsTheFold, FitsTheRoom, AnyCutting, AnyTurns, EndIsOver, MissingCapturePromises}
use Rattle.missing_capture.proofs.ReadLaws.{end-notes}
use Rattle.capture_events.proofs.NextLaws.{at_place}
use Rattle.missing_capture.proofs.FoldLaws.{fold-datagrams, pieces-fold, turns-fold, keeps_little, over_stays}

-- ---- all records

-- what is left at their end changes nothing
rest-notes : (x : LentNotes) (k : ℕ) (rest : List ℕ) → fold noted_by x (records_end k rest).events ≡ x
unfolding records_end fold
rest-notes x zero rest = refl
rest-notes x (suc k) rest = end-notes x (records (suc k)) (length rest)

all_noted : (x : LentNotes) (l : List ℕ) → ended_by x (all_records most_records l) ≡ reading_with Done (over x (records_of l))
unfolding place_at
all_noted x l =
    let k = most_records - length (records_of l) in
    let rest = rest_of most_records l in
    let e = (records_end k rest).events in
    let f : fold noted_by x (datagrams (records_of l) ++ e) ≡ over x (records_of l) =
    fold-joins noted_by x (datagrams (records_of l)) e ∙ rest-notes (fold noted_by x (datagrams (records_of l))) k rest ∙ fold-datagrams x (records_of l) in
    rw (rest-done k rest) (ap (reading_with Done) f)

module _ (words l : List ℕ) where
  whole-good : (settings_of l).refusal.number ≡ 0 → finish_of (lent_reading start_reading words) l ≡ missing_capture_of words l
  unfolding missing_capture_of finish_of start_reading at_of fold noted_by
  whole-good z = rw (eq-eqb _ _ z, last-settings l z) (all_noted (start_notes (session_in l) words (start_number_in l)) (behind l))

  whole-bad : ((settings_of l).refusal.number ≡ 0 → ⊥) → finish_of (lent_reading start_reading words) l ≡ missing_capture_of words l
  unfolding missing_capture_of finish_of start_reading at_of place_at fold noted_by
  whole-bad z = rw (ne_eqb _ _ z, last-bad l z)

  -- finishing with all bytes is the whole capture
  pub finish-whole : finish_of (lent_reading start_reading words) l ≡ missing_capture_of words l
  finish-whole = zero_or_not _ (settings_of l).refusal.number whole-good whole-bad

-- ---- the text

capture-good : (words l : List ℕ) → (settings_of l).refusal.number ≡ 0 → missing_capture_of words l ≡ reading_with Done (over (start_notes (session_in l) words (start_number_in l)) (datagrams_in l))
unfolding missing_capture_of
capture-good words l z = rw (eq-eqb _ _ z)

capture-bad : (words l : List ℕ) → ((settings_of l).refusal.number ≡ 0 → ⊥) → missing_capture_of words l ≡ reading_with Refused (lent_notes no_notes words)
unfolding missing_capture_of
capture-bad words l z = rw (ne_eqb _ _ z)

text-bad : (words l : List ℕ) → ((settings_of l).refusal.number ≡ 0 → ⊥) → text_of (missing_capture_of words l) ≡ settings_refused
unfolding text_at
text-bad words l z = ap text_of (capture-bad words l z)

module _ (words l : List ℕ) (z : (settings_of l).refusal.number ≡ 0) where
  abbrev after : LentNotes
  after = over (start_notes (session_in l) words (start_number_in l)) (datagrams_in l)

  text-good : text_of (missing_capture_of words l) ≡ missing_text (session_in l) (lent_in after)
  unfolding text_at
  text-good =
      ap text_of (capture-good words l z)
      ∙ ap (λ (name : List ℕ). missing_text name (lent_in after)) (session-stays (start_notes (session_in l) words (start_number_in l)) (datagrams_in l))

  text-listed : is_usable (lent_in after) ≡ true → text_of (missing_capture_of words l) ≡ list_text (session_in l) (ranges_in (lent_in after))
  unfolding missing_text
  text-listed u = text-good ∙ rw u

  not-usable : after.notes.missing.refused ≡ true → is_usable (lent_in after) ≡ false
  unfolding is_usable
  not-usable r = rw r

  text-many : after.notes.missing.refused ≡ true → text_of (missing_capture_of words l) ≡ too_many_text
  unfolding missing_text
  text-many r = text-good ∙ rw (not-usable r)

never : false ≡ true → ⊥
never e = let z : ◌≡◌ {A = ℕ} 0 1 = cc in absurd (omega arith)

by-refused : (P : Type 0) (b : Bool) → (b ≡ false → P) → (b ≡ true → P) → P
by-refused P true f g = g refl
by-refused P false f g = f refl

abbrev zeros : List ℕ
zeros = replicate ranges.room 0

enough : ranges.room ≤ length zeros
enough = let e : length zeros ≡ ranges.room = length-replicate {A = ℕ} ranges.room 0 in omega arith

good-read : (l : List ℕ) → (settings_of l).refusal.number ≡ 0 → Good (session_in l) (start_number_in l) (settings_of l).settings.limit.0
good-read l z = (settings-promises.reads_exactly.only l z).good

prints : PrintsWhatIsMissing
unfolding PrintsWhatIsMissing missing_capture_text ListsWhatIsMissing TotalIsExact
prints l = zero_or_not _ (settings_of l).refusal.number (λ z. by-refused _ (after zeros l z).notes.missing.refused (some z) (many z)) (λ z. bad z (text-bad zeros l z))
  where
    some : (z : (settings_of l).refusal.number ≡ 0) → (after zeros l z).notes.missing.refused ≡ false → PrintedMissing l
    some z r =
        listed (ranges_in (lent_in (after zeros l z))) z
        (λ m. never (sym r ∙ datagram-promises.refuses_too_many.at_once (session_in l) zeros (start_number_in l) (datagrams_in l) enough m))
        (datagram-promises.lists_what_is_missing (session_in l) zeros (start_number_in l) (datagrams_in l) enough r)
        (datagram-promises.total_is_exact (session_in l) zeros (start_number_in l) (datagrams_in l) enough (good-read l z).number_most r)
        (text-listed zeros l z (usable_after (session_in l) zeros (start_number_in l) (datagrams_in l) enough r))

    many : (z : (settings_of l).refusal.number ≡ 0) → (after zeros l z).notes.missing.refused ≡ true → PrintedMissing l
    many z r =
        too_many z (datagram-promises.refuses_too_many.refuses_many (session_in l) zeros (start_number_in l) (datagrams_in l) enough r) (text-many zeros l z r)

any_words : AnyWords
unfolding AnyWords missing_capture_text
any_words words l h =
    zero_or_not _ (settings_of l).refusal.number
    (λ z. by-refused _ (after words l z).notes.missing.refused (some z) (many z))
    (λ z. text-bad words l z ∙ sym (text-bad zeros l z))
  where
    same : (z : (settings_of l).refusal.number ≡ 0) → (after words l z).notes.missing.refused ≡ (after zeros l z).notes.missing.refused
    same z = refused-agree (session_in l) words (start_number_in l) (datagrams_in l) zeros h enough

    some : (z : (settings_of l).refusal.number ≡ 0) → (after words l z).notes.missing.refused ≡ false → text_of (missing_capture_of words l) ≡ text_of (missing_capture_of zeros l)
    some z r =
        text-listed words l z (usable_after (session_in l) words (start_number_in l) (datagrams_in l) h r)
        ∙ ap (list_text (session_in l)) (ranges-agree (session_in l) words zeros (start_number_in l) (datagrams_in l) h enough r)
        ∙ sym (text-listed zeros l z (usable_after (session_in l) zeros (start_number_in l) (datagrams_in l) enough (sym (same z) ∙ r)))

    many : (z : (settings_of l).refusal.number ≡ 0) → (after words l z).notes.missing.refused ≡ true → text_of (missing_capture_of words l) ≡ text_of (missing_capture_of zeros l)
    many z r = text-many words l z r ∙ sym (text-many zeros l z (sym (same z) ∙ r))

-- ---- pieces and turns

cutting : (ps : List (List ℕ)) → Events.by_pieces settings [] ps ≡ read_last settings (joined ps)
unfolding Events.AnyCutting
cutting = turn-promises.any_cutting

turns : (m : List ℕ) (ps : List (List ℕ)) → Events.Fit settings m 0 ps → Events.by_turns settings m 0 ps ≡ read_last settings (joined ps)
unfolding Events.AnyTurns
turns = turn-promises.any_turns

start-at : at_of start_reading.place ≡ settings
unfolding start_reading at_of
start-at = refl

finish-start : (words l : List ℕ) → ended_by (lent_notes start_reading.notes words) (read_last settings l) ≡ finish_of (lent_reading start_reading words) l
unfolding finish_of
finish-start words l = rw start-at

any_cutting : AnyCutting
unfolding AnyCutting
any_cutting words ps =
    pieces-fold (lent_reading start_reading words) [] ps
    ∙ rw (start-at, cutting ps) (finish-start words (joined ps) ∙ finish-whole words (joined ps))

any_turns : AnyTurns
unfolding AnyTurns start_turning
any_turns words m ps f =
    turns-fold (lent_turning (turning start_reading 0) words) m ps
    ∙ rw (start-at, turns m ps f) (finish-start words (joined ps) ∙ finish-whole words (joined ps))

end_is_over : EndIsOver
unfolding EndIsOver turned_of Events.EndIsOver
end_is_over s m =
    ap is_over_at (at_place (turn_at s.turning m 0).at) ∙ turn-promises.end_is_over (at_of s.turning.reading.place) m s.turning.have

-- ---- the room

fits : (p : Place) (x : LentNotes) → length x.notes.session ≡ 10 → length (text_at p x) ≤ room
unfolding text_at
fits Settings x e = omega (arith, refused-fits)
fits (Records k) x e = missing-fits x.notes.session (lent_in x) e
fits Done x e = missing-fits x.notes.session (lent_in x) e
fits Refused x e = omega (arith, refused-fits)

fits_the_room : FitsTheRoom
unfolding FitsTheRoom
fits_the_room s e = fits s.reading.place (notes_in s) e

is_the_fold : IsTheFold
unfolding IsTheFold
is_the_fold = finish-whole

pub missing-capture-promises : MissingCapturePromises
missing-capture-promises =
    record {
      prints_what_is_missing = prints;
      any_words = any_words;
      is_the_fold = is_the_fold;
      any_cutting = any_cutting;
      any_turns = any_turns;
      end_is_over = end_is_over;
      keeps_little = keeps_little;
      over_stays = over_stays;
      fits_the_room = fits_the_room;
    }

-- ---- as the code of `printed` has it

module _ (s : Reading) (es l m : List ℕ) (w : Written) (h : Writes w l m (room_ground l) 0 (text_of (lent_reading s es))) where
  printed-so : (k : ℕ) → w ≡ Ok k → PrintsIn k l m (text_of (lent_reading s es))
  unfolding written_words
  printed-so k e =
      let t = text_of (lent_reading s es) in
      let a : write_answer (room_ground l) l 0 t ≡ says wrote (k ∷ []) = sym h.answers ∙ ap written_words e in
      let o = wrote_so (room_ground l) l 0 t k a in
      let b : m ≡ put l 0 t = rw o.no_ground at h.leaves in
      let n : length m ≡ length l = ap length b ∙ length-put l 0 t in
      record {
        whole = λ r. rw h.leaves (wrote-front (room_ground l) l t k a);
        within = omega (arith, o.room, o.size);
      }

  printed-not : (q : Refusal) → w ≡ Err q → length s.notes.session ≡ 10 → PrintsIn 0 l m (text_of (lent_reading s es))
  unfolding written_words
  printed-not q e ten =
      let t = text_of (lent_reading s es) in
      record {
        whole = λ r.
            let d = with_room w l m t r h in
            let f : 0 + length t ≤ length l = omega (arith, fits s.place (lent_notes s.notes es) ten) in
            let a = (writes-done l 0 t m f d.leaves).answers in
            let v = which-of (sym (ap written_words e) ∙ d.answers ∙ sym a) in
            let z : ◌≡◌ {A = ℕ} 0 1 = cc in
            absurd (omega arith);
        within = omega arith;
      }

  pub printed-all : (k : ℕ) → k ≡ result_unwrap_or w 0 → length s.notes.session ≡ 10 → PrintsIn k l m (text_of (lent_reading s es))
  printed-all k e ten = go w refl
    where
      go : (v : Written) → w ≡ v → PrintsIn k l m (text_of (lent_reading s es))
      go (Ok n) f = let g : k ≡ n = e ∙ ap (λ (v : Written). result_unwrap_or v 0) f in rw g (printed-so n f)
      go (Err q) f = let g : k ≡ 0 = e ∙ ap (λ (v : Written). result_unwrap_or v 0) f in rw g (printed-not q f ten)
