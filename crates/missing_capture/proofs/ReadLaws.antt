-- A reading, as the code has it.
use mathlib.Core.Path.{◌≡◌, refl, ap, sym, ◌∙◌}
use mathlib.Core.List.{List, [], ◌∷◌, ◌++◌}
use mathlib.Core.Bool.{Bool, true, false}
use mathlib.Core.Logic.{◌⊎◌, inl, inr}
use Rattle.std.specs.Prelude.{Option, Some, None}
use Prim.Native.Nat.{ℕ, ◌+◌, ◌*◌, ◌-◌, ◌^◌, ◌≤◌, ◌<◌}
use native.Mathlib.Omega.{arith}
use lib.ListN.{length, take, drop, drop_of_length-le}
use lib.Seq.{length-take-le}
use mir.Val.{Fits}
use mir.Syntax.{w64}
use borrow.Author.Tests.{eq-eqb, ne_eqb}
use Rattle.wire.specs.Output.{Writes}
use Rattle.wire.specs.Output.{Written}
use Rattle.wire.proofs.Numbers.{part_to_end}
use Rattle.wire.proofs.Cases.{zero_or_not}
use Rattle.wire.proofs.Outputs.{length-put}
use Rattle.capture_settings.specs.declared.settings.Settings as declared
use Rattle.capture_lines.specs.Lines.{settings_refused}
use Rattle.capture_events.specs.declared.place.Place.{Place}
use Rattle.capture_events.specs.declared.place.Place.TheVariants.{Settings, Records, Done, Refused}
use Rattle.capture_events.specs.declared.place.Found.{Found}
use Rattle.capture_events.specs.declared.place.Found.TheVariants as found
use Rattle.capture_events.specs.declared.place.Next.{Next}
use Rattle.capture_events.specs.Events.{Event, opened, bad_settings, datagram, cut_short, fold, At, settings, records, done, refused, read_on, waits_at, read_piece, end_at, read_last}
use Rattle.capture_events.specs.Next.{at_of, place_at, next_of, events_in, read_by, is_none, EndsAt}
use Rattle.capture_events.proofs.EventLaws.{fold-joins}
use Rattle.capture_events.proofs.NextLaws.{place_at-at_of, at_place, Going, going_start, going-within, going_next, going_less, going-folded, going-at, going-used}
use Rattle.missing_records.specs.declared.Notes.{Notes}
use Rattle.missing_ranges.specs.Notes.{lent, start_in}
use Rattle.missing_records.specs.Records.{LentNotes, lent_notes, start_notes, take_of}
use Rattle.missing_records.proofs.TakeLaws.{take_long}
use Rattle.missing_text.specs.Text.{missing_text, room, room_ground}
use Rattle.missing_text.proofs.TextLaws.{no_ground}
use Rattle.missing_capture.specs.declared.reading.Reading.{Reading}
use Rattle.missing_capture.specs.declared.reading.Fed.{Fed}
use Rattle.missing_capture.specs.Reading.{reading, fed, no_notes, start_reading, lent_reading, LentFed, lent_fed, noted_by, fed_by, feed_of, finish_of, text_at, text_of}

-- ---- the start

pub start-reading : reading Settings no_notes ≡ start_reading
unfolding start_reading
start-reading = refl

-- ---- one event

pub datagram-none : (l : List ℕ) → length l < 2 → take 0 l ≡ drop 2 l
datagram-none l h = sym (drop_of_length-le l {i = 2} (omega arith))

pub datagram-some : (l : List ℕ) → take (length l - 2) (drop 2 l) ≡ drop 2 l
datagram-some l = part_to_end 2 l

module _ (x : Notes) (l : List ℕ) (f : Found) (bs : List ℕ) where
  pub note-bad : f ≡ found.BadSettings → lent_notes x l ≡ fold noted_by (lent_notes x l) (events_in (Some f) bs)
  unfolding fold events_in noted_by
  note-bad e = rw e

  module _ (y : Notes) (m : List ℕ) where
    pub note-opened : (s : declared.Settings) → f ≡ found.Opened s → lent_notes y m ≡ start_notes s.session l s.next.0
        → lent_notes y m ≡ fold noted_by (lent_notes x l) (events_in (Some f) bs)
    unfolding fold events_in noted_by
    note-opened s e g = rw e g

    pub note-datagram : (d : List ℕ) → f ≡ found.Datagram → d ≡ drop 2 bs → lent_notes y m ≡ take_of (lent_notes x l) d
        → lent_notes y m ≡ fold noted_by (lent_notes x l) (events_in (Some f) bs)
    unfolding fold events_in noted_by
    note-datagram d e h g = rw (e, ← h) g

-- ---- the loop: p comes next, the bytes l are left, and n is what `look` reads of them

-- an event is there exactly where one was found
found_none : (f : Option Found) (l : List ℕ) → f ≡ None → is_none (events_in f l) ≡ true
unfolding events_in is_none
found_none f l e = rw e

found_some : (f : Option Found) (l : List ℕ) (x : Found) → f ≡ Some x → is_none (events_in f l) ≡ false
unfolding events_in is_none
found_some f l (found.Opened s) e = rw e
found_some f l found.BadSettings e = rw e
found_some f l found.Datagram e = rw e

-- the lent words keep their length
event-long : (x : LentNotes) (e : Event) → length (noted_by x e).edges ≡ length x.edges
unfolding noted_by start_in
event-long x (opened s) = length-put x.edges 0 (s.next.0 ∷ [])
event-long x bad_settings = refl
event-long x (datagram d) = take_long x d
event-long x cut_short = refl

pub fold-long : (x : LentNotes) (es : List Event) → length (fold noted_by x es).edges ≡ length x.edges
unfolding fold
fold-long x [] = refl
fold-long x (e ∷ es) = fold-long (noted_by x e) es ∙ event-long x e

pub record Looping (x₀ : LentNotes) (p₀ : Place) (l₀ : List ℕ) (x : LentNotes) (p : Place) (l : List ℕ) : Type 0 where
  pub going : Going noted_by x₀ (at_of p₀) l₀ x (at_of p) l
  pub long : length x.edges ≡ length x₀.edges

pub loop-start : (x : Notes) (es l : List ℕ) (p : Place) → Looping (lent_notes x es) p l (lent_notes x es) p l
loop-start x es l p = record { going = going_start noted_by (lent_notes x es) (at_of p) l; long = refl }

module _ {x₀ : LentNotes} {p₀ : Place} {l₀ : List ℕ} {x : Notes} {es : List ℕ} {p : Place} {l : List ℕ} (g : Looping x₀ p₀ l₀ (lent_notes x es) p l) where
  pub loop-shorter : length l ≤ length l₀
  loop-shorter = g.going.shorter

  pub loop-long : length es ≡ length x₀.edges
  loop-long = g.long

  module _ (n : Next) (r : read_by n l ≡ next_of (at_of p) l) where
    pub loop-used : n.used ≤ length l
    loop-used = going-within noted_by x₀ (at_of p₀) l₀ (lent_notes x es) (at_of p) l g.going (read_by n l) r

    pub loop-part : n.used ≡ length (take n.used l)
    loop-part = sym (length-take-le n.used l loop-used)

    pub loop-fits : length l₀ * 1 < 2 ^ 63 → Fits w64 (length l₀ - length l + n.used)
    loop-fits h = record { fits = omega (arith, g.going.shorter, loop-used) }

    module _ (v : Found) (e : n.event ≡ Some v) where
      some : is_none (read_by n l).events ≡ false
      some = found_some n.event (take n.used l) v e

      pub loop-next : (y : Notes) (m : List ℕ) → lent_notes y m ≡ fold noted_by (lent_notes x es) (events_in (Some v) (take n.used l))
          → Looping x₀ p₀ l₀ (lent_notes y m) n.place (take (length l - n.used) (drop n.used l))
      loop-next y m f =
          let f₁ : lent_notes y m ≡ fold noted_by (lent_notes x es) (events_in n.event (take n.used l)) = rw e f in
          rw (part_to_end n.used l)
          (record {
            going = going_next noted_by x₀ (at_of p₀) l₀ (lent_notes x es) (at_of p) l g.going (read_by n l) r some (lent_notes y m) f₁;
            long = ap (λ (z : LentNotes). length z.edges) f₁ ∙ fold-long (lent_notes x es) (read_by n l).events ∙ g.long;
          })

      pub loop-less : length (read_on (at_of n.place) (take (length l - n.used) (drop n.used l))).events < length (read_on (at_of p) l).events
      loop-less = rw (part_to_end n.used l) (going_less noted_by x₀ (at_of p₀) l₀ (lent_notes x es) (at_of p) l g.going (read_by n l) r some)

    pub loop-end : n.event ≡ None → lent_fed (fed (reading n.place x) (length l₀ - length l + n.used)) es ≡ fed_by x₀ (read_on (at_of p₀) l₀)
    loop-end t =
        let z = found_none n.event (take n.used l) t in
        let d = going-folded noted_by x₀ (at_of p₀) l₀ (lent_notes x es) (at_of p) l g.going (read_by n l) r z in
        let a = going-at noted_by x₀ (at_of p₀) l₀ (lent_notes x es) (at_of p) l g.going (read_by n l) r z in
        let u = going-used noted_by x₀ (at_of p₀) l₀ (lent_notes x es) (at_of p) l g.going (read_by n l) r z in
        let q : n.place ≡ place_at (read_on (at_of p₀) l₀).at = sym (place_at-at_of n.place) ∙ ap place_at a in
        ap (λ (y : LentNotes). lent_fed (fed (reading n.place y.notes) (length l₀ - length l + n.used)) y.edges) d
        ∙ rw (q, u)

-- ---- feeding and finishing

module _ (s : Reading) (es l : List ℕ) (w : Bool) (e : w ≡ waits_at (at_of s.place) (length l)) where
  pub feed-waits : w ≡ true → lent_fed (fed s 0) es ≡ feed_of (lent_reading s es) l
  unfolding feed_of read_piece fold
  feed-waits h = rw (← e, h) (ap (λ (p : Place). lent_fed (fed (reading p s.notes) 0) es) (sym (place_at-at_of s.place)))

  pub feed-advances : (f : Fed) (m : List ℕ) → w ≡ false → lent_fed f m ≡ fed_by (lent_notes s.notes es) (read_on (at_of s.place) l)
      → lent_fed f m ≡ feed_of (lent_reading s es) l
  unfolding feed_of read_piece
  feed-advances f m h g = rw (← e, h) g

-- the end changes no notes, whatever is left
pub end-notes : (x : LentNotes) (a : At) (n : ℕ) → fold noted_by x (end_at a n).events ≡ x
unfolding end_at fold noted_by
end-notes x settings n = refl
end-notes x (records k) n = zero_or_not _ n (λ h. rw (eq-eqb _ _ h)) (λ h. rw (ne_eqb _ _ h))
end-notes x done n = refl
end-notes x refused n = refl

pub finish-so : (s : Reading) (es m l : List ℕ) (f : Fed) (p : Place) → lent_fed f m ≡ fed_by (lent_notes s.notes es) (read_on (at_of s.place) l)
    → EndsAt f.reading.place p → lent_reading (reading p f.reading.notes) m ≡ finish_of (lent_reading s es) l
unfolding finish_of read_last
finish-so s es m l f p e h =
    let x = lent_notes s.notes es in
    let r = read_on (at_of s.place) l in
    let n = length l - r.used in
    let y = fold noted_by x r.events in
    let z : fold noted_by x (r.events ++ (end_at r.at n).events) ≡ y = fold-joins noted_by x r.events (end_at r.at n).events ∙ end-notes y r.at n in
    let q : f.reading.place ≡ place_at r.at = ap (λ (g : LentFed). g.fed.reading.place) e in
    let a : at_of f.reading.place ≡ r.at = ap at_of q ∙ at_place r.at in
    let b : p ≡ place_at (end_at r.at n).at =
    sym (place_at-at_of p) ∙ ap place_at (h n ∙ ap (λ (c : At). (end_at c n).at) a) in
    let d : lent_notes f.reading.notes m ≡ y = ap (λ (g : LentFed). lent_notes g.fed.reading.notes g.edges) e in
    ap (λ (v : LentNotes). lent_reading (reading p v.notes) v.edges) (d ∙ sym z) ∙ rw b

pub finish-long : (s : Reading) (es m l : List ℕ) (f : Fed) → lent_fed f m ≡ fed_by (lent_notes s.notes es) (read_on (at_of s.place) l) → length m ≡ length es
finish-long s es m l f e = ap (λ (g : LentFed). length g.edges) e ∙ fold-long (lent_notes s.notes es) (read_on (at_of s.place) l).events

-- ---- writing

module _ (s : Reading) (es l m : List ℕ) (w : Written) where
  pub write-refused : room ≤ length l → (s.place ≡ Settings) ⊎ (s.place ≡ Refused) → Writes w l m 0 0 settings_refused
      → Writes w l m (room_ground l) 0 (text_of (lent_reading s es))
  unfolding text_at
  write-refused h (inl e) t = rw (e, no_ground l h) t
  write-refused h (inr e) t = rw (e, no_ground l h) t

  pub write-ranges : ((k : ℕ) × (s.place ≡ Records k)) ⊎ (s.place ≡ Done) → Writes w l m (room_ground l) 0 (missing_text s.notes.session (lent s.notes.missing es))
      → Writes w l m (room_ground l) 0 (text_of (lent_reading s es))
  unfolding text_at
  write-ranges (inl e) t = rw (e.1) t
  write-ranges (inr e) t = rw e t
