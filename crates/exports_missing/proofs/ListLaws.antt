-- What is missing is read out: the ranges that are listed, and the text.
use Prim.Native.Nat.{ℕ, ◌+◌, ◌-◌, ◌≤◌, ◌<◌}
use mathlib.Core.List.{List, [], ◌∷◌, append-nil}
use mathlib.Core.Bool.{Bool, true, false, ◌&&◌}
use mathlib.Core.Path.{◌≡◌, refl, ap, ◌∙◌}
use native.Mathlib.Omega.{arith}
use lib.ListN.{length, drop, length-drop, drop_of_length-le}
use lib.Dec.{ltb, leb, eqb}
use borrow.Rule.Slice.PartMut.{mid_of, put_mid}
use borrow.Author.Tests.{lt-ltb, le-ltb, ne_eqb}
use Rattle.std.specs.Prelude.{if◌then◌else◌, Option, is_some}
use Rattle.wire.specs.Output.{written_words, write_refusal, Writes}
use Rattle.wire.specs.Output.{Written}
use Rattle.wire.proofs.Numbers.{part_to_end}
use Rattle.capture_events.specs.declared.place.Place.{Place}
use Rattle.capture_events.specs.declared.place.Place.TheVariants.{Settings, Records, Done, Refused}
use Rattle.missing_ranges.specs.declared.ranges.Missing.{Missing}
use Rattle.missing_ranges.specs.declared.listing.Listed.{Listed}
use Rattle.missing_ranges.specs.Edges.{Range, total_from}
use Rattle.missing_ranges.specs.Notes.{missing, lent, is_usable, ranges_in, total_in}
use Rattle.missing_ranges.specs.Listing.{IsRange, first_of, last_of}
use Rattle.missing_text.specs.Text.{room, room_ground}
use Rattle.missing_capture.specs.declared.reading.Reading.{Reading}
use Rattle.missing_capture.specs.Reading.{lent_reading, text_of}
use Rattle.host_answers.specs.Answers.{or_else, short, flag, padded, lent_from, is_one_of, RefusesOnly, AnswersWith, AnswersWriting}
use Rattle.host_answers.proofs.AnswerLaws.{or-first, or-next, no-success}
use Rattle.host_answers.proofs.OnlyLaws.{answers-only, only_if, reported-only}
use Rattle.host_answers.proofs.WritingLaws.{writing-plain}
use Rattle.host_missing.specs.Reading.{reading_in}
use Rattle.exports_missing.specs.Calls.{edges_ladder, is_opened, is_listing, ranges_of, CountsMissing, ListsRange, WritesMissing, listed_of}
use Rattle.exports_missing.proofs.LentLaws.{refused-only}

-- ---- settings were read

module _ (p : Place) where
  pub opened-settings : p ≡ Settings → false ≡ is_opened p
  unfolding is_opened
  opened-settings e = rw e

  pub opened-records : (n : ℕ) → p ≡ Records n → true ≡ is_opened p
  unfolding is_opened
  opened-records n e = rw e

  pub opened-done : p ≡ Done → true ≡ is_opened p
  unfolding is_opened
  opened-done e = rw e

  pub opened-refused : p ≡ Refused → false ≡ is_opened p
  unfolding is_opened
  opened-refused e = rw e

-- ---- the ranges that are listed

module _ (l : List ℕ) (x : Reading) (b : Bool) (a : x ≡ reading_in l) (e : b ≡ is_opened x.place) where
  pub listed-some : b ≡ true → x.notes.missing ≡ listed_of (reading_in l)
  unfolding listed_of
  listed-some t = rw (← a, ← e, t)

  pub listed-none : b ≡ false → missing true 0 0 ≡ listed_of (reading_in l)
  unfolding listed_of
  listed-none t = rw (← a, ← e, t)

module _ (x : Reading) (es : List ℕ) where
  usable-so : is_usable (lent (listed_of x) es) ≡ is_listing (lent_reading x es)
  unfolding listed_of is_listing is_usable
  usable-so = go (is_opened x.place)
    where
      go : (b : Bool) → is_usable (lent (if b then x.notes.missing else missing true 0 0) es) ≡ b && is_usable (lent x.notes.missing es)
      go true = refl
      go false = refl

  ranges-so : ranges_in (lent (listed_of x) es) ≡ ranges_of (lent_reading x es)
  unfolding listed_of is_listing ranges_of ranges_in is_usable
  ranges-so = go (is_opened x.place)
    where
      twice : (b : Bool) (rs : List Range) → (if b then rs else []) ≡ (if b then (if b then rs else []) else [])
      twice true rs = refl
      twice false rs = refl

      go : (b : Bool) → ranges_in (lent (if b then x.notes.missing else missing true 0 0) es) ≡ if b && is_usable (lent x.notes.missing es) then ranges_in (lent x.notes.missing es) else []
      go true = twice (is_usable (lent x.notes.missing es)) _
      go false = refl

-- ---- read out

module _ (l es ws ws' : List ℕ) (g : ℕ) (s : Missing) (r : ℕ) (e : g ≡ edges_ladder l es) (i : s ≡ listed_of (reading_in l)) where
  ranges-are : ranges_in (lent s es) ≡ ranges_of (lent_reading (reading_in l) es)
  ranges-are = ap (λ (y : Missing). ranges_in (lent y es)) i ∙ ranges-so (reading_in l) es

  pub counts-so : (b : Bool) (f n t : ℕ) → b ≡ is_usable (lent s es) → f ≡ flag b → n ≡ length (ranges_in (lent s es)) → t ≡ total_in (lent s es)
      → AnswersWith r ws ws' g (f ∷ n ∷ t ∷ []) → CountsMissing r l es ws ws'
  counts-so b f n t u v p q a =
      let o : f ≡ flag (is_listing (lent_reading (reading_in l) es)) = v ∙ ap flag (u ∙ ap (λ (y : Missing). is_usable (lent y es)) i ∙ usable-so (reading_in l) es) in
      let p₁ : n ≡ length (ranges_of (lent_reading (reading_in l) es)) = p ∙ ap length ranges-are in
      let q₁ : t ≡ total_from 0 (ranges_of (lent_reading (reading_in l) es)) = q ∙ ap (total_from 0) ranges-are in
      rw (e, o, p₁, q₁) at a

  pub lists-so : (place : ℕ) (y : Option Listed) (vs : List ℕ) → IsRange y (lent s es) place
      → vs ≡ flag (is_some y) ∷ first_of y ∷ last_of y ∷ [] → AnswersWith r ws ws' g vs → ListsRange r l es place ws ws'
  lists-so place y vs is v a =
      let o : flag (is_some y) ≡ flag (ltb place (length (ranges_in (lent s es)))) = ap flag is.there in
      rw ranges-are at (rw (e, v, o, is.first, is.last) at a)

-- a refusal by what is lent
pub answered-none : (l es ws vs : List ℕ) (g : ℕ) → (g ≡ 0 → ⊥) → g ≡ edges_ladder l es → AnswersWith g ws ws (edges_ladder l es) vs
answered-none l es ws vs g z e =
    record { returns = rw (← e) (or-first g _ z); words = no-success g _ ws z }

pub answered-only : (l es ws ws' vs : List ℕ) (g r : ℕ) → g ≡ edges_ladder l es → AnswersWith r ws ws' g vs → RefusesOnly r (19 ∷ 41 ∷ [])
unfolding is_one_of
answered-only l es ws ws' vs g r e a = answers-only r g ws ws' vs (19 ∷ 41 ∷ []) a (refused-only l es g e) refl

-- ---- the text

room-only : (out : List ℕ) → RefusesOnly (room_ground out) (19 ∷ 41 ∷ [])
unfolding room_ground is_one_of
room-only out = only_if (ltb (length out) room) 41 0 (19 ∷ 41 ∷ []) refl refl

pub text-only : (r : ℕ) (w : Written) (ws ws' vs l m bs : List ℕ) → AnswersWith r ws ws' (or_else (written_words w).refusal (short false)) vs → Writes w l m (room_ground l) 0 bs
    → RefusesOnly r (19 ∷ 41 ∷ [])
unfolding is_one_of
text-only r w ws ws' vs l m bs a x = reported-only r (room_ground l) false w ws ws' vs l m bs (19 ∷ 41 ∷ []) a x (room-only l) refl

module _ (l es ws out : List ℕ) (k : ℕ) (e : k ≡ edges_ladder l es) where
  refused-so : (r : ℕ) → (r ≡ 0 → ⊥) → r ≡ or_else (write_refusal (or_else (edges_ladder l es) (room_ground out)) out 0 (text_of (lent_reading (reading_in l) es))) (short (ltb (length ws) 1))
      → WritesMissing r l es out out ws ws
  refused-so r z h = record { returns = h; words = no-success r _ ws z; output = no-success r _ out z }

  pub text-refused : (k ≡ 0 → ⊥) → WritesMissing k l es out out ws ws
  unfolding write_refusal
  text-refused z = refused-so k z (rw (← e, ← or-first k (room_ground out) z, ne_eqb k 0 z) (or-first k _ z))

  -- too few words are 41, and so is whatever else may be left
  room-or-short : (bs : List ℕ) → 41 ≡ or_else (write_refusal (room_ground out) out 0 bs) 41
  unfolding room_ground write_refusal or_else
  room-or-short bs = go (ltb (length out) room) (leb (0 + length bs) (length out))
    where
      go : (b c : Bool) → ◌≡◌ {A = ℕ} 41 (if eqb (if eqb (if b then 41 else 0) 0 then (if c then 0 else 41) else (if b then 41 else 0)) 0 then 41 else (if eqb (if b then 41 else 0) 0 then (if c then 0 else 41) else (if b then 41 else 0)))
      go true c = refl
      go false true = refl
      go false false = refl

  pub text-words : k ≡ 0 → length ws < 1 → WritesMissing 41 l es out out ws ws
  unfolding short
  text-words z w =
      refused-so 41 (λ q. omega arith) (rw (← e, ← or-next k (room_ground out) z, lt-ltb (length ws) 1 w) (room-or-short (text_of (lent_reading (reading_in l) es))))

-- all of the output is lent
whole-mid : (l : List ℕ) → mid_of 0 (length l - 0) l ≡ l
whole-mid l = part_to_end 0 l

whole-put : (l m : List ℕ) → put_mid 0 (length l - 0) l m ≡ m
whole-put l m =
    let rest : drop (length l - 0) (drop 0 l) ≡ [] = drop_of_length-le (drop 0 l) {i = length l - 0} (simp length-drop (omega arith)) in
    rw rest (append-nil m)

pub text-so : (l es ws ws' out out' : List ℕ) (k : ℕ) (x : Reading) (w : Written) (r : ℕ) → k ≡ edges_ladder l es → k ≡ 0 → 1 ≤ length ws → x ≡ reading_in l
    → Writes w out out' (room_ground out) 0 (text_of (lent_reading x es))
    → AnswersWith r ws ws' (or_else (written_words w).refusal (short false)) (padded 1 (written_words w).values) → WritesMissing r l es out out' ws ws'
unfolding lent_from
text-so l es ws ws' out out' k x w r e z h a t u =
    let p = writing-plain ws out (room_ground out) 0 (text_of (lent_reading x es)) w r ws' out' u (rw (le-ltb (length ws) 1 h) refl) (rw (whole-mid out) t) in
    let q : AnswersWriting r ws ws' out out' (room_ground out) (text_of (lent_reading x es)) = rw (whole-put out out') at p in
    rw (← e, ← or-next k (room_ground out) z, ← a) q
