-- A reading laid, and read back.
use Prim.Native.Nat.{ℕ, ◌+◌, ◌-◌, ◌^◌, ◌≤◌, ◌<◌, min}
use mathlib.Core.List.{List, [], ◌∷◌, ◌++◌, append_assoc}
use mathlib.Core.Bool.{Bool, true, false, not}
use mathlib.Core.Path.{◌≡◌, refl, ap, ◌∙◌}
use native.Mathlib.Omega.{arith}
use native.Mathlib.Nat.{min-eq_left}
use lib.ListN.{length, get_or, take, drop, length-append}
use lib.Dec.{eqb}
use borrow.Author.Tests.{ne_eqb, le-ltb, lt-ltb}
use mir.Val.{bool_byte}
use Rattle.wire.specs.Bounds.{session_size}
use Rattle.wire.specs.Output.{put}
use Rattle.wire.specs.Parts.{first_bytes}
use Rattle.wire.proofs.Cases.{below_or_not}
use Rattle.wire.proofs.Numbers.{part_to_end}
use Rattle.wire.proofs.Outputs.{length-put}
use Rattle.wire.proofs.PartLaws.{name-ten}
use Rattle.capture_records.specs.Records.{most_records}
use Rattle.capture_events.specs.declared.place.Place.{Place}
use Rattle.capture_events.specs.declared.place.Place.TheVariants.{Settings, Records, Done, Refused}
use Rattle.capture_events.specs.Events.{is_over_at}
use Rattle.capture_events.specs.Next.{at_of}
use Rattle.missing_ranges.specs.Notes.{missing}
use Rattle.missing_capture.specs.declared.reading.Reading.{Reading}
use Rattle.missing_capture.specs.Reading.{reading, start_reading}
use Rattle.host_answers.specs.Answers.{flag}
use Rattle.host_states.specs.Little.{little, little_bytes}
use Rattle.host_states.specs.States.{missing_code, is_open, open_byte, on_code, StatePromises}
use Rattle.host_states.proofs.LittleLaws.{length-little}
use Rattle.host_states.proofs.StateLaws.{open-back, put_next, put-behind, keeps-not, keeps-laid, laid-front, little-past-field, byte-past-field, little-in-front, name-in-front, state-promises}
use Rattle.host_missing.specs.Reading.{missing_size, place_of, stage_byte, left_of, range_bytes, missing_bytes, refused_reading, reading_in, KeepsMissing, reading_of, LaysMissing}

-- ---- the place

place-back : (p : Place) → place_of (not (is_over_at (at_of p))) (stage_byte p) (left_of p) ≡ p
unfolding place_of stage_byte left_of is_over_at at_of
place-back Settings = refl
place-back (Records left) = refl
place-back Done = refl
place-back Refused = refl

-- of a known case
module _ (p : Place) where
  pub byte-settings : p ≡ Settings → 1 ≡ stage_byte p
  unfolding stage_byte
  byte-settings e = rw e

  pub byte-records : (n : ℕ) → p ≡ Records n → 2 ≡ stage_byte p
  unfolding stage_byte
  byte-records n e = rw e

  pub byte-done : p ≡ Done → 3 ≡ stage_byte p
  unfolding stage_byte
  byte-done e = rw e

  pub byte-refused : p ≡ Refused → 0 ≡ stage_byte p
  unfolding stage_byte
  byte-refused e = rw e

  pub left-settings : p ≡ Settings → 0 ≡ left_of p
  unfolding left_of
  left-settings e = rw e

  pub left-records : (n : ℕ) → p ≡ Records n → n ≡ left_of p
  unfolding left_of
  left-records n e = rw e

  pub left-done : p ≡ Done → 0 ≡ left_of p
  unfolding left_of
  left-done e = rw e

  pub left-refused : p ≡ Refused → 0 ≡ left_of p
  unfolding left_of
  left-refused e = rw e

module _ (o : Bool) (b n : ℕ) where
  pub place-records : o ≡ true → b ≡ 2 → Records n ≡ place_of o b n
  unfolding place_of
  place-records e f = rw (e, f)

  pub place-settings : o ≡ true → (b ≡ 2 → ⊥) → Settings ≡ place_of o b n
  unfolding place_of
  place-settings e f = rw (e, ne_eqb b 2 f)

  pub place-done : o ≡ false → b ≡ 3 → Done ≡ place_of o b n
  unfolding place_of
  place-done e f = rw (e, f)

  pub place-refused : o ≡ false → (b ≡ 3 → ⊥) → Refused ≡ place_of o b n
  unfolding place_of
  place-refused e f = rw (e, ne_eqb b 3 f)

-- ---- read

pub refused-start : (x : Reading) → x ≡ start_reading → reading Refused x.notes ≡ refused_reading
unfolding start_reading
refused-start x e = rw e

pub reading-short : (l : List ℕ) (x : Reading) → x ≡ refused_reading → length l < missing_size → x ≡ reading_in l
unfolding reading_in
reading-short l x e h = rw (e, lt-ltb (length l) missing_size h)

pub reading-read : (l name : List ℕ) (o : Bool) (p : Place) (b n k c t f : ℕ) → missing_size ≤ length l → o ≡ is_open missing_code l → b ≡ get_or l 1 0 → n ≡ little l 20 8
    → k ≡ min n most_records → p ≡ place_of o b k → name ≡ first_bytes session_size (take (length l - 2) (drop 2 l))
    → f ≡ get_or l 36 0 → c ≡ little l 28 8 → t ≡ little l 12 8
    → reading_of p name (missing (not (eqb f 0)) c t) ≡ reading_in l
unfolding reading_in
reading-read l name o p b n k c t f h io ib io₂ ik ip is jf jc jt =
    rw (le-ltb (length l) missing_size h, ip, io, ib, ik, io₂, is, jf, jc, jt, part_to_end 2 l)

pub session-within : (l : List ℕ) → missing_size ≤ length l → 2 ≤ length l
session-within l h = omega arith

-- one that was read has a name of ten bytes
pub reading-ten : (l : List ℕ) → length (reading_in l).notes.session ≡ session_size
unfolding reading_in
reading-ten l =
    below_or_not _ (length l) missing_size (λ h. rw (lt-ltb (length l) missing_size h) refl) (λ h. rw (le-ltb (length l) missing_size h) (name-ten (drop 2 l)))

-- ---- laid

pub head-put : (l l₁ l₂ name : List ℕ) (a b : ℕ) → missing_size ≤ length l → length name ≡ session_size → l₁ ≡ put l 0 (a ∷ b ∷ []) → l₂ ≡ put l₁ 2 name
    → l₂ ≡ put l 0 (a ∷ b ∷ name)
head-put l l₁ l₂ name a b h ten e f = put_next l l₁ l₂ (a ∷ b ∷ []) name 2 refl (omega arith) e f

pub still-room : (l l₁ bs : List ℕ) (k : ℕ) → missing_size ≤ length l → l₁ ≡ put l k bs → missing_size ≤ length l₁
still-room l l₁ bs k h e = omega (arith, ap length e ∙ length-put l k bs)

module _ (t n c : ℕ) (b : Bool) where
  length-2 : length (little_bytes 8 t ++ little_bytes 8 n) ≡ 16
  length-2 = omega (arith, length-append (little_bytes 8 t) (little_bytes 8 n), length-little 8 t, length-little 8 n)

  length-3 : length (little_bytes 8 t ++ little_bytes 8 n ++ little_bytes 8 c) ≡ 24
  length-3 = omega (arith, length-2, length-append (little_bytes 8 t ++ little_bytes 8 n) (little_bytes 8 c), length-little 8 c)

  length-ranges : length (range_bytes n (missing b c t)) ≡ 25
  unfolding range_bytes
  length-ranges = length-append (little_bytes 8 t ++ little_bytes 8 n ++ little_bytes 8 c) (flag b ∷ []) ∙ omega (arith, length-3)

  pub ranges-put : (l l₀ l₁ l₂ l₃ : List ℕ) (f : ℕ) → missing_size ≤ length l → l₀ ≡ put l 12 (little_bytes 8 t) → l₁ ≡ put l₀ 20 (little_bytes 8 n)
      → l₂ ≡ put l₁ 28 (little_bytes 8 c) → f ≡ flag b → l₃ ≡ put l₂ 36 (f ∷ []) → l₃ ≡ put l 12 (range_bytes n (missing b c t))
  unfolding range_bytes
  ranges-put l l₀ l₁ l₂ l₃ f h e₀ e₁ e₂ g e₃ =
      let f₁ = put-behind l l₀ l₁ (little_bytes 8 t) (little_bytes 8 n) 12 20 (omega (arith, length-little 8 t)) (omega (arith, length-little 8 n)) e₀ e₁ in
      let f₂ = put-behind l l₁ l₂ _ (little_bytes 8 c) 12 28 (omega (arith, length-2)) (omega (arith, length-little 8 c)) f₁ e₂ in
      put-behind l l₂ l₃ _ (flag b ∷ []) 12 36 (omega (arith, length-3)) (omega arith) f₂ (rw g at e₃)

pub byte-flag : (b : Bool) (f : ℕ) → f ≡ bool_byte b → f ≡ flag b
byte-flag true f e = e
byte-flag false f e = e

missing-length : (x : Reading) → length x.notes.session ≡ session_size → length (missing_bytes x) ≡ missing_size
unfolding missing_bytes
missing-length x ten =
    let m = x.notes.missing in
    omega (arith, length-append x.notes.session (range_bytes (left_of x.place) m), length-ranges m.highest.0 (left_of x.place) m.closed m.refused)

refused-back : (b : Bool) → not (eqb (flag b) 0) ≡ b
refused-back true = refl
refused-back false = refl

module _ (p : Place) (name : List ℕ) (b : Bool) (c t : ℕ) (ten : length name ≡ session_size) where
  abbrev first : ℕ
  first = open_byte missing_code (not (is_over_at (at_of p)))

  abbrev whole : Reading
  whole = reading_of p name (missing b c t)

  -- its fields, one behind the other
  abbrev fields : List ℕ → List ℕ
  fields r = little_bytes 8 t ++ (little_bytes 8 (left_of p) ++ (little_bytes 8 c ++ (flag b ∷ r)))

  range-fields : (r : List ℕ) → range_bytes (left_of p) (missing b c t) ++ r ≡ fields r
  unfolding range_bytes
  range-fields r = simp append_assoc

  missing-fields : (r : List ℕ) → missing_bytes whole ++ r ≡ first ∷ stage_byte p ∷ (name ++ fields r)
  unfolding missing_bytes
  missing-fields r = append_assoc (first ∷ stage_byte p ∷ name) _ r ∙ ap (λ (y : List ℕ). first ∷ stage_byte p ∷ (name ++ y)) (range-fields r)

  -- it is read from them, whatever follows
  missing-back : (r m : List ℕ) → missing_size ≤ length m → m ≡ missing_bytes whole ++ r → left_of p < 2 ^ 32 → c < 2 ^ 64 → t < 2 ^ 64 → reading_in m ≡ whole
  unfolding reading_in
  missing-back r m h e hn hc ht =
      let at : m ≡ first ∷ stage_byte p ∷ (name ++ fields r) = e ∙ missing-fields r in
      let opened : is_open missing_code m ≡ not (is_over_at (at_of p)) = rw at (open-back missing_code (not (is_over_at (at_of p))) _ (omega arith)) in
      let front : List ℕ = first ∷ stage_byte p ∷ name in
      let twelve : length front ≡ 12 = omega arith in
      let past : (k n : ℕ) → little m (12 + k) n ≡ little (fields r) k n =
      λ k n. ap (λ (y : List ℕ). little y (12 + k) n) at ∙ little-past-field front (fields r) 12 twelve k n in
      let top : little m 12 8 ≡ t = past 0 8 ∙ little-in-front 8 t _ ht in
      let left : little m 20 8 ≡ left_of p =
      past 8 8 ∙ little-past-field (little_bytes 8 t) _ 8 (length-little 8 t) 0 8 ∙ little-in-front 8 (left_of p) _ (omega arith) in
      let closed : little m 28 8 ≡ c =
      past 16 8 ∙ little-past-field (little_bytes 8 t) _ 8 (length-little 8 t) 8 8 ∙ little-past-field (little_bytes 8 (left_of p)) _ 8 (length-little 8 (left_of p)) 0 8 ∙ little-in-front 8 c _ hc in
      let last : get_or m 36 0 ≡ flag b =
      ap (λ (y : List ℕ). get_or y 36 0) at
      ∙ byte-past-field front (fields r) 12 twelve 24
      ∙ byte-past-field (little_bytes 8 t) _ 8 (length-little 8 t) 16
      ∙ byte-past-field (little_bytes 8 (left_of p)) _ 8 (length-little 8 (left_of p)) 8
      ∙ byte-past-field (little_bytes 8 c) (flag b ∷ r) 8 (length-little 8 c) 0 in
      let most : min (little m 20 8) most_records ≡ left_of p = rw left (min-eq_left (omega arith)) in
      let stage : get_or m 1 0 ≡ stage_byte p = rw at refl in
      let behind : drop 2 m ≡ name ++ fields r = rw at refl in
      let named : first_bytes session_size (drop 2 m) ≡ name = rw behind (name-in-front session_size name _ ten) in
      rw (le-ltb (length m) missing_size h, opened, stage, most, place-back p, named, last, refused-back b, closed, top)

  pub reading-lays : (l l₁ l₂ : List ℕ) (o : Bool) (a g n : ℕ) → missing_size ≤ length l → o ≡ is_over_at (at_of p) → a ≡ open_byte missing_code (not o)
      → g ≡ stage_byte p → l₁ ≡ put l 0 (a ∷ g ∷ name) → n ≡ left_of p → l₂ ≡ put l₁ 12 (range_bytes n (missing b c t))
      → n < 2 ^ 32 → c < 2 ^ 64 → t < 2 ^ 64 → LaysMissing l l₂ (reading_of p name (missing b c t))
  unfolding missing_bytes
  reading-lays l l₁ l₂ o a g n h e₀ e₁ e₂ e₃ e₄ e₅ hn hc ht =
      let a₁ : l₁ ≡ put l 0 (first ∷ stage_byte p ∷ name) = rw (e₁, e₀, e₂) at e₃ in
      let a₂ : l₂ ≡ put l₁ 12 (range_bytes (left_of p) (missing b c t)) = rw e₄ at e₅ in
      let all : l₂ ≡ put l 0 (missing_bytes whole) =
      put_next l l₁ l₂ (first ∷ stage_byte p ∷ name) (range_bytes (left_of p) (missing b c t)) 12 (omega arith) (omega (arith, length-ranges t (left_of p) c b)) a₁ a₂ in
      let size : length l₂ ≡ length l = ap length all ∙ length-put l 0 _ in
      record {
        laid = all;
        back = missing-back _ l₂ (omega arith) (all ∙ laid-front l _ (omega (arith, missing-length whole ten))) (rw e₄ at hn) hc ht;
      }

-- ---- kept

module _ (x : Reading) (l : List ℕ) (r : ℕ) (ten : length x.notes.session ≡ session_size) where
  pub reading-not : (r ≡ 0 → ⊥) → KeepsMissing (on_code r) l l x
  reading-not z = keeps-not l missing_size reading_in _ _ (missing-length x ten) r z

  pub reading-kept : (m : List ℕ) → r ≡ 0 → LaysMissing l m x → KeepsMissing (on_code r) l m x
  reading-kept m z p = keeps-laid l missing_size reading_in _ _ (missing-length x ten) r m z p

pub reading-promises : StatePromises KeepsMissing missing_size missing_bytes
reading-promises = state-promises missing_size reading_in missing_bytes
