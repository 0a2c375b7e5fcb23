-- A reading laid, and read back.
use Prim.Native.Nat.{ℕ, ◌+◌, ◌-◌, ◌^◌, ◌≤◌, ◌<◌, min}
use mathlib.Core.List.{List, [], ◌∷◌, ◌++◌, append_assoc, append-nil}
use mathlib.Core.Bool.{Bool, true, false, not}
use mathlib.Core.Path.{◌≡◌, refl, ap, ap₂, sym, ◌∙◌}
use native.Mathlib.Omega.{arith}
use native.Mathlib.Nat.{min-eq_left}
use lib.ListN.{length, get_or, take, drop, length-append, length-drop, drop_of_length-le, take-append-drop, length-replicate}
use lib.Seq.{drop-drop, take_at, length-take-le}
use borrow.Rule.Slice.PartMut.{mid_of, put_mid}
use borrow.Author.Tests.{eq-eqb, ne_eqb, le-ltb, lt-ltb}
use Rattle.wire.specs.Bounds.{session_size}
use Rattle.wire.specs.Output.{put}
use Rattle.wire.proofs.Numbers.{part_to_end}
use Rattle.wire.proofs.Outputs.{length-put, put-room}
use Rattle.capture_records.specs.Records.{most_records}
use Rattle.receiver.specs.declared.receiver.Receiver.{Receiver}
use Rattle.early_holding.specs.Holding.{early}
use Rattle.early_holding.specs.declared.holding.EarlyReceiver.{EarlyReceiver}
use Rattle.capture_tally.specs.declared.tally.Tally.{Tally}
use Rattle.capture_tally.specs.Tally.{tally}
use Rattle.capture_tally.specs.Report.{report}
use Rattle.capture.specs.declared.reading.Stage.{Stage}
use Rattle.capture.specs.declared.reading.Stage.TheVariants.{Settings, Records, Done, Refused}
use Rattle.capture.specs.declared.reading.Reading.{Reading}
use Rattle.capture.specs.Reading.{reading, start_reading, is_over}
use Rattle.host_states.specs.Little.{little, little_bytes}
use Rattle.host_states.specs.States.{reading_code, is_open, open_byte, on_code, StatePromises}
use Rattle.host_states.proofs.LittleLaws.{length-little}
use Rattle.host_states.proofs.StateLaws.{open-back, put_next, put-behind, keeps-not, laid-front, past-field, little-past-field, little-in-front, state-promises}
use Rattle.host_early.specs.Early.{head_bytes, early_in, no_lengths, LaysHead}
use Rattle.host_early.proofs.EarlyLaws.{length-head, head-back, lengths-long}
use Rattle.host_capture.specs.Reading.{reading_size, stage_of, stage_byte, count_bytes, before_bytes, behind_bytes, kept_reading, tally_in, refused_reading, reading_bytes, reading_in, reading_lengths, kept_reading_in, KeepsReading, LaysReading}

-- ---- the stage

stage-back : (s : Stage) → stage_of (not (is_over s)) (stage_byte s) ≡ s
unfolding stage_of stage_byte is_over
stage-back Settings = refl
stage-back Records = refl
stage-back Done = refl
stage-back Refused = refl

-- of a known case
module _ (s : Stage) where
  pub byte-settings : s ≡ Settings → 1 ≡ stage_byte s
  unfolding stage_byte
  byte-settings e = rw e

  pub byte-records : s ≡ Records → 2 ≡ stage_byte s
  unfolding stage_byte
  byte-records e = rw e

  pub byte-done : s ≡ Done → 3 ≡ stage_byte s
  unfolding stage_byte
  byte-done e = rw e

  pub byte-refused : s ≡ Refused → 0 ≡ stage_byte s
  unfolding stage_byte
  byte-refused e = rw e

module _ (o : Bool) (b : ℕ) where
  pub stage-records : o ≡ true → b ≡ 2 → Records ≡ stage_of o b
  unfolding stage_of
  stage-records e f = rw (e, f)

  pub stage-settings : o ≡ true → (b ≡ 2 → ⊥) → Settings ≡ stage_of o b
  unfolding stage_of
  stage-settings e f = rw (e, ne_eqb b 2 f)

  pub stage-done : o ≡ false → b ≡ 3 → Done ≡ stage_of o b
  unfolding stage_of
  stage-done e f = rw (e, f)

  pub stage-refused : o ≡ false → (b ≡ 3 → ⊥) → Refused ≡ stage_of o b
  unfolding stage_of
  stage-refused e f = rw (e, ne_eqb b 3 f)

-- ---- read

pub tally-read : (l : List ℕ) (d o q a r : ℕ) → d ≡ little l 167 8 → o ≡ little l 175 8 → q ≡ little l 183 8 → a ≡ little l 191 8 → r ≡ little l 199 8
    → tally d o q a r ≡ tally_in l
unfolding tally_in
tally-read l d o q a r e f g h k = rw (e, f, g, h, k)

pub refused-start : (x : Reading) → x ≡ start_reading → reading Refused x.report ≡ refused_reading
unfolding start_reading
refused-start x e = rw e

pub reading-short : (l : List ℕ) (x : Reading) → x ≡ refused_reading → length l < reading_size → x ≡ reading_in l
unfolding reading_in
reading-short l x e h = rw (e, lt-ltb (length l) reading_size h)

pub reading-read : (l : List ℕ) (o : Bool) (s : Stage) (b n k : ℕ) (x : EarlyReceiver) (t : Tally) → reading_size ≤ length l → o ≡ is_open reading_code l → b ≡ get_or l 1 0
    → s ≡ stage_of o b → x ≡ early_in (take (length l - 2) (drop 2 l))
    → n ≡ little l 159 8 → k ≡ min n most_records → t ≡ tally_in l → reading s (report x k t) ≡ reading_in l
unfolding reading_in
reading-read l o s b n k x t h i p q r u v w = rw (le-ltb (length l) reading_size h, q, i, p, r, v, u, w, part_to_end 2 l)

pub receiver-within : (l : List ℕ) → reading_size ≤ length l → 2 ≤ length l
receiver-within l h = omega arith

-- ---- the counts

module _ (n d o q a r : ℕ) where
  length-2 : length (little_bytes 8 n ++ little_bytes 8 d) ≡ 16
  length-2 = omega (arith, length-append (little_bytes 8 n) (little_bytes 8 d), length-little 8 n, length-little 8 d)

  length-3 : length (little_bytes 8 n ++ little_bytes 8 d ++ little_bytes 8 o) ≡ 24
  length-3 = omega (arith, length-2, length-append (little_bytes 8 n ++ little_bytes 8 d) (little_bytes 8 o), length-little 8 o)

  length-4 : length (little_bytes 8 n ++ little_bytes 8 d ++ little_bytes 8 o ++ little_bytes 8 q) ≡ 32
  length-4 = omega (arith, length-3, length-append (little_bytes 8 n ++ little_bytes 8 d ++ little_bytes 8 o) (little_bytes 8 q), length-little 8 q)

  length-5 : length (little_bytes 8 n ++ little_bytes 8 d ++ little_bytes 8 o ++ little_bytes 8 q ++ little_bytes 8 a) ≡ 40
  length-5 =
      omega (arith, length-4, length-append (little_bytes 8 n ++ little_bytes 8 d ++ little_bytes 8 o ++ little_bytes 8 q) (little_bytes 8 a), length-little 8 a)

  length-counts : length (count_bytes n (tally d o q a r)) ≡ 48
  unfolding count_bytes
  length-counts =
      omega (
        arith,
        length-5,
        length-append (little_bytes 8 n ++ little_bytes 8 d ++ little_bytes 8 o ++ little_bytes 8 q ++ little_bytes 8 a) (little_bytes 8 r),
        length-little 8 r,
      )

  pub counts-put : (l l₀ l₁ l₂ l₃ l₄ l₅ : List ℕ) → reading_size ≤ length l → l₀ ≡ put l 159 (little_bytes 8 n) → l₁ ≡ put l₀ 167 (little_bytes 8 d) → l₂ ≡ put l₁ 175 (little_bytes 8 o)
      → l₃ ≡ put l₂ 183 (little_bytes 8 q) → l₄ ≡ put l₃ 191 (little_bytes 8 a) → l₅ ≡ put l₄ 199 (little_bytes 8 r) → l₅ ≡ put l 159 (count_bytes n (tally d o q a r))
  unfolding count_bytes
  counts-put l l₀ l₁ l₂ l₃ l₄ l₅ h e₀ e₁ e₂ e₃ e₄ e₅ =
      let f₁ = put-behind l l₀ l₁ (little_bytes 8 n) (little_bytes 8 d) 159 167 (omega (arith, length-little 8 n)) (omega (arith, length-little 8 d)) e₀ e₁ in
      let f₂ = put-behind l l₁ l₂ _ (little_bytes 8 o) 159 175 (omega (arith, length-2)) (omega (arith, length-little 8 o)) f₁ e₂ in
      let f₃ = put-behind l l₂ l₃ _ (little_bytes 8 q) 159 183 (omega (arith, length-3)) (omega (arith, length-little 8 q)) f₂ e₃ in
      let f₄ = put-behind l l₃ l₄ _ (little_bytes 8 a) 159 191 (omega (arith, length-4)) (omega (arith, length-little 8 a)) f₃ e₄ in
      put-behind l l₄ l₅ _ (little_bytes 8 r) 159 199 (omega (arith, length-5)) (omega (arith, length-little 8 r)) f₄ e₅

  -- one behind the other
  counts-fields : (m : List ℕ) → count_bytes n (tally d o q a r) ++ m
      ≡ little_bytes 8 n ++ (little_bytes 8 d ++ (little_bytes 8 o ++ (little_bytes 8 q ++ (little_bytes 8 a ++ (little_bytes 8 r ++ m)))))
  unfolding count_bytes
  counts-fields m = simp append_assoc

  past8 : (v : ℕ) (z : List ℕ) (k : ℕ) → little (little_bytes 8 v ++ z) (8 + k) 8 ≡ little z k 8
  past8 v z k = little-past-field (little_bytes 8 v) z 8 (length-little 8 v) k 8

  -- each is read from the bytes, whatever stands before and after them
  module _ (x m : List ℕ) (e : length x ≡ 159) where
    past : (z : List ℕ) (k : ℕ) → little (x ++ z) (159 + k) 8 ≡ little z k 8
    past z k = little-past-field x z 159 e k 8

    records-back : n < 2 ^ 64 → little (x ++ (count_bytes n (tally d o q a r) ++ m)) 159 8 ≡ n
    records-back h = rw (counts-fields m, past (little_bytes 8 n ++ (little_bytes 8 d ++ (little_bytes 8 o ++ (little_bytes 8 q ++ (little_bytes 8 a ++ (little_bytes 8 r ++ m)))))) 0) (little-in-front 8 n _ h)

    tally-back : d < 2 ^ 64 → o < 2 ^ 64 → q < 2 ^ 64 → a < 2 ^ 64 → r < 2 ^ 64 → tally_in (x ++ (count_bytes n (tally d o q a r) ++ m)) ≡ tally d o q a r
    unfolding tally_in
    tally-back hd ho hq ha hr =
        rw (
          counts-fields m,
          past _ 8,
          past _ 16,
          past _ 24,
          past _ 32,
          past _ 40,
          past8 n _ 0,
          little-in-front 8 d _ hd,
          past8 n _ 8,
          past8 d _ 0,
          little-in-front 8 o _ ho,
          past8 n _ 16,
          past8 d _ 8,
          past8 o _ 0,
          little-in-front 8 q _ hq,
          past8 n _ 24,
          past8 d _ 16,
          past8 o _ 8,
          past8 q _ 0,
          little-in-front 8 a _ ha,
          past8 n _ 32,
          past8 d _ 24,
          past8 o _ 16,
          past8 q _ 8,
          past8 a _ 0,
          little-in-front 8 r _ hr,
        )

-- ---- the whole

-- a receiver that is laid into the part behind two bytes
receiver-part : (l l₁ m bs : List ℕ) → 2 + length bs ≤ length l → m ≡ put (mid_of 2 (length l - 2) l) 0 bs → l₁ ≡ put_mid 2 (length l - 2) l m → l₁ ≡ put l 2 bs
receiver-part l l₁ m bs h e f =
    let rest : drop (length l - 2) (drop 2 l) ≡ [] = drop_of_length-le (drop 2 l) {i = length l - 2} (simp length-drop (omega arith)) in
    let size : length (drop 2 l) ≡ length l - 2 = length-drop 2 l in
    let inner : put (drop 2 l) 0 bs ≡ bs ++ drop (length bs) (drop 2 l) = laid-front (drop 2 l) bs (omega arith) in
    let deep : drop (length bs) (drop 2 l) ≡ drop (2 + length bs) l = drop-drop (length bs) 2 l in
    f ∙ rw (rest, append-nil m, e, part_to_end 2 l, inner, deep) (sym (append_assoc (take 2 l) bs (drop (2 + length bs) l)) ∙ sym (put-room l 2 bs h))

-- as the call has it
pub receiver-put : (l m : List ℕ) (x : EarlyReceiver) → reading_size ≤ length l → length x.base.session ≡ session_size
    → LaysHead (mid_of 2 (length l - 2) l) m x → put_mid 2 (length l - 2) l m ≡ put l 2 (head_bytes x)
receiver-put l m x h ten k =
    let fits = length-head x ten in
    let part : length (mid_of 2 (length l - 2) l) ≡ length l - 2 = ap length (part_to_end 2 l) ∙ length-drop 2 l in
    let laid : m ≡ put (mid_of 2 (length l - 2) l) 0 (head_bytes x) = k.laid ∙ rw (le-ltb (length (mid_of 2 (length l - 2) l)) 157 (omega arith)) refl in
    receiver-part l _ m (head_bytes x) (omega arith) laid refl

pub still-room : (l l₁ bs : List ℕ) (k : ℕ) → reading_size ≤ length l → l₁ ≡ put l k bs → reading_size ≤ length l₁
still-room l l₁ bs k h e = omega (arith, ap length e ∙ length-put l k bs)

-- the lengths that stand in some bytes
abbrev stood : List ℕ → List ℕ
stood l = take 128 (drop 31 l)

length-stood : (l : List ℕ) → reading_size ≤ length l → length (stood l) ≡ 128
length-stood l h = length-take-le 128 (drop 31 l) (omega (arith, length-drop 31 l))

pub lengths-stand : (l : List ℕ) → reading_size ≤ length l → reading_lengths l ≡ stood l
lengths-stand l h = lengths-long (drop 2 l) (omega (arith, length-drop 2 l)) ∙ ap (take 128) (drop-drop 29 2 l)

-- what is laid before them and behind them is laid with them
around : (l a c : List ℕ) → length a ≡ 31 → length c ≡ 48 → reading_size ≤ length l → put (put l 0 a) 159 c ≡ put l 0 (a ++ stood l ++ c)
around l a c e f h =
    let n = length-stood l h in
    let both : length (a ++ stood l) ≡ 159 = length-append a (stood l) ∙ omega arith in
    let rest : stood l ++ drop 159 l ≡ drop 31 l = ap (λ (x : List ℕ). stood l ++ x) (sym (drop-drop 128 31 l)) ∙ take-append-drop 128 (drop 31 l) in
    let one : put l 0 a ≡ a ++ drop 31 l = laid-front l a (omega arith) ∙ ap (λ (k : ℕ). a ++ drop k l) e in
    let two : put l 0 (a ++ stood l) ≡ (a ++ stood l) ++ drop 159 l = laid-front l (a ++ stood l) (omega arith) ∙ ap (λ (k : ℕ). (a ++ stood l) ++ drop k l) both in
    let same : put l 0 a ≡ put l 0 (a ++ stood l) = one ∙ ap (λ (x : List ℕ). a ++ x) (sym rest) ∙ sym (append_assoc a (stood l) (drop 159 l)) ∙ sym two in
    put_next l (put l 0 a) _ (a ++ stood l) c 159 both (omega arith) same refl

length_before : (x : Reading) → length x.report.receiver.base.session ≡ session_size → length (before_bytes x) ≡ 31
unfolding before_bytes
length_before x ten = omega (arith, length-head x.report.receiver ten)

length-behind : (x : Reading) → length (behind_bytes x) ≡ 48
length-behind x =
    let t = x.report.tally in
    length-counts x.report.records t.delivered t.old t.quiet t.asked t.refused

module _ (x : Reading) (ls : List ℕ) (ten : length x.report.receiver.base.session ≡ session_size) (few : length ls ≡ 128) where
  front-size : length (before_bytes x ++ ls) ≡ 159
  front-size = length-append (before_bytes x) ls ∙ omega (arith, length_before x ten)

  pub length-reading : length (reading_bytes (kept_reading x ls)) ≡ reading_size
  unfolding reading_bytes
  length-reading = length-append (before_bytes x ++ ls) (behind_bytes x) ∙ omega (arith, front-size, length-behind x)

  -- one behind the other, whatever follows
  reading-fields : (m : List ℕ) → reading_bytes (kept_reading x ls) ++ m ≡ (before_bytes x ++ ls) ++ (behind_bytes x ++ m)
  unfolding reading_bytes
  reading-fields m = append_assoc (before_bytes x ++ ls) (behind_bytes x) m

  lengths-back : (l m : List ℕ) → reading_size ≤ length m → m ≡ reading_bytes (kept_reading x ls) ++ l → reading_lengths m ≡ ls
  lengths-back l m h e =
      let at : m ≡ before_bytes x ++ (ls ++ (behind_bytes x ++ l)) = e ∙ reading-fields l ∙ append_assoc (before_bytes x) ls _ in
      lengths-stand m h ∙ ap (λ (y : List ℕ). take 128 (drop 31 y)) at ∙ ap (take 128) (past-field (before_bytes x) _ 31 (length_before x ten)) ∙ take_at ls _ 128 few

module _ (s : Stage) (base : Receiver) (held n d o q a r : ℕ) (ten : length base.session ≡ session_size) where
  abbrev x : EarlyReceiver
  x = early base held

  abbrev first : ℕ
  first = open_byte reading_code (not (is_over s))

  abbrev whole : Reading
  whole = reading s (report x n (tally d o q a r))

  -- it is read from its bytes, whatever lengths stand in them, and whatever follows
  reading-back : (ls l m : List ℕ) → length ls ≡ 128 → reading_size ≤ length m → m ≡ reading_bytes (kept_reading whole ls) ++ l
      → base.next.0 < 2 ^ 64 → base.limit.0 < 2 ^ 16 → held < 2 ^ 64 → n < 2 ^ 32
      → d < 2 ^ 64 → o < 2 ^ 64 → q < 2 ^ 64 → a < 2 ^ 64 → r < 2 ^ 64 → reading_in m ≡ whole
  unfolding reading_in before_bytes
  reading-back ls l m few h e hx hy hw hn hd ho hq ha hr =
      let front = before_bytes whole ++ ls in
      let size = front-size whole ls ten few in
      let at : m ≡ front ++ (count_bytes n (tally d o q a r) ++ l) = e ∙ reading-fields whole ls ten few l in
      let fields : m ≡ first ∷ stage_byte s ∷ (head_bytes x ++ (ls ++ (count_bytes n (tally d o q a r) ++ l))) =
      at ∙ append_assoc (first ∷ stage_byte s ∷ head_bytes x) ls _ in
      let opened : is_open reading_code m ≡ not (is_over s) = rw fields (open-back reading_code (not (is_over s)) _ (omega arith)) in
      let stage : stage_of (is_open reading_code m) (get_or m 1 0) ≡ s = rw (opened, fields) (stage-back s) in
      let behind : drop 2 m ≡ head_bytes x ++ (ls ++ (count_bytes n (tally d o q a r) ++ l)) = rw fields refl in
      let given : early_in (drop 2 m) ≡ x =
      head-back base.session base.next.0 base.limit.0 held base.ended ten _ (drop 2 m) (simp length-drop (omega arith)) behind hx hy hw in
      let counted : little m 159 8 ≡ n = rw at (records-back n d o q a r front l size (omega arith)) in
      let most : min (little m 159 8) most_records ≡ n = rw counted (min-eq_left (omega arith)) in
      let tallied : tally_in m ≡ tally d o q a r = rw at (tally-back n d o q a r front l size hd ho hq ha hr) in
      rw (le-ltb (length m) reading_size h, stage, given, most, tallied)

  pub reading-lays : (l l₁ l₂ l₃ : List ℕ) (b : Bool) (f g : ℕ) → reading_size ≤ length l → b ≡ not (is_over s) → f ≡ open_byte reading_code b
      → g ≡ stage_byte s → l₁ ≡ put l 0 (f ∷ g ∷ []) → l₂ ≡ put l₁ 2 (head_bytes (early base held))
      → l₃ ≡ put l₂ 159 (count_bytes n (tally d o q a r))
      → base.next.0 < 2 ^ 64 → base.limit.0 < 2 ^ 16 → held < 2 ^ 64 → n < 2 ^ 32
      → d < 2 ^ 64 → o < 2 ^ 64 → q < 2 ^ 64 → a < 2 ^ 64 → r < 2 ^ 64
      → LaysReading l l₃ (reading s (report (early base held) n (tally d o q a r)))
  unfolding before_bytes reading_bytes
  reading-lays l l₁ l₂ l₃ b f g h e₁ e₂ e₃ e₄ e₅ e₆ hx hy hw hn hd ho hq ha hr =
      let head = length-head x ten in
      let a₁ : l₁ ≡ put l 0 (first ∷ stage_byte s ∷ []) = rw (e₂, e₁, e₃) at e₄ in
      let a₂ : l₂ ≡ put l 0 (before_bytes whole) = put_next l l₁ l₂ (first ∷ stage_byte s ∷ []) (head_bytes x) 2 refl (omega arith) a₁ e₅ in
      let a₃ : l₃ ≡ put (put l 0 (before_bytes whole)) 159 (behind_bytes whole) = e₆ ∙ ap (λ (y : List ℕ). put y 159 (behind_bytes whole)) a₂ in
      let all : l₃ ≡ put l 0 (reading_bytes (kept_reading whole (stood l))) =
      a₃ ∙ around l (before_bytes whole) (behind_bytes whole) (length_before whole ten) (length-behind whole) h in
      let few = length-stood l h in
      let size : length l₃ ≡ length l = ap length all ∙ length-put l 0 _ in
      record {
        laid = rw (le-ltb (length l) reading_size h) a₃;
        back = λ k. reading-back (stood l) _ l₃ few (omega arith) (all ∙ laid-front l _ (omega (arith, length-reading whole (stood l) ten few))) hx hy hw hn hd ho hq ha hr;
      }

pub reading-stays : (l : List ℕ) (x : Reading) → length l < reading_size → LaysReading l l x
reading-stays l x h = record { laid = rw (lt-ltb (length l) reading_size h) refl; back = λ g. absurd (omega arith) }

-- ---- kept

module _ (x : Reading) (ls l : List ℕ) (ten : length x.report.receiver.base.session ≡ session_size) (few : length ls ≡ 128) where
  pub reading-not : (r : ℕ) → (r ≡ 0 → ⊥) → KeepsReading (on_code r) l l (kept_reading x ls)
  reading-not r z = keeps-not l reading_size kept_reading_in _ _ (length-reading x ls ten few) r z

  -- the lengths were laid first, and then all else
  pub reading-kept : (l₁ m : List ℕ) → reading_size ≤ length l → l₁ ≡ put l 31 ls → LaysReading l₁ m x → KeepsReading true l m (kept_reading x ls)
  unfolding reading_bytes
  reading-kept l₁ m h e p =
      let size : length l₁ ≡ length l = ap length e ∙ length-put l 31 ls in
      let split : l₁ ≡ take 31 l ++ (ls ++ drop 159 l) =
      e ∙ put-room l 31 ls (omega arith) ∙ append_assoc (take 31 l) ls (drop (31 + length ls) l) ∙ ap (λ (k : ℕ). take 31 l ++ (ls ++ drop (31 + k) l)) few in
      let start : length (take 31 l) ≡ 31 = length-take-le 31 l (omega arith) in
      let deep : drop 31 l₁ ≡ ls ++ drop 159 l = ap (drop 31) split ∙ past-field (take 31 l) _ 31 start in
      let lent : stood l₁ ≡ ls = ap (take 128) deep ∙ take_at ls _ 128 few in
      let far : drop 207 l₁ ≡ drop 207 l =
      sym (drop-drop 176 31 l₁) ∙ ap (drop 176) deep ∙ sym (drop-drop 48 128 (ls ++ drop 159 l)) ∙ ap (drop 48) (past-field ls _ 128 few) ∙ drop-drop 48 159 l in
      let bs = reading_bytes (kept_reading x ls) in
      let n = length-reading x ls ten few in
      let around₁ : m ≡ put l₁ 0 (before_bytes x ++ stood l₁ ++ behind_bytes x) =
      p.laid ∙ rw (le-ltb (length l₁) reading_size (omega arith)) (around l₁ (before_bytes x) (behind_bytes x) (length_before x ten) (length-behind x) (omega arith)) in
      let same : put l₁ 0 bs ≡ put l 0 bs =
      laid-front l₁ bs (omega arith) ∙ ap (λ (k : ℕ). bs ++ drop k l₁) n ∙ ap (λ (y : List ℕ). bs ++ y) far ∙ sym (laid-front l bs (omega arith) ∙ ap (λ (k : ℕ). bs ++ drop k l) n) in
      let all : m ≡ put l 0 bs = around₁ ∙ ap (λ (y : List ℕ). put l₁ 0 (before_bytes x ++ y ++ behind_bytes x)) lent ∙ same in
      let room : reading_size ≤ length m = omega (arith, ap length all ∙ length-put l 0 bs) in
      record {
        fits = n;
        leaves = all;
        reads_back = λ t g. ap₂ kept_reading (p.back (omega arith)) (lengths-back x ls ten few _ m room (all ∙ laid-front l bs (omega arith)));
      }

pub reading-promises : StatePromises KeepsReading reading_size reading_bytes
reading-promises = state-promises reading_size kept_reading_in reading_bytes

-- ---- a fresh one, as `write_fresh` has it

length_none : length no_lengths ≡ 128
length_none = length-replicate {A = ℕ} 128 0

module _ (x : Reading) (l : List ℕ) (c : ℕ) (ten : length x.report.receiver.base.session ≡ session_size) where
  pub fresh_kept : (l₁ m : List ℕ) → c ≡ 0 → reading_size ≤ length l → l₁ ≡ put l 31 no_lengths → LaysReading l₁ m x
      → KeepsReading (on_code c) l m (kept_reading x no_lengths)
  fresh_kept l₁ m z h e p = rw (eq-eqb c 0 z) (reading-kept x no_lengths l ten length_none l₁ m h e p)

  pub fresh-not : (c ≡ 0 → ⊥) → KeepsReading (on_code c) l l (kept_reading x no_lengths)
  fresh-not z = reading-not x no_lengths l ten length_none c z
