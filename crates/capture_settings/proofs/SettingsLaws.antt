-- Laws of the settings, as the code has them: how far the lines of the numbers reach, and one law for each answer.
use mathlib.Core.Path.{◌≡◌, refl, ap, sym, ◌∙◌}
use mathlib.Core.List.{List, [], ◌∷◌}
use mathlib.Core.Bool.{Bool, true, false, not}
use Prim.Native.Nat.{ℕ, suc, ◌+◌, ◌*◌, ◌-◌, ◌^◌, ◌≤◌, ◌<◌}
use native.Mathlib.Omega.{arith}
use lib.ListN.{length, take, drop, get_or, length-drop}
use lib.Seq.{length-take-le}
use lib.Dec.{eqb}
use mir.Val.{Fits}
use mir.Syntax.{w64}
use borrow.Author.Tests.{le-leb, lt-leb, lt-ltb, le-ltb, eq-eqb, ne_eqb}
use Rattle.std.specs.Prelude.{if◌then◌else◌, Result, Ok, Err, Option, Some, unwrap_or}
use Rattle.wire.specs.declared.refusal.Refusal.{Refusal}
use Rattle.wire.specs.Bounds.{least_number, least_limit, largest_limit, session_size, blank}
use Rattle.wire.specs.Bytes.{same_bytes}
use Rattle.wire.proofs.Cases.{below_or_not}
use Rattle.wire.proofs.Numbers.{part_to_end}
use Rattle.decimal.specs.Decimal.{with_digit}
use Rattle.capture_settings.specs.declared.lines.Line.{Line}
use Rattle.capture_settings.specs.declared.settings.Opened.{Opened}
use Rattle.wire.specs.Parts.{first_bytes}
use Rattle.wire.proofs.PartLaws.{first-there}
use Rattle.capture_settings.specs.Settings.{Opening, opened_of, session_key, next_key, limit_key, line_feed, past_of, is_printable, no_line, further, goes_on, line_from, line_of, settings, refused_opened, fixed_size, next_line, limit_line, numbers_of, name_line, settings_of}

-- ---- how far they reach

further-size : (x : Line) (n : ℕ) → x.size ≤ n → (further 1 x).size ≤ suc n
unfolding further
further-size x n h = go (eqb x.size 0)
  where
    go : (b : Bool) → (if b then 0 else 1 + x.size) ≤ suc n
    go true = omega arith
    go false = omega arith

line-size : (v : ℕ) (l : List ℕ) → (line_from v l).size ≤ length l
unfolding line_from
line-size v [] = omega arith
line-size v (b ∷ l) = go (eqb b line_feed) (goes_on v b) (line-size (with_digit v b) l)
  where
    go : (x y : Bool) → (line_from (with_digit v b) l).size ≤ length l
        → (if x then record { value = v; size = 1 } else if y then further 1 (line_from (with_digit v b) l) else no_line).size ≤ suc (length l)
    go true y h = omega arith
    go false true h = further-size (line_from (with_digit v b) l) (length l) h
    go false false h = omega arith

pub line-within : (l : List ℕ) (x : Line) → x ≡ line_of l → x.size ≤ length l
line-within l x e = rw e (line-size 0 l)

past-length : (t l : List ℕ) → length (past_of t l) ≤ length l
unfolding past_of
past-length [] l = omega arith
past-length (t ∷ text) [] = omega arith
past-length (t ∷ text) (b ∷ l) = go (eqb b t) (past-length text l)
  where
    go : (x : Bool) → length (past_of text l) ≤ length l → length (if x then past_of text l else []) ≤ suc (length l)
    go true h = omega arith
    go false h = omega arith

-- ---- bad settings as they are answered

abbrev bad : Result Opened Refusal
bad = Err (record { number = 19 })

is-bad : (x : Opening) → x ≡ refused_opened → bad ≡ opened_of x
unfolding opened_of
is-bad x e = rw e refl

-- ---- the two numbers: a is what follows `next=`, x the line read of it, b what follows `limit=`, y the line read of it

record Lines (l : List ℕ) (x y : Line) : Type 0 where
  next-there : x ≡ next_line l
  limit-there : y ≡ limit_line l
  room : x.size + y.size ≤ length l

module _ (l a b : List ℕ) (x y : Line) (ea : a ≡ past_of next_key l) (ex : x ≡ line_of a)
    (eb : b ≡ past_of limit_key (take (length a - x.size) (drop x.size a))) (ey : y ≡ line_of b) where
  lines : Lines l x y
  unfolding next_line limit_line
  lines =
      let n : x ≡ line_of (past_of next_key l) = ex ∙ ap line_of ea in
      let m : b ≡ past_of limit_key (drop x.size a) = eb ∙ rw part_to_end in
      let s = line-within a x ex in
      let u = line-within b y ey in
      let k : length b ≤ length (drop x.size a) = rw m (past-length limit_key (drop x.size a)) in
      let j : length a ≤ length l = rw ea (past-length next_key l) in
      record {
        next-there = n;
        limit-there = ey ∙ ap line_of (m ∙ rw (n, ea));
        room = omega (arith, length-drop x.size a);
      }

  pub next_fits : length l * 1 < 2 ^ 63 → Fits w64 (fixed_size + x.size)
  next_fits h = let g = lines.room in omega arith

  pub both-fit : length l * 1 < 2 ^ 63 → Fits w64 (fixed_size + x.size + y.size)
  both-fit h = let g = lines.room in omega arith

  module _ (name : List ℕ) where
    no-next : x.value < least_number → numbers_of name l ≡ refused_opened
    unfolding numbers_of
    no-next g = simp (← lines.next-there, lt-ltb _ _ g)

    no-limit : least_number ≤ x.value → y.value < least_limit → numbers_of name l ≡ refused_opened
    unfolding numbers_of
    no-limit g h = simp (← lines.next-there, ← lines.limit-there, le-ltb _ _ g, lt-ltb _ _ h)

    pub low-limit : y.value < least_limit → bad ≡ opened_of (numbers_of name l)
    low-limit h = below_or_not _ x.value least_number (λ g. is-bad _ (no-next g)) (λ g. is-bad _ (no-limit g h))

    pub low-number : x.value < least_number → bad ≡ opened_of (numbers_of name l)
    low-number g = is-bad _ (no-next g)

    large : least_number ≤ x.value → least_limit ≤ y.value → largest_limit < y.value → numbers_of name l ≡ refused_opened
    unfolding numbers_of
    large g h i = simp (← lines.next-there, ← lines.limit-there, le-ltb _ _ g, le-ltb _ _ h, lt-ltb _ _ i)

    pub large-limit : least_number ≤ x.value → least_limit ≤ y.value → largest_limit < y.value
        → bad ≡ opened_of (numbers_of name l)
    large-limit g h i = is-bad _ (large g h i)

    good : least_number ≤ x.value → least_limit ≤ y.value → y.value ≤ largest_limit
        → numbers_of name l
        ≡ record {
          refusal = record { number = 0 };
          settings = settings name x.value y.value;
          size = fixed_size + x.size + y.size;
        }
    unfolding numbers_of
    good g h i = simp (← lines.next-there, ← lines.limit-there, le-ltb _ _ g, le-ltb _ _ h, le-ltb _ _ i)

    pub good-numbers : least_number ≤ x.value → least_limit ≤ y.value → y.value ≤ largest_limit
        → Ok (record { settings = settings name x.value y.value; size = fixed_size + x.size + y.size })
        ≡ opened_of (numbers_of name l)
    unfolding opened_of
    good-numbers g h i = rw (good g h i) refl

-- the line that is there
pub line-there : (o : Option Line) (x w : Line) → o ≡ Some x → unwrap_or o no_line ≡ w → x ≡ w
line-there o x w e f = rw e at f

-- where the line of the number isn't there
pub none-next : (name l a : List ℕ) → a ≡ past_of next_key l → no_line ≡ line_of a → bad ≡ opened_of (numbers_of name l)
unfolding numbers_of next_line
none-next name l a ea ex =
    let n : line_of (past_of next_key l) ≡ no_line = sym (ex ∙ ap line_of ea) in
    is-bad (numbers_of name l) (rw n refl)

-- ---- the name before them: a is what follows `session=`

module _ (l a : List ℕ) (ea : a ≡ past_of session_key l) where
  pub name-cut : length a ≤ session_size → bad ≡ opened_of (settings_of l)
  unfolding settings_of name_line
  name-cut h = is-bad (settings_of l) (simp (← ea, le-leb _ _ h))

  pub name-open : session_size < length a → (get_or a session_size 0 ≡ line_feed → ⊥) → bad ≡ opened_of (settings_of l)
  unfolding settings_of name_line
  name-open h g = is-bad (settings_of l) (simp (← ea, lt-leb _ _ h, ne_eqb _ _ g))

  module _ (p : Bool) (h : session_size < length a) (g : get_or a session_size 0 ≡ line_feed) (q : p ≡ is_printable (take session_size a)) where
    pub name-unprintable : not p ≡ true → bad ≡ opened_of (settings_of l)
    unfolding settings_of name_line
    name-unprintable n = is-bad (settings_of l) (simp (← ea, lt-leb _ _ h, eq-eqb _ _ g, ← q, n))

    module _ (s : Bool) (n : not p ≡ false) (r : s ≡ same_bytes (take session_size a) blank) where
      pub name-blank : s ≡ true → bad ≡ opened_of (settings_of l)
      unfolding settings_of name_line
      name-blank b = is-bad (settings_of l) (simp (← ea, lt-leb _ _ h, eq-eqb _ _ g, ← q, n, ← r, b))

      pub name-good : (z : Result Opened Refusal) (name : List ℕ) → s ≡ false → name ≡ first_bytes session_size a
          → z ≡ opened_of (numbers_of name (take (length a - 11) (drop 11 a))) → z ≡ opened_of (settings_of l)
      unfolding settings_of name_line
      name-good z name b m e = e ∙ ap opened_of same
        where
          same : numbers_of name (take (length a - 11) (drop 11 a)) ≡ settings_of l
          same = simp (← ea, lt-leb _ _ h, eq-eqb _ _ g, ← q, n, ← r, b) (rw (m, first-there 10 a (omega arith), part_to_end))

pub ten-there : (l : List ℕ) → session_size < length l → session_size ≡ length (take session_size l)
ten-there l h = sym (length-take-le 10 l (omega arith))
