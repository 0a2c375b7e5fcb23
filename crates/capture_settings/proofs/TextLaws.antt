-- Good settings are read, nothing else is, and 57 bytes tell: first a number's line, then what stands before it.
use mathlib.Core.Path.{◌≡◌, refl, ap, sym, ◌∙◌}
use mathlib.Core.List.{List, [], ◌∷◌, ◌++◌, append_assoc}
use mathlib.Core.Bool.{Bool, true, false, not, ◌&&◌, true≢false}
use Prim.Native.Nat.{ℕ, zero, suc, ◌+◌, ◌-◌, ◌≤◌, ◌<◌}
use native.Mathlib.Omega.{arith}
use lib.ListN.{length, take, drop, get_or, length-append, take-append-drop}
use lib.Seq.{take_at, drop_at, take-append-le, append_snoc, get_or_at, split_at, length-take-le}
use lib.Dec.{ltb, leb, eqb}
use borrow.Author.Tests.{le-ltb, ltb-false, le-leb, lt-leb, leb-true, leb-false, eq-eqb, ne_eqb, eqb-true, eqb-false}
use Rattle.std.specs.Prelude.{if◌then◌else◌}
use Rattle.wire.specs.Bytes.{same_bytes}
use Rattle.wire.specs.Bounds.{least_number, largest_number, least_limit, largest_limit, session_size, blank}
use Rattle.wire.proofs.Same.{same_refl, different}
use Rattle.decimal.specs.Decimal.{is_digit, with_digit, digits, value_from, value_of, are_digits}
use Rattle.decimal.proofs.SpellLaws.{digit-so, are-so, value_grows, digits-one, digits_more, digits-first, length_digits, length-digits-below, spells-numbers}
use Rattle.capture_settings.specs.declared.lines.Line.{Line}
use Rattle.capture_settings.specs.Settings.{Opening, session_key, next_key, limit_key, line_feed, past_of, is_printable, no_line, further, goes_on, line_from, line_of, settings, refused_opened, fixed_size, next_line, limit_line, numbers_of, name_line, settings_of}
use Rattle.capture_settings.specs.Statements.{line, settings_text, Good, ReadSo, longest, Settled, SizeWithin, SettingsPromises}

-- ---- one byte of a number

pub record GoesOn (v b : ℕ) : Type 0 where
  pub least : 48 ≤ b
  pub most : b ≤ 57
  pub fits : with_digit v b ≤ largest_number
  pub some : 0 < with_digit v b

pub goes_on-so : (v b : ℕ) → GoesOn v b → goes_on v b ≡ true
unfolding goes_on is_digit
goes_on-so v b g =
    let z : with_digit v b ≡ 0 → ⊥ = λ (e : with_digit v b ≡ 0). omega (arith, g.some) in
    simp (le-ltb _ _ g.least, le-leb _ _ g.most, le-leb _ _ g.fits, ne_eqb _ _ z)

above : (n : ℕ) → (n ≡ 0 → ⊥) → 0 < n
above zero z = absurd (z refl)
above (suc n) z = omega arith

pub goes_so : (v b : ℕ) → goes_on v b ≡ true → GoesOn v b
unfolding goes_on
goes_so v b = go (is_digit b) (leb (with_digit v b) largest_number) (eqb (with_digit v b) 0) refl refl refl
  where
    go : (x y z : Bool) → is_digit b ≡ x → leb (with_digit v b) largest_number ≡ y → eqb (with_digit v b) 0 ≡ z → (x && y && not z) ≡ true → GoesOn v b
    go true true false f g h e =
        let d = digit-so b f in
        record { least = d.least; most = d.most; fits = leb-true _ _ g; some = above _ (eqb-false _ _ h) }
    go true true true f g h e = let k : ◌≡◌ {A = ℕ} 0 1 = cc in absurd (omega arith)
    go true false z f g h e = let k : ◌≡◌ {A = ℕ} 0 1 = cc in absurd (omega arith)
    go false y z f g h e = let k : ◌≡◌ {A = ℕ} 0 1 = cc in absurd (omega arith)

-- ---- a number's line, read

line_step : (v b : ℕ) (l : List ℕ) (n k : ℕ) → GoesOn v b → line_from (with_digit v b) l ≡ record { value = n; size = k + 1 }
    → line_from v (b ∷ l) ≡ record { value = n; size = suc k + 1 }
unfolding line_from further
line_step v b l n k g e =
    let z : b ≡ 10 → ⊥ = λ (f : b ≡ 10). omega (arith, g.least) in
    let y : k + 1 ≡ 0 → ⊥ = λ (f : k + 1 ≡ 0). omega arith in
    let s : 1 + (k + 1) ≡ suc k + 1 = omega arith in
    simp (ne_eqb _ _ z, goes_on-so v b g) (rw (e, ne_eqb _ _ y, s))

line-text : (v : ℕ) (t rest : List ℕ) → 0 < v → are_digits t ≡ true → value_from v t ≤ largest_number
    → line_from v (t ++ (line_feed ∷ rest)) ≡ record { value = value_from v t; size = length t + 1 }
unfolding line_from value_from
line-text v [] rest z d m = refl
line-text v (b ∷ t) rest z d m =
    let s = are-so b t d in
    let e = digit-so b s.0 in
    let i = value_grows (with_digit v b) t in
    line_step v b (t ++ (line_feed ∷ rest)) _ (length t)
    (record { least = e.least; most = e.most; fits = omega arith; some = omega arith })
    (line-text (with_digit v b) t rest (omega arith) s.1 m)

line-spelled : (t rest : List ℕ) → 48 < get_or t 0 0 → are_digits t ≡ true → value_of t ≤ largest_number
    → line_from 0 (t ++ (line_feed ∷ rest)) ≡ record { value = value_of t; size = length t + 1 }
unfolding line_from value_from
line-spelled [] rest z d m = absurd (omega arith)
line-spelled (b ∷ t) rest z d m =
    let s = are-so b t d in
    let e = digit-so b s.0 in
    let i = value_grows (with_digit 0 b) t in
    line_step 0 b (t ++ (line_feed ∷ rest)) _ (length t)
    (record { least = e.least; most = e.most; fits = omega arith; some = omega arith })
    (line-text (with_digit 0 b) t rest (omega arith) s.1 m)

pub line_reads : (n : ℕ) (rest : List ℕ) → least_number ≤ n → n ≤ largest_number
    → line_of (digits n ++ (line_feed ∷ rest)) ≡ record { value = n; size = length (digits n) + 1 }
line_reads n rest h g =
    let w = spells-numbers.their_value n g in
    let s = spells-numbers.spelled n g in
    rw w at (line-spelled (digits n) rest (digits-first n h g) s.digits_alone (omega arith))

-- ---- and only such a line

-- x was read of l behind the number v
record LineAfter (v : ℕ) (l : List ℕ) (x : Line) : Type 0 where
  most : x.value ≤ largest_number
  size : length (digits v) + x.size ≡ length (digits x.value) + 1
  some : 0 < x.size
  text : digits v ++ l ≡ digits x.value ++ (line_feed ∷ drop x.size l)

further-so : (v b : ℕ) (l : List ℕ) (x : Line) → 0 < v → GoesOn v b → LineAfter (with_digit v b) l x → LineAfter v (b ∷ l) (further 1 x)
unfolding further
further-so v b l x z g a =
    let y : x.size ≡ 0 → ⊥ = λ (e : x.size ≡ 0). omega (arith, a.some) in
    let f : eqb x.size 0 ≡ false = ne_eqb _ _ y in
    let s : 1 + x.size ≡ suc x.size = omega arith in
    let d = digits_more v b z g.least g.most g.fits in
    let n = length-append (digits v) (b ∷ []) in
    let m = ap length d in
    rw (f, s)
    (record {
      most = a.most;
      size = omega (arith, a.size);
      some = omega arith;
      text = sym (append_assoc (digits v) (b ∷ []) l) ∙ rw d at a.text;
    })

further-value : (x : Line) → 0 < (further 1 x).value → 0 < x.value
unfolding further
further-value x h = h

line_after : (v : ℕ) (l : List ℕ) → 0 < v → v ≤ largest_number → 0 < (line_from v l).value → LineAfter v l (line_from v l)
unfolding line_from
line_after v [] z m h = absurd (omega arith)
line_after v (b ∷ l) z m h = go (eqb b line_feed) (goes_on v b) refl refl (λ g. line_after (with_digit v b) l g.some g.fits) h
  where
    go : (x y : Bool) → eqb b line_feed ≡ x → goes_on v b ≡ y
        → (GoesOn v b → 0 < (line_from (with_digit v b) l).value → LineAfter (with_digit v b) l (line_from (with_digit v b) l))
        → 0 < (if x then record { value = v; size = 1 } else if y then further 1 (line_from (with_digit v b) l) else no_line).value
        → LineAfter v (b ∷ l) (if x then record { value = v; size = 1 } else if y then further 1 (line_from (with_digit v b) l) else no_line)
    go true y e f i h =
        let c : b ≡ 10 = eqb-true _ _ e in
        record { most = m; size = refl; some = omega arith; text = rw c }
    go false true e f i h = let g = goes_so v b f in further-so v b l (line_from (with_digit v b) l) z g (i g (further-value _ h))
    go false false e f i h = absurd (omega arith)

-- x was read of l
pub record LineSo (l : List ℕ) (x : Line) : Type 0 where
  pub most : x.value ≤ largest_number
  pub size : x.size ≡ length (digits x.value) + 1
  pub text : l ≡ digits x.value ++ (line_feed ∷ drop x.size l)

first_so : (b : ℕ) (l : List ℕ) (x : Line) → GoesOn 0 b → LineAfter (with_digit 0 b) l x → LineSo (b ∷ l) (further 1 x)
unfolding further
first_so b l x g a =
    let y : x.size ≡ 0 → ⊥ = λ (e : x.size ≡ 0). omega (arith, a.some) in
    let f : eqb x.size 0 ≡ false = ne_eqb _ _ y in
    let s : 1 + x.size ≡ suc x.size = omega arith in
    let w : with_digit 0 b ≡ b - 48 = omega arith in
    let c : 48 + (b - 48) ≡ b = omega (arith, g.least) in
    let d : digits (with_digit 0 b) ≡ b ∷ [] = rw (w, digits-one (b - 48) (omega (arith, g.most)), c) in
    let m = ap length d in
    rw (f, s) (record { most = a.most; size = omega (arith, a.size); text = rw d at a.text })

pub line-so : (l : List ℕ) → 0 < (line_of l).value → LineSo l (line_of l)
unfolding line_from
line-so [] h = absurd (omega arith)
line-so (b ∷ l) h = go (eqb b line_feed) (goes_on 0 b) refl h
  where
    go : (x y : Bool) → goes_on 0 b ≡ y
        → 0 < (if x then record { value = 0; size = 1 } else if y then further 1 (line_from (with_digit 0 b) l) else no_line).value
        → LineSo (b ∷ l) (if x then record { value = 0; size = 1 } else if y then further 1 (line_from (with_digit 0 b) l) else no_line)
    go true y f h = absurd (omega arith)
    go false true f h =
        let g = goes_so 0 b f in
        first_so b l (line_from (with_digit 0 b) l) g (line_after (with_digit 0 b) l g.some g.fits (further-value _ h))
    go false false f h = absurd (omega arith)

-- ---- a key in front

pub past-front : (t l : List ℕ) → past_of t (t ++ l) ≡ l
unfolding past_of
past-front [] l = refl
past-front (b ∷ t) l = rw (eq-eqb b b refl) (past-front t l)

pub past-so : (t l : List ℕ) → 0 < length (past_of t l) → l ≡ t ++ past_of t l
unfolding past_of
past-so [] l h = refl
past-so (c ∷ t) [] h = absurd (omega arith)
past-so (c ∷ t) (b ∷ l) h = go (eqb b c) refl (past-so t l) h
  where
    go : (x : Bool) → eqb b c ≡ x → (0 < length (past_of t l) → l ≡ t ++ past_of t l)
        → 0 < length (if x then past_of t l else []) → b ∷ l ≡ c ∷ (t ++ (if x then past_of t l else []))
    go true e i h = let f : b ≡ c = eqb-true _ _ e in let g = i h in cc
    go false e i h = absurd (omega arith)

-- a number's line has bytes
line-some : (l : List ℕ) → 0 < (line_of l).value → 0 < length l
unfolding line_from
line-some [] h = absurd (omega arith)
line-some (b ∷ l) h = omega arith

pub key-so : (t l : List ℕ) → 0 < (line_of (past_of t l)).value
    → l ≡ t ++ (digits (line_of (past_of t l)).value ++ (line_feed ∷ drop (line_of (past_of t l)).size (past_of t l)))
key-so t l h = past-so t l (line-some (past_of t l) h) ∙ ap (λ (m : List ℕ). t ++ m) (line-so (past_of t l) h).text

-- ---- the two numbers

-- their lines, and what follows
unfoldable numbers_text : ℕ → ℕ → List ℕ → List ℕ
numbers_text n limit rest = next_key ++ (digits n ++ (line_feed ∷ (limit_key ++ (digits limit ++ (line_feed ∷ rest)))))

module _ (n limit : ℕ) (rest : List ℕ) (least : least_number ≤ n) (most : n ≤ largest_number) (limit_least : least_limit ≤ limit)
    (limit_most : limit ≤ largest_limit) where
  after_next : List ℕ
  after_next = limit_key ++ (digits limit ++ (line_feed ∷ rest))

  next_past : past_of next_key (numbers_text n limit rest) ≡ digits n ++ (line_feed ∷ after_next)
  unfolding numbers_text after_next
  next_past = past-front next_key (digits n ++ (line_feed ∷ after_next))

  next-reads : next_line (numbers_text n limit rest) ≡ record { value = n; size = length (digits n) + 1 }
  unfolding next_line
  next-reads = rw next_past (line_reads n after_next least most)

  limit-reads : limit_line (numbers_text n limit rest) ≡ record { value = limit; size = length (digits limit) + 1 }
  unfolding limit_line after_next
  limit-reads =
      let e : digits n ++ (line_feed ∷ []) ++ after_next ≡ digits n ++ (line_feed ∷ after_next) = append_snoc (digits n) line_feed after_next in
      let d : drop (length (digits n) + 1) (digits n ++ (line_feed ∷ after_next)) ≡ after_next =
      rw (← e) (drop_at (digits n ++ (line_feed ∷ [])) after_next (length (digits n) + 1) (length-append (digits n) (line_feed ∷ []))) in
      rw (next-reads, next_past, d, past-front limit_key (digits limit ++ (line_feed ∷ rest))) (line_reads limit rest limit_least (omega arith))

  numbers-read : (name : List ℕ) → numbers_of name (numbers_text n limit rest)
      ≡ record {
        refusal = record { number = 0 };
        settings = settings name n limit;
        size = fixed_size + (length (digits n) + 1) + (length (digits limit) + 1);
      }
  unfolding numbers_of
  numbers-read name = rw (next-reads, limit-reads, le-ltb _ _ least, le-ltb _ _ limit_least, le-ltb _ _ limit_most)

-- l is such a text
record NumbersSo (l : List ℕ) : Type 0 where
  n : ℕ
  limit : ℕ
  rest : List ℕ
  least : least_number ≤ n
  most : n ≤ largest_number
  limit_least : least_limit ≤ limit
  limit_most : limit ≤ largest_limit
  text : l ≡ numbers_text n limit rest

module _ (l : List ℕ) where
  next-text : 0 < (next_line l).value → l ≡ next_key ++ (digits (next_line l).value ++ (line_feed ∷ drop (next_line l).size (past_of next_key l)))
  unfolding next_line
  next-text h = key-so next_key l h

  next-most : 0 < (next_line l).value → (next_line l).value ≤ largest_number
  unfolding next_line
  next-most h = (line-so (past_of next_key l) h).most

  -- what follows the line `limit=`
  rest_of : List ℕ
  rest_of = drop (limit_line l).size (past_of limit_key (drop (next_line l).size (past_of next_key l)))

  limit-text : 0 < (limit_line l).value → drop (next_line l).size (past_of next_key l) ≡ limit_key ++ (digits (limit_line l).value ++ (line_feed ∷ rest_of))
  unfolding limit_line rest_of
  limit-text h = key-so limit_key (drop (next_line l).size (past_of next_key l)) h

  numbers-text : 0 < (next_line l).value → 0 < (limit_line l).value → l ≡ numbers_text (next_line l).value (limit_line l).value rest_of
  unfolding numbers_text
  numbers-text h g = next-text h ∙ ap (λ (m : List ℕ). next_key ++ (digits (next_line l).value ++ (line_feed ∷ m))) (limit-text g)

  module _ (name : List ℕ) where
    next_low : ltb (next_line l).value least_number ≡ true → numbers_of name l ≡ refused_opened
    unfolding numbers_of
    next_low e = rw e

    limit-low : ltb (next_line l).value least_number ≡ false → ltb (limit_line l).value least_limit ≡ true → numbers_of name l ≡ refused_opened
    unfolding numbers_of
    limit-low e f = rw (e, f)

    limit-high : ltb (next_line l).value least_number ≡ false → ltb (limit_line l).value least_limit ≡ false
        → ltb largest_limit (limit_line l).value ≡ true → numbers_of name l ≡ refused_opened
    unfolding numbers_of
    limit-high e f g = rw (e, f, g)

    -- two numbers are refused, or they are there
    numbers-either : (P : Type 0) → (numbers_of name l ≡ refused_opened → P) → (NumbersSo l → P) → P
    numbers-either P bad good =
        go (ltb (next_line l).value least_number) (ltb (limit_line l).value least_limit) (ltb largest_limit (limit_line l).value) refl refl refl
      where
        go : (x y z : Bool) → ltb (next_line l).value least_number ≡ x → ltb (limit_line l).value least_limit ≡ y
            → ltb largest_limit (limit_line l).value ≡ z → P
        go true y z e f g = bad (next_low e)
        go false true z e f g = bad (limit-low e f)
        go false false true e f g = bad (limit-high e f g)
        go false false false e f g =
            let a = ltb-false _ _ e in
            let b = ltb-false _ _ f in
            good
            (record {
              n = _;
              limit = _;
              rest = _;
              least = a;
              most = next-most a;
              limit_least = b;
              limit_most = ltb-false _ _ g;
              text = numbers-text a b;
            })

-- ---- the name before them

record NameSo (l : List ℕ) : Type 0 where
  name : List ℕ
  numbers : List ℕ
  ten_bytes : length name ≡ session_size
  printable : is_printable name ≡ true
  not_blank : name ≡ blank → ⊥
  text : l ≡ name ++ (line_feed ∷ numbers)
  read : name_line l ≡ numbers_of name numbers

name-read : (name numbers : List ℕ) → length name ≡ session_size → is_printable name ≡ true → (name ≡ blank → ⊥)
    → name_line (name ++ (line_feed ∷ numbers)) ≡ numbers_of name numbers
unfolding name_line
name-read name numbers h p z =
    let n = length-append name (line_feed ∷ numbers) in
    let a : 10 < length (name ++ (line_feed ∷ numbers)) = omega arith in
    let g : get_or (name ++ (line_feed ∷ numbers)) 10 0 ≡ 10 = get_or_at name line_feed numbers 0 10 h in
    let t : take 10 (name ++ (line_feed ∷ numbers)) ≡ name = take_at name (line_feed ∷ numbers) 10 h in
    let e : name ++ (line_feed ∷ []) ++ numbers ≡ name ++ (line_feed ∷ numbers) = append_snoc name line_feed numbers in
    let m = length-append name (line_feed ∷ []) in
    let d : drop 11 (name ++ (line_feed ∷ numbers)) ≡ numbers = rw (← e) (drop_at (name ++ (line_feed ∷ [])) numbers 11 (omega arith)) in
    rw (lt-leb _ _ a, g, t, p, different name blank z, d)

module _ (l : List ℕ) where
  name-short : leb (length l) session_size ≡ true → name_line l ≡ refused_opened
  unfolding name_line
  name-short e = rw e

  name-long : leb (length l) session_size ≡ false → eqb (get_or l session_size 0) line_feed ≡ false → name_line l ≡ refused_opened
  unfolding name_line
  name-long e f = rw (e, f)

  name-bad : leb (length l) session_size ≡ false → eqb (get_or l session_size 0) line_feed ≡ true → is_printable (take session_size l) ≡ false
      → name_line l ≡ refused_opened
  unfolding name_line
  name-bad e f g = rw (e, f, g)

  name-blank : leb (length l) session_size ≡ false → eqb (get_or l session_size 0) line_feed ≡ true → is_printable (take session_size l) ≡ true
      → same_bytes (take session_size l) blank ≡ true → name_line l ≡ refused_opened
  unfolding name_line
  name-blank e f g h = rw (e, f, g, h)

  name-text : session_size < length l → get_or l session_size 0 ≡ line_feed → l ≡ take session_size l ++ (line_feed ∷ drop 11 l)
  name-text h e = split_at l 10 0 h ∙ ap (λ (b : ℕ). take session_size l ++ (b ∷ drop 11 l)) e

  name-either : (P : Type 0) → (name_line l ≡ refused_opened → P) → (NameSo l → P) → P
  name-either P bad good =
      go (leb (length l) session_size) (eqb (get_or l session_size 0) line_feed) (is_printable (take session_size l)) (same_bytes (take session_size l) blank) refl refl refl refl
    where
      go : (x y z w : Bool) → leb (length l) session_size ≡ x → eqb (get_or l session_size 0) line_feed ≡ y → is_printable (take session_size l) ≡ z
          → same_bytes (take session_size l) blank ≡ w → P
      go true y z w e f g h = bad (name-short e)
      go false false z w e f g h = bad (name-long e f)
      go false true false w e f g h = bad (name-bad e f g)
      go false true true true e f g h = bad (name-blank e f g h)
      go false true true false e f g h =
          let a : 10 < length l = leb-false _ _ e in
          let n : length (take 10 l) ≡ 10 = length-take-le 10 l (omega arith) in
          let t = name-text a (eqb-true _ _ f) in
          let b : take 10 l ≡ blank → ⊥ = λ (i : take 10 l ≡ blank). true≢false (sym (rw i (same_refl blank)) ∙ h) in
          good
          (record {
            name = take 10 l;
            numbers = drop 11 l;
            ten_bytes = n;
            printable = g;
            not_blank = b;
            text = t;
            read = ap name_line t ∙ name-read (take 10 l) (drop 11 l) n g b;
          })

-- ---- the whole

line-shape : (key value rest : List ℕ) → line key value ++ rest ≡ key ++ (value ++ (line_feed ∷ rest))
line-shape key value rest = append_assoc (key ++ value) (line_feed ∷ []) rest ∙ append_assoc key value (line_feed ∷ rest)

-- the text, bracketed as it is read
text-shape : (name : List ℕ) (n limit : ℕ) (rest : List ℕ)
    → settings_text name n limit ++ rest ≡ session_key ++ (name ++ (line_feed ∷ numbers_text n limit rest))
unfolding settings_text numbers_text
text-shape name n limit rest =
    append_assoc (line session_key name ++ line next_key (digits n)) (line limit_key (digits limit)) rest
    ∙ append_assoc (line session_key name) (line next_key (digits n)) (line limit_key (digits limit) ++ rest)
    ∙ rw (line-shape limit_key (digits limit) rest, line-shape next_key (digits n) (limit_key ++ (digits limit ++ (line_feed ∷ rest))))
    (line-shape session_key name (next_key ++ (digits n ++ (line_feed ∷ (limit_key ++ (digits limit ++ (line_feed ∷ rest)))))))

text-size : (name : List ℕ) (n limit : ℕ) → length name ≡ session_size
    → length (settings_text name n limit) ≡ fixed_size + (length (digits n) + 1) + (length (digits limit) + 1)
unfolding settings_text
text-size name n limit h = simp length-append (omega arith)

-- what was read is what good settings give
abbrev given : List ℕ → ℕ → ℕ → Opening
given name n limit = record { refusal = record { number = 0 }; settings = settings name n limit; size = length (settings_text name n limit) }

reads : (name : List ℕ) (n limit : ℕ) (rest : List ℕ) → Good name n limit → settings_of (settings_text name n limit ++ rest) ≡ given name n limit
unfolding settings_of
reads name n limit rest g =
    let a = numbers-read n limit rest g.number_least g.number_most g.limit_least g.limit_most name in
    rw (text-shape name n limit rest, past-front session_key (name ++ (line_feed ∷ numbers_text n limit rest)), text-size name n limit g.ten_bytes)
    (name-read name (numbers_text n limit rest) g.ten_bytes g.printable g.not_blank ∙ a)

-- good settings stand in front of l
record GoodIn (l : List ℕ) : Type 0 where
  name : List ℕ
  n : ℕ
  limit : ℕ
  rest : List ℕ
  good : Good name n limit
  text : l ≡ settings_text name n limit ++ rest

refused-name : (l : List ℕ) → name_line (past_of session_key l) ≡ refused_opened → settings_of l ≡ refused_opened
unfolding settings_of
refused-name l e = e

past-some : (l : List ℕ) (s : NameSo (past_of session_key l)) → 0 < length (past_of session_key l)
past-some l s = let e = ap length s.text in omega (arith, length-append s.name (line_feed ∷ s.numbers))

good-in : (l : List ℕ) (s : NameSo (past_of session_key l)) → NumbersSo s.numbers → GoodIn l
good-in l s m =
    record {
      name = s.name;
      n = m.n;
      limit = m.limit;
      rest = m.rest;
      good =
          record {
            ten_bytes = s.ten_bytes;
            printable = s.printable;
            not_blank = s.not_blank;
            number_least = m.least;
            number_most = m.most;
            limit_least = m.limit_least;
            limit_most = m.limit_most;
          };
      text =
          past-so session_key l (past-some l s) ∙ ap (λ (a : List ℕ). session_key ++ a) s.text
          ∙ ap (λ (a : List ℕ). session_key ++ (s.name ++ (line_feed ∷ a))) m.text ∙ sym (text-shape s.name m.n m.limit m.rest);
    }

-- all else is refused
read-either : (l : List ℕ) (P : Type 0) → (settings_of l ≡ refused_opened → P) → (GoodIn l → P) → P
read-either l P bad good =
    name-either (past_of session_key l) P (λ e. bad (refused-name l e))
    (λ s. numbers-either s.numbers s.name P (λ e. bad (refused-name l (s.read ∙ e))) (λ m. good (good-in l s m)))

good-read : (l : List ℕ) (g : GoodIn l) → settings_of l ≡ given g.name g.n g.limit
good-read l g = ap settings_of g.text ∙ reads g.name g.n g.limit g.rest g.good

-- what the answer to l says of it
abbrev SaysSo : List ℕ → Opening → Type 0
SaysSo l o = ReadSo l o.settings.session o.settings.next.0 o.settings.limit.0 o.size

only : (l : List ℕ) → (settings_of l).refusal.number ≡ 0 → SaysSo l (settings_of l)
only l h = read-either l _ bad good
  where
    bad : settings_of l ≡ refused_opened → SaysSo l (settings_of l)
    bad e = let k : ◌≡◌ {A = ℕ} 19 0 = sym (ap (λ (o : Opening). o.refusal.number) e) ∙ h in absurd (omega arith)

    good : GoodIn l → SaysSo l (settings_of l)
    good g =
        let e = good-read l g in
        let t = settings_text g.name g.n g.limit in
        let d : drop (length t) l ≡ g.rest = rw g.text (drop_at t g.rest (length t) refl) in
        rw e (record { good = g.good; is_text = rw d g.text })

-- ---- how far it looks

good-size : (name : List ℕ) (n limit : ℕ) → Good name n limit → length (settings_text name n limit) ≤ longest
good-size name n limit g =
    omega (
      arith,
      text-size name n limit g.ten_bytes,
      length_digits n,
      length-digits-below 5 limit (omega arith) (omega (arith, g.limit_most)) (omega (arith, g.limit_most)),
    )

-- whatever follows
good-longer : (a b : List ℕ) (g : GoodIn a) → settings_of (a ++ b) ≡ given g.name g.n g.limit
good-longer a b g =
    let t = settings_text g.name g.n g.limit in
    let e : a ++ b ≡ t ++ (g.rest ++ b) = ap (λ (m : List ℕ). m ++ b) g.text ∙ append_assoc t g.rest b in
    ap settings_of e ∙ reads g.name g.n g.limit (g.rest ++ b) g.good

-- good settings in front of a and more lie within a
good-within : (a b : List ℕ) → longest ≤ length a → GoodIn (a ++ b) → GoodIn a
good-within a b h g =
    let t = settings_text g.name g.n g.limit in
    let k : length t ≤ length a = omega (arith, good-size g.name g.n g.limit g.good) in
    let e : take (length t) a ≡ t =
    sym (take-append-le (length t) a b k) ∙ ap (take (length t)) g.text ∙ take_at t g.rest (length t) refl in
    record {
      name = g.name;
      n = g.n;
      limit = g.limit;
      rest = drop (length t) a;
      good = g.good;
      text = sym (take-append-drop (length t) a) ∙ ap (λ (m : List ℕ). m ++ drop (length t) a) e;
    }

settled : Settled
unfolding Settled
settled a b h = read-either a _ refused good
  where
    good : GoodIn a → settings_of (a ++ b) ≡ settings_of a
    good g = good-longer a b g ∙ sym (good-read a g)

    refused : settings_of a ≡ refused_opened → settings_of (a ++ b) ≡ settings_of a
    refused e = read-either (a ++ b) _ (λ f. f ∙ sym e)
        (λ g.
        let k : ◌≡◌ {A = ℕ} 19 0 = ap (λ (o : Opening). o.refusal.number) (sym e ∙ good-read a (good-within a b h g)) in
        absurd (omega arith))

size_within : SizeWithin
unfolding SizeWithin
size_within l = read-either l _ (λ e. rw e (omega arith)) good
  where
    good : GoodIn l → (settings_of l).size ≤ length l
    good g =
        let e = ap length g.text in
        rw (good-read l g) (omega (arith, length-append (settings_text g.name g.n g.limit) g.rest))

pub settings-promises : SettingsPromises
settings-promises =
    record {
      reads_exactly = record { reads = reads; only = only };
      settled = settled;
      size_within = size_within;
    }
