-- A number field: what is written reads back, what reads to a value without leading zeros is written back, and the words of its
-- reading tell all apart.
use mathlib.Core.Path.{◌≡◌, refl, ap, sym, ◌∙◌}
use mathlib.Core.List.{List, [], ◌∷◌, ◌++◌}
use mathlib.Core.Bool.{Bool, true, false, ◌&&◌}
use Prim.Native.Nat.{ℕ, zero, suc, ◌-◌, ◌≤◌, ◌<◌}
use native.Mathlib.Omega.{arith}
use lib.ListN.{length, drop, get_or, replicate, length-append, length-replicate}
use lib.Seq.{drop_at}
use lib.Dec.{ltb, leb, eqb}
use borrow.Author.Tests.{le-leb, lt-ltb, ltb-true, leb-true, ne_eqb, eqb-true}
use Rattle.std.specs.Prelude.{if◌then◌else◌, Option, Some, None}
use Rattle.wire.specs.Bounds.{largest_number}
use Rattle.wire.specs.Words.{Case, answer, refused, says, Injective}
use Rattle.wire.proofs.Words.{which-of, values-of, read_back}
use Rattle.decimal.specs.Decimal.{are_digits, value_of, digits, Spelled}
use Rattle.decimal.proofs.SpellLaws.{are-so, digit-so, spells-numbers}
use Rattle.wire.specs.declared.kinds.SequenceNumber.{SequenceNumber}
use Rattle.text_fields.specs.Letters.{space, leading_spaces, after_spaces}
use Rattle.text_fields.specs.Number.{NumberKind, value, bad, number_words, is_number, read_number, number_field_size, number_field, NoLeadingZero, NumberLaws}

-- ---- spaces in front

-- a digit is no space
no-spaces : (t : List ℕ) → are_digits t ≡ true → leading_spaces t ≡ 0
unfolding leading_spaces
no-spaces [] h = refl
no-spaces (b ∷ t) h =
    let d = digit-so b (are-so b t h).0 in
    let z : b ≡ 32 → ⊥ = λ (e : b ≡ 32). omega (arith, d.least) in
    rw (ne_eqb _ _ z)

leading : (k : ℕ) (t : List ℕ) → leading_spaces t ≡ 0 → leading_spaces (replicate k space ++ t) ≡ k
unfolding leading_spaces
leading zero t h = h
leading (suc k) t h = ap suc (leading k t h)

-- a list is its leading spaces and what follows them
spaces-first : (l : List ℕ) → l ≡ replicate (leading_spaces l) space ++ after_spaces l
unfolding leading_spaces
spaces-first [] = refl
spaces-first (b ∷ l) = go (eqb b space) refl (spaces-first l)
  where
    go : (x : Bool) → eqb b space ≡ x → l ≡ replicate (leading_spaces l) space ++ after_spaces l
        → b ∷ l ≡ replicate (if x then suc (leading_spaces l) else 0) space ++ drop (if x then suc (leading_spaces l) else 0) (b ∷ l)
    go true e h = let z : b ≡ 32 = eqb-true _ _ e in rw z (ap (λ (m : List ℕ). 32 ∷ m) h)
    go false e h = refl

-- ---- what is written reads back

after-field : (n : ℕ) → n ≤ largest_number → after_spaces (number_field n) ≡ digits n
unfolding number_field
after-field n h =
    let k = number_field_size - length (digits n) in
    let d = no-spaces (digits n) (spells-numbers.spelled n h).digits_alone in
    let e : leading_spaces (replicate k space ++ digits n) ≡ k = leading k (digits n) d in
    rw e (drop_at (replicate k space) (digits n) k (length-replicate k space))

is-number : (n : ℕ) → n ≤ largest_number → is_number (digits n) ≡ true
unfolding is_number
is-number n h =
    let s = spells-numbers.spelled n h in
    rw (lt-ltb _ _ s.some, s.digits_alone, spells-numbers.their_value n h, le-leb _ _ h)

reads_back : (n least : ℕ) → n ≤ largest_number → least ≤ n → read_number least (number_field n) ≡ says value (n ∷ [])
unfolding read_number
reads_back n least h g = rw (after-field n h, is-number n h, spells-numbers.their_value n h, le-leb _ _ g)

-- ---- what reads to a value is written back

record NumberSo (t : List ℕ) : Type 0 where
  some : 0 < length t
  digits_alone : are_digits t ≡ true
  fits : value_of t ≤ largest_number

number-so : (t : List ℕ) → is_number t ≡ true → NumberSo t
unfolding is_number
number-so t = go (ltb 0 (length t)) (are_digits t) (leb (value_of t) largest_number) refl refl refl
  where
    go : (x y z : Bool) → ltb 0 (length t) ≡ x → are_digits t ≡ y → leb (value_of t) largest_number ≡ z → (x && y && z) ≡ true → NumberSo t
    go true true true f g h e = record { some = ltb-true _ _ f; digits_alone = g; fits = leb-true _ _ h }
    go true true false f g h e = let k : ◌≡◌ {A = ℕ} 0 1 = cc in absurd (omega arith)
    go true false z f g h e = let k : ◌≡◌ {A = ℕ} 0 1 = cc in absurd (omega arith)
    go false y z f g h e = let k : ◌≡◌ {A = ℕ} 0 1 = cc in absurd (omega arith)

record ValueSo (l : List ℕ) (n : ℕ) : Type 0 where
  number : NumberSo (after_spaces l)
  same : n ≡ value_of (after_spaces l)

value-so : (l : List ℕ) (n least : ℕ) → read_number least l ≡ says value (n ∷ []) → ValueSo l n
unfolding read_number
value-so l n least = go (is_number (after_spaces l)) (leb least (value_of (after_spaces l))) refl
  where
    go : (x y : Bool) → is_number (after_spaces l) ≡ x
        → if x && y then says value (value_of (after_spaces l) ∷ []) else says bad [] ≡ says value (n ∷ [])
        → ValueSo l n
    go true true f e = record { number = number-so (after_spaces l) f; same = let v = values-of e in cc }
    go true false f e = let w = which-of e in let k : ◌≡◌ {A = ℕ} 0 1 = cc in absurd (omega arith)
    go false y f e = let w = which-of e in let k : ◌≡◌ {A = ℕ} 0 1 = cc in absurd (omega arith)

writes_back : (l : List ℕ) (n least : ℕ) → length l ≡ number_field_size → read_number least l ≡ says value (n ∷ []) → NoLeadingZero l → number_field n ≡ l
unfolding number_field NoLeadingZero
writes_back l n least h e z =
    let v = value-so l n least e in
    let s : Spelled (after_spaces l) = record { some = v.number.some; digits_alone = v.number.digits_alone; no_leading_zero = z } in
    let d : digits n ≡ after_spaces l = ap digits v.same ∙ spells-numbers.no_other (after_spaces l) s v.number.fits in
    let t = spaces-first l in
    let k : number_field_size - length (after_spaces l) ≡ leading_spaces l =
    omega (
      arith,
      ap length t,
      length-append (replicate (leading_spaces l) space) (after_spaces l),
      length-replicate (leading_spaces l) space,
    ) in
    rw (d, k) (sym t)

-- ---- the words tell all readings apart

answered : Case NumberKind → List ℕ → Option SequenceNumber
answered (answer value) vs = Some (record { 0 = get_or vs 0 0 })
answered (answer bad) vs = None
answered refused vs = None

tells_apart : Injective number_words
unfolding number_words answered
tells_apart = read_back number_words (λ w. answered w.which w.values) back
  where
    back : (a : Option SequenceNumber) → answered (number_words a).which (number_words a).values ≡ a
    back (Some n) = refl
    back None = refl

pub number-laws : NumberLaws
number-laws = record { reads_back = reads_back; writes_back = writes_back; tells_apart = tells_apart }
