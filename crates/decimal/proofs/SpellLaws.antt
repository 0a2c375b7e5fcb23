-- Laws of a number's digits: what they spell, that nothing else spells it, how many they are, and that `io::decimal` gives them.
use mathlib.Core.Path.{◌≡◌, refl, ap, sym, ◌∙◌}
use mathlib.Core.List.{List, [], ◌∷◌, ◌++◌, append_assoc, append-nil}
use mathlib.Core.Bool.{Bool, true, false, ◌&&◌}
use Prim.Native.Nat.{ℕ, zero, suc, ◌+◌, ◌*◌, ◌-◌, ◌/◌, ◌%◌, ◌^◌, ◌<◌, ◌≤◌}
use native.Mathlib.Omega.{arith}
use native.Mathlib.Nat.{pow-suc, pow-zero}
use lib.ListN.{length, get_or, length-append, get_or-append}
use lib.Dec.{ltb, leb}
use borrow.Author.Tests.{lt-ltb, le-ltb, ltb-true, ltb-false, le-leb, leb-true, leb-false}
use Rattle.io.specs.Digits.{last_digits as io-digits, IsDigitCount, hex_digit_ascii}
use Rattle.std.specs.Prelude.{if◌then◌else◌, Result, Ok, Err}
use Rattle.wire.specs.Bounds.{largest_number}
use Rattle.wire.specs.Words.{Case, answer, refused}
use Rattle.wire.proofs.Words.{read_back}
use Rattle.decimal.specs.declared.reading.DigitError.{DigitError}
use Rattle.decimal.specs.declared.reading.DigitError.TheVariants.{NoDigit, TooLarge}
use Rattle.decimal.specs.Decimal.{is_digit, with_digit, Appending, value, no_digit, too_large, appended_words, AppendedApart, digits_up_to, digits, value_from, value_of, are_digits, Spelled, SpellsNumbers}

-- ---- the words tell all answers apart

answered : Case Appending → List ℕ → Result ℕ DigitError
answered (answer value) vs = Ok (get_or vs 0 0)
answered (answer no_digit) vs = Err NoDigit
answered (answer too_large) vs = Err TooLarge
answered refused vs = Err NoDigit

pub appended-apart : AppendedApart
unfolding AppendedApart appended_words answered
appended-apart = read_back appended_words (λ w. answered w.which w.values) back
  where
    back : (a : Result ℕ DigitError) → answered (appended_words a).which (appended_words a).values ≡ a
    back (Ok v) = refl
    back (Err NoDigit) = refl
    back (Err TooLarge) = refl

-- ---- one digit

pub is_digit-within : (b : ℕ) → 48 ≤ b → b ≤ 57 → is_digit b ≡ true
unfolding is_digit
is_digit-within b h g = simp (le-ltb _ _ h, le-leb _ _ g)

pub record Digit (b : ℕ) : Type 0 where
  pub least : 48 ≤ b
  pub most : b ≤ 57

pub digit-so : (b : ℕ) → is_digit b ≡ true → Digit b
unfolding is_digit
digit-so b = go (ltb b 48) refl
  where
    go : (x : Bool) → ltb b 48 ≡ x → if x then false else leb b 57 ≡ true → Digit b
    go true f e = let z : ◌≡◌ {A = ℕ} 0 1 = cc in absurd (omega arith)
    go false f e = record { least = ltb-false _ _ f; most = leb-true _ _ e }

-- ---- the digits of a number below 10 ^ f

ten-pos : (i : ℕ) → 0 < 10 ^ i
ten-pos zero = omega (arith, pow-zero 10)
ten-pos (suc i) = let h = ten-pos i in omega (arith, pow-suc 10 i)

-- a number of one digit, and one of more
either : (n : ℕ) (P : Type 0) → (n < 10 → P) → (10 ≤ n → P) → P
either n P f g = go (ltb n 10) refl
  where
    go : (x : Bool) → ltb n 10 ≡ x → P
    go true e = f (ltb-true _ _ e)
    go false e = g (ltb-false _ _ e)

up_one : (f n : ℕ) → n < 10 → digits_up_to (suc f) n ≡ (48 + n) ∷ []
unfolding digits_up_to
up_one f n h = let e : n % 10 ≡ n = omega arith in rw (lt-ltb _ _ h, e)

up_more : (f n : ℕ) → 10 ≤ n → digits_up_to (suc f) n ≡ digits_up_to f (n / 10) ++ ((48 + n % 10) ∷ [])
unfolding digits_up_to
up_more f n h = rw (le-ltb _ _ h)

-- the bound doesn't matter
up_same : (f g n : ℕ) → n < 10 ^ suc f → n < 10 ^ suc g → digits_up_to (suc f) n ≡ digits_up_to (suc g) n
up_same zero g n h i = let a : n < 10 = omega arith in up_one zero n a ∙ sym (up_one g n a)
up_same (suc f) zero n h i = let a : n < 10 = omega arith in up_one (suc f) n a ∙ sym (up_one zero n a)
up_same (suc f) (suc g) n h i =
    either n _ (λ a. up_one (suc f) n a ∙ sym (up_one (suc g) n a))
    (λ a. rw (up_more (suc f) n a, up_more (suc g) n a, up_same f g (n / 10) (omega (arith, pow-suc 10 (suc f))) (omega (arith, pow-suc 10 (suc g)))))

up-some : (f n : ℕ) → 0 < length (digits_up_to (suc f) n)
unfolding digits_up_to
up-some f n = omega (arith, length-append (if ltb n 10 then [] else digits_up_to f (n / 10)) ((48 + n % 10) ∷ []))

up-length : (f n : ℕ) → length (digits_up_to f n) ≤ f
unfolding digits_up_to
up-length zero n = omega arith
up-length (suc f) n = go (ltb n 10) (up-length f (n / 10))
  where
    go : (x : Bool) → length (digits_up_to f (n / 10)) ≤ f → length ((if x then [] else digits_up_to f (n / 10)) ++ ((48 + n % 10) ∷ [])) ≤ suc f
    go true h = omega arith
    go false h = omega (arith, length-append (digits_up_to f (n / 10)) ((48 + n % 10) ∷ []))

-- the first digit of a number above 0 is no zero
up_first : (f n : ℕ) → n < 10 ^ f → 0 < n → 48 < get_or (digits_up_to f n) 0 0
up_first zero n h z = absurd (omega (arith, pow-zero 10))
up_first (suc zero) n h z = let a : n < 10 = omega arith in rw (up_one zero n a) (omega arith)
up_first (suc (suc f)) n h z =
    either n _ (λ a. rw (up_one (suc f) n a) (omega arith))
    (λ a.
    let g = get_or-append (digits_up_to (suc f) (n / 10)) ((48 + n % 10) ∷ []) 0 0 (up-some f (n / 10)) in
    rw (up_more (suc f) n a, g) (up_first (suc f) (n / 10) (omega (arith, pow-suc 10 (suc f))) (omega arith)))

-- ---- digits behind digits

value_none : (v : ℕ) → value_from v [] ≡ v
unfolding value_from
value_none v = refl

value-one : (v b : ℕ) → value_from v (b ∷ []) ≡ with_digit v b
unfolding value_from
value-one v b = refl

pub value-append : (v : ℕ) (a b : List ℕ) → value_from v (a ++ b) ≡ value_from (value_from v a) b
unfolding value_from
value-append v [] b = refl
value-append v (x ∷ a) b = value-append (with_digit v x) a b

pub are-so : (b : ℕ) (t : List ℕ) → are_digits (b ∷ t) ≡ true → (is_digit b ≡ true) × (are_digits t ≡ true)
unfolding are_digits
are-so b t = go (is_digit b) refl
  where
    go : (x : Bool) → is_digit b ≡ x → (x && are_digits t) ≡ true → (is_digit b ≡ true) × (are_digits t ≡ true)
    go true f e = (f, e)
    go false f e = let z : ◌≡◌ {A = ℕ} 0 1 = cc in absurd (omega arith)

are-none : are_digits [] ≡ true
unfolding are_digits
are-none = refl

are-one : (b : ℕ) → is_digit b ≡ true → are_digits (b ∷ []) ≡ true
unfolding are_digits
are-one b h = simp h

pub are-append : (a b : List ℕ) → are_digits a ≡ true → are_digits b ≡ true → are_digits (a ++ b) ≡ true
unfolding are_digits
are-append [] b h g = g
are-append (x ∷ a) b h g =
    let d = are-so x a h in
    simp (d.0, are-append a b d.1 g)

pub value_grows : (v : ℕ) (t : List ℕ) → v ≤ value_from v t
unfolding value_from
value_grows v [] = omega arith
value_grows v (b ∷ t) = let i = value_grows (with_digit v b) t in omega arith

-- ---- the digits of a number of 64 bits

pub digits-one : (d : ℕ) → d < 10 → digits d ≡ (48 + d) ∷ []
unfolding digits
digits-one d h = up_one 19 d h

-- a number with one more digit behind it
pub digits_more : (v b : ℕ) → 0 < v → 48 ≤ b → b ≤ 57 → with_digit v b ≤ largest_number → digits (with_digit v b) ≡ digits v ++ (b ∷ [])
unfolding digits
digits_more v b z h g m =
    let q : (v * 10 + (b - 48)) / 10 ≡ v = omega arith in
    let r : 48 + (v * 10 + (b - 48)) % 10 ≡ b = omega arith in
    let s : digits_up_to 19 v ≡ digits_up_to 20 v = up_same 18 19 v (omega arith) (omega arith) in
    rw (up_more 19 (v * 10 + (b - 48)) (omega arith), q, r, s)

-- and with more digits
pub digits_onto : (v : ℕ) (t : List ℕ) → 0 < v → are_digits t ≡ true → value_from v t ≤ largest_number → digits (value_from v t) ≡ digits v ++ t
unfolding value_from
digits_onto v [] z d m = sym (append-nil (digits v))
digits_onto v (b ∷ t) z d m =
    let s = are-so b t d in
    let e = digit-so b s.0 in
    let i = value_grows (with_digit v b) t in
    let g : digits (with_digit v b) ≡ digits v ++ (b ∷ []) = digits_more v b z e.least e.most (omega arith) in
    digits_onto (with_digit v b) t (omega arith) s.1 m ∙ rw g (append_assoc (digits v) (b ∷ []) t)

-- the first is no zero, but of the number 0
pub digits-first : (n : ℕ) → 0 < n → n ≤ largest_number → 48 < get_or (digits n) 0 0
unfolding digits
digits-first n z h = up_first 20 n (omega arith) z

pub length_digits : (n : ℕ) → length (digits n) ≤ 20
unfolding digits
length_digits n = up-length 20 n

pub length-digits-below : (f n : ℕ) → 0 < f → n < 10 ^ f → n ≤ largest_number → length (digits n) ≤ f
unfolding digits
length-digits-below zero n z h g = absurd (omega arith)
length-digits-below (suc f) n z h g = rw (up_same 19 f n (omega arith) h) (up-length (suc f) n)

-- ---- what they spell

up-digits : (f n : ℕ) → are_digits (digits_up_to f n) ≡ true
unfolding digits_up_to
up-digits zero n = are-none
up-digits (suc f) n = go (ltb n 10) (up-digits f (n / 10))
  where
    last : are_digits ((48 + n % 10) ∷ []) ≡ true
    last = are-one (48 + n % 10) (is_digit-within (48 + n % 10) (omega arith) (omega arith))

    go : (x : Bool) → are_digits (digits_up_to f (n / 10)) ≡ true → are_digits ((if x then [] else digits_up_to f (n / 10)) ++ ((48 + n % 10) ∷ [])) ≡ true
    go true h = last
    go false h = are-append (digits_up_to f (n / 10)) ((48 + n % 10) ∷ []) h last

up-value : (f n : ℕ) → n < 10 ^ f → value_from 0 (digits_up_to f n) ≡ n
unfolding digits_up_to
up-value zero n h = value_none 0 ∙ omega (arith, pow-zero 10)
up-value (suc f) n h =
    either n _ (λ a. rw (up_one f n a) (value-one 0 (48 + n) ∙ omega arith))
    (λ a.
    rw (up_more f n a, value-append 0 (digits_up_to f (n / 10)) ((48 + n % 10) ∷ []), up-value f (n / 10) (omega (arith, pow-suc 10 f)))
    (value-one (n / 10) (48 + n % 10) ∙ omega arith))

spelled : (n : ℕ) → n ≤ largest_number → Spelled (digits n)
unfolding digits
spelled n h =
    record {
      some = up-some 19 n;
      digits_alone = up-digits 20 n;
      no_leading_zero =
          λ g e. either n _ (λ a. let l = ap length (up_one 19 n a) in omega arith)
          (λ a. let z = up_first 20 n (omega arith) (omega arith) in omega arith);
    }

their_value : (n : ℕ) → n ≤ largest_number → value_of (digits n) ≡ n
unfolding digits
their_value n h = up-value 20 n (omega arith)

above : (b : ℕ) → 48 ≤ b → (b ≡ 48 → ⊥) → 0 < with_digit 0 b
above b h z = go (leb b 48) refl
  where
    go : (x : Bool) → leb b 48 ≡ x → 0 < with_digit 0 b
    go true e = let a : b ≤ 48 = leb-true _ _ e in absurd (z (omega arith))
    go false e = let a : 48 < b = leb-false _ _ e in omega arith

no_other : (t : List ℕ) → Spelled t → value_of t ≤ largest_number → digits (value_of t) ≡ t
unfolding value_from
no_other [] s m = absurd (omega (arith, s.some))
no_other (b ∷ []) s m =
    let d = digit-so b (are-so b [] s.digits_alone).0 in
    let e : with_digit 0 b ≡ b - 48 = omega arith in
    let g : 48 + (b - 48) ≡ b = omega (arith, d.least) in
    rw (e, digits-one (b - 48) (omega (arith, d.most)), g)
no_other (b ∷ c ∷ t) s m =
    let a = are-so b (c ∷ t) s.digits_alone in
    let d = digit-so b a.0 in
    let e : with_digit 0 b ≡ b - 48 = omega arith in
    let g : 48 + (b - 48) ≡ b = omega (arith, d.least) in
    let z : b ≡ 48 → ⊥ = s.no_leading_zero (omega arith) in
    let n : 0 < with_digit 0 b = above b d.least z in
    let o : digits (with_digit 0 b) ≡ b ∷ [] = rw (e, digits-one (b - 48) (omega (arith, d.most)), g) in
    digits_onto (with_digit 0 b) (c ∷ t) n a.1 m ∙ rw o

pub spells-numbers : SpellsNumbers
spells-numbers = record { spelled = spelled; their_value = their_value; no_other = no_other }

-- ---- `io::decimal` gives them

glyph-small : (d : ℕ) → d < 10 → hex_digit_ascii d ≡ 48 + d
glyph-small d h = rw (lt-ltb _ _ h)

-- a number of one digit
same-one : (f j n : ℕ) → n < 10 → IsDigitCount 10 1 n (suc j) → io-digits 10 (suc j) n ≡ digits_up_to (suc f) n
same-one f zero n h w =
    let e : n % 10 ≡ n = omega arith in
    rw (up_one f n h, e, glyph-small n h)
same-one f (suc i) n h w =
    let p : 10 ^ suc i ≡ 10 ^ i * 10 = pow-suc 10 i in
    let q : 0 < 10 ^ i = ten-pos i in
    let e : suc (suc i) - 1 ≡ suc i = omega arith in
    let a : 10 ^ (suc (suc i) - 1) ≤ n = w.2 (omega arith) in
    let b : 10 ^ suc i ≤ n = rw e at a in
    absurd (omega arith)

-- the digits before the last
fewer : (j n : ℕ) → 10 ≤ n → IsDigitCount 10 1 n (suc j) → IsDigitCount 10 1 (n / 10) j
fewer zero n h w = let a : n < 10 ^ 1 = w.1 in absurd (omega arith)
fewer (suc i) n h w =
    let p : 10 ^ suc (suc i) ≡ 10 ^ suc i * 10 = pow-suc 10 (suc i) in
    let q : 10 ^ suc i ≡ 10 ^ i * 10 = pow-suc 10 i in
    let a : n < 10 ^ suc (suc i) = w.1 in
    let e : suc (suc i) - 1 ≡ suc i = omega arith in
    let e₁ : suc i - 1 ≡ i = omega arith in
    let b : 10 ^ suc i ≤ n = rw e at (w.2 (omega arith)) in
    (omega arith, omega arith, λ (g : 1 < suc i). rw e₁ (omega arith))

same : (f k n : ℕ) → n < 10 ^ suc f → IsDigitCount 10 1 n k → io-digits 10 k n ≡ digits_up_to (suc f) n
same f zero n h w = absurd (omega (arith, w.0))
same zero (suc j) n h w = same-one zero j n (omega arith) w
same (suc f) (suc j) n h w =
    either n _ (λ a. same-one (suc f) j n a w)
    (λ a.
    let g : n % 10 < 10 = omega arith in
    rw (up_more (suc f) n a, glyph-small (n % 10) g, same f j (n / 10) (omega (arith, pow-suc 10 (suc f))) (fewer j n a w)))

pub decimal-digits : (k n : ℕ) → n < 2 ^ 64 → IsDigitCount 10 1 n k → io-digits 10 k n ≡ digits n
unfolding digits
decimal-digits k n h w = same 19 k n (omega arith) w
