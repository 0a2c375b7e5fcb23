-- Decimal numbers as text, in ASCII.
use Rattle.std.specs.Prelude.{ℕ, zero, suc, ◌+◌, ◌*◌, ◌-◌, ◌/◌, ◌%◌, ◌<◌, ◌≤◌, List, [], ◌∷◌, ◌++◌, Bool, true, false, ◌&&◌, ◌≡◌, length, get_or, ltb, leb, if◌then◌else◌, Result, Ok, Err}
use Rattle.wire.specs.Text.{letter}
use Rattle.wire.specs.Bounds.{largest_number}
use Rattle.wire.specs.Words.{Words, says, Injective}
use Rattle.decimal.specs.declared.reading.DigitError.{DigitError}
use Rattle.decimal.specs.declared.reading.DigitError.TheVariants.{NoDigit, TooLarge}

-- `0` to `9`
unfoldable pub is_digit : ℕ → Bool
is_digit b = if ltb b (letter "0") then false else leb b (letter "9")

-- a number with one more digit behind it
abbrev pub with_digit : ℕ → ℕ → ℕ
with_digit v b = v * 10 + (b - letter "0")

-- ---- one more byte

-- what it can make of a number
pub data Appending : Type 0 where
  value no_digit too_large : Appending

unfoldable pub appended_words : Result ℕ DigitError → Words Appending
appended_words (Ok v) = says value (v ∷ [])
appended_words (Err NoDigit) = says no_digit []
appended_words (Err TooLarge) = says too_large []

-- the number with that digit, if the byte is one and the number stays within 2^64 - 1
unfoldable pub append_of : ℕ → ℕ → Words Appending
append_of v b =
    if is_digit b then (if ltb largest_number (with_digit v b) then says too_large [] else says value (with_digit v b ∷ []))
    else says no_digit []

-- the words tell all answers apart
unfoldable pub AppendedApart : Type 0
AppendedApart = Injective appended_words

-- ---- a number's digits

-- the digits of a number below 10 ^ f, without leading zeros; the number 0 has one digit
unfoldable pub digits_up_to : ℕ → ℕ → List ℕ
digits_up_to zero n = []
digits_up_to (suc f) n = (if ltb n 10 then [] else digits_up_to f (n / 10)) ++ ((letter "0" + n % 10) ∷ [])

-- the digits of a number of 64 bits, which has at most 20
unfoldable pub digits : ℕ → List ℕ
digits n = digits_up_to 20 n

-- ---- what they spell

-- the value of digits behind a number v
unfoldable pub value_from : ℕ → List ℕ → ℕ
value_from v [] = v
value_from v (b ∷ t) = value_from (with_digit v b) t

abbrev pub value_of : List ℕ → ℕ
value_of t = value_from 0 t

unfoldable pub are_digits : List ℕ → Bool
are_digits [] = true
are_digits (b ∷ t) = is_digit b && are_digits t

-- a number as one writes it: at least one digit, digits alone, and no leading zero
pub record Spelled (t : List ℕ) : Type 0 where
  pub some : 0 < length t
  pub digits_alone : are_digits t ≡ true
  pub no_leading_zero : 1 < length t → get_or t 0 0 ≡ letter "0" → ⊥

-- the digits of a number are such a text with its value, and there is no other
pub record SpellsNumbers : Type 0 where
  pub spelled : (n : ℕ) → n ≤ largest_number → Spelled (digits n)
  pub their_value : (n : ℕ) → n ≤ largest_number → value_of (digits n) ≡ n
  pub no_other : (t : List ℕ) → Spelled t → value_of t ≤ largest_number → digits (value_of t) ≡ t
