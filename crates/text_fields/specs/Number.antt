-- A number field: spaces, then one or more decimal digits of a value of at most 2^64 - 1.
use Rattle.std.specs.Prelude.{ℕ, ◌-◌, ◌≤◌, ◌<◌, List, [], ◌∷◌, ◌++◌, Bool, ◌&&◌, ◌≡◌, length, get_or, replicate, ltb, leb, eqb, if◌then◌else◌, Option, Some, None}
use Rattle.wire.specs.Text.{letter}
use Rattle.wire.specs.Bounds.{largest_number}
use Rattle.wire.specs.Words.{Words, says, Injective}
use Rattle.decimal.specs.Decimal.{is_digit, with_digit, are_digits, value_of, digits}
use Rattle.text_fields.specs.declared.number.NumberState.{NumberState}
use Rattle.text_fields.specs.declared.number.NumberState.TheVariants.{Blank, Digits}
use Rattle.text_fields.specs.declared.number.NumberState.TheVariants as state
use Rattle.wire.specs.declared.kinds.SequenceNumber.{SequenceNumber}
use Rattle.text_fields.specs.Letters.{space, after_spaces}

-- what a field can be
pub data NumberKind : Type 0 where
  value bad : NumberKind

unfoldable pub number_words : Option SequenceNumber → Words NumberKind
number_words (Some n) = says value (n.0 ∷ [])
number_words None = says bad []

-- one or more digits alone, of a value that fits
unfoldable pub is_number : List ℕ → Bool
is_number t = ltb 0 (length t) && are_digits t && leb (value_of t) largest_number

-- the value of the digits after the spaces, if it is at least the least one
unfoldable pub read_number : ℕ → List ℕ → Words NumberKind
read_number least l =
    if is_number (after_spaces l) && leb least (value_of (after_spaces l)) then says value (value_of (after_spaces l) ∷ [])
    else says bad []

-- ---- as it is written

-- the bytes of a number field
abbrev pub number_field_size : ℕ
number_field_size = 20

-- spaces, then digits without leading zeros
unfoldable pub number_field : ℕ → List ℕ
number_field n = replicate (number_field_size - length (digits n)) space ++ digits n

-- ---- byte by byte

unfoldable pub digit_step : ℕ → ℕ → NumberState
digit_step v b =
    if is_digit b then (if ltb largest_number (with_digit v b) then state.Bad else Digits (with_digit v b))
    else state.Bad

unfoldable pub number_step : NumberState → ℕ → NumberState
number_step Blank b = if eqb b space then Blank else digit_step 0 b
number_step (Digits v) b = digit_step v b
number_step state.Bad b = state.Bad

unfoldable pub number_from : NumberState → List ℕ → NumberState
number_from s [] = s
number_from s (b ∷ l) = number_from (number_step s b) l

unfoldable pub number_good : ℕ → NumberState → Words NumberKind
number_good least Blank = says bad []
number_good least (Digits v) = if ltb v least then says bad [] else says value (v ∷ [])
number_good least state.Bad = says bad []

-- byte by byte is the same, and what is bad once stays so
pub record NumberFold : Type 0 where
  pub same : (least : ℕ) (l : List ℕ) → number_good least (number_from Blank l) ≡ read_number least l
  pub bad_stays : (l : List ℕ) → number_from state.Bad l ≡ state.Bad

-- ---- what is promised of a number field

-- no digit 0 stands before another digit
unfoldable pub NoLeadingZero : List ℕ → Type 0
NoLeadingZero l = 1 < length (after_spaces l) → get_or (after_spaces l) 0 0 ≡ letter "0" → ⊥

pub record NumberLaws : Type 0 where
  -- a written number reads back as itself
  pub reads_back : (n least : ℕ) → n ≤ largest_number → least ≤ n
      → read_number least (number_field n) ≡ says value (n ∷ [])
  -- a field without leading zeros that reads to a value is what the writer writes
  pub writes_back : (l : List ℕ) (n least : ℕ) → length l ≡ number_field_size
      → read_number least l ≡ says value (n ∷ []) → NoLeadingZero l → number_field n ≡ l
  pub tells_apart : Injective number_words
