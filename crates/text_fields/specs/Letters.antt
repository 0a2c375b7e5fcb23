-- Letters, digits and spaces, in ASCII.
use Rattle.std.specs.Prelude.{ℕ, suc, ◌+◌, ◌-◌, List, [], ◌∷◌, Bool, true, ◌&&◌, drop, ltb, leb, eqb, if◌then◌else◌}
use Rattle.wire.specs.Text.{letter}
use Rattle.decimal.specs.Decimal.{is_digit}

-- `0` to `9`, `A` to `Z`, `a` to `z`
unfoldable pub is_letter_or_digit : ℕ → Bool
is_letter_or_digit b =
    if ltb b (letter "A") then is_digit b
    else if ltb b (letter "a") then leb b (letter "Z")
    else leb b (letter "z")

unfoldable pub are_letters_or_digits : List ℕ → Bool
are_letters_or_digits [] = true
are_letters_or_digits (b ∷ l) = is_letter_or_digit b && are_letters_or_digits l

-- how far a small letter stands behind its capital
abbrev pub to_small : ℕ
to_small = letter "a" - letter "A"

-- `A` to `Z` as `a` to `z`, every other byte as itself
unfoldable pub lower : ℕ → ℕ
lower b = if ltb b (letter "A") then b else if leb b (letter "Z") then b + to_small else b

abbrev pub space : ℕ
space = letter " "

-- how many spaces stand at the left end
unfoldable pub leading_spaces : List ℕ → ℕ
leading_spaces [] = 0
leading_spaces (b ∷ l) = if eqb b space then suc (leading_spaces l) else 0

-- what follows them
abbrev pub after_spaces : List ℕ → List ℕ
after_spaces l = drop (leading_spaces l) l
