-- One more digit, and the digits laid, as the code has them.
use mathlib.Core.Path.{◌≡◌, ◌∙◌}
use mathlib.Core.List.{List}
use Prim.Native.Nat.{ℕ, ◌+◌, ◌*◌, ◌-◌, ◌/◌, ◌<◌, ◌≤◌}
use native.Mathlib.Omega.{arith}
use lib.ListN.{take}
use mir.Val.{Fits}
use mir.Syntax.{w64}
use borrow.Author.Tests.{lt-ltb, le-ltb, le-leb, lt-leb}
use Rattle.io.specs.Digits.{last_digits as io-digits, IsDigitCount}
use Rattle.wire.specs.Bounds.{largest_number}
use Rattle.wire.specs.Output.{Writes}
use Rattle.wire.specs.Output.{Written}
use Rattle.std.specs.Prelude.{Ok, Err}
use Rattle.decimal.specs.declared.reading.DigitError.TheVariants.{NoDigit, TooLarge}
use Rattle.decimal.specs.Decimal.{is_digit, appended_words, append_of, digits}
use Rattle.decimal.proofs.SpellLaws.{decimal-digits}

pub append-low : (v b : ℕ) → b < 48 → appended_words (Err NoDigit) ≡ append_of v b
unfolding appended_words append_of is_digit
append-low v b h = simp (lt-ltb _ _ h)

pub append-high : (v b : ℕ) → 48 ≤ b → 57 < b → appended_words (Err NoDigit) ≡ append_of v b
unfolding appended_words append_of is_digit
append-high v b h g = simp (le-ltb _ _ h, lt-leb _ _ g)

pub append-large : (v b : ℕ) → 48 ≤ b → b ≤ 57 → (largest_number - (b - 48)) / 10 < v → appended_words (Err TooLarge) ≡ append_of v b
unfolding appended_words append_of is_digit
append-large v b h g m = let k : largest_number < v * 10 + (b - 48) = omega arith in simp (le-ltb _ _ h, le-leb _ _ g, lt-ltb _ _ k)

pub append-value : (v b : ℕ) → 48 ≤ b → b ≤ 57 → v ≤ (largest_number - (b - 48)) / 10 → appended_words (Ok (v * 10 + (b - 48))) ≡ append_of v b
unfolding appended_words append_of is_digit
append-value v b h g m = let k : v * 10 + (b - 48) ≤ largest_number = omega arith in simp (le-ltb _ _ h, le-leb _ _ g, le-ltb _ _ k)

pub laid-digits : (r : Written) (l m : List ℕ) (at k n : ℕ) (ds : List ℕ) → Fits w64 n → IsDigitCount 10 1 n k → take k ds ≡ io-digits 10 k n
    → Writes r l m 0 at (take k ds) → Writes r l m 0 at (digits n)
laid-digits r l m at k n ds f w e p = rw (e ∙ decimal-digits k n f.fits w) at p
