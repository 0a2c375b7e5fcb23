-- The test of a sound field is the rule as it reads: a word of letters and digits, and then spaces alone.
use mathlib.Core.Path.{◌≡◌, refl, ap, sym, ◌∙◌}
use mathlib.Core.List.{List, [], ◌∷◌, ◌++◌}
use mathlib.Core.Bool.{Bool, true, false, ◌&&◌}
use Prim.Native.Nat.{ℕ, zero, suc, ◌≤◌}
use native.Mathlib.Omega.{arith}
use lib.ListN.{length, take, drop, replicate, take-append-drop}
use lib.Seq.{length-take-le, drop_at}
use lib.Dec.{ltb, eqb}
use borrow.Author.Tests.{le-ltb, ltb-false, eqb-true}
use Rattle.std.specs.Prelude.{if◌then◌else◌}
use Rattle.decimal.specs.Decimal.{is_digit}
use Rattle.text_fields.specs.Letters.{is_letter_or_digit, are_letters_or_digits, space}
use Rattle.text_fields.specs.Sound.{word_length, are_spaces, sound, Sound, SoundExactlyWhen}

both : (x y : Bool) → (x && y) ≡ true → (x ≡ true) × (y ≡ true)
both true y e = (refl, e)
both false y e = let z : ◌≡◌ {A = ℕ} 0 1 = cc in absurd (omega arith)

-- ---- spaces

pub spaces-word : (k : ℕ) → word_length (replicate k space) ≡ 0
unfolding word_length is_letter_or_digit is_digit
spaces-word zero = refl
spaces-word (suc k) = refl

all_spaces : (k : ℕ) → are_spaces (replicate k space) ≡ true
unfolding are_spaces
all_spaces zero = refl
all_spaces (suc k) = all_spaces k

spaces-so : (l : List ℕ) → are_spaces l ≡ true → l ≡ replicate (length l) space
unfolding are_spaces
spaces-so [] e = refl
spaces-so (b ∷ l) e =
    let s = both (eqb b space) (are_spaces l) e in
    let z : b ≡ 32 = eqb-true _ _ s.0 in
    rw z (ap (λ (m : List ℕ). 32 ∷ m) (spaces-so l s.1))

-- ---- a word in front

word-then : (w m : List ℕ) → are_letters_or_digits w ≡ true → word_length m ≡ 0 → word_length (w ++ m) ≡ length w
unfolding word_length are_letters_or_digits
word-then [] m e h = h
word-then (b ∷ w) m e h =
    let s = both (is_letter_or_digit b) (are_letters_or_digits w) e in
    rw s.0 (ap suc (word-then w m s.1 h))

word-letters : (l : List ℕ) → are_letters_or_digits (take (word_length l) l) ≡ true
unfolding word_length are_letters_or_digits
word-letters [] = refl
word-letters (b ∷ l) = go (is_letter_or_digit b) refl (word-letters l)
  where
    go : (x : Bool) → is_letter_or_digit b ≡ x → are_letters_or_digits (take (word_length l) l) ≡ true
        → are_letters_or_digits (take (if x then suc (word_length l) else 0) (b ∷ l)) ≡ true
    go true e h = rw e h
    go false e h = refl

word-within : (l : List ℕ) → word_length l ≤ length l
unfolding word_length
word-within [] = omega arith
word-within (b ∷ l) = go (is_letter_or_digit b) (word-within l)
  where
    go : (x : Bool) → word_length l ≤ length l → (if x then suc (word_length l) else 0) ≤ suc (length l)
    go true h = omega arith
    go false h = omega arith

-- ---- the test and the rule

when : (least : ℕ) (l : List ℕ) → Sound least l → sound least l ≡ true
unfolding sound
when least l s =
    let w = s.word in
    let k = s.spaces in
    let n : word_length l ≡ length w = ap word_length s.whole ∙ word-then w (replicate k space) s.letters (spaces-word k) in
    let d : drop (length w) l ≡ replicate k space = ap (drop (length w)) s.whole ∙ drop_at w (replicate k space) (length w) refl in
    rw (n, le-ltb _ _ s.enough, d) (all_spaces k)

only_when : (least : ℕ) (l : List ℕ) → sound least l ≡ true → Sound least l
unfolding sound
only_when least l = go (ltb (word_length l) least) refl
  where
    go : (x : Bool) → ltb (word_length l) least ≡ x → if x then false else are_spaces (drop (word_length l) l) ≡ true → Sound least l
    go true e h = let z : ◌≡◌ {A = ℕ} 0 1 = cc in absurd (omega arith)
    go false e h =
        let n : length (take (word_length l) l) ≡ word_length l = length-take-le (word_length l) l (word-within l) in
        let m : least ≤ word_length l = ltb-false _ _ e in
        record {
          word = take (word_length l) l;
          spaces = length (drop (word_length l) l);
          enough = omega arith;
          letters = word-letters l;
          whole =
              sym (take-append-drop (word_length l) l)
              ∙ ap (λ (r : List ℕ). take (word_length l) l ++ r) (spaces-so (drop (word_length l) l) h);
        }

pub sound-exactly-when : SoundExactlyWhen
sound-exactly-when = record { when = when; only_when = only_when }
