-- Username and password.
use Rattle.std.specs.Prelude.{ℕ, suc, ◌≤◌, List, [], ◌∷◌, ◌++◌, Bool, true, false, ◌&&◌, ◌≡◌, length, drop, replicate, ltb, eqb, if◌then◌else◌}
use Rattle.text_fields.specs.Letters.{is_letter_or_digit, are_letters_or_digits, space}

-- how many letters or digits stand at the left end
unfoldable pub word_length : List ℕ → ℕ
word_length [] = 0
word_length (b ∷ l) = if is_letter_or_digit b then suc (word_length l) else 0

unfoldable pub are_spaces : List ℕ → Bool
are_spaces [] = true
are_spaces (b ∷ l) = eqb b space && are_spaces l

-- document 01's "sound": at least so many letters or digits at the left end, only these, and then only spaces
unfoldable pub sound : ℕ → List ℕ → Bool
sound least l = if ltb (word_length l) least then false else are_spaces (drop (word_length l) l)

-- the same, as it reads: a word of letters and digits, not too short, and then spaces alone
pub record Sound (least : ℕ) (l : List ℕ) : Type 0 where
  pub word : List ℕ
  pub spaces : ℕ
  pub enough : least ≤ length word
  pub letters : are_letters_or_digits word ≡ true
  pub whole : l ≡ word ++ replicate spaces space

-- the test is that rule
pub record SoundExactlyWhen : Type 0 where
  pub when : (least : ℕ) (l : List ℕ) → Sound least l → sound least l ≡ true
  pub only_when : (least : ℕ) (l : List ℕ) → sound least l ≡ true → Sound least l

-- the bytes of a username and of a password
abbrev pub username_size : ℕ
username_size = 6

abbrev pub password_size : ℕ
password_size = 10

-- the fewest letters or digits
abbrev pub least_username : ℕ
least_username = 1

abbrev pub least_password : ℕ
least_password = 1

-- its two uses
abbrev pub sound_username : List ℕ → Bool
sound_username l = sound least_username l

abbrev pub sound_password : List ℕ → Bool
sound_password l = sound least_password l
