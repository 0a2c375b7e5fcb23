-- A session field: spaces, then letters or digits.
use Rattle.std.specs.Prelude.{ℕ, List, [], ◌∷◌, Bool, true, false, ◌&&◌, ◌≡◌, length, eqb, if◌then◌else◌}
use Rattle.text_fields.specs.declared.session.SessionState.{SessionState}
use Rattle.text_fields.specs.declared.session.SessionState.TheVariants.{Blank, Named, Bad}
use Rattle.text_fields.specs.Letters.{is_letter_or_digit, are_letters_or_digits, space, after_spaces}

-- letters or digits follow the spaces; all spaces only where it may be blank
unfoldable pub good_session : Bool → List ℕ → Bool
good_session blank_allowed l =
    are_letters_or_digits (after_spaces l) && (if eqb (length (after_spaces l)) 0 then blank_allowed else true)

-- ---- byte by byte

unfoldable pub session_step : SessionState → ℕ → SessionState
session_step Blank b = if eqb b space then Blank else if is_letter_or_digit b then Named else Bad
session_step Named b = if is_letter_or_digit b then Named else Bad
session_step Bad b = Bad

unfoldable pub session_from : SessionState → List ℕ → SessionState
session_from s [] = s
session_from s (b ∷ l) = session_from (session_step s b) l

unfoldable pub session_good : Bool → SessionState → Bool
session_good blank_allowed Blank = blank_allowed
session_good blank_allowed Named = true
session_good blank_allowed Bad = false

-- byte by byte is the same, and what is bad once stays so
pub record SessionFold : Type 0 where
  pub same : (blank_allowed : Bool) (l : List ℕ)
      → session_good blank_allowed (session_from Blank l) ≡ good_session blank_allowed l
  pub bad_stays : (l : List ℕ) → session_from Bad l ≡ Bad
