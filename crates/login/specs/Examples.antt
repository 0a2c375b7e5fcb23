-- Logins either side of each rule.
use Rattle.std.specs.Prelude.{ℕ, ◌-◌, List, [], ◌∷◌, ◌++◌, ◌≡◌, length, replicate}
use Rattle.wire.specs.Text.{ascii, readroom}
use Rattle.wire.specs.Bounds.{blank}
use Rattle.wire.specs.Words.{says}
use Rattle.text_fields.specs.Letters.{space}
use Rattle.text_fields.specs.Sound.{username_size, password_size}
use Rattle.soupbintcp.specs.Fields.{not_authorized, session_not_available}
use Rattle.login.specs.declared.account.Account.{Account}
use Rattle.login.specs.Decision.{accepted, rejects, Attempt, login_of}

-- a text, and spaces up to the size of its field
abbrev pub filled : ℕ → List ℕ → List ℕ
filled size text = text ++ replicate (size - length text) space

abbrev pub account : List ℕ → List ℕ → Account
account username password = record { username = filled username_size username; password = filled password_size password }

-- `ann` with the password `cafe7`, in small letters and in capitals; with another password; and with none, which isn't
-- sound
abbrev pub ann : Account
ann = account (ascii "ann") (ascii "cafe7")

abbrev pub ANN : Account
ANN = account (ascii "ANN") (ascii "CAFE7")

abbrev pub ann_other : Account
ann_other = account (ascii "ann") (ascii "cafe8")

abbrev pub ann_none : Account
ann_none = account (ascii "ann") []

-- the session's name in small letters
abbrev pub small : List ℕ
small = ascii "readroom01"

-- an entry that asks for a session and a number, where the last number is 5
abbrev pub attempts : List Account → Account → List ℕ → ℕ → Attempt
attempts t e asked wanted =
    record { table = t; entry = e; asked = asked; wanted = wanted; session = readroom; last = 5 }

-- any number, where there is no message yet
abbrev pub no_message_yet : Attempt
no_message_yet = record { table = ann ∷ []; entry = ann; asked = readroom; wanted = 0; session = readroom; last = 0 }

pub record LoginExamples : Type 0 where
  -- letters compare without case
  pub case_differs : login_of (attempts (ann ∷ []) ANN readroom 3) ≡ says accepted (3 ∷ [])
  -- the first sound record with the username decides, and an unsound one doesn't
  pub first_decides : login_of (attempts (ann_other ∷ ann ∷ []) ann readroom 3) ≡ rejects not_authorized
  pub unsound_is_skipped : login_of (attempts (ann_none ∷ ann ∷ []) ann readroom 3) ≡ says accepted (3 ∷ [])
  pub no_record : login_of (attempts [] ann readroom 3) ≡ rejects not_authorized
  -- the session may be blank, and is compared byte for byte
  pub blank_session : login_of (attempts (ann ∷ []) ann blank 3) ≡ says accepted (3 ∷ [])
  pub session_in_small : login_of (attempts (ann ∷ []) ann small 3) ≡ rejects session_not_available
  -- J with A comes before J with S
  pub account_first : login_of (attempts [] ann small 9) ≡ rejects not_authorized
  -- wanted 0, one past the last, and two past it
  pub wanted_none : login_of (attempts (ann ∷ []) ann readroom 0) ≡ says accepted (5 ∷ [])
  pub wanted_next : login_of (attempts (ann ∷ []) ann readroom 6) ≡ says accepted (6 ∷ [])
  pub wanted_beyond : login_of (attempts (ann ∷ []) ann readroom 7) ≡ rejects session_not_available
  pub before_any_message : login_of no_message_yet ≡ says accepted (1 ∷ [])
