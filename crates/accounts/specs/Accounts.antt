-- A table of account records, beside one that is lent as bytes.
use Rattle.std.specs.Prelude.{ℕ, ◌<◌, List, [], ◌∷◌, ◌++◌, ◌≡◌, length, ltb, if◌then◌else◌}
use Rattle.text_fields.specs.Sound.{username_size, password_size}
use Rattle.login.specs.declared.account.Account.{Account}
use Rattle.login.specs.Table.{account_size, accounts_of}

-- how many records a table by value has
abbrev pub table_records : ℕ
table_records = 4

-- more than there are means all of them
unfoldable pub used_of : ℕ → ℕ
used_of used = if ltb table_records used then table_records else used

-- ---- a flat table and the slice of its records

-- the fields of a record have their sizes, as every record of the code has
pub record Sized (a : Account) : Type 0 where
  pub username : length a.username ≡ username_size
  pub password : length a.password ≡ password_size

pub data AllSized : List Account → Type 0 where
  none : AllSized []
  one_more : (a : Account) (t : List Account) → Sized a → AllSized t → AllSized (a ∷ t)

-- the records as bytes, 16 to a record
unfoldable pub flat : List Account → List ℕ
flat [] = []
flat (a ∷ t) = a.username ++ a.password ++ flat t

-- with bytes left over, which are no record, they are the same records, and so give the same answers; and every table
-- that is lent as bytes holds such records
pub record FlatIsTheSame : Type 0 where
  pub records : (t : List Account) (left : List ℕ) → AllSized t → length left < account_size
      → accounts_of (flat t ++ left) ≡ t
  pub sized : (l : List ℕ) → AllSized (accounts_of l)
