-- A table that is lent as bytes.
use Rattle.std.specs.Prelude.{ℕ, zero, suc, ◌+◌, ◌/◌, List, [], ◌∷◌, length, take, drop}
use Rattle.text_fields.specs.Sound.{username_size, password_size}
use Rattle.login.specs.declared.account.Account.{Account}

-- the bytes of a record: username, then password
abbrev pub account_size : ℕ
account_size = username_size + password_size

unfoldable pub account_of : List ℕ → Account
account_of l = record { username = take username_size l; password = take password_size (drop username_size l) }

-- so many records from the front on
unfoldable pub accounts_up_to : ℕ → List ℕ → List Account
accounts_up_to zero l = []
accounts_up_to (suc n) l = account_of l ∷ accounts_up_to n (drop account_size l)

-- k bytes hold k / 16 records; bytes left over are no record
unfoldable pub accounts_of : List ℕ → List Account
accounts_of l = accounts_up_to (length l / account_size) l
