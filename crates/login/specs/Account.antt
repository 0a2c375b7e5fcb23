-- Account records: an entry has the same two fields, and the first sound record with its username decides.
use Rattle.std.specs.Prelude.{ℕ, List, [], ◌∷◌, Bool, true, false, length, ltb, if◌then◌else◌, Option, Some, None, Result, Ok, Err, option_to_list}
use Rattle.wire.specs.Refusals.{bad_setting}
use Rattle.wire.specs.Bytes.{same_bytes}
use Rattle.wire.specs.Words.{Words, says, refuses}
use Rattle.wire.specs.declared.refusal.Refusal.{Refusal}
use Rattle.text_fields.specs.Letters.{lower}
use Rattle.text_fields.specs.Sound.{sound_username, sound_password}
use Rattle.login.specs.declared.account.Account.{Account}

-- ---- letters compare without case

unfoldable pub lowered : List ℕ → List ℕ
lowered [] = []
lowered (b ∷ l) = lower b ∷ lowered l

-- all bytes of the field compared
unfoldable pub same_text : List ℕ → List ℕ → Bool
same_text a b = same_bytes (lowered a) (lowered b)

-- ---- one record

-- both fields are sound
unfoldable pub sound_account : Account → Bool
sound_account a = if sound_username a.username then sound_password a.password else false

-- a sound record with the entry's username: an unsound one is skipped
unfoldable pub is_of : Account → Account → Bool
is_of a e = if sound_account a then same_text a.username e.username else false

-- a sound entry with the record's password
unfoldable pub has_password : Account → Account → Bool
has_password a e = if sound_account e then same_text a.password e.password else false

-- ---- a table of records

-- the most records of a table
abbrev pub most_accounts : ℕ
most_accounts = 1024

-- the first sound record with the username decides; no such record, another password, or an unsound entry: it isn't
-- known
unfoldable pub is_known : List Account → Account → Bool
is_known [] e = false
is_known (a ∷ t) e = if is_of a e then has_password a e else is_known t e

-- what a table can say of an entry, but for a refusal
pub data VerdictKind : Type 0 where
  known unknown : VerdictKind

unfoldable pub verdict_of : Bool → Words VerdictKind
verdict_of true = says known []
verdict_of false = says unknown []

-- 19 for a table of too many records
unfoldable pub lookup_of : List Account → Account → Words VerdictKind
lookup_of t e = if ltb most_accounts (length t) then refuses bad_setting else verdict_of (is_known t e)

-- ---- what a lookup finds

-- the record that decides, none where there is none, or the refusal of the table
abbrev pub Found : Type 0
Found = Result (Option Account) Refusal

-- the record that decides on an entry: the first sound one with its username
unfoldable pub deciding : List Account → Account → Option Account
deciding [] e = None
deciding (a ∷ t) e = if is_of a e then Some a else deciding t e

-- nothing in a table of too many records, and for an unsound entry it looks at none
unfoldable pub found_in : List Account → Account → Found
found_in t e =
    if ltb most_accounts (length t) then Err (record { number = bad_setting })
    else Ok (if sound_account e then deciding t e else None)

-- the record that was found, as a table
unfoldable pub found_records : Found → List Account
found_records (Ok a) = option_to_list a
found_records (Err r) = []

-- what was found says of an entry: a made-up record is no more than a table of one, and a made-up refusal is the table's
unfoldable pub verdict_on : Found → Account → Words VerdictKind
verdict_on (Ok a) e = lookup_of (option_to_list a) e
verdict_on (Err r) e = refuses bad_setting
