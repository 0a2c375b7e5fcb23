-- The rules of a login rule something out: locks that let everyone in, or no one, or stop comparing too early.
use Rattle.std.specs.Prelude.{ℕ, List, [], ◌∷◌, Bool, false, ◌≡◌, length, take, ltb, eqb, if◌then◌else◌}
use Rattle.wire.specs.Text.{ascii, readroom}
use Rattle.wire.specs.Refusals.{bad_setting}
use Rattle.wire.specs.Words.{answer, says, refuses}
use Rattle.text_fields.specs.Letters.{space}
use Rattle.soupbintcp.specs.Fields.{not_authorized}
use Rattle.login.specs.declared.account.Account.{Account}
use Rattle.login.specs.Account.{same_text, most_accounts, verdict_of}
use Rattle.login.specs.Decision.{accepted, granted, rejects, decision_of, Attempt}
use Rattle.login.specs.Statements.{Lock, Rules, LoginRules}
use Rattle.login.specs.Examples.{account, ann, attempts}

-- ---- wrong locks

-- the granted number, whoever asks
abbrev pub lets_everyone_in : Lock
lets_everyone_in x = says accepted (granted x.wanted x.last ∷ [])

-- J with A, whoever asks
abbrev pub lets_no_one_in : Lock
lets_no_one_in x = rejects not_authorized

-- the bytes in front of the first zero byte or space
unfoldable pub front_of : List ℕ → List ℕ
front_of [] = []
front_of (b ∷ l) = if eqb b 0 then [] else if eqb b space then [] else b ∷ front_of l

-- a field compared with an entry's up to there alone
unfoldable pub same_front : List ℕ → List ℕ → Bool
same_front field entry = same_text (take (length (front_of entry)) field) (front_of entry)

-- the first record with the username decides, its password compared like that
unfoldable pub stops_early : List Account → Account → Bool
stops_early [] e = false
stops_early (a ∷ t) e =
    if same_text a.username e.username then same_front a.password e.password else stops_early t e

-- the lock with the fault that document 01 lists, and no other
abbrev pub stops_at_zero_or_space : Lock
stops_at_zero_or_space x =
    if ltb most_accounts (length x.table) then refuses bad_setting
    else decision_of (verdict_of (stops_early x.table x.entry)) x.asked x.wanted x.session x.last

-- ---- entries for `ann`, whose password is `cafe7`

-- what this password opens, where the session and the number are good
abbrev pub ann_with : List ℕ → Attempt
ann_with password = attempts (ann ∷ []) (account (ascii "ann") password) readroom 3

-- her own entry
abbrev pub her_own : Attempt
her_own = attempts (ann ∷ []) ann readroom 3

-- a front of the password; the whole of it, a zero byte and an `x`; and nothing
abbrev pub too_short : Attempt
too_short = ann_with (ascii "cafe")

abbrev pub behind_zero_byte : Attempt
behind_zero_byte = ann_with (99 ∷ 97 ∷ 102 ∷ 101 ∷ 55 ∷ 0 ∷ 120 ∷ [])

abbrev pub empty : Attempt
empty = ann_with []

-- ---- none of the three keeps the rules; each of these entries breaks them, and is let in by the third
pub record WrongLocks : Type 0 where
  pub everyone : LoginRules lets_everyone_in → ⊥
  pub no_one : LoginRules lets_no_one_in → ⊥
  pub stopping_early : LoginRules stops_at_zero_or_space → ⊥
  pub by_her_own : Rules her_own
  pub too_short_refused : Rules too_short → ⊥
  pub behind_a_zero : Rules behind_zero_byte → ⊥
  pub nothing : Rules empty → ⊥
  pub too_short_in : (stops_at_zero_or_space too_short).which ≡ answer accepted
  pub behind_a_zero_in : (stops_at_zero_or_space behind_zero_byte).which ≡ answer accepted
  pub empty_in : (stops_at_zero_or_space empty).which ≡ answer accepted
