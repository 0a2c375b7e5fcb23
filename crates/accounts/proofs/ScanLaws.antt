-- What a scan of a table knows where it stands at a record: with none of those before it of the entry, the rest of the table decides as the whole does.
use Prim.Native.Nat.{ℕ, suc, ◌+◌, ◌≤◌, ◌<◌}
use native.Mathlib.Numerals.{add-one}
use mathlib.Core.Path.{◌≡◌, refl, sym, ◌∙◌, ap}
use mathlib.Core.List.{List, []}
use mathlib.Core.Bool.{true, false}
use lib.ListN.{length, get_or, drop, drop_of_length-le}
use lib.Seq.{drop-cons}
use Rattle.std.specs.Prelude.{if◌then◌else◌, Option, Some, None, Ok, Err}
use Rattle.login.specs.declared.account.Account.{Account}
use Rattle.wire.specs.Refusals.{bad_setting}
use Rattle.login.specs.Account.{sound_account, is_of, most_accounts, deciding, found_in}
use Rattle.login.proofs.FoundLaws.{found-many, found-unsound, found-sound}

-- past the end, so that there is a record at every index
abbrev pub no_account : Account
no_account = record { username = []; password = [] }

module _ (t : List Account) (e : Account) where
  pub scan-many : most_accounts < length t → Err (record { number = bad_setting }) ≡ found_in t e
  scan-many h = sym (found-many t e h)

  pub scan-unsound : length t ≤ most_accounts → sound_account e ≡ false → Ok None ≡ found_in t e
  scan-unsound h z = sym (found-unsound t e h z)

  abbrev pub Undecided : ℕ → Type 0
  Undecided i = deciding (drop i t) e ≡ deciding t e

  module _ (few : length t ≤ most_accounts) (good : sound_account e ≡ true) (i : ℕ) (k : Undecided i) where
    decided : (a : Option Account) → deciding (drop i t) e ≡ a → Ok a ≡ found_in t e
    decided a d = ap Ok (sym d ∙ k) ∙ sym (found-sound t e few good)

    pub scan-over : length t ≤ i → Ok None ≡ found_in t e
    unfolding deciding
    scan-over l = decided None (rw (drop_of_length-le t l) refl)

    -- the record that the scan stands at
    module _ (l : i < length t) where
      abbrev a : Account
      a = get_or t i no_account

      at-record : deciding (drop i t) e ≡ (if is_of a e then Some a else deciding (drop (suc i) t) e)
      unfolding deciding
      at-record = rw (drop-cons t i no_account l) refl

      pub scan-hit : is_of a e ≡ true → Ok (Some a) ≡ found_in t e
      scan-hit h = decided (Some a) (rw h at at-record)

      pub scan-miss : is_of a e ≡ false → Undecided (i + 1)
      scan-miss h = rw (add-one i) (sym (rw h at at-record) ∙ k)
