-- What a lookup finds for an entry e in a table t says of the entry what the table says, and a record that is made up says no more than a table of one.
use mathlib.Core.Path.{◌≡◌, refl, sym, ◌∙◌, ap}
use mathlib.Core.List.{List, [], ◌∷◌}
use mathlib.Core.Bool.{Bool, true, false}
use Prim.Native.Nat.{◌≤◌, ◌<◌}
use native.Mathlib.Omega.{arith}
use lib.ListN.{length}
use borrow.Author.Tests.{le-ltb, lt-ltb}
use Rattle.std.specs.Prelude.{if◌then◌else◌, Option, Some, None, Ok, Err, option_to_list}
use Rattle.wire.specs.Refusals.{bad_setting}
use Rattle.wire.specs.Words.{refuses}
use Rattle.wire.proofs.Cases.{below_or_not}
use Rattle.login.specs.declared.account.Account.{Account}
use Rattle.wire.specs.declared.refusal.Refusal.{Refusal}
use Rattle.login.specs.Account.{sound_account, is_of, has_password, most_accounts, is_known, verdict_of, lookup_of, deciding, found_in, verdict_on}
use Rattle.login.specs.Statements.{FoundDecides}
use Rattle.login.proofs.KnownLaws.{unsound-unknown}

module _ (t : List Account) (e : Account) where
  pub found-many : most_accounts < length t → found_in t e ≡ Err (record { number = bad_setting })
  unfolding found_in
  found-many h = rw (lt-ltb _ _ h) refl

  pub found-unsound : length t ≤ most_accounts → sound_account e ≡ false → found_in t e ≡ Ok None
  unfolding found_in
  found-unsound h s = rw (le-ltb _ _ h, s) refl

  pub found-sound : length t ≤ most_accounts → sound_account e ≡ true → found_in t e ≡ Ok (deciding t e)
  unfolding found_in
  found-sound h s = rw (le-ltb _ _ h, s) refl

  looked-up : length t ≤ most_accounts → lookup_of t e ≡ verdict_of (is_known t e)
  unfolding lookup_of
  looked-up h = rw (le-ltb _ _ h) refl

-- ---- what a record says: a table of one, or of none

one-few : (a : Option Account) → length (option_to_list a) ≤ most_accounts
one-few None = omega arith
one-few (Some x) = omega arith

module _ (e : Account) where
  pub says-refused : (r : Refusal) → verdict_on (Err r) e ≡ refuses bad_setting
  unfolding verdict_on
  says-refused r = refl

  pub says-of-one : (a : Option Account) → verdict_on (Ok a) e ≡ lookup_of (option_to_list a) e
  unfolding verdict_on
  says-of-one a = refl

  pub says-known : (a : Option Account) → verdict_on (Ok a) e ≡ verdict_of (is_known (option_to_list a) e)
  says-known a = says-of-one a ∙ looked-up (option_to_list a) e (one-few a)

-- ---- the record that decides says what the table says

one-decides : (t : List Account) (e : Account) → is_known (option_to_list (deciding t e)) e ≡ is_known t e
unfolding deciding is_known
one-decides [] e = refl
one-decides (a ∷ t) e = go (is_of a e) refl (one-decides t e)
  where
    go : (x : Bool) → is_of a e ≡ x → is_known (option_to_list (deciding t e)) e ≡ is_known t e
        → is_known (option_to_list (if x then Some a else deciding t e)) e ≡ if x then has_password a e else is_known t e
    go true h g = rw h refl
    go false h g = g

none-known : (e : Account) → is_known [] e ≡ false
unfolding is_known
none-known e = refl

decides-few : (t : List Account) (e : Account) → length t ≤ most_accounts → verdict_on (found_in t e) e ≡ lookup_of t e
decides-few t e h = go (sound_account e) refl
  where
    go : (x : Bool) → sound_account e ≡ x → verdict_on (found_in t e) e ≡ lookup_of t e
    go true s = rw (found-sound t e h s) (says-known e (deciding t e) ∙ ap verdict_of (one-decides t e) ∙ sym (looked-up t e h))
    go false s =
        rw (found-unsound t e h s)
        (says-known e None ∙ ap verdict_of (none-known e ∙ sym (unsound-unknown t e s)) ∙ sym (looked-up t e h))

decides-many : (t : List Account) (e : Account) → most_accounts < length t → verdict_on (found_in t e) e ≡ lookup_of t e
unfolding lookup_of
decides-many t e h = rw (found-many t e h) (says-refused e (record { number = bad_setting }) ∙ rw (lt-ltb _ _ h) refl)

pub found-decides : FoundDecides
unfolding FoundDecides
found-decides t e = below_or_not (verdict_on (found_in t e) e ≡ lookup_of t e) most_accounts (length t) (decides-many t e) (decides-few t e)
