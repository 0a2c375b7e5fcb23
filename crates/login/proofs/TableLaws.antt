-- Laws of a table that is lent as bytes: its first record, those behind it, and the lookup.
use mathlib.Core.Path.{◌≡◌, refl, sym, ◌∙◌}
use mathlib.Core.List.{List, [], ◌∷◌, ◌++◌}
use mathlib.Core.Bool.{Bool, true, false, not}
use Prim.Native.Nat.{ℕ, zero, suc, ◌-◌, ◌/◌, ◌≤◌, ◌<◌}
use native.Mathlib.Omega.{arith}
use lib.ListN.{length, take, drop, length-take, length-drop, length-append}
use lib.Seq.{drop_at}
use lib.Dec.{ltb}
use borrow.Author.Tests.{ltb-false, not-true, not-false}
use Rattle.wire.proofs.Numbers.{part_to_end}
use Rattle.wire.specs.Parts.{first_bytes}
use Rattle.wire.proofs.PartLaws.{first-there}
use Rattle.login.specs.declared.account.Account.{Account}
use Rattle.wire.specs.Refusals.{bad_setting}
use Rattle.std.specs.Prelude.{Option, Some, None, Ok, Err}
use Rattle.std.proofs.lemmas.List.{take-append-le, drop-append-le}
use Rattle.login.specs.Account.{same_text, sound_account, is_of, most_accounts, deciding, found_in}
use Rattle.login.specs.Table.{account_size, account_of, accounts_up_to, accounts_of}
use Rattle.login.proofs.AccountLaws.{of-both, of-not}
use Rattle.login.proofs.FoundLaws.{found-unsound, found-sound}

-- ---- the records of a table

pub first-record : (l u p : List ℕ) → 16 ≤ length l → u ≡ first_bytes 6 l → p ≡ first_bytes 10 (take (length l - 6) (drop 6 l))
    → record { username = u; password = p } ≡ account_of l
unfolding account_of
first-record l u p h e f =
    let d = length-drop 6 l in
    let g : u ≡ take 6 l = e ∙ first-there 6 l (omega arith) in
    let i : p ≡ take 10 (drop 6 l) = rw (part_to_end 6 l, first-there 10 (drop 6 l) (omega arith)) at f in
    rw (g, i) refl

up-to-length : (n : ℕ) (l : List ℕ) → length (accounts_up_to n l) ≡ n
unfolding accounts_up_to
up-to-length zero l = refl
up-to-length (suc n) l = let e = up-to-length n (drop account_size l) in omega arith

module _ (l : List ℕ) where
  records-length : length (accounts_of l) ≡ length l / 16
  unfolding accounts_of
  records-length = up-to-length (length l / 16) l

  records-more : 16 ≤ length l → accounts_of l ≡ account_of l ∷ accounts_of (drop 16 l)
  unfolding accounts_of accounts_up_to
  records-more h =
      let d = length-drop 16 l in
      let e : length l / 16 ≡ suc (length (drop 16 l) / 16) = omega arith in
      rw e refl

  records-none : length l < 16 → accounts_of l ≡ []
  unfolding accounts_of accounts_up_to
  records-none h = let e : length l / 16 ≡ 0 = omega arith in rw e refl

pub username-there : (l : List ℕ) → 16 ≤ length l → length (take 6 l) ≡ 6
username-there l h = omega (arith, length-take 6 l)

-- a record in front of others
pub record-front : (x m : List ℕ) → length x ≡ 16 → accounts_of (x ++ m) ≡ account_of x ∷ accounts_of m
unfolding account_of
record-front x m h =
    let n : 16 ≤ length (x ++ m) = omega (arith, length-append x m) in
    let k : 6 ≤ length x = omega arith in
    let g : 10 ≤ length (drop 6 x) = omega (arith, length-drop 6 x) in
    records-more (x ++ m) n
    ∙ rw (drop_at x m 16 h, take-append-le 6 x m k, drop-append-le 6 x m k, take-append-le 10 (drop 6 x) m g) refl

-- the first record: t is what the comparison of its username gave
module _ (l : List ℕ) (e : Account) (t : Bool) (f : t ≡ same_text (take 6 l) e.username) where
  pub first_of : (a : Account) (r : Bool) → t ≡ true → a ≡ account_of l → r ≡ sound_account a → r ≡ is_of (account_of l) e
  unfolding account_of
  first_of a r g h i = of-both (account_of l) e t r f g (rw h at i)

  pub first-other : t ≡ false → false ≡ is_of (account_of l) e
  unfolding account_of
  first-other g = of-not (account_of l) e t f g

-- ---- the lookup: l is the table, e the entry, rest what is left of the table

pub record LookedIn (l : List ℕ) (e : Account) (rest : List ℕ) : Type 0 where
  pub few : length (accounts_of l) ≤ most_accounts
  pub entry_sound : sound_account e ≡ true
  pub same : deciding (accounts_of rest) e ≡ deciding (accounts_of l) e

-- the test of its length: m is what it gave
pub too_long : (l : List ℕ) → ltb 1024 (length l / 16) ≡ ltb most_accounts (length (accounts_of l))
too_long l = rw (records-length l) refl

module _ (l : List ℕ) (e : Account) (m : Bool) (f : m ≡ ltb most_accounts (length (accounts_of l))) where
  pub lookup-many : m ≡ true → Err (record { number = bad_setting }) ≡ found_in (accounts_of l) e
  unfolding found_in
  lookup-many g = rw (← f, g) refl

  module _ (t : Bool) (g : m ≡ false) (h : t ≡ sound_account e) where
    few-records : length (accounts_of l) ≤ most_accounts
    few-records = ltb-false _ _ (sym f ∙ g)

    pub lookup-unsound : not t ≡ true → Ok None ≡ found_in (accounts_of l) e
    lookup-unsound i = sym (found-unsound (accounts_of l) e few-records (sym h ∙ not-true t i))

    pub lookup-start : not t ≡ false → LookedIn l e l
    lookup-start i = record { few = few-records; entry_sound = sym h ∙ not-false t i; same = refl }

module _ (l : List ℕ) (e : Account) (rest : List ℕ) (s : LookedIn l e rest) where
  looked : (a : Option Account) → deciding (accounts_of rest) e ≡ a → Ok a ≡ found_in (accounts_of l) e
  looked a f = rw (← f, s.same) (sym (found-sound (accounts_of l) e s.few s.entry_sound))

  pub lookup-end : length rest < 16 → Ok None ≡ found_in (accounts_of l) e
  unfolding deciding
  lookup-end h = looked None (rw (records-none rest h) refl)

  -- one record in front
  module _ (x m : List ℕ) (f : rest ≡ x ++ m) (h : length x ≡ 16) (t : Bool) (g : t ≡ is_of (account_of x) e) where
    pub lookup-decides : (a : Account) → t ≡ true → a ≡ account_of x → Ok (Some a) ≡ found_in (accounts_of l) e
    unfolding deciding
    lookup-decides a i j = looked (Some a) (rw (f, record-front x m h, ← g, i, j) refl)

    pub lookup-again : t ≡ false → LookedIn l e m
    unfolding deciding
    lookup-again i = record { few = s.few; entry_sound = s.entry_sound; same = rw (f, record-front x m h, ← g, i) at s.same }
