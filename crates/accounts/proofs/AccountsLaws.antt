-- Laws of a table of account records: how many records of a table by value are used, and that the records laid as bytes are read as the same records.
use Prim.Native.Nat.{ℕ, zero, suc, ◌*◌, ◌/◌, ◌≤◌, ◌<◌, min}
use mathlib.Core.Path.{◌≡◌, refl}
use mathlib.Core.List.{List, [], ◌∷◌, ◌++◌, append_assoc}
use native.Mathlib.Omega.{arith}
use lib.ListN.{length, drop, length-append, length-drop}
use lib.Seq.{take_at, drop_at, length-take-le}
use borrow.Author.Tests.{le-ltb, lt-ltb}
use Rattle.wire.proofs.Cases.{below_or_not}
use Rattle.login.specs.declared.account.Account.{Account}
use Rattle.login.specs.Table.{account_of, accounts_up_to, accounts_of}
use Rattle.accounts.specs.Accounts.{used_of, Sized, AllSized, none, one_more, flat, FlatIsTheSame}

-- ---- a table by value

pub used-least : (used : ℕ) → min used 4 ≡ used_of used
unfolding used_of
used-least used = below_or_not (min used 4 ≡ used_of used) 4 used (λ h. rw (lt-ltb _ _ h) (omega arith)) (λ h. rw (le-ltb _ _ h) (omega arith))

pub used-most : (used : ℕ) → used_of used ≤ 4
used-most used = rw (← used-least used) (omega arith)

-- ---- the records as bytes

module _ (a : Account) (s : Sized a) where
  front_length : length (a.username ++ a.password) ≡ 16
  front_length = omega (arith, length-append a.username a.password, s.username, s.password)

  module _ (rest : List ℕ) where
    front-away : drop 16 (a.username ++ a.password ++ rest) ≡ rest
    front-away = drop_at (a.username ++ a.password) rest 16 front_length

    front-record : account_of (a.username ++ a.password ++ rest) ≡ a
    unfolding account_of
    front-record =
        rw (append_assoc a.username a.password rest, take_at a.username (a.password ++ rest) 6 s.username, drop_at a.username (a.password ++ rest) 6 s.username, take_at a.password rest 10 s.password) refl

flat-length : (t : List Account) → AllSized t → length (flat t) ≡ length t * 16
unfolding flat
flat-length [] none = refl
flat-length (a ∷ t) (one_more _ _ s ss) = omega (arith, length-append (a.username ++ a.password) (flat t), front_length a s, flat-length t ss)

up-to-flat : (t : List Account) (left : List ℕ) → AllSized t → accounts_up_to (length t) (flat t ++ left) ≡ t
unfolding flat accounts_up_to
up-to-flat [] left none = refl
up-to-flat (a ∷ t) left (one_more _ _ s ss) =
    rw (append_assoc (a.username ++ a.password) (flat t) left, front-record a s (flat t ++ left), front-away a s (flat t ++ left), up-to-flat t left ss) refl

flat-records : (t : List Account) (left : List ℕ) → AllSized t → length left < 16 → accounts_of (flat t ++ left) ≡ t
unfolding accounts_of
flat-records t left ss h =
    let e : length (flat t ++ left) / 16 ≡ length t = omega (arith, length-append (flat t) left, flat-length t ss) in
    rw e (up-to-flat t left ss)

-- ---- bytes as records

record-sized : (l : List ℕ) → 16 ≤ length l → Sized (account_of l)
unfolding account_of
record-sized l h =
    let d = length-drop 6 l in
    record { username = length-take-le 6 l (omega arith); password = length-take-le 10 (drop 6 l) (omega arith) }

up-to-sized : (n : ℕ) (l : List ℕ) → n * 16 ≤ length l → AllSized (accounts_up_to n l)
unfolding accounts_up_to
up-to-sized zero l h = none
up-to-sized (suc n) l h =
    let d = length-drop 16 l in
    one_more (account_of l) (accounts_up_to n (drop 16 l)) (record-sized l (omega arith)) (up-to-sized n (drop 16 l) (omega arith))

records-sized : (l : List ℕ) → AllSized (accounts_of l)
unfolding accounts_of
records-sized l = up-to-sized (length l / 16) l (omega arith)

pub flat-same : FlatIsTheSame
flat-same = record {
  records = flat-records;
  sized = records-sized;
}
