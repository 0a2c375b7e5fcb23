-- An entry is known exactly when it is sound and the first sound record with its username has its password.
use mathlib.Core.Path.{◌≡◌, refl}
use mathlib.Core.List.{List, [], ◌∷◌}
use mathlib.Core.Bool.{Bool, true, false}
use Prim.Native.Nat.{ℕ, zero, suc, ◌<◌}
use native.Mathlib.Omega.{arith}
use Rattle.std.specs.Prelude.{if◌then◌else◌}
use Rattle.text_fields.specs.Sound.{sound_username, sound_password}
use Rattle.text_fields.proofs.SoundLaws.{sound-exactly-when}
use Rattle.login.specs.declared.account.Account.{Account}
use Rattle.login.specs.Account.{same_text, sound_account, is_of, has_password, is_known}
use Rattle.login.specs.Statements.{SameText, record_at, SoundAccount, Named}
use Rattle.login.proofs.TextLaws.{both, text-so, text_same}

-- ---- one record

-- its test is the rule
sound-so : (a : Account) → sound_account a ≡ true → SoundAccount a
unfolding sound_account
sound-so a h =
    let s = both (sound_username a.username) (sound_password a.password) h in
    record { username = sound-exactly-when.only_when 1 a.username s.0; password = sound-exactly-when.only_when 1 a.password s.1 }

is-sound : (a : Account) → SoundAccount a → sound_account a ≡ true
unfolding sound_account
is-sound a s = rw (sound-exactly-when.when 1 a.username s.username) (sound-exactly-when.when 1 a.password s.password)

module _ (a e : Account) where
  of-so : is_of a e ≡ true → SoundAccount a × (SameText a.username e.username)
  unfolding is_of
  of-so h = let s = both (sound_account a) (same_text a.username e.username) h in (sound-so a s.0, text-so a.username e.username s.1)

  is-of : SoundAccount a → SameText a.username e.username → is_of a e ≡ true
  unfolding is_of
  is-of h f = rw (is-sound a h) (text_same a.username e.username f)

  password-so : has_password a e ≡ true → SoundAccount e × (SameText a.password e.password)
  unfolding has_password
  password-so h = let s = both (sound_account e) (same_text a.password e.password) h in (sound-so e s.0, text-so a.password e.password s.1)

  has-it : SoundAccount e → SameText a.password e.password → has_password a e ≡ true
  unfolding has_password
  has-it h f = rw (is-sound e h) (text_same a.password e.password f)

-- ---- an unsound entry is never known

pub unsound-unknown : (t : List Account) (e : Account) → sound_account e ≡ false → is_known t e ≡ false
unfolding is_known has_password
unsound-unknown [] e h = refl
unsound-unknown (a ∷ t) e h = go (is_of a e) (unsound-unknown t e h)
  where
    go : (x : Bool) → is_known t e ≡ false → if x then (if sound_account e then same_text a.password e.password else false) else is_known t e ≡ false
    go true f = rw h refl
    go false f = f

-- ---- a table

pub record KnownBy (t : List Account) (e : Account) : Type 0 where
  pub entry_sound : SoundAccount e
  pub place : ℕ
  pub named : Named t e place
  pub first : (i : ℕ) → i < place → Named t e i → ⊥
  pub password : SameText (record_at t place).password e.password

module _ (a : Account) (t : List Account) (e : Account) where
  named-first : is_of a e ≡ true → Named (a ∷ t) e 0
  named-first h = let s = of-so a e h in record { there = omega arith; sound = s.0; username = s.1 }

  first-named : Named (a ∷ t) e 0 → is_of a e ≡ true
  first-named n = is-of a e n.sound n.username

  named-behind : (i : ℕ) → Named t e i → Named (a ∷ t) e (suc i)
  named-behind i n = record { there = let h = n.there in omega arith; sound = n.sound; username = n.username }

  behind-named : (i : ℕ) → Named (a ∷ t) e (suc i) → Named t e i
  behind-named i n = record { there = let h = n.there in omega arith; sound = n.sound; username = n.username }

  found_first : is_of a e ≡ true → has_password a e ≡ true → KnownBy (a ∷ t) e
  found_first h f =
      let s = password-so a e f in
      record {
        entry_sound = s.0;
        place = 0;
        named = named-first h;
        first = λ (i : ℕ) (l : i < 0) (n : Named (a ∷ t) e i). omega arith;
        password = s.1;
      }

  none_before : (k : ℕ) → (is_of a e ≡ false) → ((i : ℕ) → i < k → Named t e i → ⊥) → (i : ℕ) → i < suc k → Named (a ∷ t) e i → ⊥
  none_before k h f zero l n = let s = first-named n in let z : ◌≡◌ {A = ℕ} 0 1 = cc in omega arith
  none_before k h f (suc i) l n = f i (omega arith) (behind-named i n)

  found-behind : is_of a e ≡ false → KnownBy t e → KnownBy (a ∷ t) e
  found-behind h f =
      record {
        entry_sound = f.entry_sound;
        place = suc f.place;
        named = named-behind f.place f.named;
        first = none_before f.place h f.first;
        password = f.password;
      }

pub known-found : (t : List Account) (e : Account) → is_known t e ≡ true → KnownBy t e
unfolding is_known
known-found [] e h = let z : ◌≡◌ {A = ℕ} 0 1 = cc in absurd (omega arith)
known-found (a ∷ t) e h = go (is_of a e) refl (known-found t e) h
  where
    go : (x : Bool) → is_of a e ≡ x → (is_known t e ≡ true → KnownBy t e) → if x then has_password a e else is_known t e ≡ true → KnownBy (a ∷ t) e
    go true f g k = found_first a t e f k
    go false f g k = found-behind a t e f (g k)

-- the record at this place decides
decides : (t : List Account) (e : Account) → SoundAccount e → (k : ℕ) → Named t e k → ((i : ℕ) → i < k → Named t e i → ⊥)
    → SameText (record_at t k).password e.password → is_known t e ≡ true
unfolding is_known
decides [] e s k n f p = let h = n.there in absurd (omega arith)
decides (a ∷ t) e s zero n f p = rw (first-named a t e n) (has-it a e s p)
decides (a ∷ t) e s (suc k) n f p =
    go (is_of a e) refl (decides t e s k (behind-named a t e k n) (λ (i : ℕ) (l : i < k) (m : Named t e i). f (suc i) (omega arith) (named-behind a t e i m)) p)
  where
    go : (x : Bool) → is_of a e ≡ x → is_known t e ≡ true → if x then has_password a e else is_known t e ≡ true
    go true h g = absurd (f 0 (omega arith) (named-first a t e h))
    go false h g = g

pub found-known : (t : List Account) (e : Account) → KnownBy t e → is_known t e ≡ true
found-known t e f = decides t e f.entry_sound f.place f.named f.first f.password
