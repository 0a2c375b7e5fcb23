-- A login is accepted exactly when the account, session and number rules hold, and never with a field that is no text.
use mathlib.Core.Path.{◌≡◌, refl, ◌∙◌}
use mathlib.Core.List.{List, [], ◌∷◌}
use mathlib.Core.Bool.{Bool, true, false, ◌&&◌}
use Prim.Native.Nat.{ℕ, zero, suc, ◌+◌, ◌≤◌, ◌<◌, max}
use native.Mathlib.Omega.{arith}
use lib.ListN.{length, drop, get_or}
use lib.Dec.{ltb, eqb}
use borrow.Author.Tests.{le-ltb, lt-ltb, le-leb, leb-true, eqb-true, eqb-false}
use Rattle.std.specs.Prelude.{if◌then◌else◌, Ok, Err}
use Rattle.wire.specs.Bounds.{least_number, blank}
use Rattle.wire.specs.Refusals.{bad_setting}
use Rattle.wire.specs.Bytes.{same_bytes}
use Rattle.wire.specs.Words.{answer, says, refuses}
use Rattle.wire.proofs.Cases.{below_or_not}
use Rattle.wire.proofs.Same.{same-equal, same_refl}
use Rattle.soupbintcp.specs.Fields.{not_authorized, session_not_available}
use Rattle.decimal.specs.Decimal.{is_digit}
use Rattle.text_fields.specs.Letters.{is_letter_or_digit, space}
use Rattle.text_fields.specs.Sound.{word_length, are_spaces, sound}
use Rattle.text_fields.proofs.SoundLaws.{spaces-word}
use Rattle.login.specs.declared.account.Account.{Account}
use Rattle.login.specs.Account.{sound_account, most_accounts, is_known, verdict_of, lookup_of, found_records}
use Rattle.login.specs.Decision.{session_holds, number_holds, granted, DecisionKind, accepted, decision_at, rejects, Attempt, login_of}
use Rattle.login.specs.Statements.{AccountRule, SessionRule, asks_blank, asks_ours, NumberRule, NotRefused, Rules, LoginRules, AcceptedExactlyWhen, NoText, has_zero, all_spaces, NeverAccepted, attempt_by, OnlyByARecord}
use Rattle.login.proofs.FoundLaws.{says-refused, says-of-one}
use Rattle.login.proofs.KnownLaws.{known-found, found-known, unsound-unknown}

-- ---- the rules and their tests

module _ (x : Attempt) where
  account-rule : is_known x.table x.entry ≡ true → AccountRule x
  account-rule h =
      let f = known-found x.table x.entry h in
      record { entry_sound = f.entry_sound; place = f.place; named = f.named; first = f.first; password = f.password }

  account-test : AccountRule x → is_known x.table x.entry ≡ true
  account-test r =
      found-known x.table x.entry
      (record { entry_sound = r.entry_sound; place = r.place; named = r.named; first = r.first; password = r.password })

  session-rule : session_holds x.asked x.session ≡ true → SessionRule x
  unfolding session_holds
  session-rule = go (same_bytes x.asked blank) refl
    where
      go : (t : Bool) → same_bytes x.asked blank ≡ t → if t then true else same_bytes x.asked x.session ≡ true → SessionRule x
      go true e h = asks_blank (same-equal x.asked blank e)
      go false e h = asks_ours (same-equal x.asked x.session h)

  session-test : SessionRule x → session_holds x.asked x.session ≡ true
  unfolding session_holds
  session-test (asks_blank e) = rw e (rw (same_refl blank) refl)
  session-test (asks_ours e) = go (same_bytes x.asked blank) (rw e (same_refl x.session))
    where
      go : (t : Bool) → same_bytes x.asked x.session ≡ true → if t then true else same_bytes x.asked x.session ≡ true
      go true h = refl
      go false h = h

  number-rule : number_holds x.wanted x.last ≡ true → NumberRule x
  unfolding number_holds
  number-rule h = leb-true _ _ h

  number-test : NumberRule x → number_holds x.wanted x.last ≡ true
  unfolding number_holds
  number-test h = le-leb _ _ h

-- ---- the login, by its tests

module _ (x : Attempt) where
  looked : NotRefused x → (k : Bool) → is_known x.table x.entry ≡ k → lookup_of x.table x.entry ≡ verdict_of k
  unfolding lookup_of
  looked h k e = simp (le-ltb _ _ h, e)

  login-known : NotRefused x → is_known x.table x.entry ≡ true
      → login_of x ≡ if session_holds x.asked x.session
      then (if number_holds x.wanted x.last then says accepted (granted x.wanted x.last ∷ []) else rejects session_not_available)
      else rejects session_not_available
  unfolding decision_at verdict_of
  login-known h e = rw (looked h true e) refl

  login-unknown : NotRefused x → is_known x.table x.entry ≡ false → login_of x ≡ rejects not_authorized
  unfolding decision_at verdict_of
  login-unknown h e = rw (looked h false e) refl

  too_many : most_accounts < length x.table → login_of x ≡ refuses bad_setting
  unfolding decision_at lookup_of
  too_many h = rw (lt-ltb _ _ h) refl

  when : NotRefused x → Rules x → login_of x ≡ says accepted (granted x.wanted x.last ∷ [])
  when h r = login-known h (account-test x r.account) ∙ rw (session-test x r.session, number-test x r.number) refl

  -- an account that is known, and a login that is accepted: then all rules hold
  rules-of : is_known x.table x.entry ≡ true → (s n : Bool) → session_holds x.asked x.session ≡ s → number_holds x.wanted x.last ≡ n
      → (if s then (if n then says accepted (granted x.wanted x.last ∷ []) else rejects session_not_available) else rejects session_not_available).which
      ≡ answer accepted
      → Rules x
  rules-of k true true s n e = record { account = account-rule x k; session = session-rule x s; number = number-rule x n }
  rules-of k true false s n e = let z : ◌≡◌ {A = ℕ} 0 1 = cc in absurd (omega arith)
  rules-of k false n s m e = let z : ◌≡◌ {A = ℕ} 0 1 = cc in absurd (omega arith)

  few-only-when : NotRefused x → (login_of x).which ≡ answer accepted → Rules x
  few-only-when h e = go (is_known x.table x.entry) refl
    where
      go : (k : Bool) → is_known x.table x.entry ≡ k → Rules x
      go true k = rules-of k (session_holds x.asked x.session) (number_holds x.wanted x.last) refl refl (rw (login-known h k) at e)
      go false k =
          let f : (rejects not_authorized).which ≡ answer accepted = rw (login-unknown h k) at e in
          let z : ◌≡◌ {A = ℕ} 0 1 = cc in
          absurd (omega arith)

  only_when : (login_of x).which ≡ answer accepted → Rules x
  only_when e = below_or_not (Rules x) most_accounts (length x.table) over (λ h. few-only-when h e)
    where
      over : most_accounts < length x.table → Rules x
      over h =
          let f : (refuses {K = DecisionKind} bad_setting).which ≡ answer accepted = rw (too_many h) at e in
          let z : ◌≡◌ {A = ℕ} 0 1 = cc in
          absurd (omega arith)

  else_A : NotRefused x → (AccountRule x → ⊥) → login_of x ≡ rejects not_authorized
  else_A h r = go (is_known x.table x.entry) refl
    where
      go : (k : Bool) → is_known x.table x.entry ≡ k → login_of x ≡ rejects not_authorized
      go true k = absurd (r (account-rule x k))
      go false k = login-unknown h k

  else_S : NotRefused x → AccountRule x → (Rules x → ⊥) → login_of x ≡ rejects session_not_available
  else_S h a r = login-known h (account-test x a) ∙ go (session_holds x.asked x.session) (number_holds x.wanted x.last) refl refl
    where
      go : (s n : Bool) → session_holds x.asked x.session ≡ s → number_holds x.wanted x.last ≡ n
          → if s then (if n then says accepted (granted x.wanted x.last ∷ []) else rejects session_not_available) else rejects session_not_available
          ≡ rejects session_not_available
      go true true s n = absurd (r (record { account = a; session = session-rule x s; number = number-rule x n }))
      go true false s n = refl
      go false n s m = refl

  from_one : least_number ≤ granted x.wanted x.last
  unfolding granted
  from_one = go (eqb x.wanted 0) refl
    where
      go : (t : Bool) → eqb x.wanted 0 ≡ t → least_number ≤ (if t then max least_number x.last else x.wanted)
      go true e = omega arith
      go false e = let z : x.wanted ≡ 0 → ⊥ = eqb-false _ _ e in omega (arith, z)

  up_to_next : NumberRule x → granted x.wanted x.last ≤ x.last + 1
  unfolding granted
  up_to_next h = go (eqb x.wanted 0)
    where
      go : (t : Bool) → (if t then max least_number x.last else x.wanted) ≤ x.last + 1
      go true = omega arith
      go false = h

login-rules : LoginRules login_of
login-rules = record { when = when; only_when = only_when; else_A = else_A; else_S = else_S; too_many = too_many }

pub accepted_exactly_when : AcceptedExactlyWhen
accepted_exactly_when =
    record {
      rules = login-rules;
      from_one = from_one;
      up_to_next = up_to_next;
    }

-- ---- whatever is said to be found, the rules hold with its record alone as the table

refused-out : (r : ℕ) → (refuses {K = DecisionKind} r).which ≡ answer accepted → ⊥
refused-out r e = let z : ◌≡◌ {A = ℕ} 0 1 = cc in omega arith

pub only_by_a_record : OnlyByARecord
unfolding OnlyByARecord decision_at found_records
only_by_a_record (Ok a) e asked wanted session last w =
    record { not_too_many = refl; rules = only_when (attempt_by (Ok a) e asked wanted session last) (rw (says-of-one e a) at w) }
only_by_a_record (Err r) e asked wanted session last w = absurd (refused-out 19 (rw (says-refused e r) at w))

-- ---- a sound field has a letter or digit in front, and no zero byte

spaces-no-zero : (l : List ℕ) (i : ℕ) → are_spaces l ≡ true → i < length l → get_or l i 0 ≡ 0 → ⊥
unfolding are_spaces
spaces-no-zero [] i e h z = omega arith
spaces-no-zero (b ∷ l) i e h z = go (eqb b space) refl i e h z (spaces-no-zero l)
  where
    go : (t : Bool) → eqb b space ≡ t → (i : ℕ) → (t && are_spaces l) ≡ true → i < suc (length l) → get_or (b ∷ l) i 0 ≡ 0
        → ((i : ℕ) → are_spaces l ≡ true → i < length l → get_or l i 0 ≡ 0 → ⊥) → ⊥
    go true f zero e h z g = let s : b ≡ 32 = eqb-true _ _ f in omega arith
    go true f (suc i) e h z g = g i e (omega arith) z
    go false f i e h z g = let k : ◌≡◌ {A = ℕ} 0 1 = cc in omega arith

word-no-zero : (l : List ℕ) (i : ℕ) → are_spaces (drop (word_length l) l) ≡ true → i < length l → get_or l i 0 ≡ 0 → ⊥
unfolding word_length is_letter_or_digit is_digit
word-no-zero [] i e h z = omega arith
word-no-zero (b ∷ l) i e h z = go (is_letter_or_digit b) refl i e h z (word-no-zero l)
  where
    go : (t : Bool) → is_letter_or_digit b ≡ t → (i : ℕ) → are_spaces (drop (if t then suc (word_length l) else 0) (b ∷ l)) ≡ true
        → i < suc (length l) → get_or (b ∷ l) i 0 ≡ 0
        → ((i : ℕ) → are_spaces (drop (word_length l) l) ≡ true → i < length l → get_or l i 0 ≡ 0 → ⊥) → ⊥
    go true f zero e h z g =
        let s : b ≡ 0 = z in
        let w : is_letter_or_digit 0 ≡ true = rw s at f in
        let k : ◌≡◌ {A = ℕ} 0 1 = cc in
        omega arith
    go true f (suc i) e h z g = g i e (omega arith) z
    go false f i e h z g = spaces-no-zero (b ∷ l) i e h z

no_zero : (l : List ℕ) → sound 1 l ≡ true → (i : ℕ) → i < length l → get_or l i 0 ≡ 0 → ⊥
unfolding sound
no_zero l = go (ltb (word_length l) 1)
  where
    go : (t : Bool) → if t then false else are_spaces (drop (word_length l) l) ≡ true → (i : ℕ) → i < length l → get_or l i 0 ≡ 0 → ⊥
    go true e i h z = let k : ◌≡◌ {A = ℕ} 0 1 = cc in omega arith
    go false e i h z = word-no-zero l i e h z

no_text : (l : List ℕ) → NoText l → sound 1 l ≡ false
unfolding sound
no_text l (has_zero i h z) = go (sound 1 l) refl
  where
    go : (t : Bool) → sound 1 l ≡ t → t ≡ false
    go true e = absurd (no_zero l e i h z)
    go false e = refl
no_text l (all_spaces k e) = rw (e, spaces-word k) refl

-- ---- an entry with such a field

module _ (e : Account) where
  username-unsound : NoText e.username → sound_account e ≡ false
  unfolding sound_account
  username-unsound n = rw (no_text e.username n) refl

  password-unsound : NoText e.password → sound_account e ≡ false
  unfolding sound_account
  password-unsound n = go (sound 1 e.username)
    where
      go : (t : Bool) → if t then sound 1 e.password else false ≡ false
      go true = no_text e.password n
      go false = refl

unsound-rejected : (x : Attempt) → NotRefused x → sound_account x.entry ≡ false → login_of x ≡ rejects not_authorized
unsound-rejected x h s = login-unknown x h (unsound-unknown x.table x.entry s)

pub never_accepted : NeverAccepted
never_accepted =
    record {
      username = λ (x : Attempt) (h : NotRefused x) (n : NoText x.entry.username). unsound-rejected x h (username-unsound x.entry n);
      password = λ (x : Attempt) (h : NotRefused x) (n : NoText x.entry.password). unsound-rejected x h (password-unsound x.entry n);
    }
