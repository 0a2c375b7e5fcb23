-- The wrong locks break the rules: ours decides otherwise on an entry that they let in, or keep out.
use Prim.Native.Nat.{ℕ}
use mathlib.Core.Path.{◌≡◌, refl, sym, ◌∙◌}
use native.Mathlib.Omega.{arith}
use Rattle.wire.specs.Bytes.{same_bytes}
use Rattle.wire.specs.Words.{answer}
use Rattle.wire.proofs.Words.{which-of}
use Rattle.soupbintcp.specs.Fields.{not_authorized}
use Rattle.decimal.specs.Decimal.{is_digit}
use Rattle.text_fields.specs.Letters.{is_letter_or_digit, lower}
use Rattle.text_fields.specs.Sound.{word_length, are_spaces, sound}
use Rattle.login.specs.Account.{lowered, same_text, sound_account, is_of, has_password, is_known, verdict_of, lookup_of}
use Rattle.login.specs.Decision.{accepted, rejected, rejects, session_holds, number_holds, granted, decision_at, Attempt, login_of}
use Rattle.login.specs.Statements.{Lock, NotRefused, Rules, LoginRules}
use Rattle.login.specs.Locks.{lets_everyone_in, lets_no_one_in, front_of, same_front, stops_early, stops_at_zero_or_space, her_own, too_short, behind_zero_byte, empty, WrongLocks}
use Rattle.login.proofs.StatementLaws.{accepted_exactly_when}

-- what ours rejects breaks the rules
breaks : (x : Attempt) → NotRefused x → login_of x ≡ rejects not_authorized → Rules x → ⊥
breaks x n e r =
    let k = which-of (sym e ∙ accepted_exactly_when.rules.when x n r) in
    let z : ◌≡◌ {A = ℕ} 0 1 = cc in
    omega arith

-- a lock that lets in what ours rejects
lets-in : (lock : Lock) (x : Attempt) → NotRefused x → login_of x ≡ rejects not_authorized → (lock x).which ≡ answer accepted → LoginRules lock → ⊥
lets-in lock x n e w r = breaks x n e (r.only_when x w)

-- a lock that rejects what ours lets in
keeps-out : (lock : Lock) (x : Attempt) → NotRefused x → (login_of x).which ≡ answer accepted → (lock x).which ≡ answer rejected → LoginRules lock → ⊥
keeps-out lock x n e w r =
    let k = sym w ∙ which-of (r.when x n (accepted_exactly_when.rules.only_when x e)) in
    let z : ◌≡◌ {A = ℕ} 0 1 = cc in
    omega arith

pub wrong_locks : WrongLocks
unfolding same_bytes is_digit is_letter_or_digit word_length are_spaces sound lower lowered same_text sound_account is_of has_password is_known verdict_of lookup_of session_holds number_holds granted decision_at front_of same_front stops_early
wrong_locks =
    record {
      everyone = lets-in lets_everyone_in too_short (omega arith) refl refl;
      no_one = keeps-out lets_no_one_in her_own (omega arith) refl refl;
      stopping_early = lets-in stops_at_zero_or_space too_short (omega arith) refl refl;
      by_her_own = accepted_exactly_when.rules.only_when her_own refl;
      too_short_refused = breaks too_short (omega arith) refl;
      behind_a_zero = breaks behind_zero_byte (omega arith) refl;
      nothing = breaks empty (omega arith) refl;
      too_short_in = refl;
      behind_a_zero_in = refl;
      empty_in = refl;
    }
