-- Laws of the decision, as the code has it: the session asked for, the number, and each way through the rules.
use mathlib.Core.Path.{◌≡◌, refl, sym, ◌∙◌}
use mathlib.Core.List.{List}
use mathlib.Core.Bool.{Bool, true, false}
use Prim.Native.Nat.{ℕ, ◌+◌, ◌-◌, ◌≤◌, ◌<◌, max}
use native.Mathlib.Omega.{arith}
use lib.ListN.{get_or}
use lib.Dec.{leb, eqb}
use borrow.Author.Tests.{le-leb, lt-leb, leb-true, leb-false}
use Rattle.wire.specs.declared.kinds.SequenceNumber.{SequenceNumber}
use Rattle.wire.specs.Bounds.{blank}
use Rattle.wire.specs.Bytes.{same_bytes}
use Rattle.wire.specs.Words.{Case, answer, refused, Injective}
use Rattle.wire.proofs.Words.{read_back}
use Rattle.login.specs.declared.account.Account.{Account}
use Rattle.wire.specs.declared.refusal.Refusal.{Refusal}
use Rattle.std.specs.Prelude.{Option, None, Result, Ok, Err, option_to_list}
use Rattle.login.specs.declared.decision.Decision.{Decision}
use Rattle.login.specs.declared.decision.Decision.TheVariants.{Accepted, Rejected}
use Rattle.login.specs.Account.{is_known, verdict_of, verdict_on}
use Rattle.login.specs.Decision.{session_holds, number_holds, granted, DecisionKind, accepted, rejected, decision_words, decision_at, decision_of}
use Rattle.login.specs.Statements.{DecisionsApart}
use Rattle.login.proofs.FoundLaws.{says-refused, says-known}

-- ---- the session: l is what is asked for, m the server's, t what the comparison gave

module _ (l m : List ℕ) where
  pub session-blank : (t : Bool) → t ≡ same_bytes l blank → t ≡ true → true ≡ session_holds l m
  unfolding session_holds
  session-blank t e f = rw (← e, f) refl

  pub session-ours : (t r : Bool) → t ≡ same_bytes l blank → t ≡ false → r ≡ same_bytes l m → r ≡ session_holds l m
  unfolding session_holds
  session-ours t r e f g = rw (← e, f) g

-- ---- the number

module _ (wanted last : ℕ) where
  pub number-so : leb (wanted - 1) last ≡ number_holds wanted last
  unfolding number_holds
  number-so = go (leb (wanted - 1) last) refl
    where
      go : (t : Bool) → leb (wanted - 1) last ≡ t → t ≡ leb wanted (last + 1)
      go true e = let h : wanted - 1 ≤ last = leb-true _ _ e in sym (le-leb wanted (last + 1) (omega arith))
      go false e = let h : last < wanted - 1 = leb-false _ _ e in sym (lt-leb wanted (last + 1) (omega arith))

  pub grant-itself : eqb wanted 0 ≡ false → wanted ≡ granted wanted last
  unfolding granted
  grant-itself z = rw z refl

  pub grant-largest : eqb wanted 0 ≡ true → max 1 last ≡ granted wanted last
  unfolding granted
  grant-largest z = rw z refl

-- ---- the decision: a is the record that was found for the entry e, k whether it opens to it, t the session rule, u the number rule

module _ (e : Account) (l m : List ℕ) (wanted last : ℕ) where
  pub decide-refused : (r : Refusal) → decision_words (Err (record { number = 19 })) ≡ decision_of (verdict_on (Err r) e) l wanted m last
  unfolding decision_words decision_at
  decide-refused r = rw (says-refused e r) refl

  pub decide-nobody : decision_words (Ok (Rejected 65)) ≡ decision_of (verdict_on (Ok None) e) l wanted m last
  unfolding decision_words decision_at verdict_of is_known
  decide-nobody = rw (says-known e None) refl

  module _ (a : Option Account) (k : Bool) (is : k ≡ is_known (option_to_list a) e) where
    said : (b : Bool) → k ≡ b → verdict_on (Ok a) e ≡ verdict_of b
    said b h = says-known e a ∙ rw (← is, h) refl

    pub decide-unknown : k ≡ false → decision_words (Ok (Rejected 65)) ≡ decision_of (verdict_on (Ok a) e) l wanted m last
    unfolding decision_words decision_at verdict_of
    decide-unknown h = rw (said false h) refl

    module _ (yes : k ≡ true) (t : Bool) (holds : t ≡ session_holds l m) where
      pub decide-session : t ≡ false → decision_words (Ok (Rejected 83)) ≡ decision_of (verdict_on (Ok a) e) l wanted m last
      unfolding decision_words decision_at verdict_of
      decide-session g = let s : session_holds l m ≡ false = sym holds ∙ g in rw (said true yes, s) refl

      pub decide-number : (u : Bool) → t ≡ true → u ≡ number_holds wanted last → u ≡ false
          → decision_words (Ok (Rejected 83)) ≡ decision_of (verdict_on (Ok a) e) l wanted m last
      unfolding decision_words decision_at verdict_of
      decide-number u g h i =
          let s : session_holds l m ≡ true = sym holds ∙ g in
          let n : number_holds wanted last ≡ false = sym h ∙ i in
          rw (said true yes, s, n) refl

      pub decide-accepted : (u : Bool) (n : SequenceNumber) → t ≡ true → u ≡ number_holds wanted last → u ≡ true → n.0 ≡ granted wanted last
          → decision_words (Ok (Accepted n)) ≡ decision_of (verdict_on (Ok a) e) l wanted m last
      unfolding decision_words decision_at verdict_of
      decide-accepted u n g h i j =
          let s : session_holds l m ≡ true = sym holds ∙ g in
          let o : number_holds wanted last ≡ true = sym h ∙ i in
          rw (said true yes, s, o, j) refl

-- ---- the words of a decision read back

decided : Case DecisionKind → ℕ → List ℕ → Result Decision Refusal
decided (answer accepted) r vs = Ok (Accepted (record { 0 = get_or vs 0 0 }))
decided (answer rejected) r vs = Ok (Rejected (get_or vs 0 0))
decided refused r vs = Err (record { number = r })

decisions-tell : Injective decision_words
unfolding decision_words decided
decisions-tell = read_back decision_words (λ w. decided w.which w.refusal w.values) back
  where
    back : (d : Result Decision Refusal) → decided (decision_words d).which (decision_words d).refusal (decision_words d).values ≡ d
    back (Ok (Accepted n)) = refl
    back (Ok (Rejected reason)) = refl
    back (Err r) = refl

pub decisions-apart : DecisionsApart
unfolding DecisionsApart
decisions-apart = decisions-tell
