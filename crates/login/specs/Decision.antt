-- The decision on a login.
use Rattle.std.specs.Prelude.{ℕ, ◌+◌, max, List, [], ◌∷◌, Bool, true, leb, eqb, if◌then◌else◌, Result, Ok, Err}
use Rattle.wire.specs.Bounds.{least_number, blank}
use Rattle.wire.specs.Bytes.{same_bytes}
use Rattle.wire.specs.Words.{Words, Case, answer, refused, says, refuses, refused_words}
use Rattle.soupbintcp.specs.Fields.{not_authorized, session_not_available}
use Rattle.wire.specs.declared.refusal.Refusal.{Refusal}
use Rattle.login.specs.declared.account.Account.{Account}
use Rattle.login.specs.declared.decision.Decision.{Decision}
use Rattle.login.specs.declared.decision.Decision.TheVariants.{Accepted, Rejected}
use Rattle.login.specs.Account.{VerdictKind, known, unknown, lookup_of}

-- the session rule: blank, or exactly the server's
unfoldable pub session_holds : List ℕ → List ℕ → Bool
session_holds asked session = if same_bytes asked blank then true else same_bytes asked session

-- the number rule, with last the highest message number (0 if none)
unfoldable pub number_holds : ℕ → ℕ → Bool
number_holds wanted last = leb wanted (last + 1)

-- wanted 0 gives the larger of 1 and last; wanted 1 to last + 1 gives itself
unfoldable pub granted : ℕ → ℕ → ℕ
granted wanted last = if eqb wanted 0 then max least_number last else wanted

-- what can be decided, but for a refusal
pub data DecisionKind : Type 0 where
  accepted rejected : DecisionKind

unfoldable pub decision_words : Result Decision Refusal → Words DecisionKind
decision_words (Ok (Accepted n)) = says accepted (n.0 ∷ [])
decision_words (Ok (Rejected reason)) = says rejected (reason ∷ [])
decision_words (Err r) = refused_words r

-- J with a reason
abbrev pub rejects : ℕ → Words DecisionKind
rejects reason = says rejected (reason ∷ [])

-- by what the table says: the account, then the session, then the number
unfoldable pub decision_at : Case VerdictKind → ℕ → List ℕ → ℕ → List ℕ → ℕ → Words DecisionKind
decision_at (answer known) r asked wanted session last =
    if session_holds asked session
    then (if number_holds wanted last then says accepted (granted wanted last ∷ []) else rejects session_not_available)
    else rejects session_not_available
decision_at (answer unknown) r asked wanted session last = rejects not_authorized
decision_at refused r asked wanted session last = refuses r

abbrev pub decision_of : Words VerdictKind → List ℕ → ℕ → List ℕ → ℕ → Words DecisionKind
decision_of w asked wanted session last = decision_at w.which w.refusal asked wanted session last

-- ---- a login whole

-- the table, the entry, the session and the number that are asked for, the server's session, and its last number
pub record Attempt : Type 0 where
  pub table : List Account
  pub entry : Account
  pub asked : List ℕ
  pub wanted : ℕ
  pub session : List ℕ
  pub last : ℕ

abbrev pub login_of : Attempt → Words DecisionKind
login_of x = decision_of (lookup_of x.table x.entry) x.asked x.wanted x.session x.last
