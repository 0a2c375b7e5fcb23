-- A server's step by its cases: s is the server, l the stream, t the table, v what it says of the entry in front.
use Prim.Native.Nat.{ℕ, ◌≤◌, ◌<◌}
use mathlib.Core.List.{List, []}
use mathlib.Core.Bool.{Bool, true, false}
use mathlib.Core.Path.{◌≡◌, refl}
use native.Mathlib.Omega.{arith}
use lib.ListN.{length}
use lib.Dec.{eqb}
use borrow.Author.Tests.{lt-ltb, le-ltb}
use Rattle.wire.specs.Words.{Words, Case, answer, refused, says}
use Rattle.wire.proofs.Cases.{below_or_not}
use Rattle.wire.proofs.Words.{refusal-of}
use Rattle.soupbintcp.specs.declared.packet.Sender.TheVariants.{Client}
use Rattle.soupbintcp.specs.Front.{FrontKind, front_of, session_of}
use Rattle.soupbintcp.proofs.LetterLaws.{choice}
use Rattle.login.specs.declared.account.Account.{Account}
use Rattle.login.specs.Account.{VerdictKind, known, unknown, most_accounts, verdict_of, is_known, lookup_of}
use Rattle.login.specs.Decision.{DecisionKind, accepted, rejected, session_holds, number_holds, decision_at}
use Rattle.soupbintcp_server.specs.declared.server.ServerState.{ServerState}
use Rattle.soupbintcp_server.specs.declared.server.ServerState.TheVariants.{Waiting, In, Closed}
use Rattle.soupbintcp_server.specs.declared.server.Server.{Server}
use Rattle.soupbintcp_server.specs.Server.{refused_server, login_at, login_row, waiting_row, in_row, row_at, front_row, front_row_at, step_at, step_with, entry_of, server_step}
use Rattle.host_answers.specs.Answers.{or_else, RefusesOnly}
use Rattle.host_session.proofs.StepLaws.{Steps, waits, needs-none, refuses-own, moves}
use Rattle.host_session.proofs.GroundLaws.{HasGrounds, ground-some, ground-most, ground-one-of}
use Rattle.host_server.specs.Server.{server_stateless}
use Rattle.host_session.proofs.FrontLaws.{FrontSays, says-more, says-fault, says-packet, front-says}

-- ---- a list of refusals that has those of a step

pub record HasSteps (gs : List ℕ) : Type 0 where
  pub has-19 : RefusesOnly 19 gs
  pub has-31 : RefusesOnly 31 gs
  pub has-32 : RefusesOnly 32 gs
  pub has-front : HasGrounds gs

-- ---- the rows

-- what a row takes
abbrev taken_by : {A B : Type 0} → (A → B) → Type 0
taken_by {A} f = A

abbrev Taken : Type 0
Taken = taken_by (waiting_row refused_server (says known []))

-- with an entry that the table knows or doesn't, every login is decided
Decided : Words DecisionKind → Type 0
Decided w = w.which ≡ refused → ⊥

said : (k : DecisionKind) (vs : List ℕ) → Decided (says k vs)
unfolding Decided
said k vs e = let z : ◌≡◌ {A = ℕ} 0 1 = cc in omega arith

decides : (v : VerdictKind) (r : ℕ) (asked : List ℕ) (wanted : ℕ) (session : List ℕ) (last : ℕ) → Decided (decision_at (answer v) r asked wanted session last)
unfolding decision_at
decides known r asked wanted session last =
    choice Decided (session_holds asked session)
    (λ e. choice Decided (number_holds wanted last) (λ f. said accepted _) (λ f. said rejected _))
    (λ e. said rejected _)
decides unknown r asked wanted session last = said rejected _

module _ (gs : List ℕ) (h : HasSteps gs) (s : Server) (g : ℕ) (z : g ≡ 0) where
  login-steps : (k : ℕ) → (k ≡ 0 → ⊥) → (d : Case DecisionKind) (r : ℕ) (ws : List ℕ) → (d ≡ refused → ⊥) → Steps s g gs (login_at s k d r ws)
  unfolding login_at
  login-steps k n (answer accepted) r ws f = moves k _ _ _ z n refl
  login-steps k n (answer rejected) r ws f = moves k _ _ _ z n refl
  login-steps k n refused r ws f = absurd (f refl)

  decided-steps : (k : ℕ) → (k ≡ 0 → ⊥) → (w : Words DecisionKind) → Decided w → Steps s g gs (login_row s k w)
  unfolding Decided
  decided-steps k n w f = login-steps k n w.which w.refusal w.values f

  waiting-steps : (v : VerdictKind) (p : Taken) → (p.size ≡ 0 → ⊥) → Steps s g gs (waiting_row s (says v []) p)
  unfolding waiting_row
  waiting-steps v p n =
      choice (Steps s g gs) (eqb p.letter 76) (λ e. decided-steps p.size n _ (decides v _ _ _ _ _)) (λ e.
      choice (Steps s g gs) (eqb p.letter 43) (λ f. moves p.size _ _ _ z n refl) (λ f. refuses-own 31 z (omega arith) h.has-31 refl))

  in-steps : (k letter : ℕ) → (k ≡ 0 → ⊥) → Steps s g gs (in_row s k letter)
  unfolding in_row
  in-steps k letter n =
      choice (Steps s g gs) (eqb letter 85) (λ e. moves k _ _ _ z n refl) (λ e.
      choice (Steps s g gs) (eqb letter 82) (λ e. moves k _ _ _ z n refl) (λ e.
      choice (Steps s g gs) (eqb letter 43) (λ e. moves k _ _ _ z n refl) (λ e.
      choice (Steps s g gs) (eqb letter 79) (λ e. moves k _ _ _ z n refl) (λ e. refuses-own 31 z (omega arith) h.has-31 refl))))

  row-steps : (t : ServerState) (v : VerdictKind) (p : Taken) → (p.size ≡ 0 → ⊥) → Steps s g gs (row_at t s (says v []) p)
  unfolding row_at
  row-steps Waiting v p n = waiting-steps v p n
  row-steps In v p n = in-steps p.size p.letter n
  row-steps Closed v p n = refuses-own 32 z (omega arith) h.has-32 refl

-- ---- the step, by the table and by what stands in front

module _ (gs : List ℕ) (h : HasSteps gs) (s : Server) (l : List ℕ) where
  front-row : (v : VerdictKind) (w : Words FrontKind) → front_of Client l ≡ w
      → front_row s (says v []) (session_of Client l) (front_of Client l) ≡ front_row s (says v []) (session_of Client l) w
  front-row v w e = rw e refl

  front-steps : (v : VerdictKind) → Steps s (front_of Client l).refusal gs (front_row s (says v []) (session_of Client l) (front_of Client l))
  unfolding front_row_at
  front-steps v = go (front-says Client l)
    where
      go : FrontSays Client l → Steps s (front_of Client l).refusal gs (front_row s (says v []) (session_of Client l) (front_of Client l))
      go (says-more e) = waits (refusal-of e) (front-row v _ e)
      go (says-fault r g e) = rw e (needs-none (ground-some r g) (ground-one-of r gs h.has-front g) refl)
      go (says-packet p k vs e n) = rw (front-row v _ e) (row-steps gs h s _ (refusal-of e) s.state v _ n)

  told-steps : (b : Bool) → Steps s (front_of Client l).refusal gs (step_with s (verdict_of b) l)
  unfolding step_at verdict_of
  told-steps true = front-steps known
  told-steps false = front-steps unknown

  module _ (t : List Account) where
    -- 19 for the table comes first
    too_many : most_accounts < length t → server_stateless t l ≡ 19
    unfolding or_else
    too_many u = rw (lt-ltb most_accounts (length t) u) refl

    not_too_many : length t ≤ most_accounts → server_stateless t l ≡ (front_of Client l).refusal
    unfolding or_else
    not_too_many u = rw (le-ltb most_accounts (length t) u) refl

    refuses-table : most_accounts < length t → Steps s (server_stateless t l) gs (server_step t s l)
    unfolding server_step lookup_of step_at
    refuses-table u = rw (too_many u, lt-ltb most_accounts (length t) u) (needs-none (λ e. omega arith) h.has-19 refl)

    takes-table : length t ≤ most_accounts → Steps s (server_stateless t l) gs (server_step t s l)
    unfolding server_step lookup_of
    takes-table u = rw (not_too_many u, le-ltb most_accounts (length t) u) (told-steps (is_known t (entry_of l)))

    pub server-steps : Steps s (server_stateless t l) gs (server_step t s l)
    server-steps = below_or_not _ most_accounts (length t) refuses-table takes-table

-- the last ground that needs no server is 25
front-most : (l : List ℕ) → (front_of Client l).refusal ≤ 25
front-most l = go (front-says Client l)
  where
    go : FrontSays Client l → (front_of Client l).refusal ≤ 25
    go (says-more e) = rw e (omega arith)
    go (says-fault r g e) = rw e (ground-most r g)
    go (says-packet p k vs e n) = rw e (omega arith)

pub server-ground : (t : List Account) (l : List ℕ) → server_stateless t l ≤ 25
unfolding or_else
server-ground t l = below_or_not _ most_accounts (length t) (λ u. rw (lt-ltb most_accounts (length t) u) (omega arith)) (λ u. rw (le-ltb most_accounts (length t) u) (front-most l))

-- ---- a closed server takes nothing

module _ (s : Server) (q : s.state ≡ Closed) (l : List ℕ) where
  closed-row : (v : VerdictKind) (p : Taken) → (row_at s.state s (says v []) p).size ≡ 0
  unfolding row_at
  closed-row v p = rw q refl

  closed-front : (v : VerdictKind) → (front_row s (says v []) (session_of Client l) (front_of Client l)).size ≡ 0
  unfolding front_row_at
  closed-front v = go (front-says Client l)
    where
      go : FrontSays Client l → (front_row s (says v []) (session_of Client l) (front_of Client l)).size ≡ 0
      go (says-more e) = rw e refl
      go (says-fault r g e) = rw e refl
      go (says-packet p k vs e n) = rw e (closed-row v _)

  closed-told : (b : Bool) → (step_with s (verdict_of b) l).size ≡ 0
  unfolding step_at verdict_of
  closed-told true = closed-front known
  closed-told false = closed-front unknown

  pub closed-stays : (t : List Account) → (server_step t s l).size ≡ 0
  unfolding server_step lookup_of step_at
  closed-stays t =
      below_or_not _ most_accounts (length t) (λ u. rw (lt-ltb most_accounts (length t) u) refl)
      (λ u. rw (le-ltb most_accounts (length t) u) (closed-told (is_known t (entry_of l))))
