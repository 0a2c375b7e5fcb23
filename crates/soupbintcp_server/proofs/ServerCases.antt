-- What a server's step does, by its cases: s is the server, l the stream, x what the table says of the entry in front, k and vs the
-- size and the values of the packet there.
use mathlib.Core.Path.{◌≡◌, refl, ◌∙◌}
use mathlib.Core.List.{List, [], ◌∷◌, ◌++◌}
use Prim.Native.Nat.{ℕ, suc, ◌-◌}
use native.Mathlib.Omega.{arith}
use lib.ListN.{get_or}
use lib.Dec.{eqb}
use borrow.Author.Tests.{eqb-true, eqb-false}
use Rattle.wire.specs.Words.{Words, Case, answer, refused, says, refuses}
use Rattle.soupbintcp.specs.declared.packet.Sender.TheVariants.{Client}
use Rattle.soupbintcp.specs.Letters.{PacketKind, letter_for}
use Rattle.soupbintcp.specs.Head.{letter_of}
use Rattle.soupbintcp.specs.Front.{packet, front_of, session_of}
use Rattle.soupbintcp.specs.Front as front
use Rattle.soupbintcp.proofs.LetterLaws.{choice}
use Rattle.soupbintcp.proofs.KindLaws.{its-letter}
use Rattle.soupbintcp.proofs.ScanLaws.{FrontIs, stops-short, stops_at, passes, front-is}
use Rattle.login.specs.declared.account.Account.{Account}
use Rattle.login.specs.Account.{VerdictKind, lookup_of}
use Rattle.login.specs.Decision.{DecisionKind, accepted, rejected, decision_of}
use Rattle.soupbintcp_session.specs.Answer.{incoming, SessionAnswerKind, wants_more, unsequenced, heartbeat, debug, logged_out, answer_message_at, StepOutcome, stays, takes}
use Rattle.soupbintcp_session.specs.Answer as reply
use Rattle.soupbintcp_session.proofs.FrontCases.{apart, InFront, no_more, front-stays, session-stays, username-stays, password-stays, Plain, a-rejection, a-heartbeat, a-debug, a-logout, plain-takes, accepted-takes, unsequenced-takes, plain-not-unsequenced}
use Rattle.soupbintcp_session.proofs.StepLaws.{Rests, waits, refusing, Does}
use Rattle.soupbintcp_session.proofs.StepLaws as does
use Rattle.soupbintcp_session.proofs.RunLaws.{Steady}
use Rattle.soupbintcp_server.specs.declared.server.ServerState.{ServerState}
use Rattle.soupbintcp_server.specs.declared.server.ServerState.TheVariants.{Waiting, In, Closed}
use Rattle.soupbintcp_server.specs.declared.server.Server.{Server}
use Rattle.soupbintcp_server.specs.Server.{becomes, login_at, waiting_row, in_row, row_at, server_row, front_row, front_row_at, step_at, step_with, entry_of, server_step}
use Rattle.soupbintcp_server.specs.Statements.{KeepsItsSettings}

pub data ServerDoes (s : Server) (l : List ℕ) (x : Words VerdictKind) (o : StepOutcome Server) : Type 0 where
  rests : (w : Words SessionAnswerKind) → Rests w → o ≡ stays s w → ServerDoes s l x o
  logs_in : (k : ℕ) (vs ws : List ℕ) → InFront Client l k vs → letter_of l ≡ 76 → s.state ≡ Waiting
      → (decision_of x (session_of Client l) (get_or vs 0 0) s.session s.last.0).which ≡ answer accepted
      → o ≡ takes k (says reply.accepted ws) (becomes s In) → ServerDoes s l x o
  rejects : (k : ℕ) (vs ws : List ℕ) → InFront Client l k vs → letter_of l ≡ 76 → s.state ≡ Waiting
      → (decision_of x (session_of Client l) (get_or vs 0 0) s.session s.last.0).which ≡ answer rejected
      → ws ≡ (decision_of x (session_of Client l) (get_or vs 0 0) s.session s.last.0).values
      → o ≡ takes k (says reply.rejected ws) (becomes s Closed) → ServerDoes s l x o
  hands_up : (k : ℕ) (vs : List ℕ) → InFront Client l k vs → letter_of l ≡ 85 → s.state ≡ In → o ≡ takes k (says unsequenced (3 ∷ (k - 3) ∷ [])) (becomes s In)
      → ServerDoes s l x o
  goes_by : (k : ℕ) (vs : List ℕ) (w : Words SessionAnswerKind) (t : ServerState) → InFront Client l k vs → (letter_of l ≡ 85 → ⊥) → Plain w.which
      → (w.which ≡ answer reply.rejected → ⊥) → (t ≡ In → s.state ≡ In)
      → o ≡ takes k w (becomes s t) → ServerDoes s l x o

pub never-in : Closed ≡ In → ⊥
never-in e = let z : ◌≡◌ {A = ℕ} 0 1 = cc in omega arith

-- ---- what is no rejection

debug-apart : answer debug ≡ answer reply.rejected → ⊥
debug-apart e = let z : ◌≡◌ {A = ℕ} 0 1 = cc in omega arith

heartbeat-apart : answer heartbeat ≡ answer reply.rejected → ⊥
heartbeat-apart e = let z : ◌≡◌ {A = ℕ} 0 1 = cc in omega arith

logout-apart : answer logged_out ≡ answer reply.rejected → ⊥
logout-apart e = let z : ◌≡◌ {A = ℕ} 0 1 = cc in omega arith

-- ---- the rows

module _ (s : Server) (l : List ℕ) (x : Words VerdictKind) (k : ℕ) (vs : List ℕ) (i : InFront Client l k vs) where
  abbrev D : StepOutcome Server → Type 0
  D = ServerDoes s l x

  refuses-it : (r : ℕ) → D (stays s (refuses r))
  refuses-it r = rests (refuses r) (refusing r) refl

  login-does : letter_of l ≡ 76 → s.state ≡ Waiting → (d : Case DecisionKind) (r : ℕ) (ws : List ℕ)
      → (decision_of x (session_of Client l) (get_or vs 0 0) s.session s.last.0).which ≡ d
      → ws ≡ (decision_of x (session_of Client l) (get_or vs 0 0) s.session s.last.0).values → D (login_at s k d r ws)
  unfolding login_at
  login-does a q (answer accepted) r ws e f = logs_in k vs ws i a q e refl
  login-does a q (answer rejected) r ws e f = rejects k vs ws i a q e f refl
  login-does a q refused r ws e f = refuses-it r

  waiting-does : s.state ≡ Waiting → D (waiting_row s x (incoming k (letter_of l) vs (session_of Client l)))
  unfolding waiting_row
  waiting-does q =
      choice D (eqb (letter_of l) 76) (λ e. login-does (eqb-true _ _ e) q _ _ _ refl refl) (λ e.
      choice D (eqb (letter_of l) 43) (λ f. goes_by k vs (says debug []) Waiting i (apart (eqb-true _ _ f) refl) a-debug debug-apart (λ z. q ∙ z) refl) (λ f. refuses-it _))

  in-does : s.state ≡ In → D (in_row s k (letter_of l))
  unfolding in_row
  in-does q =
      choice D (eqb (letter_of l) 85) (λ e. hands_up k vs i (eqb-true _ _ e) q refl) (λ e.
      choice D (eqb (letter_of l) 82) (λ f. goes_by k vs (says heartbeat []) In i (eqb-false _ _ e) a-heartbeat heartbeat-apart (λ z. q) refl) (λ f.
      choice D (eqb (letter_of l) 43) (λ g. goes_by k vs (says debug []) In i (eqb-false _ _ e) a-debug debug-apart (λ z. q) refl) (λ g.
      choice D (eqb (letter_of l) 79) (λ h. goes_by k vs (says logged_out []) Closed i (eqb-false _ _ e) a-logout logout-apart (λ z. q) refl) (λ h. refuses-it _))))

  row-does : (t : ServerState) → s.state ≡ t → D (row_at t s x (incoming k (letter_of l) vs (session_of Client l)))
  unfolding row_at
  row-does Waiting q = waiting-does q
  row-does In q = in-does q
  row-does Closed q = refuses-it _

-- ---- the step by what the table says, and then by the front

module _ (s : Server) (x : Words VerdictKind) (l : List ℕ) where
  -- the front, where the table says something
  abbrev front-step : StepOutcome Server
  front-step = front_row s x (session_of Client l) (front_of Client l)

  pub short-rests : front_of Client l ≡ says front.wants_more [] → front-step ≡ stays s (says wants_more [])
  unfolding front_row_at
  short-rests e = rw e refl

  fault-rests : (r : ℕ) → front_of Client l ≡ refuses r → front-step ≡ stays s (refuses r)
  unfolding front_row_at
  fault-rests r e = rw e refl

  pub packet-row : (p : PacketKind) (k : ℕ) (vs : List ℕ) → front_of Client l ≡ says (packet p) (k ∷ vs)
      → front-step ≡ server_row s x (incoming k (letter_for p) vs (session_of Client l))
  unfolding front_row_at
  packet-row p k vs e = rw e refl

  front-does : ServerDoes s l x front-step
  front-does = go (front-is Client l)
    where
      go : FrontIs Client l → ServerDoes s l x front-step
      go (stops-short e) = rests (says wants_more []) waits (short-rests e)
      go (stops_at r e) = rests (refuses r) (refusing r) (fault-rests r e)
      go (passes p k vs e a b) =
          rw (packet-row p k vs e, ← its-letter Client l p k vs e)
          (row-does s l x k vs (record { kind = p; front = e; some = a; within = b }) s.state refl)

  told-does : (w : Case VerdictKind) → ServerDoes s l x (step_at w s x l)
  unfolding step_at
  told-does (answer y) = front-does
  told-does refused = rests (refuses x.refusal) (refusing x.refusal) refl

  pub server-does : ServerDoes s l x (step_with s x l)
  server-does = told-does x.which

-- ---- the session's name and the last number stay

does-keep : (s : Server) (l : List ℕ) (x : Words VerdictKind) (o : StepOutcome Server) → ServerDoes s l x o → KeepsItsSettings s o.after
does-keep s l x o (rests w n e) = rw e (record { session = refl; last = refl })
does-keep s l x o (logs_in k vs ws i a q d e) = rw e (record { session = refl; last = refl })
does-keep s l x o (rejects k vs ws i a q d f e) = rw e (record { session = refl; last = refl })
does-keep s l x o (hands_up k vs i n q e) = rw e (record { session = refl; last = refl })
does-keep s l x o (goes_by k vs w t i n p g f e) = rw e (record { session = refl; last = refl })

pub keeps : (t : List Account) (s : Server) (l : List ℕ) → KeepsItsSettings s (server_step t s l).after
unfolding server_step
keeps t s l = does-keep s l (lookup_of t (entry_of l)) (step_with s (lookup_of t (entry_of l)) l) (server-does s (lookup_of t (entry_of l)) l)

-- ---- so it rests or moves, and a run of its steps is steady

server-moves : (s : Server) (l : List ℕ) (x : Words VerdictKind) (o : StepOutcome Server) → ServerDoes s l x o → Does s l Client unsequenced o
unfolding answer_message_at
server-moves s l x o (rests w n e) = does.rests w n e
server-moves s l x o (logs_in k vs ws i a q d e) =
    does.moves k vs (says reply.accepted ws) (becomes s In) i accepted-takes (λ z. absurd (not_so z)) e
  where
    not_so : answer reply.accepted ≡ answer unsequenced → ⊥
    not_so z = let y : ◌≡◌ {A = ℕ} 0 1 = cc in omega arith
server-moves s l x o (rejects k vs ws i a q d f e) =
    does.moves k vs (says reply.rejected ws) (becomes s Closed) i (plain-takes (answer reply.rejected) a-rejection)
    (λ z. absurd (plain-not-unsequenced (answer reply.rejected) a-rejection z)) e
server-moves s l x o (hands_up k vs i n q e) =
    does.moves k vs (says unsequenced (3 ∷ (k - 3) ∷ [])) (becomes s In) i unsequenced-takes (λ z. refl) e
server-moves s l x o (goes_by k vs w t i n p g f e) =
    does.moves k vs w (becomes s t) i (plain-takes w.which p) (λ z. absurd (plain-not-unsequenced w.which p z)) e

-- with any verdict on the entry in front
pub with-rests-or-moves : (verdict : List ℕ → Words VerdictKind) (s : Server) (l : List ℕ) → Does s l Client unsequenced (step_with s (verdict l) l)
with-rests-or-moves verdict s l = server-moves s l (verdict l) (step_with s (verdict l) l) (server-does s (verdict l) l)

module _ (t : List Account) where
  pub server-rests-or-moves : (s : Server) (l : List ℕ) → Does s l Client unsequenced (server_step t s l)
  unfolding server_step
  server-rests-or-moves s l = with-rests-or-moves (λ m. lookup_of t (entry_of m)) s l

  module _ (s : Server) (l m : List ℕ) where
    -- where the front needs no more
    module _ (z : (front_of Client l).which ≡ answer front.wants_more → ⊥) where
      entry-stays : entry_of (l ++ m) ≡ entry_of l
      unfolding entry_of
      entry-stays = rw (username-stays Client l m z, password-stays Client l m z) refl

      told-stays : (x : Words VerdictKind) (w : Case VerdictKind) → step_at w s x (l ++ m) ≡ step_at w s x l
      unfolding step_at
      told-stays x (answer y) = rw (front-stays Client l m z, session-stays Client l m z) refl
      told-stays x refused = refl

      pub step_stays : server_step t s (l ++ m) ≡ server_step t s l
      unfolding server_step
      step_stays = rw entry-stays (told-stays (lookup_of t (entry_of l)) (lookup_of t (entry_of l)).which)

    server-keeps : (k : ℕ) → (server_step t s l).size ≡ suc k → server_step t s (l ++ m) ≡ server_step t s l
    server-keeps k e = go (server-rests-or-moves s l)
      where
        go : Does s l Client unsequenced (server_step t s l) → server_step t s (l ++ m) ≡ server_step t s l
        go (does.rests w n f) = let z : 0 ≡ suc k = rw f at e in absurd (omega arith)
        go (does.moves n vs w u i y x f) = step_stays (no_more Client l n vs i)

  pub server-steady : Steady Server (server_step t)
  server-steady =
      record {
        fits = λ s l. does.takes-what-is-there (server-rests-or-moves s l);
        keeps = server-keeps;
        silent = λ s l. does.rests-by (server-rests-or-moves s l);
        idle = λ s l. does.takes_none (server-rests-or-moves s l);
      }
