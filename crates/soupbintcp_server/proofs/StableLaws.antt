-- A step that isn't need more gives the same on a longer stream: t is the table of accounts, s the server, l the stream.
use mathlib.Core.Path.{◌≡◌, refl, ap, sym, ◌∙◌}
use mathlib.Core.List.{List, [], ◌++◌}
use mathlib.Core.Bool.{Bool, true, false}
use Prim.Native.Nat.{ℕ, ◌≤◌, ◌<◌}
use lib.ListN.{length}
use borrow.Author.Tests.{le-ltb, lt-ltb}
use Rattle.wire.specs.Refusals.{bad_setting}
use Rattle.wire.specs.Words.{Words, answer, says, refuses}
use Rattle.wire.proofs.Cases.{below_or_not}
use Rattle.soupbintcp.specs.declared.packet.Sender.TheVariants.{Client}
use Rattle.soupbintcp.specs.Front.{wants_more, front_of}
use Rattle.soupbintcp.proofs.ScanLaws.{FrontIs, stops-short, stops_at, passes, front-is}
use Rattle.login.specs.declared.account.Account.{Account}
use Rattle.login.specs.Account.{VerdictKind, known, unknown, most_accounts, verdict_of, is_known, lookup_of}
use Rattle.soupbintcp_session.specs.Answer.{StepOutcome, stays}
use Rattle.soupbintcp_session.specs.Answer as reply
use Rattle.soupbintcp_session.specs.Statements.{StepStable}
use Rattle.soupbintcp_session.proofs.FrontCases.{no_more, at-fault}
use Rattle.soupbintcp_server.specs.declared.server.Server.{Server}
use Rattle.soupbintcp_server.specs.Server.{step_at, step_with, entry_of, server_step}
use Rattle.soupbintcp_server.proofs.ServerCases.{short-rests, step_stays}

-- 19 on every stream
pub too_many : (t : List Account) (s : Server) (l : List ℕ) → most_accounts < length t → server_step t s l ≡ stays s (refuses bad_setting)
unfolding server_step lookup_of step_at
too_many t s l h = rw (lt-ltb _ _ h) refl

-- need more, where the front needs it and the table isn't too long
told-short : (s : Server) (l : List ℕ) (x : Words VerdictKind) (b : Bool) → front_of Client l ≡ says wants_more [] → x ≡ verdict_of b
    → step_with s x l ≡ stays s (says reply.wants_more [])
unfolding step_at verdict_of
told-short s l x true e f = rw f (short-rests s (says known []) l e)
told-short s l x false e f = rw f (short-rests s (says unknown []) l e)

module _ (t : List Account) (s : Server) (l : List ℕ) where
  short-few : length t ≤ most_accounts → front_of Client l ≡ says wants_more [] → server_step t s l ≡ stays s (says reply.wants_more [])
  unfolding server_step lookup_of
  short-few h e = told-short s l (lookup_of t (entry_of l)) (is_known t (entry_of l)) e (rw (le-ltb _ _ h) refl)

  few-stays : (m : List ℕ) → length t ≤ most_accounts → ((server_step t s l).reply.which ≡ answer reply.wants_more → ⊥) → FrontIs Client l
      → server_step t s (l ++ m) ≡ server_step t s l
  few-stays m h z (stops-short e) = absurd (z (ap (λ (o : StepOutcome Server). o.reply.which) (short-few h e)))
  few-stays m h z (stops_at r e) = step_stays t s l m (at-fault Client l r e)
  few-stays m h z (passes p k vs e a b) = step_stays t s l m (no_more Client l k vs (record { kind = p; front = e; some = a; within = b }))

pub server-stable : (t : List Account) → StepStable Server (server_step t)
server-stable t s l m z =
    below_or_not _ most_accounts (length t) (λ h. too_many t s (l ++ m) h ∙ sym (too_many t s l h)) (λ h. few-stays t s l m h z (front-is Client l))
