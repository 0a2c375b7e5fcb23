-- What a client's step does, by its cases: c is the client, l the stream, k and vs the size and the values of the packet in front.
use mathlib.Core.Path.{◌≡◌, refl, ap}
use mathlib.Core.List.{List, [], ◌∷◌, ◌++◌}
use mathlib.Core.Bool.{true}
use Prim.Native.Nat.{ℕ, suc, ◌+◌, ◌-◌}
use native.Mathlib.Omega.{arith}
use lib.ListN.{get_or}
use lib.Dec.{eqb}
use borrow.Author.Tests.{eqb-true, eqb-false}
use Rattle.wire.specs.Words.{Words, answer, says, refuses}
use Rattle.wire.specs.Bounds.{session_size}
use Rattle.wire.specs.Parts.{first_bytes}
use Rattle.soupbintcp.specs.declared.packet.Sender.TheVariants.{Server}
use Rattle.soupbintcp.specs.Letters.{PacketKind, letter_for}
use Rattle.soupbintcp.specs.Head.{letter_of}
use Rattle.soupbintcp.specs.Front.{packet, front_of, session_of}
use Rattle.soupbintcp.specs.Front as front
use Rattle.soupbintcp.proofs.LetterLaws.{choice}
use Rattle.soupbintcp.proofs.KindLaws.{its-letter}
use Rattle.soupbintcp.proofs.ScanLaws.{FrontIs, stops-short, stops_at, passes, front-is}
use Rattle.soupbintcp_session.specs.Answer.{incoming, SessionAnswerKind, wants_more, accepted, rejected, sequenced, heartbeat, debug, end_of_session, answer_message_at, StepOutcome, stays, takes}
use Rattle.soupbintcp_session.specs.Statements.{StepStable}
use Rattle.soupbintcp_session.proofs.FrontCases.{apart, InFront, no_more, at-fault, front-stays, session-stays, Plain, a-rejection, a-heartbeat, a-debug, an-end, plain-takes, accepted-takes, sequenced-takes, plain-not-sequenced}
use Rattle.soupbintcp_session.proofs.StepLaws.{Rests, waits, refusing, Does}
use Rattle.soupbintcp_session.proofs.StepLaws as does
use Rattle.soupbintcp_session.proofs.RunLaws.{Steady}
use Rattle.soupbintcp_client.specs.declared.client.ClientState.{ClientState}
use Rattle.soupbintcp_client.specs.declared.client.ClientState.TheVariants.{Asked, In, Ended, Closed}
use Rattle.soupbintcp_client.specs.declared.client.Client.{Client}
use Rattle.soupbintcp_client.specs.Client.{client, becomes, session_asked, number_asked, accepted_row, sequenced_row, asked_row, in_row, row_at, client_row, front_row_at, client_step}

pub data ClientDoes (c : Client) (l : List ℕ) (o : StepOutcome Client) : Type 0 where
  rests : (w : Words SessionAnswerKind) → Rests w → o ≡ stays c w → ClientDoes c l o
  logs_in : (k : ℕ) (vs name : List ℕ) → InFront Server l k vs → letter_of l ≡ 65 → c.state ≡ Asked
      → session_asked c.session (session_of Server l) ≡ true → number_asked c.number.0 (get_or vs 0 0) ≡ true
      → o ≡ takes k (says accepted (get_or vs 0 0 ∷ [])) (client name (get_or vs 0 0) In) → ClientDoes c l o
  hands_up : (k : ℕ) (vs : List ℕ) → InFront Server l k vs → letter_of l ≡ 83 → c.state ≡ In
      → o ≡ takes k (says sequenced (c.number.0 ∷ 3 ∷ (k - 3) ∷ [])) (client c.session (c.number.0 + 1) In) → ClientDoes c l o
  goes_by : (k : ℕ) (vs : List ℕ) (w : Words SessionAnswerKind) (t : ClientState) → InFront Server l k vs → (letter_of l ≡ 65 → ⊥) → (letter_of l ≡ 83 → ⊥)
      → Plain w.which → ((c.state ≡ Asked → ⊥) → t ≡ Asked → ⊥) → o ≡ takes k w (becomes c t) → ClientDoes c l o

-- ---- the states that aren't asked

closed-apart : Closed ≡ Asked → ⊥
closed-apart e = let z : ◌≡◌ {A = ℕ} 0 1 = cc in omega arith

pub in-apart : In ≡ Asked → ⊥
in-apart e = let z : ◌≡◌ {A = ℕ} 0 1 = cc in omega arith

ended-apart : Ended ≡ Asked → ⊥
ended-apart e = let z : ◌≡◌ {A = ℕ} 0 1 = cc in omega arith

-- ---- the rows

module _ (c : Client) (l : List ℕ) (k : ℕ) (vs : List ℕ) (i : InFront Server l k vs) where
  abbrev D : StepOutcome Client → Type 0
  D = ClientDoes c l

  refuses-it : (r : ℕ) → D (stays c (refuses r))
  refuses-it r = rests (refuses r) (refusing r) refl

  accepted-does : letter_of l ≡ 65 → c.state ≡ Asked → D (accepted_row c k (session_of Server l) (get_or vs 0 0))
  unfolding accepted_row
  accepted-does a q =
      choice D (session_asked c.session (session_of Server l))
      (λ e. choice D (number_asked c.number.0 (get_or vs 0 0)) (λ f. logs_in k vs (first_bytes session_size (session_of Server l)) i a q e f refl) (λ f. refuses-it _))
      (λ e. refuses-it _)

  asked-does : c.state ≡ Asked → D (asked_row c (incoming k (letter_of l) vs (session_of Server l)))
  unfolding asked_row
  asked-does q =
      choice D (eqb (letter_of l) 65) (λ e. accepted-does (eqb-true _ _ e) q) (λ e.
      choice D (eqb (letter_of l) 74)
      (λ f. goes_by k vs (says rejected vs) Closed i (eqb-false _ _ e) (apart (eqb-true _ _ f) refl) a-rejection (λ n. closed-apart) refl) (λ f.
      choice D (eqb (letter_of l) 43)
      (λ g. goes_by k vs (says debug []) Asked i (eqb-false _ _ e) (apart (eqb-true _ _ g) refl) a-debug (λ n z. n q) refl)
      (λ g. refuses-it _)))

  sequenced-does : letter_of l ≡ 83 → c.state ≡ In → D (sequenced_row c k)
  unfolding sequenced_row
  sequenced-does a q = choice D (eqb c.number.0 18446744073709551615) (λ e. refuses-it _) (λ e. hands_up k vs i a q refl)

  in-does : c.state ≡ In → D (in_row c k (letter_of l))
  unfolding in_row
  in-does q =
      choice D (eqb (letter_of l) 83) (λ e. sequenced-does (eqb-true _ _ e) q) (λ e.
      choice D (eqb (letter_of l) 72)
      (λ f. goes_by k vs (says heartbeat []) In i (apart (eqb-true _ _ f) refl) (eqb-false _ _ e) a-heartbeat (λ n. in-apart) refl) (λ f.
      choice D (eqb (letter_of l) 43)
      (λ g. goes_by k vs (says debug []) In i (apart (eqb-true _ _ g) refl) (eqb-false _ _ e) a-debug (λ n. in-apart) refl) (λ g.
      choice D (eqb (letter_of l) 90)
      (λ h. goes_by k vs (says end_of_session []) Ended i (apart (eqb-true _ _ h) refl) (eqb-false _ _ e) an-end (λ n. ended-apart) refl)
      (λ h. refuses-it _))))

  row-does : (t : ClientState) → c.state ≡ t → D (row_at t c (incoming k (letter_of l) vs (session_of Server l)))
  unfolding row_at
  row-does Asked q = asked-does q
  row-does In q = in-does q
  row-does Ended q = refuses-it _
  row-does Closed q = refuses-it _

-- ---- the step by the front

module _ (c : Client) (l : List ℕ) where
  pub short-rests : front_of Server l ≡ says front.wants_more [] → client_step c l ≡ stays c (says wants_more [])
  unfolding client_step front_row_at
  short-rests e = rw e refl

  fault-rests : (r : ℕ) → front_of Server l ≡ refuses r → client_step c l ≡ stays c (refuses r)
  unfolding client_step front_row_at
  fault-rests r e = rw e refl

  pub packet-row : (p : PacketKind) (k : ℕ) (vs : List ℕ) → front_of Server l ≡ says (packet p) (k ∷ vs)
      → client_step c l ≡ client_row c (incoming k (letter_for p) vs (session_of Server l))
  unfolding client_step front_row_at
  packet-row p k vs e = rw e refl

  pub client-does : ClientDoes c l (client_step c l)
  client-does = go (front-is Server l)
    where
      go : FrontIs Server l → ClientDoes c l (client_step c l)
      go (stops-short e) = rests (says wants_more []) waits (short-rests e)
      go (stops_at r e) = rests (refuses r) (refusing r) (fault-rests r e)
      go (passes p k vs e a b) =
          rw (packet-row p k vs e, ← its-letter Server l p k vs e)
          (row-does c l k vs (record { kind = p; front = e; some = a; within = b }) c.state refl)

-- ---- so it rests or moves, and a run of its steps is steady

client-moves : (c : Client) (l : List ℕ) (o : StepOutcome Client) → ClientDoes c l o → Does c l Server sequenced o
unfolding answer_message_at
client-moves c l o (rests w n e) = does.rests w n e
client-moves c l o (logs_in k vs name i a q x y e) =
    does.moves k vs (says accepted (get_or vs 0 0 ∷ [])) (client name (get_or vs 0 0) In) i accepted-takes (λ z. absurd (not_so z)) e
  where
    not_so : answer accepted ≡ answer sequenced → ⊥
    not_so z = let y : ◌≡◌ {A = ℕ} 0 1 = cc in omega arith
client-moves c l o (hands_up k vs i a q e) =
    does.moves k vs (says sequenced (c.number.0 ∷ 3 ∷ (k - 3) ∷ [])) (client c.session (c.number.0 + 1) In) i sequenced-takes (λ z. refl) e
client-moves c l o (goes_by k vs w t i a b p q e) =
    does.moves k vs w (becomes c t) i (plain-takes w.which p) (λ z. absurd (plain-not-sequenced w.which p z)) e

pub client-rests-or-moves : (c : Client) (l : List ℕ) → Does c l Server sequenced (client_step c l)
client-rests-or-moves c l = client-moves c l (client_step c l) (client-does c l)

step_stays : (c : Client) (l m : List ℕ) → ((front_of Server l).which ≡ answer front.wants_more → ⊥) → client_step c (l ++ m) ≡ client_step c l
unfolding client_step
step_stays c l m z = rw (front-stays Server l m z, session-stays Server l m z) refl

-- a step that isn't need more gives the same on a longer stream
pub client-stable : StepStable Client client_step
client-stable c l m z = go (front-is Server l)
  where
    go : FrontIs Server l → client_step c (l ++ m) ≡ client_step c l
    go (stops-short e) = absurd (z (ap (λ (o : StepOutcome Client). o.reply.which) (short-rests c l e)))
    go (stops_at r e) = step_stays c l m (at-fault Server l r e)
    go (passes p k vs e a b) = step_stays c l m (no_more Server l k vs (record { kind = p; front = e; some = a; within = b }))

client-keeps : (c : Client) (l m : List ℕ) (k : ℕ) → (client_step c l).size ≡ suc k → client_step c (l ++ m) ≡ client_step c l
client-keeps c l m k e = go (client-rests-or-moves c l)
  where
    go : Does c l Server sequenced (client_step c l) → client_step c (l ++ m) ≡ client_step c l
    go (does.rests w n f) = let z : 0 ≡ suc k = rw f at e in absurd (omega arith)
    go (does.moves n vs w t i y x f) = step_stays c l m (no_more Server l n vs i)

pub client-steady : Steady Client client_step
client-steady =
    record {
      fits = λ c l. does.takes-what-is-there (client-rests-or-moves c l);
      keeps = client-keeps;
      silent = λ c l. does.rests-by (client-rests-or-moves c l);
      idle = λ c l. does.takes_none (client-rests-or-moves c l);
    }
