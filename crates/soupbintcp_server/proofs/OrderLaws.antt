-- A server hands up the payloads of U in order, and none before a login: t is the table of accounts, s the server, r a run.
use mathlib.Core.Path.{◌≡◌, refl, ap, sym, ◌∙◌}
use mathlib.Core.List.{List, [], ◌∷◌}
use mathlib.Core.Bool.{false}
use Prim.Native.Nat.{ℕ, suc, ◌-◌}
use native.Mathlib.Omega.{arith}
use lib.ListN.{length, take, drop, length-drop}
use lib.Seq.{take_all, length-take-le}
use borrow.Author.Tests.{ne_eqb}
use Rattle.wire.specs.Words.{Words, Case, says}
use Rattle.soupbintcp.specs.declared.packet.Sender.TheVariants.{Client}
use Rattle.soupbintcp.specs.Head.{letter_of}
use Rattle.soupbintcp.proofs.FrontLaws.{said-packet}
use Rattle.soupbintcp.proofs.StableLaws.{own-letter}
use Rattle.login.specs.declared.account.Account.{Account}
use Rattle.login.specs.Account.{VerdictKind, lookup_of}
use Rattle.soupbintcp_session.specs.Answer.{SessionAnswerKind, accepted, rejected, unsequenced, answer_message_at, StepOutcome}
use Rattle.soupbintcp_session.specs.Stream.{Taking, Run, stopped, then_run, run, packets_of}
use Rattle.soupbintcp_session.proofs.FrontCases.{apart, InFront, Plain, a-rejection, a-heartbeat, a-debug, a-logout, an-end}
use Rattle.soupbintcp_session.proofs.RunLaws.{runs}
use Rattle.soupbintcp_server.specs.declared.server.ServerState.TheVariants.{In, Closed}
use Rattle.soupbintcp_server.specs.declared.server.Server.{Server}
use Rattle.soupbintcp_server.specs.Server.{becomes, entry_of, server_step}
use Rattle.soupbintcp_server.specs.HandedUp.{is_unsequenced, handed_up, is_accepted, before_login, unsequenced_in}
use Rattle.soupbintcp_server.specs.Statements.{HandsUpInOrder}
use Rattle.soupbintcp_server.proofs.ServerCases.{ServerDoes, rests, logs_in, rejects, hands_up, goes_by, never-in, server-does, server-steady}

-- ---- one more packet

module _ (p : List ℕ) (ps : List (List ℕ)) where
  one-U : letter_of p ≡ 85 → unsequenced_in (p ∷ ps) ≡ drop 3 p ∷ unsequenced_in ps
  unfolding unsequenced_in
  one-U e = rw e refl

  no-U : (letter_of p ≡ 85 → ⊥) → unsequenced_in (p ∷ ps) ≡ unsequenced_in ps
  unfolding unsequenced_in
  no-U e = rw (ne_eqb _ _ e) refl

-- a plain answer hands up no message, and lets no one in
plain_quiet : (w : Case SessionAnswerKind) → Plain w → is_unsequenced w ≡ false
unfolding is_unsequenced
plain_quiet w a-rejection = refl
plain_quiet w a-heartbeat = refl
plain_quiet w a-debug = refl
plain_quiet w a-logout = refl
plain_quiet w an-end = refl

plain_out : (w : Case SessionAnswerKind) → Plain w → is_accepted w ≡ false
unfolding is_accepted
plain_out w a-rejection = refl
plain_out w a-heartbeat = refl
plain_out w a-debug = refl
plain_out w a-logout = refl
plain_out w an-end = refl

module _ (b : List ℕ) (w : Words SessionAnswerKind) (xs : List Taking) where
  handed-none : is_unsequenced w.which ≡ false → handed_up (record { bytes = b; reply = w } ∷ xs) ≡ handed_up xs
  unfolding handed_up
  handed-none e = rw e refl

  still_before : is_accepted w.which ≡ false → before_login (record { bytes = b; reply = w } ∷ xs) ≡ record { bytes = b; reply = w } ∷ before_login xs
  unfolding before_login
  still_before e = rw e refl

-- a step that hands up what stands behind the head
handed-one : (b : List ℕ) (k : ℕ) (xs : List Taking) → length b ≡ k
    → handed_up (record { bytes = b; reply = says unsequenced (3 ∷ (k - 3) ∷ []) } ∷ xs) ≡ drop 3 b ∷ handed_up xs
unfolding handed_up is_unsequenced answer_message_at
handed-one b k xs e =
    let d = length-drop 3 b in
    let f : take (k - 3) (drop 3 b) ≡ drop 3 b = take_all (k - 3) (drop 3 b) (omega arith) in
    ap (λ (m : List ℕ). m ∷ handed_up xs) f

-- ---- a run goes on with a packet that the server takes

abbrev Ordered : Server → List ℕ → Run Server → Type 0
Ordered s l r = HandsUpInOrder s r

stops-ordered : (s : Server) (l : List ℕ) (w : Words SessionAnswerKind) → Ordered s l (stopped s l w)
unfolding handed_up packets_of unsequenced_in before_login
stops-ordered s l w = record { in_order = refl; none_before = λ z. refl }

module _ (s : Server) (l : List ℕ) (k : ℕ) (vs : List ℕ) (i : InFront Client l k vs) (r : Run Server) where
  same-letter : letter_of (take k l) ≡ letter_of l
  same-letter = own-letter Client l k (said-packet Client l i.kind k vs i.front).head

  by_login : (m : Server) (ws : List ℕ) → letter_of l ≡ 76 → Ordered m (drop k l) r
      → Ordered s l (then_run (record { bytes = take k l; reply = says accepted ws }) r)
  unfolding packets_of is_unsequenced is_accepted before_login handed_up
  by_login m ws a o =
      record {
        in_order = o.in_order ∙ sym (no-U (take k l) (packets_of r.taken) (apart (same-letter ∙ a) refl));
        none_before = λ z. refl;
      }

  by-U : (m : Server) → letter_of l ≡ 85 → s.state ≡ In → Ordered m (drop k l) r
      → Ordered s l (then_run (record { bytes = take k l; reply = says unsequenced (3 ∷ (k - 3) ∷ []) }) r)
  unfolding packets_of
  by-U m a q o =
      record {
        in_order =
            handed-one (take k l) k r.taken (length-take-le k l i.within) ∙ ap (λ (xs : List (List ℕ)). drop 3 (take k l) ∷ xs) o.in_order
            ∙ sym (one-U (take k l) (packets_of r.taken) (same-letter ∙ a));
        none_before = λ z. absurd (z q);
      }

  by-other : (m : Server) (w : Words SessionAnswerKind) → (letter_of l ≡ 85 → ⊥) → Plain w.which → (m.state ≡ In → s.state ≡ In)
      → Ordered m (drop k l) r → Ordered s l (then_run (record { bytes = take k l; reply = w }) r)
  unfolding packets_of
  by-other m w a p f o =
      record {
        in_order =
            handed-none (take k l) w r.taken (plain_quiet w.which p) ∙ o.in_order
            ∙ sym (no-U (take k l) (packets_of r.taken) (rw same-letter a));
        none_before = λ z.
            ap handed_up (still_before (take k l) w r.taken (plain_out w.which p))
            ∙ handed-none (take k l) w (before_login r.taken) (plain_quiet w.which p) ∙ o.none_before (λ e. z (f e));
      }

-- ---- every step

module _ (s : Server) (l : List ℕ) (x : Words VerdictKind) (k : ℕ) (r : Run Server) where
  -- o is what the step does
  by_step : (o : StepOutcome Server) → ServerDoes s l x o → o.size ≡ suc k → Ordered o.after (drop (suc k) l) r
      → Ordered s l (then_run (record { bytes = take (suc k) l; reply = o.reply }) r)
  by_step o (rests w n e) z h = let y : 0 ≡ suc k = rw e at z in absurd (omega arith)
  by_step o (logs_in n vs ws i a q d e) z h =
      let y : n ≡ suc k = rw e at z in
      rw (e, ← y) (by_login s l n vs i r (becomes s In) ws a (rw e at h))
  by_step o (rejects n vs ws i a q d f e) z h =
      let y : n ≡ suc k = rw e at z in
      rw (e, ← y) (by-other s l n vs i r (becomes s Closed) (says rejected ws) (apart a refl) a-rejection (λ u. absurd (never-in u)) (rw e at h))
  by_step o (hands_up n vs i a q e) z h =
      let y : n ≡ suc k = rw e at z in
      rw (e, ← y) (by-U s l n vs i r (becomes s In) a q (rw e at h))
  by_step o (goes_by n vs w t i a p g f e) z h =
      let y : n ≡ suc k = rw e at z in
      rw (e, ← y) (by-other s l n vs i r (becomes s t) w a p f (rw e at h))

pub hands_up_in_order : (t : List Account) (s : Server) (l : List ℕ) → HandsUpInOrder s (run (server_step t) s l)
unfolding server_step
hands_up_in_order t =
    runs (server_step t) (server-steady t) Ordered (λ s l e. stops-ordered s l (server_step t s l).reply)
    (λ s l k r e h o. by_step s l (lookup_of t (entry_of l)) k r (server_step t s l) (server-does s (lookup_of t (entry_of l)) l) e o)
