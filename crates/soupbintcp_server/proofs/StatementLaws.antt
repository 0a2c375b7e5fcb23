-- What the session at the server promises beside its answers: t is the table of accounts, s the server, l the stream.
use mathlib.Core.Path.{◌≡◌, refl, ap, sym, ◌∙◌}
use mathlib.Core.List.{List, [], ◌∷◌}
use mathlib.Core.Bool.{Bool, true, false}
use Prim.Native.Nat.{ℕ, ◌≤◌}
use native.Mathlib.Omega.{arith}
use lib.ListN.{length, drop, get_or}
use borrow.Author.Tests.{le-ltb}
use Rattle.std.specs.Prelude.{if◌then◌else◌}
use Rattle.wire.specs.Words.{Words, Case, answer, refused, says, refuses}
use Rattle.soupbintcp.specs.declared.packet.Sender.TheVariants.{Client}
use Rattle.soupbintcp.specs.Letters.{PacketKind, login, unsequenced, client_heartbeat, debug, logout, letter_for}
use Rattle.soupbintcp.specs.Fields.{has_fields, not_authorized, session_not_available, good_reason}
use Rattle.soupbintcp.specs.Front.{FrontKind, packet, wants_more, front_of, session_of}
use Rattle.login.specs.declared.account.Account.{Account}
use Rattle.wire.specs.declared.refusal.Refusal.{Refusal}
use Rattle.std.specs.Prelude.{is_ok, Ok, Err}
use Rattle.login.specs.Account.{VerdictKind, known, unknown, most_accounts, verdict_of, is_known, lookup_of, Found, found_records, verdict_on}
use Rattle.login.specs.Decision.{login_of}
use Rattle.login.specs.Decision as decided
use Rattle.login.specs.Statements.{NotRefused}
use Rattle.login.proofs.FoundLaws.{says-refused, says-of-one}
use Rattle.login.proofs.StatementLaws.{accepted_exactly_when, never_accepted}
use Rattle.soupbintcp_session.specs.Answer.{Incoming, incoming, StepOutcome, takes}
use Rattle.soupbintcp_session.specs.Statements.{StaysOver}
use Rattle.soupbintcp_session.specs.Answer as reply
use Rattle.soupbintcp_session.proofs.FrontCases.{a-rejection, numbered-in-front, accepted-takes, unsequenced-takes, plain-takes, plain-not-accepted, plain-not-unsequenced}
use Rattle.soupbintcp_session.proofs.StepLaws.{never-rests, changes_nothing, takes_packets, hands_up}
use Rattle.soupbintcp_session.proofs.RunLaws.{any_cutting, runs_on, runs_by_step}
use Rattle.soupbintcp_server.specs.declared.server.ServerState.TheVariants.{Waiting, In, Closed}
use Rattle.soupbintcp_server.specs.declared.server.ServerState.{ServerState}
use Rattle.soupbintcp_server.specs.declared.server.Server.{Server}
use Rattle.soupbintcp_server.specs.declared.server.Stepped.{Stepped}
use Rattle.soupbintcp_server.specs.Server.{becomes, login_at, login_row, waiting_row, in_row, row_at, front_row_at, step_at, step_with, entry_of, server_step, ServerSteps}
use Rattle.soupbintcp_server.specs.Statements.{LoginInFront, EntryIsItsFields, attempt_of, Accepts, OnlyByTheRules, Rejects, LoginExactlyWhen, WasIn, before, by_login, TakesTheOthers, RefusesTheOthers, ServerPromises}
use Rattle.soupbintcp_server.proofs.LoginLaws.{username-first, password-first}
use Rattle.soupbintcp_server.proofs.ServerCases.{ServerDoes, server-does, keeps, server-rests-or-moves, server-steady, with-rests-or-moves}
use Rattle.soupbintcp_server.proofs.ServerCases as cases
use Rattle.soupbintcp_server.proofs.StableLaws.{too_many, server-stable}
use Rattle.soupbintcp_server.proofs.OrderLaws.{hands_up_in_order}
use Rattle.soupbintcp_server.proofs.ExampleLaws.{server-example}

pub entry-is-its-fields : EntryIsItsFields
unfolding EntryIsItsFields entry_of
entry-is-its-fields l size n e = rw (username-first l size (n ∷ []) e, password-first l size (n ∷ []) e) refl

-- a login request that isn't refused goes by what is decided on it
told-row : (s : Server) (x : Words VerdictKind) (l : List ℕ) (size n : ℕ) (b : Bool) → s.state ≡ Waiting → LoginInFront l size n → x ≡ verdict_of b
    → step_with s x l ≡ login_row s size (decided.decision_of x (session_of Client l) n s.session s.last.0)
unfolding step_at verdict_of row_at waiting_row letter_for
told-row s x l size n true q e f = rw f (cases.packet-row s (says known []) l login size (n ∷ []) e ∙ rw q refl)
told-row s x l size n false q e f = rw f (cases.packet-row s (says unknown []) l login size (n ∷ []) e ∙ rw q refl)

module _ (t : List Account) (s : Server) (l : List ℕ) (size n : ℕ) (q : s.state ≡ Waiting) (e : LoginInFront l size n) (z : NotRefused (attempt_of t s l n)) where
  pub decided-row : server_step t s l ≡ login_row s size (login_of (attempt_of t s l n))
  unfolding server_step lookup_of EntryIsItsFields
  decided-row =
      told-row s (lookup_of t (entry_of l)) l size n (is_known t (entry_of l)) q e (rw (le-ltb _ _ z) refl)
      ∙ ap (λ (a : Account). login_row s size (decided.decision_of (lookup_of t a) (session_of Client l) n s.session s.last.0)) (entry-is-its-fields l size n e)

  accepts-it : (vs : List ℕ) → login_of (attempt_of t s l n) ≡ says decided.accepted vs → server_step t s l ≡ takes size (says reply.accepted vs) (becomes s In)
  unfolding login_at
  accepts-it vs f = decided-row ∙ rw f refl

  rejects-it : (vs : List ℕ) → login_of (attempt_of t s l n) ≡ says decided.rejected vs → server_step t s l ≡ takes size (says reply.rejected vs) (becomes s Closed)
  unfolding login_at
  rejects-it vs f = decided-row ∙ rw f refl

unsequenced-apart : answer reply.unsequenced ≡ answer reply.accepted → ⊥
unsequenced-apart e = let z : ◌≡◌ {A = ℕ} 0 1 = cc in omega arith

accepts : (t : List Account) (s : Server) (l : List ℕ) (o : StepOutcome Server) → ServerDoes s l (lookup_of t (entry_of l)) o
    → o.reply.which ≡ answer reply.accepted → Accepts t s l
unfolding EntryIsItsFields letter_for has_fields
accepts t s l o (cases.rests w n e) z =
    absurd (never-rests w n reply.accepted accepted-takes (rw e at z))
accepts t s l o (cases.logs_in k vs ws i a q d e) z =
    let g : LoginInFront l k (get_or vs 0 0) = numbered-in-front Client l k vs login i a refl in
    record {
      waiting = q;
      size = k;
      number = get_or vs 0 0;
      front = g;
      rules = accepted_exactly_when.rules.only_when (attempt_of t s l (get_or vs 0 0)) (rw (entry-is-its-fields l k (get_or vs 0 0) g) at d);
    }
accepts t s l o (cases.rejects k vs ws i a q d f e) z =
    absurd (plain-not-accepted (answer reply.rejected) a-rejection (rw e at z))
accepts t s l o (cases.hands_up k vs i n q e) z = absurd (unsequenced-apart (rw e at z))
accepts t s l o (cases.goes_by k vs w u i n p g f e) z = absurd (plain-not-accepted w.which p (rw e at z))

-- who is in was so before the step, or logs in by it
is-in : (t : List Account) (s : Server) (l : List ℕ) (o : StepOutcome Server) → ServerDoes s l (lookup_of t (entry_of l)) o → o.after.state ≡ In → WasIn t s l
is-in t s l o (cases.rests w n e) z = before (rw e at z)
is-in t s l o (cases.logs_in k vs ws i a q d e) z = by_login (accepts t s l o (cases.logs_in k vs ws i a q d e) (rw e refl))
is-in t s l o (cases.rejects k vs ws i a q d f e) z = absurd (cases.never-in (rw e at z))
is-in t s l o (cases.hands_up k vs i n q e) z = before q
is-in t s l o (cases.goes_by k vs w u i n p g f e) z = before (f (rw e at z))

hands-up-in : (s : Server) (l : List ℕ) (x : Words VerdictKind) (o : StepOutcome Server) → ServerDoes s l x o → o.reply.which ≡ answer reply.unsequenced → s.state ≡ In
hands-up-in s l x o (cases.rests w n e) z = absurd (never-rests w n reply.unsequenced unsequenced-takes (rw e at z))
hands-up-in s l x o (cases.logs_in k vs ws i a q d e) z = absurd (unsequenced-apart (sym (rw e at z)))
hands-up-in s l x o (cases.rejects k vs ws i a q d f e) z =
    absurd (plain-not-unsequenced (answer reply.rejected) a-rejection (rw e at z))
hands-up-in s l x o (cases.hands_up k vs i n q e) z = q
hands-up-in s l x o (cases.goes_by k vs w u i n p g f e) z = absurd (plain-not-unsequenced w.which p (rw e at z))

module _ (t : List Account) (s : Server) (l : List ℕ) where
  only_in : (server_step t s l).after.state ≡ In → WasIn t s l
  unfolding server_step
  only_in z = is-in t s l (server_step t s l) (server-does s (lookup_of t (entry_of l)) l) z

  hands_up_only_in : (server_step t s l).reply.which ≡ answer reply.unsequenced → s.state ≡ In
  unfolding server_step
  hands_up_only_in z = hands-up-in s l (lookup_of t (entry_of l)) (server_step t s l) (server-does s (lookup_of t (entry_of l)) l) z

-- ---- a rejection

accepted-not-rejected : answer decided.accepted ≡ answer decided.rejected → ⊥
accepted-not-rejected e = let z : ◌≡◌ {A = ℕ} 0 1 = cc in omega arith

refused-not-rejected : ◌≡◌ {A = Case decided.DecisionKind} refused (answer decided.rejected) → ⊥
refused-not-rejected e = let z : ◌≡◌ {A = ℕ} 0 1 = cc in omega arith

-- its reason
pub record HasReason (w : Words decided.DecisionKind) : Type 0 where
  pub reason : ℕ
  pub good : good_reason reason ≡ true
  pub values : w.values ≡ reason ∷ []

module _ (asked : List ℕ) (wanted : ℕ) (session : List ℕ) (last r : ℕ) where
  because : (c : Case VerdictKind) → (decided.decision_at c r asked wanted session last).which ≡ answer decided.rejected
      → HasReason (decided.decision_at c r asked wanted session last)
  unfolding decided.decision_at good_reason
  because (answer known) e = go (decided.session_holds asked session) (decided.number_holds wanted last) e
    where
      go : (a b : Bool)
          → (if a then (if b then says decided.accepted (decided.granted wanted last ∷ []) else decided.rejects session_not_available)
          else decided.rejects session_not_available).which ≡ answer decided.rejected
          → HasReason (if a then (if b then says decided.accepted (decided.granted wanted last ∷ []) else decided.rejects session_not_available)
          else decided.rejects session_not_available)
      go true true e = absurd (accepted-not-rejected e)
      go true false e = record { reason = session_not_available; good = refl; values = refl }
      go false b e = record { reason = session_not_available; good = refl; values = refl }
  because (answer unknown) e = record { reason = not_authorized; good = refl; values = refl }
  because refused e = absurd (refused-not-rejected e)

rejects-so : (t : List Account) (s : Server) (l : List ℕ) → ServerDoes s l (lookup_of t (entry_of l)) (server_step t s l)
    → (server_step t s l).reply.which ≡ answer reply.rejected → Rejects t s l
unfolding letter_for has_fields
rejects-so t s l (cases.rests w n e) z = absurd (never-rests w n reply.rejected (plain-takes (answer reply.rejected) a-rejection) (rw e at z))
rejects-so t s l (cases.logs_in k vs ws i a q d e) z = absurd (plain-not-accepted (answer reply.rejected) a-rejection (sym (rw e at z)))
rejects-so t s l (cases.rejects k vs ws i a q d f e) z =
    let x = lookup_of t (entry_of l) in
    let b = because (session_of Client l) (get_or vs 0 0) s.session s.last.0 x.refusal x.which d in
    record {
      waiting = q;
      size = k;
      number = get_or vs 0 0;
      front = numbered-in-front Client l k vs login i a refl;
      reason = b.reason;
      good = b.good;
      answers = e ∙ ap (λ (us : List ℕ). takes k (says reply.rejected us) (becomes s Closed)) (f ∙ b.values);
    }
rejects-so t s l (cases.hands_up k vs i n q e) z = absurd (plain-not-unsequenced (answer reply.rejected) a-rejection (sym (rw e at z)))
rejects-so t s l (cases.goes_by k vs w u i n p g f e) z = absurd (g (rw e at z))

only_rejects : (t : List Account) (s : Server) (l : List ℕ) → (server_step t s l).reply.which ≡ answer reply.rejected → Rejects t s l
unfolding server_step
only_rejects t s l z = rejects-so t s l (server-does s (lookup_of t (entry_of l)) l) z

-- ---- the other packets: a row of the state q, with a table that isn't too long

told-other : (s : Server) (x : Words VerdictKind) (l : List ℕ) (kind : PacketKind) (size : ℕ) (vs : List ℕ) (state : ServerState) (b : Bool) → s.state ≡ state
    → front_of Client l ≡ says (packet kind) (size ∷ vs) → x ≡ verdict_of b
    → step_with s x l ≡ row_at state s x (incoming size (letter_for kind) vs (session_of Client l))
unfolding step_at verdict_of
told-other s x l kind size vs state true q e f = rw f (cases.packet-row s (says known []) l kind size vs e ∙ ap (λ (y : ServerState). row_at y s (says known []) (incoming size (letter_for kind) vs (session_of Client l))) q)
told-other s x l kind size vs state false q e f = rw f (cases.packet-row s (says unknown []) l kind size vs e ∙ ap (λ (y : ServerState). row_at y s (says unknown []) (incoming size (letter_for kind) vs (session_of Client l))) q)

row : (t : List Account) (s : Server) (l : List ℕ) (kind : PacketKind) (size : ℕ) (vs : List ℕ) (state : ServerState) → length t ≤ most_accounts → s.state ≡ state
    → front_of Client l ≡ says (packet kind) (size ∷ vs)
    → server_step t s l ≡ row_at state s (lookup_of t (entry_of l)) (incoming size (letter_for kind) vs (session_of Client l))
unfolding server_step lookup_of
row t s l kind size vs state z q e = told-other s (lookup_of t (entry_of l)) l kind size vs state (is_known t (entry_of l)) q e (rw (le-ltb _ _ z) refl)

-- a state that stays is the server's own
own-state : (s : Server) (size : ℕ) (w : Words reply.SessionAnswerKind) (state : ServerState) → s.state ≡ state → takes size w (becomes s state) ≡ takes size w s
own-state s size w state q = sym (ap (λ (x : ServerState). takes size w (becomes s x)) q)

takes_the_others : TakesTheOthers
unfolding letter_for row_at waiting_row in_row
takes_the_others =
    record {
      in_unsequenced = λ t s l size z q e. row t s l unsequenced size [] In z q e ∙ own-state s size _ In q;
      heartbeat_in = λ t s l size z q e. row t s l client_heartbeat size [] In z q e ∙ own-state s size _ In q;
      debug_in = λ t s l size z q e. row t s l debug size [] In z q e ∙ own-state s size _ In q;
      logout_in = λ t s l size z q e. row t s l logout size [] In z q e;
      debug_waiting = λ t s l size z q e. row t s l debug size [] Waiting z q e ∙ own-state s size _ Waiting q;
    }

refuses_the_others : RefusesTheOthers
unfolding letter_for row_at waiting_row in_row
refuses_the_others =
    record {
      unsequenced_waiting = λ t s l size z q e. row t s l unsequenced size [] Waiting z q e;
      heartbeat_waiting = λ t s l size z q e. row t s l client_heartbeat size [] Waiting z q e;
      logout_waiting = λ t s l size z q e. row t s l logout size [] Waiting z q e;
      login_in = λ t s l size n z q e. row t s l login size (n ∷ []) In z q e;
      any_closed = λ t s l kind size vs z q e. row t s l kind size vs Closed z q e;
    }

-- ---- closed refuses every packet

module _ (s : Server) (q : s.state ≡ Closed) (v : Words VerdictKind) where
  over-row : (p : Incoming) → StaysOver Server s (row_at s.state s v p)
  unfolding row_at
  over-row p = rw q (record { takes_none = refl; unchanged = refl })

  over-front : (asked : List ℕ) (w : Words FrontKind) (k : Case FrontKind) → StaysOver Server s (front_row_at s v asked w k)
  unfolding front_row_at
  over-front asked w (answer (packet p)) = over-row (incoming (get_or w.values 0 0) (letter_for p) (drop 1 w.values) asked)
  over-front asked w (answer wants_more) = record { takes_none = refl; unchanged = refl }
  over-front asked w refused = record { takes_none = refl; unchanged = refl }

  over-step : (l : List ℕ) (k : Case VerdictKind) → StaysOver Server s (step_at k s v l)
  unfolding step_at
  over-step l (answer x) = over-front (session_of Client l) (front_of Client l) (front_of Client l).which
  over-step l refused = record { takes_none = refl; unchanged = refl }

stays_over : (t : List Account) (s : Server) (l : List ℕ) → s.state ≡ Closed → StaysOver Server s (server_step t s l)
unfolding server_step
stays_over t s l q = let v = lookup_of t (entry_of l) in over-step s q v l v.which

login_exactly_when : LoginExactlyWhen
unfolding server_step
login_exactly_when =
    record {
      when = λ t s l size n q e z f. accepts-it t s l size n q e z _ (accepted_exactly_when.rules.when (attempt_of t s l n) z f);
      only_when = λ t s l z. accepts t s l (server_step t s l) (server-does s (lookup_of t (entry_of l)) l) z;
      else_A = λ t s l size n q e z f. rejects-it t s l size n q e z _ (accepted_exactly_when.rules.else_A (attempt_of t s l n) z f);
      else_S = λ t s l size n q e z f g. rejects-it t s l size n q e z _ (accepted_exactly_when.rules.else_S (attempt_of t s l n) z f g);
      no_username = λ t s l size n q e z f. rejects-it t s l size n q e z _ (never_accepted.username (attempt_of t s l n) z f);
      no_password = λ t s l size n q e z f. rejects-it t s l size n q e z _ (never_accepted.password (attempt_of t s l n) z f);
      too_many = too_many;
    }

-- ---- what is said to be found, whoever says so

table-of-one : (f : Found) (s : Server) (l : List ℕ) → is_ok f ≡ true → step_with s (verdict_on f (entry_of l)) l ≡ server_step (found_records f) s l
unfolding server_step found_records
table-of-one (Ok a) s l h = rw (says-of-one (entry_of l) a) refl
table-of-one (Err r) s l h = let z : ◌≡◌ {A = ℕ} 0 1 = cc in absurd (omega arith)

refused-out : (r : Refusal) (s : Server) (l : List ℕ) → (step_with s (verdict_on (Err r) (entry_of l)) l).reply.which ≡ answer reply.accepted → ⊥
unfolding step_at
refused-out r s l w =
    let x : (refuses {K = reply.SessionAnswerKind} 19).which ≡ answer reply.accepted = rw (says-refused (entry_of l) r) at w in
    let z : ◌≡◌ {A = ℕ} 0 1 = cc in
    omega arith

only_by_its_record : (f : Found) (s : Server) (l : List ℕ) → (step_with s (verdict_on f (entry_of l)) l).reply.which ≡ answer reply.accepted → Accepts (found_records f) s l
only_by_its_record (Ok a) s l w =
    login_exactly_when.only_when (found_records (Ok a)) s l (ap (λ (o : StepOutcome Server). o.reply.which) (sym (table-of-one (Ok a) s l refl)) ∙ w)
only_by_its_record (Err r) s l w = absurd (refused-out r s l w)

pub only-by-the-rules : (r : Stepped) (t : List Account) (s : Server) (l : List ℕ) → ServerSteps r (server_step t s l) → OnlyByTheRules r t s l
unfolding OnlyByTheRules
only-by-the-rules r t s l o e =
    login_exactly_when.only_when t s l (ap (λ (w : Words reply.SessionAnswerKind). w.which) (sym o.answers) ∙ e)

-- the same of a step from what was found
pub by-a-record : (r : Stepped) (f : Found) (s : Server) (l : List ℕ) → ServerSteps r (step_with s (verdict_on f (entry_of l)) l) → OnlyByTheRules r (found_records f) s l
unfolding OnlyByTheRules
by-a-record r f s l o e = only_by_its_record f s l (ap (λ (w : Words reply.SessionAnswerKind). w.which) (sym o.answers) ∙ e)

pub server-promises : ServerPromises
server-promises =
    record {
      login_exactly_when = login_exactly_when;
      only_in = only_in;
      hands_up_only_in = hands_up_only_in;
      only_by_its_record = only_by_its_record;
      made_up_is_a_table_of_one = table-of-one;
      only_rejects = only_rejects;
      takes_the_others = takes_the_others;
      refuses_the_others = refuses_the_others;
      stays_over = stays_over;
      example = server-example;
      changes_nothing = λ t. changes_nothing (server_step t) Client reply.unsequenced (server-rests-or-moves t);
      changes_nothing_with = λ v. changes_nothing (λ s l. step_with s (v l) l) Client reply.unsequenced (with-rests-or-moves v);
      takes_packets = λ t. takes_packets (server_step t) Client reply.unsequenced (server-rests-or-moves t);
      keeps = keeps;
      hands_up_in_order = hands_up_in_order;
      hands_up_payload = λ t. hands_up (server_step t) Client reply.unsequenced (server-rests-or-moves t) unsequenced-takes;
      step_stable = server-stable;
      runs_on = λ t. runs_on (server_step t) (server-steady t);
      runs_by_step = λ t. runs_by_step (server_step t) (server-steady t);
      any_cutting = λ t. any_cutting (server_step t) (server-steady t);
    }
