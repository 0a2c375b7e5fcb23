-- What is promised of a reply: t is the table of accounts, s the server, l the stream.
use mathlib.Core.Path.{◌≡◌, refl, ap, sym, ◌∙◌}
use mathlib.Core.List.{List, [], ◌∷◌, ◌++◌}
use mathlib.Core.Bool.{Bool, true, false}
use Prim.Native.Nat.{ℕ, ◌+◌, ◌≤◌, ◌<◌}
use native.Mathlib.Omega.{arith}
use lib.ListN.{length}
use lib.Dec.{ltb}
use borrow.Author.Tests.{eq-eqb, ne_eqb, ltb-false, le-ltb, lt-leb}
use Rattle.std.specs.Prelude.{if◌then◌else◌}
use Rattle.wire.specs.Bounds.{session_size, largest_number}
use Rattle.wire.specs.Words.{Case, answer, refused, says}
use Rattle.wire.specs.Refusals.{output_short}
use Rattle.std.specs.Prelude.{Ok}
use Rattle.wire.specs.Output.{wrote, written_words, write_refusal, write_answer, write_output, OnlyWhatItReports}
use Rattle.wire.proofs.Cases.{below_or_not, zero_or_not}
use Rattle.wire.proofs.Outputs.{put-empty, no-write-refusal, wrote-front, output-laws}
use Rattle.text_fields.specs.Session.{good_session}
use Rattle.soupbintcp.specs.Letters as letter
use Rattle.soupbintcp.specs.Fields.{session_not_available, good_reason}
use Rattle.soupbintcp_writer.specs.Packets.{encoded, accepted_ground, accepted_payload, reason_ground}
use Rattle.soupbintcp_writer.specs.RoundTrips.{accepted_bytes, AcceptedReads}
use Rattle.soupbintcp_writer.proofs.WriteLaws.{length-packet, length-accepted}
use Rattle.soupbintcp_writer.proofs.RoundTripLaws.{accepted-round-trip, rejected-round-trip}
use Rattle.login.specs.declared.account.Account.{Account}
use Rattle.login.specs.Account.{most_accounts, verdict_of, is_known, lookup_of}
use Rattle.login.specs.Decision as decided
use Rattle.login.specs.Statements.{SessionRule, asks_blank, asks_ours, Rules}
use Rattle.login.proofs.StatementLaws.{accepted_exactly_when}
use Rattle.soupbintcp_session.specs.Answer.{SessionAnswerKind, wants_more, accepted, rejected, sequenced, unsequenced, heartbeat, debug, logged_out, end_of_session, StepOutcome, takes}
use Rattle.soupbintcp_server.specs.declared.server.ServerState.TheVariants as state
use Rattle.soupbintcp_server.specs.declared.server.Server.{Server}
use Rattle.soupbintcp_server.specs.Server.{becomes, largest_last, login_at, server_start_refusal, start_server, last_refusal, with_last, server_step}
use Rattle.soupbintcp_server.specs.Statements.{attempt_of, Accepts, Rejects}
use Rattle.soupbintcp_server.proofs.StatementLaws.{server-promises, decided-row}
use Rattle.soupbintcp_client.specs.declared.client.ClientState.TheVariants as client-state
use Rattle.soupbintcp_client.specs.declared.client.Client.{Client}
use Rattle.soupbintcp_client.specs.Client as client
use Rattle.soupbintcp_client.specs.Statements.{SessionFits, any_session, this_session, NumberFits, any_number, this_number}
use Rattle.soupbintcp_client.proofs.ClientCases as client-cases
use Rattle.soupbintcp_client.proofs.StatementLaws.{client-promises}
use Rattle.soupbintcp_reply.specs.Reply.{reply_at, reply_ground_at, reply_of, reply_ground, reply_refusal, reply_outcome, reply_written}
use Rattle.soupbintcp_reply.proofs.ReplyLaws.{outcome-written, outcome-refused, size-written, size-refused, output-kept}
use Rattle.soupbintcp_reply.proofs.ExampleLaws.{reply_bytes}
use Rattle.soupbintcp_reply.specs.Statements.{Undone, RefusalUndoes, WrittenInFront, ReplyStands, longest_reply, WasStarted, ReplyIsWritten, written_by, AskedBy, Ends, both_in, both_closed, Handshake, ReplyPromises}

-- ---- a refusal undoes all

module _ (t : List Account) (s : Server) (l out : List ℕ) where
  abbrev o : StepOutcome Server
  o = server_step t s l

  -- a step that is refused has no reply
  silent-step : o.reply.which ≡ refused → reply_of s.session o.reply ≡ []
  unfolding reply_at
  silent-step e = rw e refl

  silent-ground : o.reply.which ≡ refused → reply_ground s.session o.reply ≡ 0
  unfolding reply_ground_at
  silent-ground e = rw e refl

  by-the-step : reply_refusal s o out ≡ 0 → (reply_outcome s o out).reply.which ≡ refused → Undone s o out
  by-the-step z e =
      let same = outcome-written s o out z in
      let which : o.reply.which ≡ refused = rw same at e in
      record {
        outcome = rw same ((server-promises.changes_nothing t).refusal s l which);
        written = size-written s o out z ∙ ap length (silent-step which);
        output = rw (silent-ground which, silent-step which) (put-empty out 0);
      }

  by-the-reply : (reply_refusal s o out ≡ 0 → ⊥) → Undone s o out
  by-the-reply z =
      record {
        outcome = rw (outcome-refused s o out z) refl;
        written = size-refused s o out z;
        output = output-kept _ out _ z;
      }

refusal_undoes : RefusalUndoes
unfolding RefusalUndoes
refusal_undoes t s l out e = zero_or_not _ (reply_refusal s (server_step t s l) out) (λ z. by-the-step t s l out z e) (λ z. by-the-reply t s l out z)

-- ---- what is written stands in front

module _ (s : Server) (o : StepOutcome Server) (out : List ℕ) (z : reply_refusal s o out ≡ 0) where
  abbrev bs : List ℕ
  bs = reply_of s.session o.reply

  abbrev g : ℕ
  g = reply_ground s.session o.reply

  wrote_it : write_answer g out 0 bs ≡ says wrote (length bs ∷ [])
  unfolding write_answer
  wrote_it = rw (eq-eqb _ _ z)

  stands : WrittenInFront s o out
  unfolding written_words OnlyWhatItReports
  stands =
      let k : reply_written s o out ≡ length bs = size-written s o out z in
      let zero-plus : 0 + length bs ≡ length bs = omega arith in
      record {
        front = rw k (wrote-front g out bs (length bs) wrote_it);
        behind = rw (k, ← zero-plus)
            (output-laws.only_what_it_reports (Ok (length bs)) out (write_output g out 0 bs) g 0 bs (length bs)
            (record { answers = sym wrote_it; leaves = refl }) refl);
      }

reply_stands : ReplyStands
unfolding ReplyStands
reply_stands s o out z = stands s o out z

-- ---- what a start took

record Taken (name : List ℕ) (last : ℕ) : Type 0 where
  good : good_session false name ≡ true
  most : last ≤ largest_last

taken-so : (name : List ℕ) (last : ℕ) → server_start_refusal name last ≡ 0 → Taken name last
unfolding server_start_refusal
taken-so name last = go (good_session false name) refl (ltb last 0) (ltb largest_last last) refl
  where
    go : (a : Bool) → good_session false name ≡ a → (b c : Bool) → ltb largest_last last ≡ c
        → ◌≡◌ {A = ℕ} (if a then (if b then 19 else if c then 19 else 0) else 19) 0 → Taken name last
    go true e false false f h = record { good = e; most = ltb-false _ _ f }
    go true e true c f h = absurd (omega arith)
    go true e false true f h = absurd (omega arith)
    go false e b c f h = absurd (omega arith)

-- ---- a server that was started stays so

good_start : (name : List ℕ) (last : ℕ) → good_session false name ≡ true → last ≤ largest_last → server_start_refusal name last ≡ 0
unfolding server_start_refusal
good_start name last e h = let z : 0 ≤ last = omega arith in rw (e, le-ltb _ _ z, le-ltb _ _ h)

last-so : (s : Server) (last : ℕ) → last_refusal s last ≡ 0 → last ≤ largest_last
unfolding last_refusal
last-so s last = go (ltb last s.last.0) (ltb largest_last last) refl
  where
    go : (a b : Bool) → ltb largest_last last ≡ b → ◌≡◌ {A = ℕ} (if a then 19 else if b then 19 else 0) 0 → last ≤ largest_last
    go true b f h = absurd (omega arith)
    go false true f h = absurd (omega arith)
    go false false f h = ltb-false _ _ f

started-fresh : (name : List ℕ) (last : ℕ) → length name ≡ session_size → server_start_refusal name last ≡ 0 → WasStarted (start_server name last)
unfolding start_server
started-fresh name last h e = rw e (record { ten_bytes = h; taken = e })

started-step : (t : List Account) (s : Server) (l : List ℕ) → WasStarted s → WasStarted (server_step t s l).after
started-step t s l w =
    let k = server-promises.keeps t s l in
    record { ten_bytes = ap length k.session ∙ w.ten_bytes; taken = rw (k.session, k.last) w.taken }

started-last : (s : Server) (last : ℕ) → WasStarted s → WasStarted (with_last s last)
unfolding with_last
started-last s last w =
    zero_or_not _ (last_refusal s last)
    (λ z.
    rw (eq-eqb _ _ z)
    (record {
      ten_bytes = w.ten_bytes;
      taken = good_start s.session last (taken-so _ _ w.taken).good (last-so s last z);
    }))
    (λ z. rw (ne_eqb _ _ z) w)

-- ---- the grounds of both replies

accepted-ground : (name : List ℕ) (n : ℕ) → good_session false name ≡ true → 1 ≤ n → accepted_ground name n ≡ 0
unfolding accepted_ground
accepted-ground name n e h = rw (e, ne_eqb n 0 (λ z. omega arith))

reason-ground : (reason : ℕ) → good_reason reason ≡ true → reason_ground reason ≡ 0
unfolding reason_ground
reason-ground reason e = rw e

-- ---- a login that was accepted

record AcceptedStep (t : List Account) (s : Server) (l : List ℕ) : Type 0 where
  size : ℕ
  number : ℕ
  step : server_step t s l ≡ takes size (says accepted (decided.granted number s.last.0 ∷ [])) (becomes s state.In)

accepted-step : (t : List Account) (s : Server) (l : List ℕ) → (server_step t s l).reply.which ≡ answer accepted → AcceptedStep t s l
accepted-step t s l e =
    let a : Accepts t s l = server-promises.login_exactly_when.only_when t s l e in
    below_or_not _ most_accounts (length t)
    (λ h. absurd (too_long (rw (server-promises.login_exactly_when.too_many t s l h) at e)))
    (λ h.
    record {
      size = a.size;
      number = a.number;
      step = server-promises.login_exactly_when.when t s l a.size a.number a.waiting a.front h a.rules;
    })
  where
    too_long : ◌≡◌ {A = Case SessionAnswerKind} refused (answer accepted) → ⊥
    too_long z = let y : ◌≡◌ {A = ℕ} 0 1 = cc in omega arith

-- a reply that is refused lets no one in
accepts_only_by_the_rules : (t : List Account) (s : Server) (l out : List ℕ) → (reply_outcome s (server_step t s l) out).reply.which ≡ answer accepted → Accepts t s l
accepts_only_by_the_rules t s l out e =
    zero_or_not _ (reply_refusal s (server_step t s l) out)
    (λ z. server-promises.login_exactly_when.only_when t s l (rw (outcome-written s (server_step t s l) out z) at e))
    (λ z. absurd (undone (rw (outcome-refused s (server_step t s l) out z) at e)))
  where
    undone : ◌≡◌ {A = Case SessionAnswerKind} refused (answer accepted) → ⊥
    undone z = let y : ◌≡◌ {A = ℕ} 0 1 = cc in omega arith

-- ---- the reply is written

short-refusal : (l bs : List ℕ) → length l < length bs → write_refusal 0 l 0 bs ≡ output_short
unfolding write_refusal
short-refusal l bs h = let z : length l < 0 + length bs = omega arith in rw (lt-leb _ _ z)

module _ (t : List Account) (s : Server) (l : List ℕ) (w : WasStarted s) where
  ground-none : (c : Case SessionAnswerKind) → (server_step t s l).reply.which ≡ c → reply_ground s.session (server_step t s l).reply ≡ 0
  unfolding reply_ground_at
  ground-none (answer wants_more) e = rw e refl
  ground-none (answer accepted) e =
      let a = accepted-step t s l e in
      rw a.step (accepted-ground s.session _ (taken-so _ _ w.taken).good (accepted_exactly_when.from_one (attempt_of t s l a.number)))
  ground-none (answer rejected) e = let r : Rejects t s l = server-promises.only_rejects t s l e in rw r.answers (reason-ground r.reason r.good)
  ground-none (answer sequenced) e = rw e refl
  ground-none (answer unsequenced) e = rw e refl
  ground-none (answer heartbeat) e = rw e refl
  ground-none (answer debug) e = rw e refl
  ground-none (answer logged_out) e = rw e refl
  ground-none (answer end_of_session) e = rw e refl
  ground-none refused e = rw e refl

  nothing : 0 ≤ longest_reply
  nothing = omega arith

  longest : (c : Case SessionAnswerKind) → (server_step t s l).reply.which ≡ c → length (reply_of s.session (server_step t s l).reply) ≤ longest_reply
  unfolding reply_at
  longest (answer wants_more) e = rw e nothing
  longest (answer accepted) e =
      let a = accepted-step t s l e in
      let n = decided.granted a.number s.last.0 in
      rw a.step (omega (arith, length-packet letter.letter_accepted (accepted_payload s.session n), length-accepted s.session n w.ten_bytes))
  longest (answer rejected) e =
      let r : Rejects t s l = server-promises.only_rejects t s l e in
      let size : length (encoded letter.letter_rejected (r.reason ∷ [])) ≡ 1 + 3 = length-packet letter.letter_rejected (r.reason ∷ []) in
      rw r.answers (omega arith)
  longest (answer sequenced) e = rw e nothing
  longest (answer unsequenced) e = rw e nothing
  longest (answer heartbeat) e = rw e nothing
  longest (answer debug) e = rw e nothing
  longest (answer logged_out) e = rw e nothing
  longest (answer end_of_session) e = rw e nothing
  longest refused e = rw e nothing

  written : (out : List ℕ) → length (reply_of s.session (server_step t s l).reply) ≤ length out → reply_refusal s (server_step t s l) out ≡ 0
  written out h = no-write-refusal _ out 0 _ (ground-none _ refl) (omega arith)

  refused-short : (out : List ℕ) → length out < length (reply_of s.session (server_step t s l).reply) → reply_refusal s (server_step t s l) out ≡ output_short
  refused-short out h = rw (ground-none _ refl) (short-refusal out _ h)

reply_is_written : ReplyIsWritten
reply_is_written =
    record {
      with_room = λ t s l out w h. written t s l w out h;
      without_room = λ t s l out w h. refused-short t s l w out h;
      longest = λ t s l w. longest t s l w _ refl;
    }

-- ---- a login over a table that isn't too long is decided

never-refused : (k : decided.DecisionKind) → answer k ≡ refused → ⊥
never-refused k e = let y : ◌≡◌ {A = ℕ} 0 1 = cc in omega arith

told : (b : Bool) (asked : List ℕ) (wanted : ℕ) (session : List ℕ) (last : ℕ)
    → (decided.decision_of (verdict_of b) asked wanted session last).which ≡ refused → ⊥
unfolding verdict_of decided.decision_at
told true asked wanted session last e = go (decided.session_holds asked session) (decided.number_holds wanted last) e
  where
    go : (a c : Bool)
        → (if a then (if c then says decided.accepted (decided.granted wanted last ∷ []) else decided.rejects session_not_available)
        else decided.rejects session_not_available).which ≡ refused
        → ⊥
    go true true e = never-refused decided.accepted e
    go true false e = never-refused decided.rejected e
    go false c e = never-refused decided.rejected e
told false asked wanted session last e = never-refused decided.rejected e

not_refused : (x : decided.Attempt) → length x.table ≤ most_accounts → (decided.login_of x).which ≡ refused → ⊥
unfolding lookup_of
not_refused x h e =
    told (is_known x.table x.entry) x.asked x.wanted x.session x.last (rw (le-ltb _ _ h) at e)

-- ---- the handshake

granted-itself : (wanted last : ℕ) → (wanted ≡ 0 → ⊥) → decided.granted wanted last ≡ wanted
unfolding decided.granted
granted-itself wanted last z = rw (ne_eqb wanted 0 z)

module _ (t : List Account) (s : Server) (c : Client) (l out rest : List ℕ) (w : WasStarted s) (q : s.state ≡ state.Waiting)
    (z : length t ≤ most_accounts) (a : AskedBy c l) (room : longest_reply ≤ length out) where
  abbrev x : decided.Attempt
  x = attempt_of t s l c.number.0

  abbrev n : ℕ
  n = decided.granted c.number.0 s.last.0

  no-refusal : reply_refusal s (server_step t s l) out ≡ 0
  no-refusal = let h = longest t s l w _ refl in written t s l w out (omega arith)

  outcome : reply_outcome s (server_step t s l) out ≡ server_step t s l
  outcome = outcome-written s (server_step t s l) out no-refusal

  sent : written_by s (server_step t s l) out ≡ reply_of s.session (server_step t s l).reply
  unfolding ReplyStands
  sent = (reply_stands s (server_step t s l) out no-refusal).front

  -- A, as the client reads it
  module _ (rules : Rules x) where
    from_one : 1 ≤ n
    from_one = accepted_exactly_when.from_one x

    most : n ≤ largest_number
    most = omega (arith, accepted_exactly_when.up_to_next x rules.number, (taken-so _ _ w.taken).most)

    reads : AcceptedReads s.session n rest
    reads =
        accepted-round-trip.reads_back s.session n rest w.ten_bytes most
        (accepted-ground s.session n (taken-so _ _ w.taken).good from_one)

    session-fits : SessionRule x → SessionFits c (accepted_bytes s.session n ++ rest)
    session-fits (asks_blank e) = any_session (sym a.session ∙ e)
    session-fits (asks_ours e) = this_session (reads.its_session ∙ sym e ∙ a.session)

    number_fits : NumberFits c n
    number_fits = zero_or_not _ c.number.0 (λ e. any_number e) (λ e. this_number (granted-itself c.number.0 s.last.0 e))

    took : client.client_step c (accepted_bytes s.session n ++ rest) ≡ takes 33 (says accepted (n ∷ [])) (client.client s.session n client-state.In)
    took =
        client-promises.takes_from_A.when c (accepted_bytes s.session n ++ rest) 33 n a.asked reads.front
        (record { session = session-fits rules.session; number = number_fits })
        ∙ ap (λ (name : List ℕ). takes 33 (says accepted (n ∷ [])) (client.client name n client-state.In)) reads.its_session

    step_in : server_step t s l ≡ takes a.size (says accepted (n ∷ [])) (becomes s state.In)
    step_in = server-promises.login_exactly_when.when t s l a.size c.number.0 q a.front z rules

    ends-in : Ends t s c l out rest
    unfolding reply_at
    ends-in = both_in a.size n (outcome ∙ step_in) (rw sent (rw step_in took))

  -- J, as the client reads it
  module _ (reason : ℕ) (e : good_reason reason ≡ true) where
    closes : client.client_step c (encoded letter.letter_rejected (reason ∷ []) ++ rest)
        ≡ takes 4 (says rejected (reason ∷ [])) (client.becomes c client-state.Closed)
    unfolding client.row_at client.asked_row letter.letter_for
    closes =
        client-cases.packet-row c (encoded letter.letter_rejected (reason ∷ []) ++ rest) letter.rejected 4 (reason ∷ [])
        (rejected-round-trip.reads_back reason rest (reason-ground reason e)).front
        ∙ rw a.asked refl

  rejected-which : (decided.login_of x).which ≡ answer decided.rejected → (server_step t s l).reply.which ≡ answer rejected
  unfolding login_at
  rejected-which e = rw (decided-row t s l a.size c.number.0 q a.front z, e) refl

  ends-closed : Rejects t s l → Ends t s c l out rest
  unfolding reply_at
  ends-closed r = both_closed r.size r.reason (outcome ∙ r.answers) (rw sent (rw r.answers (closes r.reason r.good)))

  ends : (k : Case decided.DecisionKind) → (decided.login_of x).which ≡ k → Ends t s c l out rest
  ends (answer decided.accepted) e = ends-in (accepted_exactly_when.rules.only_when x e)
  ends (answer decided.rejected) e = ends-closed (server-promises.only_rejects t s l (rejected-which e))
  ends refused e = absurd (not_refused x z e)

handshake : Handshake
unfolding Handshake
handshake t s c l out rest w q z a room = ends t s c l out rest w q z a room (decided.login_of (attempt_of t s l c.number.0)).which refl

pub reply-promises : ReplyPromises
reply-promises =
    record {
      accepts_only_by_the_rules = accepts_only_by_the_rules;
      refusal_undoes = refusal_undoes;
      reply_stands = reply_stands;
      reply_bytes = reply_bytes;
      stays_started = record { by_start = started-fresh; by_step = started-step; by_last = started-last };
      reply_is_written = reply_is_written;
      handshake = handshake;
    }
