-- A server started, one whose last number moved, and one that took a step.
use Prim.Native.Nat.{ℕ, ◌≤◌, ◌<◌}
use mathlib.Core.List.{List, [], ◌∷◌}
use mathlib.Core.Bool.{Bool, true, false}
use mathlib.Core.Path.{◌≡◌, refl, ap, sym, ◌∙◌}
use native.Mathlib.Omega.{arith}
use lib.ListN.{length}
use lib.Dec.{ltb, eqb}
use borrow.Author.Tests.{lt-ltb, le-ltb}
use Rattle.wire.specs.Bounds.{session_size}
use Rattle.std.specs.Prelude.{if◌then◌else◌}
use Rattle.wire.specs.Refusals.{bad_setting, output_short}
use Rattle.wire.specs.Parts.{first_bytes}
use Rattle.wire.proofs.Cases.{below_or_not}
use Rattle.login.specs.declared.account.Account.{Account}
use Rattle.soupbintcp_session.specs.Answer.{session_answer_words}
use Rattle.soupbintcp_server.specs.declared.server.Server.{Server}
use Rattle.soupbintcp_server.specs.declared.server.Stepped.{Stepped}
use Rattle.soupbintcp_server.specs.Server.{server, largest_last, server_start_refusal, start_server, last_refusal, with_last, server_step, ServerSteps}
use Rattle.soupbintcp_server.proofs.ServerLaws.{server-name-bad, last-large, server-start-0}
use Rattle.soupbintcp_server.proofs.StatementLaws.{server-promises}
use Rattle.host_answers.specs.Answers.{or_else, short, unless_sized, state_ladder, behind_stateless, is_one_of, RefusesOnly, words_of, AnswersWith, StateAnswers}
use Rattle.host_answers.proofs.AnswerLaws.{or-first, or-short-no}
use Rattle.host_answers.proofs.OnlyLaws.{only_if, only_none, only-sized, only-state, only_ending, answers-only}
use Rattle.host_states.specs.States.{on_code, name_in}
use Rattle.host_states.proofs.StateLaws.{keeps-not, keeps-step, keeps-more}
use Rattle.host_session.specs.Session.{session_state_size}
use Rattle.host_session.specs.Replies.{session_answer_number, sized, step_words}
use Rattle.host_answers.proofs.LadderLaws.{short-once}
use Rattle.host_session.proofs.StepLaws.{took-nothing, step-ladder, ladder-only}
use Rattle.host_session.proofs.HandsLaws.{hands_on}
use Rattle.host_server.specs.Server.{server_bytes, server_in, server_stateless, KeepsServer}
use Rattle.host_server.proofs.ServerLaws.{length-server, server-ten, named-there}
use Rattle.host_server.proofs.StepLaws.{HasSteps, server-steps, server-ground}
use Rattle.exports_server.specs.Calls.{StartsServer, MovesLast, StepsAtServer, ServerHandsOn}

-- ---- the start

pub server-starts : (s name : List ℕ) (last g h : ℕ) (x : Server) (r : ℕ) (l m : List ℕ) → name ≡ first_bytes session_size s → g ≡ server_start_refusal name last
    → x ≡ start_server name last → h ≡ unless_sized (length s) session_size bad_setting g
    → r ≡ or_else h (short (ltb (length l) session_state_size)) → KeepsServer (on_code r) l m x → StartsServer r s last l m
server-starts s name last g h x r l m a e f u c k =
    record { returns = c ∙ rw (u, e, a) refl; keeps = rw (← a, ← f) k }

abbrev start_grounds : List ℕ
start_grounds = 19 ∷ 41 ∷ []

start-19 : RefusesOnly 19 start_grounds
unfolding is_one_of
start-19 = refl

start-41 : RefusesOnly 41 start_grounds
unfolding is_one_of
start-41 = refl

-- b is whether the name is bad
start-by : (g n : ℕ) (b : Bool) → (b ≡ true → g ≡ 19) → (b ≡ false → 0 ≤ n → largest_last < n → g ≡ 19)
    → (b ≡ false → 0 ≤ n → n ≤ largest_last → 0 ≡ g) → RefusesOnly g start_grounds
start-by g n true f h i = rw (f refl) start-19
start-by g n false f h i =
    below_or_not _ largest_last n (λ u. rw (h refl (omega arith) u) start-19) (λ u. rw (← i refl (omega arith) u) (only_none start_grounds))

start-refusal : (name : List ℕ) (last : ℕ) → RefusesOnly (server_start_refusal name last) start_grounds
start-refusal name last =
    start-by (server_start_refusal name last) last _ (server-name-bad name last _ refl) (last-large name last _ refl) (server-start-0 name last _ refl)

pub start-only : (r : ℕ) (s : List ℕ) (last : ℕ) (l m : List ℕ) → StartsServer r s last l m → RefusesOnly r start_grounds
start-only r s last l m t =
    only_ending r _ _ start_grounds t.returns
    (only-sized (length s) session_size bad_setting _ start_grounds start-19 (start-refusal (first_bytes session_size s) last)) start-41

-- ---- the last number

abbrev last_grounds : List ℕ
last_grounds = 19 ∷ 41 ∷ []

-- the ground that needs no server
abbrev too_large : ℕ → ℕ
too_large last = if ltb largest_last last then bad_setting else 0

last-19 : RefusesOnly 19 last_grounds
unfolding is_one_of
last-19 = refl

last-41 : RefusesOnly 41 last_grounds
unfolding is_one_of
last-41 = refl

last-refusal : (s : Server) (last : ℕ) → RefusesOnly (last_refusal s last) last_grounds
unfolding last_refusal
last-refusal s last =
    only_if (ltb last s.last.0) 19 _ last_grounds last-19 (only_if (ltb largest_last last) 19 0 last_grounds last-19 (only_none last_grounds))

pub last-only : (r last : ℕ) (l m : List ℕ) → MovesLast r last l m → RefusesOnly r last_grounds
last-only r last l m t =
    rw t.returns (only-state (too_large last) _ _ last_grounds (only_if (ltb largest_last last) 19 0 last_grounds last-19 (only_none last_grounds)) (last-refusal (server_in l) last) last-41)

-- its name stays
last-session : (s : Server) (last : ℕ) → (with_last s last).session ≡ s.session
unfolding with_last
last-session s last = go (eqb (last_refusal s last) 0)
  where
    go : (b : Bool) → (if b then server s.session last s.state else s).session ≡ s.session
    go true = refl
    go false = refl

not-kept : (last : ℕ) (l : List ℕ) (r : ℕ) → (r ≡ 0 → ⊥) → KeepsServer (on_code r) l l (with_last (server_in l) last)
not-kept last l r z =
    keeps-not l session_state_size server_in _ _ (length-server (with_last (server_in l) last) (ap length (last-session (server_in l) last) ∙ server-ten l)) r z

pub last-above : (last : ℕ) (l : List ℕ) → largest_last < last → MovesLast bad_setting last l l
last-above last l h =
    record { returns = rw (lt-ltb largest_last last h) (or-first bad_setting _ (λ e. omega arith)); keeps = not-kept last l bad_setting (λ e. omega arith) }

ladder-short : (h : ℕ) → output_short ≡ state_ladder 0 true h
unfolding or_else short
ladder-short h = refl

ladder-long : (h : ℕ) → h ≡ state_ladder 0 false h
unfolding or_else short
ladder-long h = refl

pub last-short : (last : ℕ) (l : List ℕ) → last ≤ largest_last → length l < session_state_size → MovesLast output_short last l l
last-short last l k h =
    record {
      returns = rw (lt-ltb (length l) session_state_size h, le-ltb largest_last last k) (ladder-short (last_refusal (server_in l) last));
      keeps = not-kept last l output_short (λ e. omega arith);
    }

pub last-moves : (last : ℕ) (l m : List ℕ) (x y : Server) (g r : ℕ) → last ≤ largest_last → session_state_size ≤ length l → x ≡ server_in l → g ≡ last_refusal x last
    → y ≡ with_last x last → r ≡ or_else g (short (ltb (length l) session_state_size)) → KeepsServer (on_code r) l m y → MovesLast r last l m
last-moves last l m x y g r q h a e f c k =
    let b : ltb (length l) session_state_size ≡ false = le-ltb (length l) session_state_size h in
    let same : r ≡ g = c ∙ rw b (sym (or-short-no g)) in
    record { returns = same ∙ rw (b, le-ltb largest_last last q, ← a, ← e) (ladder-long g); keeps = rw (← a, ← f) k }

-- ---- a step

abbrev step_grounds : List ℕ
step_grounds = 19 ∷ 21 ∷ 22 ∷ 23 ∷ 24 ∷ 25 ∷ 41 ∷ 32 ∷ 31 ∷ []

has-steps : HasSteps step_grounds
unfolding is_one_of
has-steps =
    record {
      has-19 = refl;
      has-31 = refl;
      has-32 = refl;
      has-front = record { has-21 = refl; has-22 = refl; has-23 = refl; has-24 = refl; has-25 = refl };
    }

module _ (t : List Account) (d l ws ws' : List ℕ) (x : Server) (k : Stepped) (code h g : ℕ) (vs : List ℕ) (a : x ≡ server_in l)
    (s : ServerSteps k (server_step t x d)) (f : h ≡ (session_answer_words k.answer).refusal)
    (v : vs ≡ words_of session_answer_number 5 (sized k.size (session_answer_words k.answer)))
    (b : g ≡ behind_stateless (ltb (length l) session_state_size) 25 h) (q : AnswersWith code ws ws' g vs) where
  ladder : g ≡ state_ladder (server_stateless t d) (ltb (length l) session_state_size) (server_step t (server_in l) d).reply.refusal
  ladder = b ∙ rw (f, s.answers, a) (step-ladder (server-steps step_grounds has-steps (server_in l) d t) (ltb (length l) session_state_size) (server-ground t d))

  words : vs ≡ words_of session_answer_number 5 (step_words (server_step t (server_in l) d))
  words = v ∙ rw (s.answers, s.size, a) refl

  answers : StateAnswers code ws ws' (server_stateless t d) (ltb (length l) session_state_size) session_answer_number 5 (step_words (server_step t (server_in l) d))
  answers = rw (← ladder, ← words) q

  pub server-waits : k.size ≡ 0 → StepsAtServer code l l t d ws ws'
  server-waits z =
      let none : (server_step t (server_in l) d).size ≡ 0 = rw (← a, ← s.size) z in
      let same : (server_step t (server_in l) d).after ≡ server_in l = took-nothing (server-steps step_grounds has-steps (server_in l) d t) none in
      record { answers = answers; keeps = keeps-more code _ none (rw same (length-server (server_in l) (server-ten l))) }

  pub server-moves : (r : ℕ) (m : List ℕ) → (k.size ≡ 0 → ⊥) → r ≡ or_else code (short (ltb (length l) session_state_size))
      → KeepsServer (on_code r) l m (server (name_in l) k.server.last.0 k.server.state) → StepsAtServer r l m t d ws ws'
  server-moves r m n e q =
      let own : k.server.session ≡ (server_in l).session =
      ap (λ (x : Server). x.session) s.leaves ∙ (server-promises.keeps t x d).session ∙ ap (λ (x : Server). x.session) a
      in
      let p : KeepsServer (on_code r) l m k.server = named-there k.server l m r code e own q in
      let same : r ≡ code = short-once _ _ code r (ltb (length l) session_state_size) _ answers.returns e in
      record { answers = rw same answers; keeps = rw (← a, ← s.size, ← s.leaves) (keeps-step r k.size n p) }

has-41 : RefusesOnly 41 step_grounds
unfolding is_one_of
has-41 = refl

pub step-only : (r : ℕ) (l m : List ℕ) (t : List Account) (d ws ws' : List ℕ) → StepsAtServer r l m t d ws ws' → RefusesOnly r step_grounds
step-only r l m t d ws ws' q =
    answers-only r _ ws ws' _ step_grounds q.answers
    (ladder-only (server-steps step_grounds has-steps (server_in l) d t) (ltb (length l) session_state_size) has-41) has-41

pub server-hands-on : ServerHandsOn
unfolding ServerHandsOn
server-hands-on t =
    hands_on server_in server_bytes (server_step t) (λ r l m d ws ws'. StepsAtServer r l m t d ws ws') (server_stateless t) step_grounds
    (λ s d. server-steps step_grounds has-steps s d t)
    (λ r l m d ws ws' q. record { answers = q.answers; keeps = q.keeps })
