-- A client started, and one that took a step.
use Prim.Native.Nat.{ℕ, ◌≤◌, ◌<◌}
use mathlib.Core.List.{List, [], ◌∷◌}
use mathlib.Core.Bool.{Bool, true, false}
use mathlib.Core.Path.{◌≡◌, refl, ◌∙◌}
use native.Mathlib.Omega.{arith}
use lib.ListN.{length}
use lib.Dec.{ltb}
use Rattle.wire.specs.Bounds.{session_size, largest_number}
use Rattle.wire.specs.Refusals.{bad_setting}
use Rattle.wire.specs.Parts.{first_bytes}
use Rattle.wire.proofs.Cases.{below_or_not}
use Rattle.soupbintcp.specs.declared.packet.Sender.TheVariants.{Server}
use Rattle.soupbintcp.specs.Front.{front_of}
use Rattle.soupbintcp_session.specs.Answer.{session_answer_words}
use Rattle.soupbintcp_client.specs.declared.client.Client.{Client}
use Rattle.soupbintcp_client.specs.declared.client.Stepped.{Stepped}
use Rattle.soupbintcp_client.specs.Client.{client_start_refusal, start_client, client_step, ClientSteps}
use Rattle.soupbintcp_client.proofs.ClientLaws.{client-name-bad, number-large, client-start-0}
use Rattle.host_answers.specs.Answers.{or_else, short, unless_sized, state_ladder, behind_stateless, is_one_of, RefusesOnly, words_of, AnswersWith, StateAnswers}
use Rattle.host_answers.proofs.OnlyLaws.{only_none, only-sized, only_ending, answers-only}
use Rattle.host_states.specs.States.{on_code}
use Rattle.host_states.proofs.StateLaws.{keeps-step, keeps-more}
use Rattle.host_session.specs.Session.{session_state_size}
use Rattle.host_session.specs.Replies.{session_answer_number, sized, step_words}
use Rattle.host_answers.proofs.LadderLaws.{short-once}
use Rattle.host_session.proofs.StepLaws.{took-nothing, step-ladder, ladder-only}
use Rattle.host_session.proofs.HandsLaws.{hands_on}
use Rattle.host_client.specs.Client.{client_bytes, client_in, KeepsClient}
use Rattle.host_client.proofs.ClientLaws.{length-client, client-ten}
use Rattle.exports_client.specs.Calls.{StartsClient, StepsAtClient, ClientHandsOn}
use Rattle.exports_client.proofs.StepLaws.{step_grounds, client-steps, client-ground}

-- ---- the start

pub client-starts : (s name : List ℕ) (n g h : ℕ) (x : Client) (r : ℕ) (l m : List ℕ) → name ≡ first_bytes session_size s → g ≡ client_start_refusal name n
    → x ≡ start_client name n → h ≡ unless_sized (length s) session_size bad_setting g
    → r ≡ or_else h (short (ltb (length l) session_state_size)) → KeepsClient (on_code r) l m x → StartsClient r s n l m
client-starts s name n g h x r l m a e f u c k =
    record { returns = c ∙ rw (u, e, a) refl; keeps = rw (← a, ← f) k }

abbrev start_grounds : List ℕ
start_grounds = 19 ∷ 41 ∷ []

has-19 : RefusesOnly 19 start_grounds
unfolding is_one_of
has-19 = refl

has-41 : RefusesOnly 41 start_grounds
unfolding is_one_of
has-41 = refl

-- b is whether the name is bad
start-by : (g n : ℕ) (b : Bool) → (b ≡ true → g ≡ 19) → (b ≡ false → 0 ≤ n → largest_number < n → g ≡ 19)
    → (b ≡ false → 0 ≤ n → n ≤ largest_number → 0 ≡ g) → RefusesOnly g start_grounds
start-by g n true f h i = rw (f refl) has-19
start-by g n false f h i =
    below_or_not _ largest_number n (λ u. rw (h refl (omega arith) u) has-19) (λ u. rw (← i refl (omega arith) u) (only_none start_grounds))

start-refusal : (name : List ℕ) (n : ℕ) → RefusesOnly (client_start_refusal name n) start_grounds
start-refusal name n =
    start-by (client_start_refusal name n) n _ (client-name-bad name n _ refl) (number-large name n _ refl) (client-start-0 name n _ refl)

pub start-only : (r : ℕ) (s : List ℕ) (n : ℕ) (l m : List ℕ) → StartsClient r s n l m → RefusesOnly r start_grounds
start-only r s n l m t =
    only_ending r _ _ start_grounds t.returns
    (only-sized (length s) session_size bad_setting _ start_grounds has-19 (start-refusal (first_bytes session_size s) n)) has-41

-- ---- a step

module _ (d l ws ws' : List ℕ) (x : Client) (k : Stepped) (code h g : ℕ) (vs : List ℕ) (a : x ≡ client_in l)
    (s : ClientSteps k (client_step x d)) (f : h ≡ (session_answer_words k.answer).refusal)
    (v : vs ≡ words_of session_answer_number 5 (sized k.size (session_answer_words k.answer)))
    (b : g ≡ behind_stateless (ltb (length l) session_state_size) 25 h) (t : AnswersWith code ws ws' g vs) where
  ladder : g ≡ state_ladder (front_of Server d).refusal (ltb (length l) session_state_size) (client_step (client_in l) d).reply.refusal
  ladder = b ∙ rw (f, s.answers, a) (step-ladder (client-steps (client_in l) d) (ltb (length l) session_state_size) (client-ground (client_in l) d))

  words : vs ≡ words_of session_answer_number 5 (step_words (client_step (client_in l) d))
  words = v ∙ rw (s.answers, s.size, a) refl

  answers : StateAnswers code ws ws' (front_of Server d).refusal (ltb (length l) session_state_size) session_answer_number 5 (step_words (client_step (client_in l) d))
  answers = rw (← ladder, ← words) t

  pub client-waits : k.size ≡ 0 → StepsAtClient code l l d ws ws'
  client-waits z =
      let none : (client_step (client_in l) d).size ≡ 0 = rw (← a, ← s.size) z in
      let same : (client_step (client_in l) d).after ≡ client_in l = took-nothing (client-steps (client_in l) d) none in
      record { answers = answers; keeps = keeps-more code _ none (rw same (length-client (client_in l) (client-ten l))) }

  pub client-moves : (r : ℕ) (m : List ℕ) → (k.size ≡ 0 → ⊥) → r ≡ or_else code (short (ltb (length l) session_state_size))
      → KeepsClient (on_code r) l m k.client → StepsAtClient r l m d ws ws'
  client-moves r m n e q =
      let same : r ≡ code = short-once _ _ code r (ltb (length l) session_state_size) _ answers.returns e in
      record { answers = rw same answers; keeps = rw (← a, ← s.size, ← s.leaves) (keeps-step r k.size n q) }

pub step-only : (r : ℕ) (l m d ws ws' : List ℕ) → StepsAtClient r l m d ws ws' → RefusesOnly r step_grounds
unfolding is_one_of
step-only r l m d ws ws' t = answers-only r _ ws ws' _ step_grounds t.answers (ladder-only (client-steps (client_in l) d) (ltb (length l) session_state_size) refl) refl

pub client-hands-on : ClientHandsOn
unfolding ClientHandsOn
client-hands-on =
    hands_on client_in client_bytes client_step StepsAtClient (λ d. (front_of Server d).refusal) step_grounds client-steps
    (λ r l m d ws ws' t. record { answers = t.answers; keeps = t.keeps })
