-- The exported step with its reply: x is the server that was read, k what its step came to, o the output.
use Prim.Native.Nat.{ℕ, ◌-◌, ◌≤◌, ◌<◌}
use mathlib.Core.List.{List, [], ◌∷◌, ◌++◌, append-nil}
use mathlib.Core.Bool.{Bool, true, false}
use mathlib.Core.Path.{◌≡◌, refl, ap, sym, ◌∙◌}
use native.Mathlib.Omega.{arith}
use lib.ListN.{length, get_or, take, drop, length-append, length-drop, drop_of_length-le}
use lib.Seq.{take_all, drop-length}
use lib.Dec.{ltb, eqb}
use borrow.Author.Tests.{ne_eqb, lt-ltb, le-ltb, ltb-true}
use borrow.Rule.Slice.PartMut.{mid_of, put_mid}
use Rattle.std.specs.Prelude.{if◌then◌else◌, Result, Ok, Err, IfErr}
use Rattle.wire.specs.declared.refusal.Refusal.{Refusal}
use Rattle.wire.specs.Refusals.{output_short}
use Rattle.wire.specs.Words.{refused_words}
use Rattle.wire.specs.Output.{put, write_output}
use Rattle.wire.proofs.Cases.{below_or_not, zero_or_not}
use Rattle.wire.proofs.Numbers.{part_to_end}
use Rattle.wire.proofs.Outputs.{put-none}
use Rattle.login.specs.declared.account.Account.{Account}
use Rattle.soupbintcp_session.specs.Answer.{session_answer_words, StepOutcome}
use Rattle.soupbintcp_server.specs.declared.server.Server.{Server}
use Rattle.soupbintcp_server.specs.Server.{server_step}
use Rattle.soupbintcp_server.proofs.ServerCases.{keeps}
use Rattle.soupbintcp_reply.specs.declared.Replied.{Replied}
use Rattle.soupbintcp_reply.specs.Reply.{reply_at, reply_ground, reply_of, reply_refusal, reply_written, reply_output, Replies}
use Rattle.soupbintcp_reply.proofs.ReplyLaws.{outcome-written, outcome-refused, size-written, size-refused}
use Rattle.host_answers.specs.Answers.{or_else, short, state_ladder, behind_stateless, lent_from, is_one_of, RefusesOnly, on_success, words_of, padded, said_refusal, said_values, AnswersWith}
use Rattle.host_answers.proofs.AnswerLaws.{any-values, or-first, or-next, or-short-no, success, no-success}
use Rattle.host_answers.proofs.OnlyLaws.{answers-only}
use Rattle.host_states.specs.States.{on_code, on_step}
use Rattle.host_states.proofs.StateLaws.{keeps-not, keeps-step, keeps-more}
use Rattle.host_session.specs.Session.{session_state_size}
use Rattle.host_session.specs.Replies.{session_answer_number, sized, step_words}
use Rattle.host_answers.proofs.LadderLaws.{short-once}
use Rattle.host_session.proofs.StepLaws.{Steps, took-some, step-ladder, ladder-only, ladder-open, none-short}
use Rattle.host_session.proofs.HandsLaws.{length-words}
use Rattle.host_server.specs.Server.{server_bytes, server_in, server_stateless, KeepsServer}
use Rattle.host_server.proofs.ServerLaws.{length-server, server-ten, server-short}
use Rattle.host_server.proofs.StepLaws.{HasSteps, server-steps, server-ground, closed-stays}
use Rattle.exports_reply.specs.Calls.{with_written, replied, replied_words, RepliesAtServer, RefusedReplyChangesNothing}
use Rattle.exports_reply.proofs.ReplyLaws.{reply-steps, output-stays, short-same}

abbrev pub reply_grounds : List ℕ
reply_grounds = 19 ∷ 21 ∷ 22 ∷ 23 ∷ 24 ∷ 25 ∷ 41 ∷ 32 ∷ 31 ∷ 46 ∷ []

has-steps : HasSteps reply_grounds
unfolding is_one_of
has-steps =
    record {
      has-19 = refl;
      has-31 = refl;
      has-32 = refl;
      has-front = record { has-21 = refl; has-22 = refl; has-23 = refl; has-24 = refl; has-25 = refl };
    }

has-41 : RefusesOnly 41 reply_grounds
unfolding is_one_of
has-41 = refl

has-46 : RefusesOnly 46 reply_grounds
unfolding is_one_of
has-46 = refl

-- ---- where the output is lent

into : (x : List ℕ) → put [] 0 x ≡ []
unfolding put
into [] = refl
into (b ∷ x) = put-none [] 0 (b ∷ x) (omega arith)

into-nothing : (g : ℕ) (bs : List ℕ) → write_output g [] 0 bs ≡ []
into-nothing g bs = go (eqb g 0) (into bs)
  where
    go : (b : Bool) → put [] 0 bs ≡ [] → if b then put [] 0 bs else [] ≡ []
    go true e = e
    go false e = refl

-- 41 for a short state is the first
short-first : (h : ℕ) → or_else (short true) h ≡ output_short
unfolding or_else short
short-first h = refl

-- ---- six words: those of the step, and how many bytes were written

five : (w : List ℕ) (v : ℕ) → length w ≡ 5 → get_or w 0 0 ∷ get_or w 1 0 ∷ get_or w 2 0 ∷ get_or w 3 0 ∷ get_or w 4 0 ∷ v ∷ [] ≡ w ++ (v ∷ [])
five [] v e = absurd (omega arith)
five (a ∷ []) v e = absurd (omega arith)
five (a ∷ b ∷ []) v e = absurd (omega arith)
five (a ∷ b ∷ c ∷ []) v e = absurd (omega arith)
five (a ∷ b ∷ c ∷ d ∷ []) v e = absurd (omega arith)
five (a ∷ b ∷ c ∷ d ∷ f ∷ []) v e = refl
five (a ∷ b ∷ c ∷ d ∷ f ∷ g ∷ w) v e = absurd (omega arith)

pub length-replied : (l : List ℕ) (t : List Account) (d o : List ℕ) → length (replied_words l t d o) ≡ 6
length-replied l t d o =
    omega (
      arith,
      length-append (words_of session_answer_number 5 (step_words (replied l t d o))) (reply_written (server_in l) (server_step t (server_in l) d) o ∷ []),
      length-words session_answer_number 5 (replied l t d o).reply.which ((replied l t d o).size ∷ (replied l t d o).reply.values),
    )

abbrev six : List ℕ → ℕ → List ℕ
six w v = get_or w 0 0 ∷ get_or w 1 0 ∷ get_or w 2 0 ∷ get_or w 3 0 ∷ get_or w 4 0 ∷ v ∷ []

same-refusal : (b : Result (List ℕ) Refusal) (n : ℕ) → said_refusal (with_written b n) ≡ said_refusal b
unfolding said_refusal with_written
same-refusal (Ok ws) n = refl
same-refusal (Err r) n = refl

-- nothing is written behind a refusal
same-values : (a : Result (List ℕ) Refusal) (n : ℕ) → ((r : Refusal) → a ≡ Err r → n ≡ 0) → said_values 6 (with_written a n) ≡ six (said_values 5 a) n
unfolding said_values with_written padded
same-values (Ok ws) n z = refl
same-values (Err r) n z = rw (z r refl) refl

-- a is what the step said, b what is left of it but for 41
pub written-behind : (code n : ℕ) (ws ws' : List ℕ) (a b : Result (List ℕ) Refusal) → (said_refusal b ≡ 0 → b ≡ a) → ((r : Refusal) → a ≡ Err r → n ≡ 0)
    → AnswersWith code ws ws' (said_refusal (with_written b n)) (said_values 6 (with_written b n))
    → AnswersWith code ws ws' (said_refusal b) (six (said_values 5 a) n)
written-behind code n ws ws' a b k z h =
    let q : AnswersWith code ws ws' (said_refusal b) (said_values 6 (with_written b n)) = rw same-refusal at h in
    zero_or_not _ (said_refusal b)
    (λ y. let e : b ≡ a = k y in
    let same : said_values 6 (with_written b n) ≡ six (said_values 5 a) n = ap (λ (c : Result (List ℕ) Refusal). said_values 6 (with_written c n)) e ∙ same-values a n z in
    rw same at q)
    (λ y. any-values code (said_refusal b) ws ws' (said_values 6 (with_written b n)) (six (said_values 5 a) n) y q)

pub told-so : (P : Refusal → Type 0) (a : Result (List ℕ) Refusal) → IfErr a P → (r : Refusal) → a ≡ Err r → P r
told-so P a h r e = rw e at h

-- and a refused answer has no reply
pub none-written : (k : Replied) (s : Server) (st : StepOutcome Server) (o m : List ℕ) (r : Refusal) → Replies k s st o m
    → session_answer_words k.answer ≡ refused_words r → k.written ≡ 0
unfolding reply_at
none-written k s st o m r p e =
    zero_or_not _ (reply_refusal s st o)
    (λ y. let same : st.reply ≡ refused_words r = ap (λ (x : StepOutcome Server). x.reply) (sym (outcome-written s st o y)) ∙ sym p.answers ∙ e in
    p.written ∙ size-written s st o y ∙ rw same refl)
    (λ y. p.written ∙ size-refused s st o y)

-- ---- the step at the server in the bytes l

module _ (l : List ℕ) (t : List Account) (d : List ℕ) where
  abbrev st : StepOutcome Server
  st = server_step t (server_in l) d

  abbrev lacks : Bool
  lacks = ltb (length l) session_state_size

  pub steps : Steps (server_in l) (server_stateless t d) reply_grounds st
  steps = server-steps reply_grounds has-steps (server_in l) d t

  pub replied-steps : (o : List ℕ) → Steps (server_in l) (server_stateless t d) reply_grounds (replied l t d o)
  replied-steps o = reply-steps has-41 has-46 o steps

  -- its name stays, so that it has as many bytes as its layout
  replied-session : (o : List ℕ) → (replied l t d o).after.session ≡ (server_in l).session
  replied-session o =
      zero_or_not _ (reply_refusal (server_in l) st o) (λ y. rw (outcome-written (server_in l) st o y) (keeps t (server_in l) d).session)
      (λ y. rw (outcome-refused (server_in l) st o y) refl)

  replied-length : (o : List ℕ) → length (server_bytes (replied l t d o).after) ≡ session_state_size
  replied-length o = length-server (replied l t d o).after (ap length (replied-session o) ∙ server-ten l)

  -- nothing was taken by the server of too few bytes
  short-stays : lacks ≡ true → st.size ≡ 0
  short-stays e = closed-stays (server_in l) (rw (← server-short l (ltb-true _ _ e)) refl) d t

  -- a refusal leaves the output as it was
  undone : (o : List ℕ) → (state_ladder (server_stateless t d) lacks (replied l t d o).reply.refusal ≡ 0 → ⊥) → reply_output (server_in l) st o ≡ o
  undone o n = output-stays o steps (λ y m. wrong y m lacks refl)
    where
      wrong : reply_refusal (server_in l) st o ≡ 0 → (st.size ≡ 0 → ⊥) → (b : Bool) → lacks ≡ b → ⊥
      wrong y m true e = m (short-stays e)
      wrong y m false e =
          let zero : (replied l t d o).reply.refusal ≡ 0 = rw (outcome-written (server_in l) st o y) (took-some steps m) in
          n (rw e (ladder-open (replied-steps o) ∙ zero))

-- ---- the call, where the words have room: all of the output was lent

-- a refusal lays nothing
not-kept : (code n : ℕ) → (code ≡ 0 → ⊥) → on_code code ≡ on_step code n
unfolding on_step
not-kept code n z = rw (ne_eqb code 0 z) refl

module _ (l : List ℕ) (t : List Account) (d o o₁ ws ws' : List ℕ) (k : Replied) (code h g : ℕ) (sw : List ℕ)
    (p : Replies k (server_in l) (server_step t (server_in l) d) o o₁)
    (f : h ≡ (session_answer_words k.answer).refusal)
    (v : sw ≡ words_of session_answer_number 5 (sized k.size (session_answer_words k.answer)))
    (b : g ≡ behind_stateless (ltb (length l) session_state_size) 25 h)
    (q : AnswersWith code ws ws' g (get_or sw 0 0 ∷ get_or sw 1 0 ∷ get_or sw 2 0 ∷ get_or sw 3 0 ∷ get_or sw 4 0 ∷ k.written ∷ [])) where
  ladder : g ≡ state_ladder (server_stateless t d) (ltb (length l) session_state_size) (replied l t d o).reply.refusal
  ladder = b ∙ rw (f, p.answers) (step-ladder (replied-steps l t d o) (ltb (length l) session_state_size) (server-ground t d))

  words : get_or sw 0 0 ∷ get_or sw 1 0 ∷ get_or sw 2 0 ∷ get_or sw 3 0 ∷ get_or sw 4 0 ∷ k.written ∷ [] ≡ replied_words l t d o
  words =
      let same : sw ≡ words_of session_answer_number 5 (step_words (replied l t d o)) = v ∙ rw (p.answers, p.size) refl in
      five sw k.written (ap length same ∙ length-words session_answer_number 5 _ _) ∙ rw (same, p.written) refl

  answers : AnswersWith code ws ws' (state_ladder (server_stateless t d) (ltb (length l) session_state_size) (replied l t d o).reply.refusal) (replied_words l t d o)
  answers = rw (← ladder, ← words) q

  module _ (room : 6 ≤ length ws) where
    code_is : code ≡ state_ladder (server_stateless t d) (ltb (length l) session_state_size) (replied l t d o).reply.refusal
    code_is = answers.returns ∙ rw (length-replied l t d o, le-ltb (length ws) 6 room) (sym (or-short-no _))

    output : o₁ ≡ on_success code (reply_output (server_in l) (server_step t (server_in l) d) o) o
    output =
        zero_or_not _ code (λ z. success code o₁ _ o z p.output)
        (λ n. p.output ∙ undone l t d o (λ e. n (code_is ∙ e)) ∙ no-success code _ o n)

    whole-waits : k.size ≡ 0 → RepliesAtServer code l l t d o o₁ ws ws'
    whole-waits z = record { answers = answers; keeps = keeps-more code _ (sym p.size ∙ z) (replied-length l t d o); output = output }

    whole-moves : (r : ℕ) (m : List ℕ) → (k.size ≡ 0 → ⊥) → r ≡ or_else code (short (ltb (length l) session_state_size))
        → KeepsServer (on_code r) l m k.server → RepliesAtServer r l m t d o o₁ ws ws'
    whole-moves r m n e c =
        let same : r ≡ code = short-once _ _ code r (ltb (length l) session_state_size) _ answers.returns e in
        record { answers = rw same answers; keeps = rw (← p.size, ← p.after) (keeps-step r k.size n c); output = rw same output }

-- ---- and where they have none: nothing of it was lent

ladder-41 : (g : ℕ) (lacks : Bool) (h h₂ : ℕ) → or_else h output_short ≡ or_else h₂ output_short → or_else (state_ladder g lacks h) output_short ≡ or_else (state_ladder g lacks h₂) output_short
ladder-41 g lacks h h₂ e = zero_or_not _ g (λ z. none lacks z) (λ n. rw (← or-first g (or_else (short lacks) h) n, ← or-first g (or_else (short lacks) h₂) n) refl)
  where
    none : (b : Bool) → g ≡ 0 → or_else (state_ladder g b h) output_short ≡ or_else (state_ladder g b h₂) output_short
    none true z = rw (← or-next g (or_else (short true) h) z, ← or-next g (or_else (short true) h₂) z) (ap (λ (x : ℕ). or_else x output_short) (short-first h ∙ sym (short-first h₂)))
    none false z = rw (← or-next g (or_else (short false) h) z, ← or-next g (or_else (short false) h₂) z, none-short h, none-short h₂) e

never-zero : (x : ℕ) → or_else x output_short ≡ 0 → ⊥
never-zero x e =
    zero_or_not ⊥ x (λ z. let y : output_short ≡ 0 = or-next x output_short z ∙ e in omega arith) (λ n. n (or-first x output_short n ∙ e))

module _ (l : List ℕ) (t : List Account) (d o o₁ ws ws' : List ℕ) (k : Replied) (code h g : ℕ) (sw : List ℕ)
    (p : Replies k (server_in l) (server_step t (server_in l) d) [] o₁)
    (f : h ≡ (session_answer_words k.answer).refusal)
    (v : sw ≡ words_of session_answer_number 5 (sized k.size (session_answer_words k.answer)))
    (b : g ≡ behind_stateless (ltb (length l) session_state_size) 25 h)
    (q : AnswersWith code ws ws' g (get_or sw 0 0 ∷ get_or sw 1 0 ∷ get_or sw 2 0 ∷ get_or sw 3 0 ∷ get_or sw 4 0 ∷ k.written ∷ []))
    (no_room : length ws < 6) where
  code-short : (out : List ℕ) → code ≡ or_else (state_ladder (server_stateless t d) (ltb (length l) session_state_size) (replied l t d out).reply.refusal) output_short
  unfolding short
  code-short out =
      (answers l t d [] o₁ ws ws' k code h g sw p f v b q).returns
      ∙ rw (length-replied l t d [], lt-ltb (length ws) 6 no_room)
      (ladder-41 (server_stateless t d) (ltb (length l) session_state_size) _ _ (short-same [] out (steps l t d)))

  code-some : code ≡ 0 → ⊥
  code-some z = never-zero _ (sym (code-short []) ∙ z)

  short-answers : AnswersWith code ws ws' (state_ladder (server_stateless t d) (ltb (length l) session_state_size) (replied l t d o).reply.refusal) (replied_words l t d o)
  unfolding short
  short-answers =
      record {
        returns = rw (length-replied l t d o, lt-ltb (length ws) 6 no_room) (code-short o);
        words = q.words ∙ sym (no-success code _ ws code-some) ∙ no-success code _ ws code-some;
      }

  short-output : take (length o) o ++ o₁ ≡ on_success code (reply_output (server_in l) (server_step t (server_in l) d) o) o
  short-output =
      let none : o₁ ≡ [] =
      p.output
      ∙ into-nothing (reply_ground (server_in l).session (server_step t (server_in l) d).reply) (reply_of (server_in l).session (server_step t (server_in l) d).reply) in
      rw (none, take_all (length o) o (omega arith)) (append-nil o ∙ no-success code _ o code-some)

  none-waits : RepliesAtServer code l l t d o (take (length o) o ++ o₁) ws ws'
  none-waits =
      record {
        answers = short-answers;
        keeps = rw (← not-kept code (replied l t d o).size code-some) (keeps-not l session_state_size server_in _ _ (replied-length l t d o) code code-some);
        output = short-output;
      }

  none_moves : (r : ℕ) (m : List ℕ) → r ≡ or_else code (short (ltb (length l) session_state_size))
      → KeepsServer (on_code r) l m k.server → RepliesAtServer r l m t d o (take (length o) o ++ o₁) ws ws'
  none_moves r m e c =
      let same : r ≡ code = e ∙ sym (or-first code _ code-some) in
      let kept : m ≡ l = c.leaves ∙ rw (same, ne_eqb code 0 code-some) refl in
      rw (same, kept) none-waits

-- ---- both

module _ (l : List ℕ) (t : List Account) (d o o₁ ws ws' : List ℕ) (x : Server) (k : Replied) (code h g from : ℕ) (sw : List ℕ)
    (e : from ≡ lent_from (ltb (length ws) 6) (length o)) (a : x ≡ server_in l)
    (p : Replies k x (server_step t x d) (drop from o) o₁)
    (f : h ≡ (session_answer_words k.answer).refusal)
    (v : sw ≡ words_of session_answer_number 5 (sized k.size (session_answer_words k.answer)))
    (b : g ≡ behind_stateless (ltb (length l) session_state_size) 25 h)
    (q : AnswersWith code ws ws' g (get_or sw 0 0 ∷ get_or sw 1 0 ∷ get_or sw 2 0 ∷ get_or sw 3 0 ∷ get_or sw 4 0 ∷ k.written ∷ [])) where
  lent-all : 6 ≤ length ws → from ≡ 0
  unfolding lent_from
  lent-all room = e ∙ rw (le-ltb (length ws) 6 room) refl

  lent_none : length ws < 6 → from ≡ length o
  unfolding lent_from
  lent_none short = e ∙ rw (lt-ltb (length ws) 6 short) refl

  all-replies : from ≡ 0 → Replies k (server_in l) (server_step t (server_in l) d) o o₁
  all-replies z = rw (z, a) at p

  no-replies : from ≡ length o → Replies k (server_in l) (server_step t (server_in l) d) [] o₁
  no-replies z = rw (z, a, drop-length o) at p

  lent-waits : k.size ≡ 0 → RepliesAtServer code l l t d o (take from o ++ o₁) ws ws'
  lent-waits z =
      below_or_not _ (length ws) 6
      (λ u. rw (lent_none u) (none-waits l t d o o₁ ws ws' k code h g sw (no-replies (lent_none u)) f v b q u))
      (λ u. rw (lent-all u) (whole-waits l t d o o₁ ws ws' k code h g sw (all-replies (lent-all u)) f v b q u z))

  lent-moves : (r : ℕ) (m : List ℕ) → (k.size ≡ 0 → ⊥) → r ≡ or_else code (short (ltb (length l) session_state_size))
      → KeepsServer (on_code r) l m k.server → RepliesAtServer r l m t d o (take from o ++ o₁) ws ws'
  lent-moves r m n c w =
      below_or_not _ (length ws) 6
      (λ u. rw (lent_none u) (none_moves l t d o o₁ ws ws' k code h g sw (no-replies (lent_none u)) f v b q u r m c w))
      (λ u. rw (lent-all u) (whole-moves l t d o o₁ ws ws' k code h g sw (all-replies (lent-all u)) f v b q u r m n c w))

-- as the call has it: the part from the place to the end is lent, and nothing stands behind it
module _ (l : List ℕ) (t : List Account) (d o o₁ ws ws' : List ℕ) (x : Server) (k : Replied) (code h g from : ℕ) (sw : List ℕ)
    (e : from ≡ lent_from (ltb (length ws) 6) (length o)) (a : x ≡ server_in l)
    (p : Replies k x (server_step t x d) (mid_of from (length o - from) o) o₁)
    (f : h ≡ (session_answer_words k.answer).refusal)
    (v : sw ≡ words_of session_answer_number 5 (sized k.size (session_answer_words k.answer)))
    (b : g ≡ behind_stateless (ltb (length l) session_state_size) 25 h)
    (q : AnswersWith code ws ws' g (get_or sw 0 0 ∷ get_or sw 1 0 ∷ get_or sw 2 0 ∷ get_or sw 3 0 ∷ get_or sw 4 0 ∷ k.written ∷ [])) where
  nothing-behind : drop (length o - from) (drop from o) ≡ []
  nothing-behind = drop_of_length-le (drop from o) {i = length o - from} (simp length-drop (omega arith))

  pub reply-waits : k.size ≡ 0 → RepliesAtServer code l l t d o (put_mid from (length o - from) o o₁) ws ws'
  reply-waits z = rw (nothing-behind, append-nil o₁) (lent-waits l t d o o₁ ws ws' x k code h g from sw e a (rw part_to_end at p) f v b q z)

  pub reply-moves : (r : ℕ) (m : List ℕ) → (k.size ≡ 0 → ⊥) → r ≡ or_else code (short (ltb (length l) session_state_size))
      → KeepsServer (on_code r) l m k.server → RepliesAtServer r l m t d o (put_mid from (length o - from) o o₁) ws ws'
  reply-moves r m n c w =
      rw (nothing-behind, append-nil o₁) (lent-moves l t d o o₁ ws ws' x k code h g from sw e a (rw part_to_end at p) f v b q r m n c w)

-- ---- the refusals

pub reply-only : (r : ℕ) (l m : List ℕ) (t : List Account) (d o o' ws ws' : List ℕ) → RepliesAtServer r l m t d o o' ws ws' → RefusesOnly r reply_grounds
reply-only r l m t d o o' ws ws' q =
    answers-only r _ ws ws' _ reply_grounds q.answers (ladder-only (replied-steps l t d o) (ltb (length l) session_state_size) has-41) has-41

on-refusal : (r k : ℕ) → (r ≡ 0 → ⊥) → on_step r k ≡ false
unfolding on_step
on-refusal r k z = rw (ne_eqb r 0 z)

pub refused-reply : RefusedReplyChangesNothing
unfolding RefusedReplyChangesNothing
refused-reply r l m t d o o' ws ws' q z =
    record {
      state = rw (on-refusal r (replied l t d o).size z) at q.keeps.leaves;
      output = q.output ∙ sym (no-success r _ o z);
      words = q.answers.words ∙ sym (no-success r _ ws z);
    }
