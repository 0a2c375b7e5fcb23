-- A run of calls hands on the session of the steps.
use Prim.Native.Nat.{ℕ, zero, suc, ◌≤◌, ◌<◌}
use mathlib.Core.List.{List, [], ◌∷◌}
use mathlib.Core.Bool.{Bool, true, false}
use mathlib.Core.Path.{◌≡◌, refl, ap, sym, ◌∙◌}
use native.Mathlib.Omega.{arith}
use lib.ListN.{length, get_or, take, drop, get_or-append}
use lib.Dec.{ltb, eqb}
use borrow.Author.Tests.{eq-eqb, ne_eqb, le-ltb}
use Rattle.std.specs.Prelude.{if◌then◌else◌}
use Rattle.wire.specs.Words.{Case, answer, refused, says, refuses}
use Rattle.wire.specs.Output.{put}
use Rattle.wire.proofs.Outputs.{length-put}
use Rattle.soupbintcp_session.specs.Answer.{SessionAnswerKind, wants_more, accepted, rejected, sequenced, unsequenced, heartbeat, debug, logged_out, end_of_session, answer_message_at, StepOutcome, stays, takes}
use Rattle.host_answers.specs.Answers.{state_ladder, padded, words_at, words_of, AnswersWith}
use Rattle.host_answers.proofs.AnswerLaws.{length-padded, success, or-short-no}
use Rattle.host_states.specs.States.{on_step, Keeps}
use Rattle.host_states.proofs.StateLaws.{laid-front}
use Rattle.host_session.specs.Session.{session_state_size}
use Rattle.host_session.specs.Replies.{session_answer_number, step_words}
use Rattle.host_session.specs.Run.{messages_up_at, messages_up, Gets, by_refusal, by_another, by_sequenced, by_unsequenced, Handed, none, one, session_after, handed_up_by, Hands, HandsOn}
use Rattle.host_session.proofs.StepLaws.{Steps, waits, needs-none, refuses-own, moves, ladder-open}

-- ---- the words that were laid

pub length-words : {K : Type 0} (table : K → ℕ) (n : ℕ) (c : Case K) (vs : List ℕ) → length (words_at table n c vs) ≡ n
unfolding words_at
length-words table n (answer k) vs = length-padded n _
length-words table n refused vs = length-padded n []

padded-at : (n : ℕ) (vs : List ℕ) (i : ℕ) → i < n → get_or (padded n vs) i 0 ≡ get_or vs i 0
unfolding padded
padded-at zero vs i h = absurd (omega arith)
padded-at (suc n) [] zero h = refl
padded-at (suc n) [] (suc i) h = padded-at n [] i (omega arith)
padded-at (suc n) (v ∷ vs) zero h = refl
padded-at (suc n) (v ∷ vs) (suc i) h = padded-at n vs i (omega arith)

word_at : (ws vs : List ℕ) (i : ℕ) → i < 5 → 5 ≤ length ws → get_or (put ws 0 (padded 5 vs)) i 0 ≡ get_or vs i 0
word_at ws vs i h r =
    let n = length-padded 5 vs in
    ap (λ (x : List ℕ). get_or x i 0) (laid-front ws (padded 5 vs) (omega arith))
    ∙ get_or-append (padded 5 vs) (drop (length (padded 5 vs)) ws) 0 i (omega arith) ∙ padded-at 5 vs i h

-- ---- what a host gets by them

module _ (d ws : List ℕ) where
  by_number : (n : ℕ) (up : List (List ℕ)) → get_or ws 0 0 ≡ n → (n ≡ 3 → ⊥) → (n ≡ 4 → ⊥) → Gets d 0 ws up → up ≡ []
  by_number n up e f g (by_refusal z) = refl
  by_number n up e f g (by_another z a b) = refl
  by_number n up e f g (by_sequenced z a) = absurd (f (sym e ∙ a))
  by_number n up e f g (by_unsequenced z a) = absurd (g (sym e ∙ a))

  by_three : (vs : List ℕ) (up : List (List ℕ)) → get_or ws 0 0 ≡ 3 → get_or ws 3 0 ≡ get_or vs 1 0 → get_or ws 4 0 ≡ get_or vs 2 0 → Gets d 0 ws up
      → up ≡ take (get_or vs 2 0) (drop (get_or vs 1 0) d) ∷ []
  by_three vs up e f g (by_refusal z) = absurd (z refl)
  by_three vs up e f g (by_another z a b) = absurd (a e)
  by_three vs up e f g (by_sequenced z a) = rw (f, g)
  by_three vs up e f g (by_unsequenced z a) = absurd (omega arith)

  by-four : (vs : List ℕ) (up : List (List ℕ)) → get_or ws 0 0 ≡ 4 → get_or ws 2 0 ≡ get_or vs 0 0 → get_or ws 3 0 ≡ get_or vs 1 0 → Gets d 0 ws up
      → up ≡ take (get_or vs 1 0) (drop (get_or vs 0 0) d) ∷ []
  by-four vs up e f g (by_refusal z) = absurd (z refl)
  by-four vs up e f g (by_another z a b) = absurd (b e)
  by-four vs up e f g (by_sequenced z a) = absurd (omega arith)
  by-four vs up e f g (by_unsequenced z a) = rw (f, g)

  -- an answer of a kind, behind the bytes k that its step took
  by_kind : (kind : SessionAnswerKind) (k : ℕ) (vs : List ℕ) (up : List (List ℕ))
      → ((i : ℕ) → i < 5 → get_or ws i 0 ≡ get_or (session_answer_number kind ∷ k ∷ vs) i 0) → Gets d 0 ws up
      → up ≡ messages_up_at (answer kind) vs d
  unfolding messages_up_at answer_message_at session_answer_number
  by_kind wants_more k vs up at g = by_number 0 up (at 0 (omega arith)) (λ e. omega arith) (λ e. omega arith) g
  by_kind accepted k vs up at g = by_number 1 up (at 0 (omega arith)) (λ e. omega arith) (λ e. omega arith) g
  by_kind rejected k vs up at g = by_number 2 up (at 0 (omega arith)) (λ e. omega arith) (λ e. omega arith) g
  by_kind sequenced k vs up at g = by_three vs up (at 0 (omega arith)) (at 3 (omega arith)) (at 4 (omega arith)) g
  by_kind unsequenced k vs up at g = by-four vs up (at 0 (omega arith)) (at 2 (omega arith)) (at 3 (omega arith)) g
  by_kind heartbeat k vs up at g = by_number 5 up (at 0 (omega arith)) (λ e. omega arith) (λ e. omega arith) g
  by_kind debug k vs up at g = by_number 6 up (at 0 (omega arith)) (λ e. omega arith) (λ e. omega arith) g
  by_kind logged_out k vs up at g = by_number 7 up (at 0 (omega arith)) (λ e. omega arith) (λ e. omega arith) g
  by_kind end_of_session k vs up at g = by_number 8 up (at 0 (omega arith)) (λ e. omega arith) (λ e. omega arith) g

by-refused : (d : List ℕ) (r : ℕ) (ws : List ℕ) (up : List (List ℕ)) → (r ≡ 0 → ⊥) → Gets d r ws up → up ≡ []
by-refused d r ws up n (by_refusal z) = refl
by-refused d r ws up n (by_another z a b) = refl
by-refused d r ws up n (by_sequenced z a) = absurd (n z)
by-refused d r ws up n (by_unsequenced z a) = absurd (n z)

-- ---- one call

-- what the exported step of either end promises, where the step comes to o; g is the ground that needs no session
pub record CallDoes {S : Type 0} (reads : List ℕ → S) (bytes_of : S → List ℕ) (g : ℕ) (o : StepOutcome S) (r : ℕ) (l m ws ws' : List ℕ) : Type 0 where
  pub answers : AnswersWith r ws ws' (state_ladder g (ltb (length l) session_state_size) o.reply.refusal) (words_of session_answer_number 5 (step_words o))
  pub keeps : Keeps (on_step r o.size) l m session_state_size reads (bytes_of o.after) o.after

-- a step that took nothing lays nothing, and one that took something lays its session
not-laid : (r : ℕ) (x y : List ℕ) → if on_step r 0 then x else y ≡ y
unfolding on_step
not-laid r x y = go (eqb r 0)
  where
    go : (b : Bool) → if (if b then false else false) then x else y ≡ y
    go true = refl
    go false = refl

is-laid : (r k : ℕ) → r ≡ 0 → (k ≡ 0 → ⊥) → on_step r k ≡ true
unfolding on_step
is-laid r k z n = rw (eq-eqb r 0 z, ne_eqb k 0 n) refl

kept-length : (b : Bool) (l bs : List ℕ) → length (if b then put l 0 bs else l) ≡ length l
kept-length true l bs = length-put l 0 bs
kept-length false l bs = refl

-- what a step leaves, by its cases: r is the code, which is its refusal
module _ {S : Type 0} (reads : List ℕ → S) (bytes_of : S → List ℕ) (g : ℕ) (gs : List ℕ) (o : StepOutcome S) (r : ℕ) (l m : List ℕ) (long : session_state_size ≤ length l)
    (same : r ≡ o.reply.refusal) (keeps : Keeps (on_step r o.size) l m session_state_size reads (bytes_of o.after) o.after) where
  pub kept-long : length m ≡ length l
  kept-long = ap length keeps.leaves ∙ kept-length (on_step r o.size) l (bytes_of o.after)

  rests : (w : _) → o ≡ stays (reads l) w → reads m ≡ o.after
  rests w e =
      let f : o.size ≡ 0 = ap (λ (x : StepOutcome S). x.size) e in
      let still : m ≡ l = keeps.leaves ∙ rw f (not-laid r _ l) in
      ap reads still ∙ sym (ap (λ (x : StepOutcome S). x.after) e)

  pub step-leaves : Steps (reads l) g gs o → reads m ≡ o.after
  step-leaves (waits z e) = rests _ e
  step-leaves (needs-none n p e) = rests _ e
  step-leaves (refuses-own x z b p e) = rests _ e
  step-leaves (moves k kind vs t z n e) =
      let zero : r ≡ 0 = same ∙ ap (λ (x : StepOutcome S). x.reply.refusal) e in
      let size : o.size ≡ k = ap (λ (x : StepOutcome S). x.size) e in
      keeps.reads_back (is-laid r o.size zero (rw size n)) long

module _ {S : Type 0} (reads : List ℕ → S) (bytes_of : S → List ℕ) (g : ℕ) (gs : List ℕ) (o : StepOutcome S) (r : ℕ) (l m d ws ws' : List ℕ) (up : List (List ℕ))
    (long : session_state_size ≤ length l) (room : 5 ≤ length ws) (call : CallDoes reads bytes_of g o r l m ws ws') (gets : Gets d r ws' up) where
  code_is : Steps (reads l) g gs o → r ≡ o.reply.refusal
  code_is does =
      let n : length (words_of session_answer_number 5 (step_words o)) ≡ 5 = length-words session_answer_number 5 _ _ in
      call.answers.returns
      ∙ rw (n, le-ltb (length ws) 5 room, le-ltb (length l) session_state_size long) (sym (or-short-no _) ∙ ladder-open does)

  told : (k : ℕ) (kind : SessionAnswerKind) (vs : List ℕ) (t : S) → o ≡ takes k (says kind vs) t → r ≡ 0
      → ws' ≡ put ws 0 (padded 5 (session_answer_number kind ∷ k ∷ vs))
  unfolding words_at
  told k kind vs t e z = call.answers.words ∙ sym (success r _ _ ws z refl) ∙ rw e refl

  said : (k : ℕ) (kind : SessionAnswerKind) (vs : List ℕ) (t : S) → o ≡ takes k (says kind vs) t → r ≡ 0 → up ≡ messages_up o.reply d
  said k kind vs t e z =
      rw e
      (by_kind d ws' kind k vs up
      (λ i h. ap (λ (x : List ℕ). get_or x i 0) (told k kind vs t e z) ∙ word_at ws (session_answer_number kind ∷ k ∷ vs) i h room)
      (rw z at gets))

  nothing : (n : ℕ) → o ≡ stays (reads l) (refuses n) → (r ≡ 0 → ⊥) → up ≡ messages_up o.reply d
  unfolding messages_up_at
  nothing n e z = rw e (by-refused d r ws' up z gets)

  up_is : Steps (reads l) g gs o → up ≡ messages_up o.reply d
  up_is (waits z e) = said 0 wants_more [] (reads l) e (code_is (waits z e) ∙ ap (λ (x : StepOutcome S). x.reply.refusal) e)
  up_is (needs-none n p e) =
      let same : r ≡ g = code_is (needs-none n p e) ∙ ap (λ (x : StepOutcome S). x.reply.refusal) e in
      nothing g e (λ y. n (sym same ∙ y))
  up_is (refuses-own x z b p e) =
      let same : r ≡ x = code_is (refuses-own x z b p e) ∙ ap (λ (y : StepOutcome S). y.reply.refusal) e in
      nothing x e (λ y. omega arith)
  up_is (moves k kind vs t z n e) = said k kind vs t e (code_is (moves k kind vs t z n e) ∙ ap (λ (x : StepOutcome S). x.reply.refusal) e)

-- ---- a run of calls

module _ {S : Type 0} (reads : List ℕ → S) (bytes_of : S → List ℕ) (step : S → List ℕ → StepOutcome S) (Call : ℕ → List ℕ → List ℕ → List ℕ → List ℕ → List ℕ → Type 0)
    (ground : List ℕ → ℕ) (gs : List ℕ) (does : (s : S) (d : List ℕ) → Steps s (ground d) gs (step s d))
    (calls : (r : ℕ) (l m d ws ws' : List ℕ) → Call r l m d ws ws' → CallDoes reads bytes_of (ground d) (step (reads l) d) r l m ws ws') where
  handed : (l n : List ℕ) (ds ups : List (List ℕ)) → session_state_size ≤ length l → Handed reads step Call l ds n ups → Hands reads step Call l n ds ups
  unfolding session_after handed_up_by
  handed l n ds us h none = record { leaves = refl; gives = refl }
  handed l n es us h (one {m = m} {d = d} {ds = ds} {up = up} {ups = ups} t rest) =
      let c = calls t.code l m d t.words t.laid t.call in
      let code = code_is reads bytes_of (ground d) gs (step (reads l) d) t.code l m d t.words t.laid up h t.room c t.gets (does (reads l) d) in
      let size = kept-long reads bytes_of (ground d) gs (step (reads l) d) t.code l m h code c.keeps in
      let next = step-leaves reads bytes_of (ground d) gs (step (reads l) d) t.code l m h code c.keeps (does (reads l) d) in
      let got = up_is reads bytes_of (ground d) gs (step (reads l) d) t.code l m d t.words t.laid up h t.room c t.gets (does (reads l) d) in
      let i = handed m n ds ups (omega arith) rest in
      record { leaves = rw (← next) i.leaves; gives = rw (← got, ← next, ← i.gives) refl }

  pub hands_on : HandsOn reads step Call
  unfolding HandsOn
  hands_on l m ds ups h t = handed l m ds ups h t
