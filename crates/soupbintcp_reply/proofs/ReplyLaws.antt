-- A step's reply: k is the step of the server s, o what it comes to, w what the reply's writer answered.
use mathlib.Core.Path.{◌≡◌, refl, ap, sym, ◌∙◌}
use mathlib.Core.List.{List, [], ◌∷◌}
use Prim.Native.Nat.{ℕ}
use native.Mathlib.Omega.{arith}
use lib.ListN.{length}
use borrow.Author.Tests.{eq-eqb, ne_eqb}
use Rattle.wire.specs.Words.{refused, refuses}
use Rattle.wire.specs.declared.kinds.SequenceNumber.{SequenceNumber}
use Rattle.wire.specs.Output.{Written}
use Rattle.std.specs.Prelude.{Ok, Err}
use Rattle.wire.specs.Output.{written_words, write_refusal, write_answer, write_output, Writes}
use Rattle.wire.proofs.Cases.{below_or_not, zero_or_not}
use Rattle.wire.proofs.Words.{which-of, refusal-of}
use Rattle.wire.proofs.Outputs.{put-empty, put-none, answer-refusal, no-write-refusal, wrote_so}
use Rattle.soupbintcp.specs.Letters.{letter_accepted, letter_rejected}
use Rattle.soupbintcp_writer.specs.Packets.{encoded, accepted_ground, accepted_payload, reason_ground}
use Rattle.soupbintcp_session.specs.declared.answer.Answer.{Answer}
use Rattle.soupbintcp_session.specs.declared.answer.Answer.TheVariants as case
use Rattle.soupbintcp_session.specs.Answer.{session_answer_words, StepOutcome, stays}
use Rattle.soupbintcp_server.specs.declared.server.Server.{Server}
use Rattle.soupbintcp_server.specs.declared.server.Stepped.{Stepped}
use Rattle.soupbintcp_server.specs.Server.{ServerSteps}
use Rattle.soupbintcp_reply.specs.declared.Replied.{Replied}
use Rattle.soupbintcp_reply.specs.Reply.{reply_at, reply_ground_at, reply_of, reply_ground, reply_refusal, reply_outcome, reply_written, Replies, with_reply}

-- ---- by whether the reply is refused

module _ (s : Server) (o : StepOutcome Server) (l : List ℕ) where
  pub outcome-written : reply_refusal s o l ≡ 0 → reply_outcome s o l ≡ o
  unfolding reply_outcome
  outcome-written z = rw (eq-eqb _ _ z)

  pub outcome-refused : (reply_refusal s o l ≡ 0 → ⊥) → reply_outcome s o l ≡ stays s (refuses (reply_refusal s o l))
  unfolding reply_outcome
  outcome-refused z = rw (ne_eqb _ _ z)

  pub size-written : reply_refusal s o l ≡ 0 → reply_written s o l ≡ length (reply_of s.session o.reply)
  unfolding reply_written
  size-written z = rw (eq-eqb _ _ z)

  pub size-refused : (reply_refusal s o l ≡ 0 → ⊥) → reply_written s o l ≡ 0
  unfolding reply_written
  size-refused z = rw (ne_eqb _ _ z)

-- a refused write leaves the output as it was
pub output-kept : (g : ℕ) (l bs : List ℕ) → (write_refusal g l 0 bs ≡ 0 → ⊥) → write_output g l 0 bs ≡ l
output-kept g l bs z =
    zero_or_not _ g
    (λ e.
    below_or_not _ (length l) (length bs) (λ h. rw (eq-eqb _ _ e) (put-none l 0 bs (omega arith)))
    (λ h. absurd (z (no-write-refusal g l 0 bs e (omega arith)))))
    (λ e. rw (ne_eqb _ _ e) refl)

-- a writer that refused has a refusal
refused-so : (g : ℕ) (l bs : List ℕ) → refused ≡ (write_answer g l 0 bs).which → write_refusal g l 0 bs ≡ 0 → ⊥
unfolding write_answer
refused-so g l bs e z = let f = rw (eq-eqb _ _ z) at e in let y : ◌≡◌ {A = ℕ} 0 1 = cc in omega arith

module _ (s : Server) (k : Stepped) (o : StepOutcome Server) (h : ServerSteps k o) (l m : List ℕ) where
  written-so : (w : Written) → Writes w l m (reply_ground s.session o.reply) 0 (reply_of s.session o.reply)
      → Replies (with_reply s k w) s o l m
  unfolding with_reply written_words session_answer_words
  written-so (Ok size) p =
      let so = wrote_so _ l 0 _ size (sym p.answers) in
      let z : reply_refusal s o l ≡ 0 = no-write-refusal _ l 0 _ so.no_ground so.room in
      let same = sym (outcome-written s o l z) in
      record {
        answers = h.answers ∙ ap (λ (x : StepOutcome Server). x.reply) same;
        size = h.size ∙ ap (λ (x : StepOutcome Server). x.size) same;
        after = h.leaves ∙ ap (λ (x : StepOutcome Server). x.after) same;
        written = so.size ∙ sym (size-written s o l z);
        output = p.leaves;
      }
  written-so (Err x) p =
      let z : reply_refusal s o l ≡ 0 → ⊥ = refused-so _ l _ (which-of p.answers) in
      let n : x.number ≡ reply_refusal s o l = refusal-of p.answers ∙ answer-refusal _ l 0 _ in
      let same = sym (outcome-refused s o l z) in
      record {
        answers = ap (λ (r : ℕ). refuses r) n ∙ ap (λ (y : StepOutcome Server). y.reply) same;
        size = ap (λ (y : StepOutcome Server). y.size) same;
        after = ap (λ (y : StepOutcome Server). y.after) same;
        written = sym (size-refused s o l z);
        output = p.leaves;
      }

  pub reply-A : (n : SequenceNumber) (w : Written) (r : Replied) → k.answer ≡ case.Accepted n
      → Writes w l m (accepted_ground s.session n.0) 0 (encoded letter_accepted (accepted_payload s.session n.0))
      → r ≡ with_reply s k w → Replies r s o l m
  unfolding reply_at reply_ground_at session_answer_words
  reply-A n w r e p q = rw q (written-so w (rw (← h.answers, e) p))

  pub reply-J : (reason : ℕ) (w : Written) (r : Replied) → k.answer ≡ case.Rejected reason
      → Writes w l m (reason_ground reason) 0 (encoded letter_rejected (reason ∷ []))
      → r ≡ with_reply s k w → Replies r s o l m
  unfolding reply_at reply_ground_at session_answer_words
  reply-J reason w r e p q = rw q (written-so w (rw (← h.answers, e) p))

-- ---- no reply

no_bytes : (session : List ℕ) (x : Answer) → ((n : SequenceNumber) → x ≡ case.Accepted n → ⊥) → ((r : ℕ) → x ≡ case.Rejected r → ⊥) → reply_of session (session_answer_words x) ≡ []
unfolding reply_at session_answer_words
no_bytes session case.NeedMore k j = refl
no_bytes session (case.Accepted n) k j = absurd (k n refl)
no_bytes session (case.Rejected r) k j = absurd (j r refl)
no_bytes session (case.Sequenced n at size) k j = refl
no_bytes session (case.Unsequenced at size) k j = refl
no_bytes session case.Heartbeat k j = refl
no_bytes session case.Debug k j = refl
no_bytes session case.LoggedOut k j = refl
no_bytes session case.EndOfSession k j = refl
no_bytes session (case.Refused r) k j = refl

no_ground : (session : List ℕ) (x : Answer) → ((n : SequenceNumber) → x ≡ case.Accepted n → ⊥) → ((r : ℕ) → x ≡ case.Rejected r → ⊥) → reply_ground session (session_answer_words x) ≡ 0
unfolding reply_ground_at session_answer_words
no_ground session case.NeedMore k j = refl
no_ground session (case.Accepted n) k j = absurd (k n refl)
no_ground session (case.Rejected r) k j = absurd (j r refl)
no_ground session (case.Sequenced n at size) k j = refl
no_ground session (case.Unsequenced at size) k j = refl
no_ground session case.Heartbeat k j = refl
no_ground session case.Debug k j = refl
no_ground session case.LoggedOut k j = refl
no_ground session case.EndOfSession k j = refl
no_ground session (case.Refused r) k j = refl

module _ (s : Server) (k : Stepped) (o : StepOutcome Server) (h : ServerSteps k o) (l : List ℕ) where
  pub reply-none : (r : Replied) → ((n : SequenceNumber) → k.answer ≡ case.Accepted n → ⊥) → ((x : ℕ) → k.answer ≡ case.Rejected x → ⊥)
      → r ≡ with_reply s k (Ok 0) → Replies r s o l l
  unfolding with_reply
  reply-none r t u q =
      let bs : reply_of s.session o.reply ≡ [] = rw (← h.answers) (no_bytes s.session k.answer t u) in
      let g : reply_ground s.session o.reply ≡ 0 = rw (← h.answers) (no_ground s.session k.answer t u) in
      let z : reply_refusal s o l ≡ 0 = no-write-refusal _ l 0 _ g (rw bs (omega arith)) in
      let same = sym (outcome-written s o l z) in
      rw q
      (record {
        answers = h.answers ∙ ap (λ (x : StepOutcome Server). x.reply) same;
        size = h.size ∙ ap (λ (x : StepOutcome Server). x.size) same;
        after = h.leaves ∙ ap (λ (x : StepOutcome Server). x.after) same;
        written = sym (size-written s o l z ∙ ap length bs);
        output = rw (eq-eqb _ _ g, bs) (sym (put-empty l 0));
      })
