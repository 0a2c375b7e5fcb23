-- A step with its reply: s is the server, o what its step comes to, out the output that the reply is written into.
use Prim.Native.Nat.{ℕ, ◌+◌, ◌<◌}
use mathlib.Core.List.{List, []}
use mathlib.Core.Bool.{Bool, true, false}
use mathlib.Core.Path.{◌≡◌, refl, ap, sym, ◌∙◌}
use native.Mathlib.Omega.{arith}
use lib.ListN.{length}
use lib.Dec.{leb, eqb}
use borrow.Author.Tests.{eq-eqb, eqb-false}
use Rattle.std.specs.Prelude.{if◌then◌else◌}
use Rattle.wire.specs.Refusals.{output_short, field_not_written}
use Rattle.wire.specs.Words.{Case, answer, refused, says, refuses}
use Rattle.wire.specs.Output.{write_refusal}
use Rattle.wire.proofs.Cases.{zero_or_not}
use Rattle.wire.proofs.Outputs.{put-empty, no-write-refusal}
use Rattle.text_fields.specs.Session.{good_session}
use Rattle.soupbintcp.specs.Fields.{good_reason}
use Rattle.soupbintcp.proofs.LetterLaws.{choice}
use Rattle.soupbintcp_writer.specs.Packets.{accepted_ground, reason_ground}
use Rattle.soupbintcp_session.specs.Answer.{SessionAnswerKind, wants_more, accepted, rejected, sequenced, unsequenced, heartbeat, debug, logged_out, end_of_session, StepOutcome, stays}
use Rattle.soupbintcp_server.specs.declared.server.Server.{Server}
use Rattle.soupbintcp_reply.specs.Reply.{reply_at, reply_ground_at, reply_of, reply_ground, reply_refusal, reply_outcome, reply_output}
use Rattle.soupbintcp_reply.proofs.ReplyLaws.{outcome-written, outcome-refused, output-kept}
use Rattle.host_answers.specs.Answers.{or_else, RefusesOnly}
use Rattle.host_answers.proofs.AnswerLaws.{or-next}
use Rattle.host_session.proofs.StepLaws.{Steps, waits, needs-none, refuses-own, moves}

-- ---- the reply's own ground is 46

Own : ℕ → Type 0
Own x = (x ≡ 0 → ⊥) → x ≡ field_not_written

own-none : Own 0
unfolding Own
own-none n = absurd (n refl)

own-46 : Own field_not_written
unfolding Own
own-46 n = refl

accepted-own : (session : List ℕ) (n : ℕ) → Own (accepted_ground session n)
unfolding accepted_ground
accepted-own session n =
    choice Own (good_session false session) (λ e. choice Own (eqb n 0) (λ f. own-46) (λ f. own-none)) (λ e. own-46)

reason-own : (b : ℕ) → Own (reason_ground b)
unfolding reason_ground
reason-own b = choice Own (good_reason b) (λ e. own-none) (λ e. own-46)

ground-own : (session : List ℕ) (c : Case SessionAnswerKind) (vs : List ℕ) → Own (reply_ground_at session c vs)
unfolding reply_ground_at
ground-own session (answer wants_more) vs = own-none
ground-own session (answer accepted) vs = accepted-own session _
ground-own session (answer rejected) vs = reason-own _
ground-own session (answer sequenced) vs = own-none
ground-own session (answer unsequenced) vs = own-none
ground-own session (answer heartbeat) vs = own-none
ground-own session (answer debug) vs = own-none
ground-own session (answer logged_out) vs = own-none
ground-own session (answer end_of_session) vs = own-none
ground-own session refused vs = own-none

-- so that a reply is refused with 46 or 41
refusal_is : (P : ℕ → Type 0) → P output_short → P field_not_written → (g : ℕ) (l bs : List ℕ) → Own g → (write_refusal g l 0 bs ≡ 0 → ⊥) → P (write_refusal g l 0 bs)
unfolding write_refusal Own
refusal_is P p q g l bs own = go (eqb g 0) refl (leb (0 + length bs) (length l))
  where
    own-so : eqb g 0 ≡ false → P g
    own-so d = rw (own (eqb-false g 0 d)) q

    go : (b : Bool) → eqb g 0 ≡ b → (c : Bool) → (if b then (if c then 0 else output_short) else g ≡ 0 → ⊥) → P (if b then (if c then 0 else output_short) else g)
    go true d true n = absurd (n refl)
    go true d false n = p
    go false d c n = own-so d

-- or else 41 for any reason, it is the ground or 41
own-or-short : (g : ℕ) (l bs : List ℕ) → or_else (write_refusal g l 0 bs) output_short ≡ or_else g output_short
unfolding or_else write_refusal
own-or-short g l bs = go (eqb g 0) refl (leb (0 + length bs) (length l))
  where
    go : (b : Bool) → eqb g 0 ≡ b → (c : Bool)
        → if eqb (if b then (if c then 0 else output_short) else g) 0 then output_short else (if b then (if c then 0 else output_short) else g)
        ≡ if b then output_short else g
    go true d true = refl
    go true d false = refl
    go false d c = rw d

-- ---- a step that has no reply

record Quiet (s : Server) (o : StepOutcome Server) : Type 0 where
  ground : reply_ground s.session o.reply ≡ 0
  bytes : reply_of s.session o.reply ≡ []

module _ {s : Server} {o : StepOutcome Server} where
  quiet-waits : {x : Server} → o ≡ stays x (says wants_more []) → Quiet s o
  unfolding reply_at reply_ground_at
  quiet-waits e = rw e (record { ground = refl; bytes = refl })

  quiet-refused : {x : Server} {r : ℕ} → o ≡ stays x (refuses r) → Quiet s o
  unfolding reply_at reply_ground_at
  quiet-refused e = rw e (record { ground = refl; bytes = refl })

  quiet-refusal : (out : List ℕ) → Quiet s o → reply_refusal s o out ≡ 0
  quiet-refusal out q = no-write-refusal _ out 0 _ q.ground (rw q.bytes (omega arith))

  quiet-output : (out : List ℕ) → Quiet s o → reply_output s o out ≡ out
  quiet-output out q = rw (eq-eqb _ _ q.ground, q.bytes) (put-empty out 0)

  quiet-outcome : (out : List ℕ) → Quiet s o → reply_outcome s o out ≡ o
  quiet-outcome out q = outcome-written s o out (quiet-refusal out q)

-- ---- by its cases, as a step without a reply

module _ {s : Server} {g : ℕ} {gs : List ℕ} {o : StepOutcome Server} (has-41 : RefusesOnly 41 gs) (has-46 : RefusesOnly 46 gs) (out : List ℕ) where
  pub reply-steps : Steps s g gs o → Steps s g gs (reply_outcome s o out)
  reply-steps (waits z e) = waits z (quiet-outcome out (quiet-waits e) ∙ e)
  reply-steps (needs-none n p e) = needs-none n p (quiet-outcome out (quiet-refused e) ∙ e)
  reply-steps (refuses-own r z b p e) = refuses-own r z b p (quiet-outcome out (quiet-refused e) ∙ e)
  reply-steps (moves k kind vs u z n e) =
      let own = ground-own s.session o.reply.which o.reply.values in
      zero_or_not _ (reply_refusal s o out) (λ y. moves k kind vs u z n (outcome-written s o out y ∙ e))
      (λ y.
      refuses-own (reply_refusal s o out) z (refusal_is (λ r. 25 < r) (omega arith) (omega arith) _ out _ own y)
      (refusal_is (λ r. RefusesOnly r gs) has-41 has-46 _ out _ own y) (outcome-refused s o out y))

-- the output is as it was where the step has no reply or the reply is refused
pub output-stays : {s : Server} {g : ℕ} {gs : List ℕ} {o : StepOutcome Server} (out : List ℕ) → Steps s g gs o
    → (reply_refusal s o out ≡ 0 → (o.size ≡ 0 → ⊥) → ⊥) → reply_output s o out ≡ out
output-stays {s} {o = o} out (waits z e) f = quiet-output {s = s} {o = o} out (quiet-waits e)
output-stays {s} {o = o} out (needs-none n p e) f = quiet-output {s = s} {o = o} out (quiet-refused e)
output-stays {s} {o = o} out (refuses-own r z b p e) f = quiet-output {s = s} {o = o} out (quiet-refused e)
output-stays {s} {o = o} out (moves k kind vs u z n e) f =
    output-kept _ out _ (λ y. f y (λ w. n (sym (ap (λ (x : StepOutcome Server). x.size) e) ∙ w)))

-- or else 41 for any reason, the refusal is the same whatever the output is
or_short : (s : Server) (o : StepOutcome Server) → ℕ
or_short s o = or_else o.reply.refusal (or_else (reply_ground s.session o.reply) output_short)

quiet_same : (s : Server) (o : StepOutcome Server) (out : List ℕ) → Quiet s o → or_else (reply_outcome s o out).reply.refusal output_short ≡ or_short s o
unfolding or_short
quiet_same s o out q = rw (quiet-outcome out q, q.ground, ← or-next 0 output_short refl)

moved_same : (s : Server) (o : StepOutcome Server) (out : List ℕ) → o.reply.refusal ≡ 0
    → or_else (reply_outcome s o out).reply.refusal output_short ≡ or_short s o
unfolding or_short
moved_same s o out z =
    let same : (reply_outcome s o out).reply.refusal ≡ reply_refusal s o out =
    zero_or_not _ (reply_refusal s o out) (λ y. rw (outcome-written s o out y) (z ∙ sym y)) (λ y. rw (outcome-refused s o out y)) in
    rw (same, z) (own-or-short _ out _ ∙ or-next 0 _ refl)

pub short-same : {s : Server} {g : ℕ} {gs : List ℕ} {o : StepOutcome Server} (out out₂ : List ℕ) → Steps s g gs o
    → or_else (reply_outcome s o out).reply.refusal output_short ≡ or_else (reply_outcome s o out₂).reply.refusal output_short
short-same {s} {o = o} out out₂ (waits z e) = quiet_same s o out (quiet-waits e) ∙ sym (quiet_same s o out₂ (quiet-waits e))
short-same {s} {o = o} out out₂ (needs-none n p e) = quiet_same s o out (quiet-refused e) ∙ sym (quiet_same s o out₂ (quiet-refused e))
short-same {s} {o = o} out out₂ (refuses-own r z b p e) = quiet_same s o out (quiet-refused e) ∙ sym (quiet_same s o out₂ (quiet-refused e))
short-same {s} {o = o} out out₂ (moves k kind vs u z n e) =
    let y : o.reply.refusal ≡ 0 = ap (λ (x : StepOutcome Server). x.reply.refusal) e in
    moved_same s o out y ∙ sym (moved_same s o out₂ y)
