-- A run of calls hands on the server of the definitions, and sends what there is to send.
use Prim.Native.Nat.{ℕ, ◌≤◌}
use mathlib.Core.List.{List, append_assoc}
use mathlib.Core.Bool.{Bool, true, false}
use mathlib.Core.Path.{◌≡◌, refl, ap, sym, ◌∙◌}
use native.Mathlib.Omega.{arith}
use lib.ListN.{length, get_or}
use lib.Seq.{get_or_at}
use lib.Dec.{ltb, eqb}
use borrow.Author.Tests.{eq-eqb, ne_eqb, le-ltb}
use Rattle.std.specs.Prelude.{if◌then◌else◌}
use Rattle.wire.specs.Words.{refused}
use Rattle.wire.specs.Output.{put}
use Rattle.wire.proofs.Cases.{zero_or_not}
use Rattle.wire.proofs.Outputs.{length-put}
use Rattle.login.specs.declared.account.Account.{Account}
use Rattle.soupbintcp_session.specs.Answer.{StepOutcome}
use Rattle.soupbintcp_server.specs.declared.server.Server.{Server}
use Rattle.soupbintcp_server.specs.Server.{largest_last, last_refusal, with_last, server_step}
use Rattle.soupbintcp_reply.specs.Reply.{reply_written}
use Rattle.soupbintcp_reply.specs.Statements.{RefusalUndoes, written_by}
use Rattle.soupbintcp_reply.proofs.StatementLaws.{reply-promises}
use Rattle.host_answers.specs.Answers.{state_ladder, words_of, or_else, short}
use Rattle.host_answers.proofs.AnswerLaws.{or-short-no, success}
use Rattle.host_answers.proofs.PromiseLaws.{host-promises}
use Rattle.host_session.specs.Session.{session_state_size}
use Rattle.host_session.specs.Replies.{session_answer_number, step_words}
use Rattle.host_session.proofs.StepLaws.{Steps, waits, needs-none, refuses-own, ladder-open}
use Rattle.host_session.proofs.StepLaws as step
use Rattle.host_session.proofs.HandsLaws.{length-words, kept-long, step-leaves}
use Rattle.host_server.specs.Server.{server_bytes, server_in, server_stateless}
use Rattle.exports_server.specs.Calls.{MovesLast, StepsAtServer}
use Rattle.exports_reply.specs.Calls.{replied, RepliesAtServer}
use Rattle.exports_reply.specs.Run.{ServerInput, server_after, to_send, Sends, by_refusal, by_word, ServerCall, steps, replies, moves, ServerHanded, none, one, server_after_all, to_send_all, ServerHands, EveryServerCallHandsOn}
use Rattle.exports_reply.proofs.CallLaws as call

-- ---- a step

module _ {l m : List ℕ} {t : List Account} {d ws ws' : List ℕ} {r : ℕ} (long : session_state_size ≤ length l) (room : 5 ≤ length ws) (q : StepsAtServer r l m t d ws ws') where
  step-code : r ≡ (server_step t (server_in l) d).reply.refusal
  step-code =
      let n : length (words_of session_answer_number 5 (step_words (server_step t (server_in l) d))) ≡ 5 = length-words session_answer_number 5 _ _ in
      q.answers.returns
      ∙ rw (n, le-ltb (length ws) 5 room, le-ltb (length l) session_state_size long) (sym (or-short-no _) ∙ ladder-open (call.steps l t d))

  step_after : server_in m ≡ (server_step t (server_in l) d).after
  step_after = step-leaves server_in server_bytes (server_stateless t d) call.reply_grounds _ r l m long step-code q.keeps (call.steps l t d)

  step-long : length m ≡ length l
  step-long = kept-long server_in server_bytes (server_stateless t d) call.reply_grounds (server_step t (server_in l) d) r l m long step-code q.keeps

-- ---- a reply

-- an outcome that refuses is a refusal
refuses-so : {s : Server} {g : ℕ} {gs : List ℕ} {o : StepOutcome Server} → Steps s g gs o → (o.reply.refusal ≡ 0 → ⊥) → o.reply.which ≡ refused
refuses-so (waits z e) n = absurd (n (ap (λ (x : StepOutcome Server). x.reply.refusal) e))
refuses-so (needs-none m p e) n = ap (λ (x : StepOutcome Server). x.reply.which) e
refuses-so (refuses-own x z b p e) n = ap (λ (x : StepOutcome Server). x.reply.which) e
refuses-so (step.moves k kind vs t z b e) n = absurd (n (ap (λ (x : StepOutcome Server). x.reply.refusal) e))

module _ {l m : List ℕ} {t : List Account} {d o o' ws ws' : List ℕ} {r : ℕ} (long : session_state_size ≤ length l) (room : 6 ≤ length ws) (q : RepliesAtServer r l m t d o o' ws ws') where
  reply-code : r ≡ (replied l t d o).reply.refusal
  reply-code =
      q.answers.returns
      ∙ rw (call.length-replied l t d o, le-ltb (length ws) 6 room, le-ltb (length l) session_state_size long) (sym (or-short-no _) ∙ ladder-open (call.replied-steps l t d o))

  reply-after : server_in m ≡ (replied l t d o).after
  reply-after = step-leaves server_in server_bytes (server_stateless t d) call.reply_grounds _ r l m long reply-code q.keeps (call.replied-steps l t d o)

  reply-long : length m ≡ length l
  reply-long = kept-long server_in server_bytes (server_stateless t d) call.reply_grounds (replied l t d o) r l m long reply-code q.keeps

  -- the sixth word is how many bytes were written
  sixth : r ≡ 0 → get_or ws' 5 0 ≡ reply_written (server_in l) (server_step t (server_in l) d) o
  sixth z =
      let laid = host-promises.success_lays_its_words.words r ws ws' _ _ q.answers z in
      let n : length (words_of session_answer_number 5 (step_words (replied l t d o))) ≡ 5 = length-words session_answer_number 5 _ _ in
      rw (laid, append_assoc (words_of session_answer_number 5 (step_words (replied l t d o))) _ _) (get_or_at (words_of session_answer_number 5 (step_words (replied l t d o))) _ _ 0 5 n)

  sent : {out : List ℕ} → Sends r ws' o' out → out ≡ written_by (server_in l) (server_step t (server_in l) d) o
  unfolding RefusalUndoes
  sent (by_refusal n) =
      let undone = reply-promises.refusal_undoes t (server_in l) d o (refuses-so (call.replied-steps l t d o) (λ e. n (reply-code ∙ e))) in
      rw undone.written refl
  sent (by_word z) = rw (sixth z, q.output ∙ sym (success r _ _ o z refl)) refl

-- ---- the last number

module _ {l m : List ℕ} {n r : ℕ} (long : session_state_size ≤ length l) (q : MovesLast r n l m) where
  -- the ladder, of a state that is long enough
  last_code : r ≡ state_ladder (if ltb largest_last n then 19 else 0) false (last_refusal (server_in l) n)
  last_code = q.returns ∙ rw (le-ltb (length l) session_state_size long)

  -- a refusal is one of the server's own too
  still : (r ≡ 0 → ⊥) → last_refusal (server_in l) n ≡ 0 → ⊥
  unfolding last_refusal or_else short
  still z e = z (last_code ∙ go (ltb n (server_in l).last.0) (ltb largest_last n) e)
    where
      above : Bool → ℕ
      above b = if b then 19 else 0

      own : Bool → Bool → ℕ
      own a b = if a then 19 else above b

      go : (a b : Bool) → own a b ≡ 0 → (if eqb (above b) 0 then own a b else above b) ≡ 0
      go true b f = absurd (omega arith)
      go false true f = absurd (omega arith)
      go false false f = refl

  last-after : server_in m ≡ with_last (server_in l) n
  unfolding with_last
  last-after =
      zero_or_not _ r (λ z. q.keeps.reads_back (eq-eqb r 0 z) long)
      (λ z.
      let same : m ≡ l = rw (ne_eqb r 0 z) at q.keeps.leaves in
      ap server_in same ∙ rw (ne_eqb (last_refusal (server_in l) n) 0 (still z)))

  last-long : length m ≡ length l
  last-long =
      zero_or_not _ r (λ z. let p : m ≡ put l 0 _ = rw (eq-eqb r 0 z) at q.keeps.leaves in rw p (length-put l 0 _))
      (λ z. ap length (rw (ne_eqb r 0 z) at q.keeps.leaves))

-- ---- any call

module _ {l : List ℕ} (long : session_state_size ≤ length l) where
  call-after : {i : ServerInput} {m out : List ℕ} → ServerCall l i m out → server_in m ≡ server_after (server_in l) i
  unfolding server_after
  call-after (steps r ws ws' h q) = step_after long h q
  call-after (replies r o' ws ws' h q s) = reply-after long h q
  call-after (moves r q) = last-after long q

  call_long : {i : ServerInput} {m out : List ℕ} → ServerCall l i m out → length m ≡ length l
  call_long (steps r ws ws' h q) = step-long long h q
  call_long (replies r o' ws ws' h q s) = reply-long long h q
  call_long (moves r q) = last-long long q

  call-sends : {i : ServerInput} {m out : List ℕ} → ServerCall l i m out → out ≡ to_send (server_in l) i
  unfolding to_send
  call-sends (steps r ws ws' h q) = refl
  call-sends (replies r o' ws ws' h q s) = sent long h q s
  call-sends (moves r q) = refl

run : {l m : List ℕ} {is : List ServerInput} {out : List ℕ} → session_state_size ≤ length l → ServerHanded l is m out → ServerHands l m is out
unfolding server_after_all to_send_all
run long none = record { leaves = refl; sends = refl }
run {l} long (one {m = k} {is = is} c rest) =
    let next = call-after long c in
    let size = call_long long c in
    let hands = run (omega arith) rest in
    record {
      leaves = hands.leaves ∙ ap (λ (s : Server). server_after_all s is) next;
      sends = rw (call-sends long c, hands.sends, next) refl;
    }

pub every-server-call : EveryServerCallHandsOn
unfolding EveryServerCallHandsOn
every-server-call l m is out long handed = run long handed
