-- The words of answers.
use Prim.Native.Nat.{ℕ, ◌<◌}
use mathlib.Core.Path.{◌≡◌, refl}
use native.Mathlib.Omega.{arith}
use lib.ListN.{length}
use lib.Dec.{eqb}
use Rattle.std.specs.Prelude.{if◌then◌else◌}
use Rattle.wire.proofs.Words.{read_back}
use Rattle.soupbintcp_session.specs.declared.answer.Answer.{Answer}
use Rattle.soupbintcp_session.specs.declared.answer.Answer.TheVariants as case
use Rattle.soupbintcp_session.specs.Answer.{SessionAnswerKind, wants_more, accepted, rejected, sequenced, unsequenced, heartbeat, debug, logged_out, end_of_session, session_answer_words}
use Rattle.host_session.specs.Replies.{session_answer_number, SessionNumbersApart}

-- the numbers tell answers apart: each is read back
unfoldable reply-of : ℕ → SessionAnswerKind
reply-of n =
    if eqb n 0 then wants_more else if eqb n 1 then accepted else if eqb n 2 then rejected else if eqb n 3 then sequenced else if eqb n 4 then unsequenced else if eqb n 5 then heartbeat else if eqb n 6 then debug else if eqb n 7 then logged_out else end_of_session

reply-back : (k : SessionAnswerKind) → reply-of (session_answer_number k) ≡ k
unfolding reply-of session_answer_number
reply-back wants_more = refl
reply-back accepted = refl
reply-back rejected = refl
reply-back sequenced = refl
reply-back unsequenced = refl
reply-back heartbeat = refl
reply-back debug = refl
reply-back logged_out = refl
reply-back end_of_session = refl

values-in-four : (x : Answer) → length (session_answer_words x).values < 4
unfolding session_answer_words
values-in-four case.NeedMore = omega arith
values-in-four (case.Accepted n) = omega arith
values-in-four (case.Rejected b) = omega arith
values-in-four (case.Sequenced n at k) = omega arith
values-in-four (case.Unsequenced at k) = omega arith
values-in-four case.Heartbeat = omega arith
values-in-four case.Debug = omega arith
values-in-four case.LoggedOut = omega arith
values-in-four case.EndOfSession = omega arith
values-in-four (case.Refused r) = omega arith

pub answers_apart : SessionNumbersApart
answers_apart = record { numbers = read_back session_answer_number reply-of reply-back; values_fit = values-in-four }
