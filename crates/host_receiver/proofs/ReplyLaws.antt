-- The words of answers.
use Prim.Native.Nat.{ℕ, ◌<◌}
use mathlib.Core.Path.{◌≡◌, refl}
use native.Mathlib.Omega.{arith}
use lib.ListN.{length}
use lib.Dec.{eqb}
use Rattle.std.specs.Prelude.{if◌then◌else◌}
use Rattle.wire.proofs.Words.{read_back}
use Rattle.receiver.specs.declared.receiver.Answer.{Answer}
use Rattle.receiver.specs.declared.receiver.Answer.TheVariants as reply
use Rattle.receiver.specs.Table.{AnswerKind, deliver, old, quiet, ask, ended, answer_words}
use Rattle.host_receiver.specs.Replies.{answer_number, AnswerNumbersApart}

-- the numbers tell answers apart: each is read back
unfoldable reply-of : ℕ → AnswerKind
reply-of n =
    if eqb n 1 then deliver else if eqb n 2 then old else if eqb n 3 then quiet else if eqb n 4 then ask else ended

reply-back : (k : AnswerKind) → reply-of (answer_number k) ≡ k
unfolding reply-of answer_number
reply-back deliver = refl
reply-back old = refl
reply-back quiet = refl
reply-back ask = refl
reply-back ended = refl

values-in-four : (x : Answer) → length (answer_words x).values < 4
unfolding answer_words
values-in-four (reply.Deliver f c s) = omega arith
values-in-four reply.Old = omega arith
values-in-four reply.Quiet = omega arith
values-in-four (reply.Ask f c) = omega arith
values-in-four reply.Ended = omega arith
values-in-four (reply.Refused r) = omega arith

pub answers_apart : AnswerNumbersApart
answers_apart = record { numbers = read_back answer_number reply-of reply-back; values_fit = values-in-four }
