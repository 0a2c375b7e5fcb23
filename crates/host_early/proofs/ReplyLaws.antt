-- The words of answers and of requests.
use Prim.Native.Nat.{ℕ, ◌≤◌}
use mathlib.Core.List.{List}
use mathlib.Core.Path.{◌≡◌, refl}
use native.Mathlib.Omega.{arith}
use lib.ListN.{length, get_or}
use lib.Dec.{eqb}
use Rattle.std.specs.Prelude.{if◌then◌else◌, Option, Some, None}
use Rattle.wire.proofs.Words.{read_back}
use Rattle.early_receiver.specs.declared.early.Answer.{Answer}
use Rattle.early_receiver.specs.declared.early.Answer.TheVariants as reply
use Rattle.early_receiver.specs.declared.early.Ask.{Ask}
use Rattle.early_receiver.specs.Answers.{early_words, request_words}
use Rattle.host_answers.specs.Answers.{padded}
use Rattle.host_early.specs.Replies.{ask_words, EarlyWordsApart}

-- a request is read back
request-of : List ℕ → Option Ask
request-of ws = if eqb (get_or ws 0 0) 0 then None else Some (record { from = record { 0 = get_or ws 1 0 }; count = record { 0 = get_or ws 2 0 } })

request-back : (x : Option Ask) → request-of (ask_words (request_words x)) ≡ x
unfolding ask_words request_words padded request-of
request-back None = refl
request-back (Some a) = refl

values-in-three : (x : Answer) → length (early_words x).values ≤ 3
unfolding early_words
values-in-three (reply.Deliver f c s) = omega arith
values-in-three reply.Old = omega arith
values-in-three reply.Quiet = omega arith
values-in-three reply.Ahead = omega arith
values-in-three reply.Ended = omega arith
values-in-three (reply.Refused r) = omega arith

pub words-apart : EarlyWordsApart
words-apart = record { requests = read_back (λ (x : Option Ask). ask_words (request_words x)) request-of request-back; values_fit = values-in-three }
