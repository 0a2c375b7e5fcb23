-- What a receiver's answer to a datagram says by its words: deliver with its three values, whose count and skipped make
-- the count of the datagram, or another that delivers nothing.
use Prim.Native.Nat.{ℕ, ◌+◌, ◌<◌}
use mathlib.Core.List.{List, [], ◌∷◌}
use mathlib.Core.Path.{◌≡◌, refl, ap}
use native.Mathlib.Omega.{arith}
use lib.ListN.{length, get_or, get_or-append}
use Rattle.wire.specs.Words.{Words, Case, answer, refused, says}
use Rattle.moldudp64.specs.Header.{number_of, count_of}
use Rattle.moldudp64.specs.Downstream.{data_packet, kind_of}
use Rattle.receiver.specs.declared.receiver.Receiver.{Receiver}
use Rattle.receiver.specs.Table.{AnswerKind, deliver, old, quiet, ask, ended, Outcome, Row, data_reaches, data_below, heartbeat_below, heartbeat_there, any_above, end_there}
use Rattle.receiver.specs.Receiver.{refusal_for, answer_of}
use Rattle.receiver.specs.Delivery.{messages_delivered_at, messages_delivered}
use Rattle.feed.specs.Session.{Datagram}
use Rattle.receiver.proofs.Promises.{row_of, refused-answers}
use Rattle.receiver.proofs.TableLaws.{row-answer}
use Rattle.host_answers.specs.Answers.{padded, words_at, words_of, AnswersWith}
use Rattle.host_answers.proofs.AnswerLaws.{length-padded}
use Rattle.host_answers.proofs.PromiseLaws.{host-promises}
use Rattle.host_receiver.specs.Replies.{answer_number}

pub data Says (w : Words AnswerKind) (d : Datagram) : Type 0 where
  delivers : (first count skipped : ℕ) → w ≡ says deliver (first ∷ count ∷ skipped ∷ []) → kind_of d ≡ data_packet → skipped + count ≡ count_of d → Says w d
  gives_none : (get_or (words_of answer_number 4 w) 0 0 ≡ 1 → ⊥) → messages_delivered w d ≡ [] → Says w d

-- an answer of another kind
other : {w : Words AnswerKind} {d : Datagram} (k : AnswerKind) (vs : List ℕ) → w ≡ says k vs → (answer_number k ≡ 1 → ⊥) → messages_delivered_at (answer k) vs d ≡ [] → Says w d
unfolding words_at padded
other k vs e n m = gives_none (rw e n) (rw e m)

reply-so : {o x : Outcome} → o ≡ x → o.reply ≡ x.reply
reply-so e = ap (λ (y : Outcome). y.reply) e

by_row : {limit n : ℕ} {o : Outcome} (d : Datagram) → Row limit n (kind_of d) (number_of d) (count_of d) o → Says o.reply d
unfolding answer_number messages_delivered_at
by_row d (data_reaches a b x e) = delivers _ _ _ (reply-so e) a (omega arith)
by_row d (data_below a b e) = other old [] (reply-so e) (λ z. omega arith) refl
by_row d (heartbeat_below a b e) = other old [] (reply-so e) (λ z. omega arith) refl
by_row d (heartbeat_there a b e) = other quiet [] (reply-so e) (λ z. omega arith) refl
by_row d (any_above a e) = other ask _ (reply-so e) (λ z. omega arith) refl
by_row d (end_there a b e) = other ended [] (reply-so e) (λ z. omega arith) refl

pub said : (r : Receiver) (d : Datagram) → refusal_for r d ≡ 0 → Says (answer_of r d) d
said r d z = rw (row-answer r d z) (by_row d (row_of r d z))

-- a refusal delivers nothing
pub nothing : (r : Receiver) (d : Datagram) → (refusal_for r d ≡ 0 → ⊥) → messages_delivered (answer_of r d) d ≡ []
unfolding messages_delivered_at
nothing r d z = rw (refused-answers r d z)

-- ---- the words as they are laid

-- an answer has as many words as it is given
pub length-words : {K : Type 0} (table : K → ℕ) (n : ℕ) (c : Case K) (vs : List ℕ) → length (words_at table n c vs) ≡ n
unfolding words_at
length-words table n (answer k) vs = length-padded n _
length-words table n refused vs = length-padded n []

pub word-laid : (w : Words AnswerKind) (code g : ℕ) (ws ws' : List ℕ) (i : ℕ) → AnswersWith code ws ws' g (words_of answer_number 4 w) → code ≡ 0 → i < 4
    → get_or ws' i 0 ≡ get_or (words_of answer_number 4 w) i 0
word-laid w code g ws ws' i a z j =
    let size = length-words answer_number 4 w.which w.values in
    rw (host-promises.success_lays_its_words.words code ws ws' g _ a z)
    (get_or-append (words_of answer_number 4 w) _ 0 i (omega arith))

-- those of a deliver answer
pub deliver-word : (first count skipped i : ℕ) (w : Words AnswerKind) (v : ℕ) → w ≡ says deliver (first ∷ count ∷ skipped ∷ [])
    → v ≡ get_or (words_of answer_number 4 w) i 0 → v ≡ get_or (1 ∷ first ∷ count ∷ skipped ∷ []) i 0
unfolding words_at padded answer_number
deliver-word first count skipped i w v e h = rw e at h
