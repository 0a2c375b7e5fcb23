-- A receiver's refusal is its ladder's: those of the datagram, 11 to 16, come before 41 for a state that is too short.
use Prim.Native.Nat.{ℕ}
use mathlib.Core.List.{List, [], ◌∷◌}
use mathlib.Core.Bool.{Bool, false}
use mathlib.Core.Path.{◌≡◌, refl, ap, sym, ◌∙◌}
use lib.Dec.{ltb}
use borrow.Author.Tests.{ne_eqb}
use Rattle.wire.specs.Bounds.{session_size, least_number, largest_number, least_limit, largest_limit}
use Rattle.wire.specs.Refusals.{bad_setting}
use Rattle.wire.proofs.Cases.{zero_or_not}
use Rattle.wire.proofs.Words.{refusal-of}
use Rattle.moldudp64.specs.Downstream.{DownstreamKind, kind_of, refusal_of, well_formed}
use Rattle.moldudp64.specs.Header.{number_of}
use Rattle.receiver.specs.declared.receiver.Receiver.{Receiver}
use Rattle.receiver.specs.Table.{Outcome, Row, data_reaches, data_below, heartbeat_below, heartbeat_there, any_above, end_there}
use Rattle.receiver.specs.Receiver.{receiver_start_refusal, other_session, end_below, own_refusal, refusal_for, answer_of}
use Rattle.receiver.proofs.Promises.{row_of, refused-answers}
use Rattle.receiver.proofs.TableLaws.{row-answer}
use Rattle.host_answers.specs.Answers.{or_else, short, unless_sized, state_ladder, is_one_of, RefusesOnly}
use Rattle.host_answers.proofs.AnswerLaws.{or-first, or-next}
use Rattle.host_answers.proofs.OnlyLaws.{only_if, only-sized, only_ending}

-- no row of the table refuses
no-refusal : (limit n f c : ℕ) (k : DownstreamKind) (o : Outcome) → Row limit n k f c o → o.reply.refusal ≡ 0
no-refusal limit n f c k o (data_reaches a b d e) = ap (λ (x : Outcome). x.reply.refusal) e
no-refusal limit n f c k o (data_below a b e) = ap (λ (x : Outcome). x.reply.refusal) e
no-refusal limit n f c k o (heartbeat_below a b e) = ap (λ (x : Outcome). x.reply.refusal) e
no-refusal limit n f c k o (heartbeat_there a b e) = ap (λ (x : Outcome). x.reply.refusal) e
no-refusal limit n f c k o (any_above a e) = ap (λ (x : Outcome). x.reply.refusal) e
no-refusal limit n f c k o (end_there a b e) = ap (λ (x : Outcome). x.reply.refusal) e

-- the answer's refusal is the ladder's
pub said-refusal : (r : Receiver) (d : List ℕ) → (answer_of r d).refusal ≡ refusal_for r d
said-refusal r d =
    zero_or_not _ (refusal_for r d)
    (λ e. refusal-of (row-answer r d e) ∙ no-refusal _ _ _ _ _ _ (row_of r d e) ∙ sym e)
    (λ e. refusal-of (refused-answers r d e))

-- a datagram that isn't well-formed has its own refusal, at every receiver
ill-formed : (r : Receiver) (d : List ℕ) → (refusal_of d ≡ 0 → ⊥) → refusal_for r d ≡ refusal_of d
unfolding refusal_for
ill-formed r d e = rw (ne_eqb (refusal_of d) 0 e)

-- with a state that is long enough the ladder is the receiver's
pub whole-ladder : (r : Receiver) (d : List ℕ) → refusal_for r d ≡ state_ladder (refusal_of d) false (refusal_for r d)
unfolding short
whole-ladder r d =
    zero_or_not _ (refusal_of d) (λ z. or-next 0 (refusal_for r d) refl ∙ or-next (refusal_of d) _ z) (λ z. ill-formed r d z ∙ or-first (refusal_of d) _ z)

-- ---- which refusals there are

abbrev pub take_grounds : List ℕ
take_grounds = 11 ∷ 12 ∷ 13 ∷ 14 ∷ 15 ∷ 16 ∷ 17 ∷ 18 ∷ 20 ∷ 41 ∷ []

own-only : (r : Receiver) (d : List ℕ) (b : Bool) → RefusesOnly (own_refusal r d b) take_grounds
unfolding own_refusal is_one_of
own-only r d b = only_if (other_session r d) 17 _ take_grounds refl (only_if r.ended 18 _ take_grounds refl (only_if b 20 0 take_grounds refl refl))

pub receiver-only : (r : Receiver) (d : List ℕ) → RefusesOnly (refusal_of d) take_grounds → RefusesOnly (refusal_for r d) take_grounds
unfolding refusal_for
receiver-only r d h = only_if (well_formed d) _ (refusal_of d) take_grounds (own-only r d (end_below (kind_of d) (number_of d) r.next.0)) h

pub start-only : (r g h n limit lent : ℕ) (b : Bool) → h ≡ receiver_start_refusal n limit → g ≡ unless_sized lent session_size bad_setting h → r ≡ or_else g (short b) → RefusesOnly r (19 ∷ 41 ∷ [])
unfolding is_one_of receiver_start_refusal
start-only r g h n limit lent b e f q =
    only_ending r g b (19 ∷ 41 ∷ []) q
    (rw (f, e) (only-sized lent session_size bad_setting (receiver_start_refusal n limit) (19 ∷ 41 ∷ []) refl
    (only_if (ltb n least_number) 19 _ (19 ∷ 41 ∷ []) refl
    (only_if (ltb largest_number n) 19 _ (19 ∷ 41 ∷ []) refl (only_if (ltb limit least_limit) 19 _ (19 ∷ 41 ∷ []) refl (only_if (ltb largest_limit limit) 19 0 (19 ∷ 41 ∷ []) refl refl))))))
    refl
