-- Which refusals the store gives, as a list; and those that need no name.
use Prim.Native.Nat.{ℕ, ◌+◌, ◌≤◌}
use mathlib.Core.List.{List, [], ◌∷◌}
use mathlib.Core.Bool.{Bool, true, not}
use mathlib.Core.Path.{◌≡◌, refl, ◌∙◌}
use lib.ListN.{length}
use lib.Dec.{ltb, leb, eqb}
use Rattle.wire.specs.Refusals.{output_short}
use Rattle.wire.specs.Bytes.{same_bytes}
use Rattle.wire.specs.Output.{written_words, write_refusal, Writes}
use Rattle.std.specs.Prelude.{Ok, Err}
use Rattle.wire.specs.Output.{Written}
use Rattle.wire.proofs.Words.{refusal-of}
use Rattle.wire.proofs.Outputs.{answer-refusal}
use Rattle.moldudp64.specs.Header.{header_size, end_count, number_of, count_of}
use Rattle.moldudp64.specs.Downstream.{run_out}
use Rattle.moldudp64.specs.Request.{request_ground, request_refusal, request_session}
use Rattle.moldudp64_writer.specs.Writer.{add_up}
use Rattle.packing.specs.Fit.{size_ground, least_size, largest_size, room_of, fits_alone}
use Rattle.store.specs.Store.{Store, store, numbers_ground, store_ground, in_store, length_at, answer_ground}
use Rattle.host_answers.specs.Answers.{or_else, short, is_one_of, behind_stateless, said_refusal, RefusesOnly, AnswersWith}
use Rattle.host_answers.proofs.OnlyLaws.{only_if, only-or, only-short, only-within, only-at-most, within, at_most, answers-only, reported-only}

abbrev answer_list : List ℕ
answer_list = 19 ∷ 44 ∷ 47 ∷ 13 ∷ 48 ∷ 53 ∷ 51 ∷ 52 ∷ 41 ∷ []

-- those that need no name
abbrev nameless_list : List ℕ
nameless_list = 19 ∷ 44 ∷ 47 ∷ 13 ∷ 48 ∷ []

size-only : (size : ℕ) → RefusesOnly (size_ground size) nameless_list
unfolding size_ground is_one_of
size-only size = only_if (ltb size least_size) 19 _ nameless_list refl (only_if (ltb largest_size size) 19 0 nameless_list refl refl)

numbers-only : (st : Store) → RefusesOnly (numbers_ground st) nameless_list
unfolding numbers_ground is_one_of
numbers-only st = only_if (eqb st.first 0) 19 _ nameless_list refl (only_if (run_out st.first (length st.lengths)) 19 0 nameless_list refl refl)

store-only : (st : Store) (size : ℕ) → RefusesOnly (store_ground st size) nameless_list
unfolding store_ground is_one_of
store-only st size =
    only_if (not (eqb (size_ground size) 0)) (size_ground size) _ nameless_list (size-only size)
    (only_if (not (eqb (numbers_ground st) 0)) (numbers_ground st) _ nameless_list (numbers-only st)
    (only_if (not (add_up st.lengths st.joined)) 44 0 nameless_list refl refl))

request-only : (q : List ℕ) → RefusesOnly (request_refusal q) nameless_list
unfolding request_refusal request_ground is_one_of
request-only q =
    only_if (not (eqb (length q) header_size)) 47 _ nameless_list refl
    (only_if (eqb (number_of q) 0) 13 _ nameless_list refl
    (only_if (eqb (count_of q) 0) 48 _ nameless_list refl (only_if (eqb (count_of q) end_count) 48 0 nameless_list refl refl)))

-- they are at most 48
pub store-at-most : (st : Store) (size : ℕ) → store_ground st size ≤ 48
unfolding at_most
store-at-most st size = only-at-most (store_ground st size) 48 nameless_list (store-only st size) refl

pub request-at-most : (q : List ℕ) → request_refusal q ≤ 48
unfolding at_most
request-at-most q = only-at-most (request_refusal q) 48 nameless_list (request-only q) refl

ladder-only : (st : Store) (size : ℕ) (q : List ℕ) → RefusesOnly (answer_ground st size q) answer_list
unfolding answer_ground is_one_of within
ladder-only st size q =
    only_if (not (eqb (store_ground st size) 0)) (store_ground st size) _ answer_list (only-within (store_ground st size) nameless_list answer_list (store-only st size) refl)
    (only_if (not (eqb (request_refusal q) 0)) (request_refusal q) _ answer_list (only-within (request_refusal q) nameless_list answer_list (request-only q) refl)
    (only_if (not (same_bytes (request_session q) st.session)) 53 _ answer_list refl
    (only_if (not (in_store st (number_of q))) 51 _ answer_list refl
    (only_if (not (fits_alone (room_of size) (length_at st (number_of q)))) 52 0 answer_list refl refl))))

pub answer-only : (r n : ℕ) (b : Bool) (w : Written) (ws ws' vs l m bs t ks d : List ℕ) (size : ℕ) (q : List ℕ)
    → AnswersWith r ws ws' (or_else (written_words w).refusal (short b)) vs → Writes w l m (answer_ground (store t n ks d) size q) 0 bs
    → RefusesOnly r (19 ∷ 44 ∷ 47 ∷ 13 ∷ 48 ∷ 53 ∷ 51 ∷ 52 ∷ 41 ∷ [])
unfolding is_one_of
answer-only r n b w ws ws' vs l m bs t ks d size q a x = reported-only r _ b w ws ws' vs l m bs answer_list a x (ladder-only (store t n ks d) size q) refl

-- what a writer's answer refuses
pub written-said : (w : Written) → (written_words w).refusal ≡ said_refusal w
unfolding written_words said_refusal
written-said (Ok size) = refl
written-said (Err x) = refl

-- and where there is no name
behind-only : (g : ℕ) → RefusesOnly g answer_list → RefusesOnly (behind_stateless true 48 g) answer_list
unfolding behind_stateless is_one_of
behind-only g p = only_if (eqb g 0) output_short _ answer_list refl (only_if (ltb 48 g) output_short g answer_list refl p)

writer_only : (st : Store) (size : ℕ) (q l bs : List ℕ) → RefusesOnly (write_refusal (answer_ground st size q) l 0 bs) answer_list
unfolding write_refusal is_one_of
writer_only st size q l bs = only_if (eqb (answer_ground st size q) 0) _ _ answer_list (only_if (leb (0 + length bs) (length l)) 0 output_short answer_list refl refl) (ladder-only st size q)

pub nameless-only : (r n : ℕ) (w w' : Written) (ws ws' vs l m bs t ks d : List ℕ) (size : ℕ) (q : List ℕ)
    → said_refusal w' ≡ behind_stateless true 48 (said_refusal w)
    → AnswersWith r ws ws' (or_else (written_words w').refusal (short true)) vs → Writes w l m (answer_ground (store t n ks d) size q) 0 bs
    → RefusesOnly r (19 ∷ 44 ∷ 47 ∷ 13 ∷ 48 ∷ 53 ∷ 51 ∷ 52 ∷ 41 ∷ [])
unfolding is_one_of
nameless-only r n w w' ws ws' vs l m bs t ks d size q said a x =
    let e : (written_words w').refusal ≡ behind_stateless true 48 (written_words w).refusal = rw (written-said w', written-said w) said in
    let f : (written_words w).refusal ≡ write_refusal (answer_ground (store t n ks d) size q) l 0 bs = refusal-of x.answers ∙ answer-refusal _ l 0 bs in
    let p : RefusesOnly (written_words w').refusal answer_list = rw (e, f) (behind-only _ (writer_only (store t n ks d) size q l bs)) in
    answers-only r _ ws ws' vs answer_list a (only-or (written_words w').refusal (short true) answer_list p (only-short true answer_list refl)) refl
