-- The store's answer is reported: it is given a name, which is the first bytes of a lent buffer, and lent the output from
-- a place on, which is its end where there is no name.
use Prim.Native.Nat.{ℕ, ◌+◌, ◌-◌, ◌≤◌}
use mathlib.Core.List.{List, [], ◌∷◌, append-nil}
use mathlib.Core.Bool.{Bool, true, false, not, ◌||◌}
use mathlib.Core.Path.{◌≡◌, refl, ap, sym, ◌∙◌}
use native.Mathlib.Omega.{arith}
use lib.ListN.{length, drop, drop_of_length-le, length-drop}
use lib.Seq.{take_all, drop-length}
use lib.Dec.{ltb, leb, eqb}
use borrow.Author.Tests.{eq-eqb, ne_eqb}
use borrow.Rule.Slice.PartMut.{mid_of, put_mid}
use Rattle.std.specs.Prelude.{if◌then◌else◌}
use Rattle.wire.specs.Refusals.{output_short, store_differs, not_in_store, message_long}
use Rattle.wire.specs.Bounds.{session_size}
use Rattle.wire.specs.Bytes.{same_bytes}
use Rattle.wire.specs.Output.{written_words, put, write_refusal, write_output, Writes}
use Rattle.wire.specs.Output.{Written}
use Rattle.wire.specs.Parts.{first_bytes}
use Rattle.wire.proofs.Cases.{zero_or_not}
use Rattle.wire.proofs.Numbers.{part_to_end}
use Rattle.wire.proofs.Words.{refusal-of}
use Rattle.wire.proofs.Outputs.{put-none, put-empty, answer-refusal}
use Rattle.moldudp64.specs.Header.{number_of}
use Rattle.moldudp64.specs.Request.{request_refusal, request_session}
use Rattle.packing.specs.Fit.{room_of, fits_alone}
use Rattle.store.specs.Store.{Store, store, store_ground, in_store, length_at, answer_ground, answer_bytes}
use Rattle.host_answers.specs.Answers.{or_else, short, lent_from, padded, behind_stateless, said_refusal, AnswersWith, AnswersWriting}
use Rattle.host_answers.proofs.AnswerLaws.{or-first, or-next, no-success, behind-own}
use Rattle.host_answers.proofs.WritingLaws.{writing-plain}
use Rattle.exports_store.specs.Answer.{named_store}
use Rattle.exports_store.proofs.RefusalLaws.{written-said, store-at-most, request-at-most}

-- ---- with a name

is-ten : (s : List ℕ) → length s ≡ session_size → eqb (length s) session_size ≡ true
is-ten s e = eq-eqb (length s) session_size e

pub named-reported : (ws ws' l m : List ℕ) (w : Written) (r n from : ℕ) (s t ks d : List ℕ) (size : ℕ) (q : List ℕ) → t ≡ first_bytes session_size s
    → from ≡ lent_from (not (eqb (length s) session_size) || ltb (length ws) 1) (length l) → length s ≡ session_size
    → AnswersWith r ws ws' (or_else (written_words w).refusal (short false)) (padded 1 (written_words w).values)
    → Writes w (mid_of from (length l - from) l) m (answer_ground (store t n ks d) size q) 0 (answer_bytes (store t n ks d) size q)
    → AnswersWriting r ws ws' l (put_mid from (length l - from) l m) (named_store s (store (first_bytes session_size s) n ks d) size q)
    (answer_bytes (store (first_bytes session_size s) n ks d) size q)
unfolding named_store
named-reported ws ws' l m w r n from s t ks d size q a e u h f =
    rw (is-ten s u, ← a) (writing-plain ws l _ from _ w r ws' m h (rw (is-ten s u) at e) f)

-- ---- without one

-- a ground of the store or of the request is the code
own : (g : ℕ) (l bs : List ℕ) → (g ≡ 0 → ⊥) → write_refusal g l 0 bs ≡ g
unfolding write_refusal
own g l bs e = rw (ne_eqb g 0 e)

-- and what comes behind them is 41
cut-rest : (st : Store) (size : ℕ) (q l bs : List ℕ) → store_ground st size ≡ 0 → request_refusal q ≡ 0
    → or_else (behind_stateless true 48 (write_refusal (answer_ground st size q) l 0 bs)) output_short ≡ output_short
unfolding answer_ground write_refusal behind_stateless or_else
cut-rest st size q l bs a b =
    rw (a, b) (go (same_bytes (request_session q) st.session) (in_store st (number_of q)) (fits_alone (room_of size) (length_at st (number_of q))) (leb (0 + length bs) (length l)))
  where
    rest : Bool → Bool → Bool → ℕ
    rest same there fits = if not same then store_differs else if not there then not_in_store else if not fits then message_long else 0

    go : (same there fits room : Bool)
        → or_else (behind_stateless true 48 (if eqb (rest same there fits) 0 then (if room then 0 else output_short) else rest same there fits)) output_short ≡ output_short
    go false there fits room = refl
    go true false fits room = refl
    go true true false room = refl
    go true true true true = refl
    go true true true false = refl

cut-ground : (g : ℕ) (l bs : List ℕ) → (g ≡ 0 → ⊥) → g ≤ 48 → or_else (behind_stateless true 48 (write_refusal g l 0 bs)) output_short ≡ g
cut-ground g l bs e h = rw (own g l bs e, ← behind-own true 48 g refl e h) (sym (or-first g output_short e))

answer-store : (st : Store) (size : ℕ) (q : List ℕ) → (store_ground st size ≡ 0 → ⊥) → answer_ground st size q ≡ store_ground st size
unfolding answer_ground
answer-store st size q e = rw (ne_eqb (store_ground st size) 0 e)

answer-request : (st : Store) (size : ℕ) (q : List ℕ) → store_ground st size ≡ 0 → (request_refusal q ≡ 0 → ⊥) → answer_ground st size q ≡ request_refusal q
unfolding answer_ground
answer-request st size q a e = rw (a, ne_eqb (request_refusal q) 0 e)

abbrev cut_ladder : Store → ℕ → List ℕ → ℕ
cut_ladder st size q = or_else (or_else (store_ground st size) (request_refusal q)) output_short

cut-ladder : (st : Store) (size : ℕ) (q l bs : List ℕ)
    → or_else (behind_stateless true 48 (write_refusal (answer_ground st size q) l 0 bs)) output_short ≡ cut_ladder st size q
cut-ladder st size q l bs =
    zero_or_not _ (store_ground st size)
    (λ a. zero_or_not _ (request_refusal q)
    (λ b. cut-rest st size q l bs a b ∙ or-next _ output_short (sym (or-next _ (request_refusal q) a) ∙ b))
    (λ b. rw (answer-request st size q a b) (cut-ground _ l bs b (request-at-most q)) ∙ behind st size q (request_refusal q) b (or-next _ (request_refusal q) a)))
    (λ a. rw (answer-store st size q a) (cut-ground _ l bs a (store-at-most st size)) ∙ behind st size q (store_ground st size) a (or-first _ (request_refusal q) a))
  where
    behind : (st : Store) (size : ℕ) (q : List ℕ) (g : ℕ) → (g ≡ 0 → ⊥) → g ≡ or_else (store_ground st size) (request_refusal q) → g ≡ cut_ladder st size q
    behind st size q g e f = rw (← f) (or-first g output_short e)

never-zero : (g : ℕ) → or_else g output_short ≡ 0 → ⊥
never-zero g e = zero_or_not ⊥ g (λ z. let f : output_short ≡ 0 = or-next g output_short z ∙ e in omega arith) (λ z. z (or-first g output_short z ∙ e))

-- nothing is laid into nothing
into : (x : List ℕ) → put [] 0 x ≡ []
into [] = put-empty [] 0
into (b ∷ x) = put-none [] 0 (b ∷ x) (omega arith)

into-nothing : (g : ℕ) (bs : List ℕ) → write_output g [] 0 bs ≡ []
into-nothing g bs = go (eqb g 0)
  where
    go : (b : Bool) → if b then put [] 0 bs else [] ≡ []
    go true = into bs
    go false = refl

-- a code that is no success, and nothing changes
refused-so : (r g : ℕ) (ws ws' l m bs vs : List ℕ) → r ≡ g → (g ≡ 0 → ⊥) → AnswersWith r ws ws' g vs → m ≡ l → AnswersWriting r ws ws' l m g bs
refused-so r g ws ws' l m bs vs e z a q =
    let n : r ≡ 0 → ⊥ = λ y. z (sym e ∙ y) in
    record {
      returns = rw (own g l bs z) (e ∙ or-first g _ z);
      words = a.words ∙ sym (no-success r _ ws n) ∙ no-success r _ ws n;
      output = q ∙ no-success r _ l n;
    }

-- the output's part from its end on
from_end : (l m : List ℕ) → m ≡ [] → put_mid (length l) (length l - length l) l m ≡ l
from_end l m e =
    let rest : drop (length l - length l) (drop (length l) l) ≡ [] = drop_of_length-le (drop (length l) l) {i = length l - length l} (simp length-drop (omega arith)) in
    rw (rest, e, take_all (length l) l (omega arith)) (append-nil l)

none_lent : (l : List ℕ) → mid_of (length l) (length l - length l) l ≡ []
none_lent l = part_to_end (length l) l ∙ drop-length l

module _ (ws ws' l m : List ℕ) (w w' : Written) (r : ℕ) (st : Store) (size : ℕ) (q vs bs : List ℕ)
    (said : said_refusal w' ≡ behind_stateless true 48 (said_refusal w))
    (a : AnswersWith r ws ws' (or_else (written_words w').refusal (short true)) vs) where
  e : (written_words w').refusal ≡ behind_stateless true 48 (written_words w).refusal
  e = rw (written-said w', written-said w) said

  cut-reported : Writes w [] m (answer_ground st size q) 0 bs
      → AnswersWriting r ws ws' l (put_mid (length l) (length l - length l) l m) (cut_ladder st size q) bs
  unfolding short
  cut-reported x =
      let f : (written_words w).refusal ≡ write_refusal (answer_ground st size q) [] 0 bs = refusal-of x.answers ∙ answer-refusal _ [] 0 bs in
      let g : or_else (written_words w').refusal output_short ≡ cut_ladder st size q = rw (e, f) (cut-ladder st size q [] bs) in
      let b : AnswersWith r ws ws' (cut_ladder st size q) vs = rw (← g) a in
      let z : cut_ladder st size q ≡ 0 → ⊥ = never-zero _ in
      refused-so r _ ws ws' l _ bs vs (b.returns ∙ sym (or-first _ _ z)) z b (from_end l m (x.leaves ∙ into-nothing (answer_ground st size q) bs))

isnt-ten : (s : List ℕ) → (length s ≡ session_size → ⊥) → eqb (length s) session_size ≡ false
isnt-ten s e = ne_eqb (length s) session_size e

lent-at-end : (from n : ℕ) (u b : Bool) → u ≡ true → from ≡ lent_from (u || b) n → from ≡ n
unfolding lent_from
lent-at-end from n u b e f = rw e at f

pub nameless-reported : (ws ws' l m : List ℕ) (w w' : Written) (r n from : ℕ) (s t ks d : List ℕ) (size : ℕ) (q : List ℕ) → t ≡ first_bytes session_size s
    → from ≡ lent_from (not (eqb (length s) session_size) || ltb (length ws) 1) (length l) → (length s ≡ session_size → ⊥)
    → said_refusal w' ≡ behind_stateless true 48 (said_refusal w)
    → AnswersWith r ws ws' (or_else (written_words w').refusal (short true)) (padded 1 (written_words w').values)
    → Writes w (mid_of from (length l - from) l) m (answer_ground (store t n ks d) size q) 0 (answer_bytes (store t n ks d) size q)
    → AnswersWriting r ws ws' l (put_mid from (length l - from) l m) (named_store s (store (first_bytes session_size s) n ks d) size q)
    (answer_bytes (store (first_bytes session_size s) n ks d) size q)
unfolding named_store
nameless-reported ws ws' l m w w' r n from s t ks d size q a e u k h f =
    let z : from ≡ length l = lent-at-end from (length l) _ _ (ap not (isnt-ten s u)) e in
    rw (isnt-ten s u, ← a, z) (cut-reported ws ws' l m w w' r (store t n ks d) size q _ _ k h (rw (z, none_lent l) at f))
