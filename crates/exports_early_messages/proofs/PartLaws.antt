-- What a datagram will deliver: how many messages, where each lies, and a walk over them.
use Prim.Native.Nat.{ℕ, ◌≤◌, ◌<◌, min}
use mathlib.Core.List.{List, [], ◌∷◌}
use mathlib.Core.Bool.{Bool, true, false, ◌||◌}
use mathlib.Core.Path.{◌≡◌, refl, ap, ap₂, sym, ◌∙◌}
use native.Mathlib.Omega.{arith}
use lib.ListN.{length}
use lib.Dec.{ltb, eqb}
use borrow.Rule.Slice.PartMut.{mid_of}
use borrow.Author.Tests.{ne_eqb, eq-eqb, lt-ltb, le-ltb}
use Rattle.std.specs.Prelude.{Ok, Err}
use Rattle.wire.specs.declared.kinds.MessageCount.{MessageCount}
use Rattle.wire.proofs.Cases.{zero_or_not}
use Rattle.early_holding.specs.declared.holding.EarlyReceiver.{EarlyReceiver}
use Rattle.early_holding.specs.Holding.{Lent, lent}
use Rattle.early_receiver.proofs.Promises.{early-promises}
use Rattle.early_receiver.specs.Statements.{CountsAll}
use Rattle.early_messages.specs.declared.message.Part.{Part}
use Rattle.early_messages.specs.declared.walk.Walk.{Walk}
use Rattle.early_messages.specs.Delivery.{delivered_count, part_at}
use Rattle.early_messages.specs.Walk.{start_walk, walk_part, walk_on}
use Rattle.host_answers.specs.Answers.{or_else, short, flag, on_success, is_one_of, said_refusal, said_values, RefusesOnly, AnswersWith}
use Rattle.host_answers.proofs.AnswerLaws.{or-next, or-short-no, any-values}
use Rattle.host_answers.proofs.OnlyLaws.{only_if, only_ending, answers-only}
use Rattle.host_states.specs.States.{on_code, on_step}
use Rattle.host_early.specs.Early.{early_in, lent_in}
use Rattle.host_early.specs.Replies.{part_words}
use Rattle.host_early.specs.Walk.{walk_in, KeepsWalk}
use Rattle.host_early.proofs.EarlyLaws.{lengths-long}
use Rattle.host_early.proofs.WalkLaws.{walk-not, walk-length}
use Rattle.host_early.specs.Slots.{slots_refusal, slots_ladder}
use Rattle.exports_early_messages.specs.Calls.{CountsMessages, LocatesMessage, SetsWalk, NextPart}

-- ---- 19

pub slots-right : (ss : List ℕ) (k : ℕ) → k ≡ 0 → length ss ≡ 65536 → k ≡ slots_refusal ss
unfolding slots_refusal
slots-right ss k z e = rw (eq-eqb _ _ e) z

pub slots-wrong : (ss : List ℕ) (k : ℕ) → k ≡ 19 → (length ss ≡ 65536 → ⊥) → k ≡ slots_refusal ss
unfolding slots_refusal
slots-wrong ss k z e = rw (ne_eqb _ _ e) z

slots-only : (ss : List ℕ) → RefusesOnly (slots_refusal ss) (19 ∷ 41 ∷ [])
unfolding slots_refusal is_one_of
slots-only ss = only_if (eqb (length ss) 65536) 0 19 (19 ∷ 41 ∷ []) refl refl

pub short-part : RefusesOnly 41 (19 ∷ 41 ∷ [])
unfolding is_one_of
short-part = refl

-- ---- the state

-- with a state that is long enough the ladder is that of the slots
long-ladder : (l ss : List ℕ) → 157 ≤ length l → slots_refusal ss ≡ slots_ladder (ltb (length l) 157) ss
unfolding short
long-ladder l ss h = rw (le-ltb (length l) 157 h) (or-next 0 (slots_refusal ss) refl)

pub counted-few : (s : Lent) (d : List ℕ) → delivered_count s d ≤ 65535
unfolding delivered_count CountsAll
counted-few s d = early-promises.counts_all s d

capped : (n : ℕ) → n ≤ 65535 → min 65535 n ≡ n
capped n h = omega arith

module _ (l ss : List ℕ) (h : 157 ≤ length l) (r : EarlyReceiver) (is : r ≡ early_in l) where
  same-lent : lent r (mid_of 29 128 l) ss ≡ lent_in l ss
  same-lent = ap₂ (λ (a : EarlyReceiver) (b : List ℕ). lent a b ss) is (sym (lengths-long l h))

  pub counts-so : (d ws ws' : List ℕ) (c : MessageCount) (k q : ℕ) → k ≡ c.0 → c.0 ≡ min 65535 (delivered_count (lent r (mid_of 29 128 l) ss) d) → AnswersWith q ws ws' (slots_refusal ss) (k ∷ []) → CountsMessages q l ss d ws ws'
  counts-so d ws ws' c k q g f a =
      let few = counted-few (lent_in l ss) d in
      let n : c.0 ≡ min 65535 (delivered_count (lent_in l ss) d) = f ∙ ap (λ (x : Lent). min 65535 (delivered_count x d)) same-lent in
      let n : c.0 ≡ delivered_count (lent_in l ss) d = n ∙ capped (delivered_count (lent_in l ss) d) few in
      rw (long-ladder l ss h, g, n) at a

  pub locates-so : (d ws ws' vs : List ℕ) (p : Part) (at q : ℕ) → p ≡ part_at (lent r (mid_of 29 128 l) ss) d at → vs ≡ part_words p → AnswersWith q ws ws' (slots_refusal ss) vs → LocatesMessage q l ss d at ws ws'
  locates-so d ws ws' vs p at q f g a = rw (long-ladder l ss h, g ∙ ap part_words (f ∙ ap (λ (x : Lent). part_at x d at) same-lent)) at a

  pub walk-so : (d w w' : List ℕ) (k : ℕ) (x : Walk) (q : ℕ) → k ≡ slots_refusal ss → x ≡ start_walk (lent r (mid_of 29 128 l) ss) d
      → q ≡ or_else k (short (ltb (length w) 21)) → KeepsWalk (on_code q) w w' x → SetsWalk q l ss d w w'
  walk-so d w w' k x q e f g a =
      let s : x ≡ start_walk (lent_in l ss) d = f ∙ rw same-lent refl in
      record { returns = g ∙ rw (e ∙ long-ladder l ss h) refl; keeps = rw s at a }

module _ (l ss d ws : List ℕ) (h : length l < 157) where
  ladder-short : 41 ≡ slots_ladder (ltb (length l) 157) ss
  unfolding short or_else
  ladder-short = rw (lt-ltb (length l) 157 h) refl

  short-answers : (vs : List ℕ) → AnswersWith 41 ws ws (slots_ladder (ltb (length l) 157) ss) vs
  unfolding on_success or_else
  short-answers vs = record { returns = rw (← ladder-short) refl; words = refl }

  pub counts-short : CountsMessages 41 l ss d ws ws
  counts-short = short-answers (delivered_count (lent_in l ss) d ∷ [])

  pub locates-short : (at : ℕ) → LocatesMessage 41 l ss d at ws ws
  locates-short at = short-answers (part_words (part_at (lent_in l ss) d at))

  pub walk-short : SetsWalk 41 l ss d ws ws
  unfolding or_else
  walk-short = record { returns = rw (← ladder-short) refl; keeps = walk-not (start_walk (lent_in l ss) d) ws 41 (λ z. omega arith) }

-- ---- which refusals

pub told-only : (ss : List ℕ) (q : ℕ) (ws ws' vs : List ℕ) → AnswersWith q ws ws' (slots_refusal ss) vs → RefusesOnly q (19 ∷ 41 ∷ [])
unfolding is_one_of
told-only ss q ws ws' vs a = answers-only q (slots_refusal ss) ws ws' vs (19 ∷ 41 ∷ []) a (slots-only ss) refl

pub step-only : (ss : List ℕ) (q c : ℕ) (b : Bool) (ws ws' vs : List ℕ) → AnswersWith c ws ws' (slots_refusal ss) vs → q ≡ or_else c (short b) → RefusesOnly q (19 ∷ 41 ∷ [])
unfolding is_one_of
step-only ss q c b ws ws' vs a f = only_ending q c b (19 ∷ 41 ∷ []) f (told-only ss c ws ws' vs a) refl

module _ (ss : List ℕ) (k : ℕ) (e : k ≡ slots_refusal ss) where
  pub walk-only : (q : ℕ) (b : Bool) → q ≡ or_else k (short b) → RefusesOnly q (19 ∷ 41 ∷ [])
  unfolding is_one_of
  walk-only q b a = only_ending q k b (19 ∷ 41 ∷ []) a (rw e (slots-only ss)) refl

-- ---- where a message lies, answered

pub part-told : (ss ws ws' vs : List ℕ) (p : Part) (q : ℕ) → vs ≡ part_words p → AnswersWith q ws ws' (slots_refusal ss) vs
    → AnswersWith q ws ws' (slots_refusal ss) (part_words p)
part-told ss ws ws' vs p q v a = rw v at a

-- values that were said, or 19
pub sized-right : (ss ws ws' vs : List ℕ) (n q : ℕ) → length ss ≡ 65536 → AnswersWith q ws ws' (said_refusal (Ok vs)) (said_values n (Ok vs)) → AnswersWith q ws ws' (slots_refusal ss) vs
unfolding slots_refusal said_refusal said_values
sized-right ss ws ws' vs n q e a = rw (eq-eqb _ _ e) a

pub sized-wrong : (ss ws ws' vs : List ℕ) (n q : ℕ) → (length ss ≡ 65536 → ⊥)
    → AnswersWith q ws ws' (said_refusal {A = List ℕ} (Err (record { number = 19 }))) (said_values n (Err (record { number = 19 }))) → AnswersWith q ws ws' (slots_refusal ss) vs
unfolding slots_refusal said_refusal
sized-wrong ss ws ws' vs n q e a = rw (ne_eqb _ _ e) (any-values q 19 ws ws' _ vs (λ z. omega arith) a)

pub part-there : (l ss d : List ℕ) (r : EarlyReceiver) (x : Walk) (p : Part) → 157 ≤ length l → r ≡ early_in l → p ≡ walk_part (lent r (mid_of 29 128 l) ss) d x
    → p ≡ walk_part (lent_in l ss) d x
part-there l ss d r x p h is f = f ∙ ap (λ (s : Lent). walk_part s d x) (same-lent l ss h r is)

-- ---- next

not-stepped : (q : ℕ) (w : List ℕ) (b : ℕ) (x : Walk) → on_step q b ≡ false → KeepsWalk (on_step q b) w w x
not-stepped q w b x e = rw e (record { fits = walk-length x w 0; leaves = refl; reads_back = λ t. absurd (differ t) })
  where
    differ : false ≡ true → ⊥
    differ t = let y : ◌≡◌ {A = ℕ} 0 1 = cc in omega arith

module _ (w l ss d ws : List ℕ) where
  next-lacks : (ltb (length w) 21 || ltb (length l) 157) ≡ true → NextPart 41 w w l ss d ws ws
  unfolding on_success or_else short on_step
  next-lacks e =
      record {
        answers = record { returns = rw e refl; words = refl };
        keeps = not-stepped 41 w (flag (walk_part (lent_in l ss) d (walk_in w)).exists) (walk_on d (walk_in w)) refl;
      }

  pub next-short : length w < 21 → NextPart 41 w w l ss d ws ws
  next-short h = next-lacks (rw (lt-ltb (length w) 21 h) refl)

  pub next-state : 21 ≤ length w → length l < 157 → NextPart 41 w w l ss d ws ws
  next-state g h = next-lacks (rw (le-ltb (length w) 21 g, lt-ltb (length l) 157 h) refl)

  module _ (g : 21 ≤ length w) (h : 157 ≤ length l) (x : Walk) (ix : x ≡ walk_in w) (p : Part) (f : p ≡ walk_part (lent_in l ss) d x)
      (ws' : List ℕ) (c : ℕ) (a : AnswersWith c ws ws' (slots_refusal ss) (part_words p)) where
    part-is : p ≡ walk_part (lent_in l ss) d (walk_in w)
    part-is = f ∙ rw ix refl

    both_long : slots_refusal ss ≡ slots_ladder (ltb (length w) 21 || ltb (length l) 157) ss
    unfolding short
    both_long = rw (le-ltb (length w) 21 g, le-ltb (length l) 157 h) (or-next 0 (slots_refusal ss) refl)

    answers-so : AnswersWith c ws ws' (slots_ladder (ltb (length w) 21 || ltb (length l) 157) ss) (part_words (walk_part (lent_in l ss) d (walk_in w)))
    answers-so = rw (both_long, part-is) at a

    pub next-stays : p.exists ≡ false → NextPart c w w l ss d ws ws'
    unfolding on_step
    next-stays n =
        let z : (walk_part (lent_in l ss) d (walk_in w)).exists ≡ false = ap (λ (y : Part). y.exists) (sym part-is) ∙ n in
        record {
          answers = answers-so;
          keeps = not-stepped c w (flag (walk_part (lent_in l ss) d (walk_in w)).exists) (walk_on d (walk_in w)) (rw z (zero_or_not _ c (λ y. rw (eq-eqb c 0 y) refl) (λ y. rw (ne_eqb c 0 y) refl)));
        }

    pub next-moves : (q : ℕ) (w' : List ℕ) (y : Walk) → p.exists ≡ true → y ≡ walk_on d x → q ≡ or_else c (short (ltb (length w) 21)) → KeepsWalk (on_code q) w w' y
        → NextPart q w w' l ss d ws ws'
    unfolding on_step short
    next-moves q w' y n s t b =
        let z : (walk_part (lent_in l ss) d (walk_in w)).exists ≡ true = ap (λ (y : Part). y.exists) (sym part-is) ∙ n in
        let same : q ≡ c = t ∙ rw (le-ltb (length w) 21 g) (sym (or-short-no c)) in
        let on : y ≡ walk_on d (walk_in w) = s ∙ rw ix refl in
        let lays : on_step q (flag (walk_part (lent_in l ss) d (walk_in w)).exists) ≡ on_code q = rw z (zero_or_not _ q (λ u. rw (eq-eqb q 0 u) refl) (λ u. rw (ne_eqb q 0 u) refl)) in
        record { answers = rw same answers-so; keeps = rw lays (rw on at b) }
