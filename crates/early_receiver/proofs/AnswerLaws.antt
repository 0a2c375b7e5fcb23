-- Laws of the small functions: the refusal with 19, and the request.
use mathlib.Core.Path.{◌≡◌, refl, ◌∙◌}
use mathlib.Core.List.{[], ◌∷◌}
use mathlib.Core.Bool.{Bool, true, false}
use Prim.Native.Nat.{ℕ, ◌+◌, ◌-◌, ◌≤◌, ◌<◌, min}
use native.Mathlib.Omega.{arith}
use lib.Dec.{ltb, eqb}
use mir.Val.{Fits}
use mir.Syntax.{w16}
use borrow.Author.Tests.{lt-ltb, le-ltb, eq-eqb, ne_eqb, eqb-false}
use Rattle.std.specs.Prelude.{if◌then◌else◌}
use Rattle.wire.specs.declared.refusal.Refusal.{Refusal}
use Rattle.wire.specs.declared.kinds.SequenceNumber.{SequenceNumber}
use Rattle.wire.specs.declared.kinds.MessageCount.{MessageCount}
use Rattle.wire.specs.declared.kinds.MessagePlace.{MessagePlace}
use Rattle.receiver.specs.declared.receiver.Answer.{Answer as Plain}
use Rattle.receiver.specs.declared.receiver.Answer.TheVariants as plain
use Rattle.receiver.specs.Table.{answer_words}
use Rattle.early_word.specs.Word.{lowest}
use Rattle.early_word.proofs.WordLaws.{zeros-le}
use Rattle.early_holding.specs.declared.holding.EarlyReceiver.{EarlyReceiver}
use Rattle.early_holding.specs.Holding.{early, next_of}
use Rattle.early_receiver.specs.declared.early.Answer.{Answer}
use Rattle.early_receiver.specs.declared.early.Answer.TheVariants.{Ended}
use Rattle.std.specs.Prelude.{Option, Result, Ok, Err, ⊤}
use Rattle.wire.specs.Words.{refused_by}
use Rattle.wire.proofs.Refusing.{passes, refuses-by, checked, ground-of, has-ground}
use Rattle.early_receiver.specs.declared.early.Ask.{Ask}
use Rattle.std.specs.Prelude.{Some, None}
use Rattle.early_receiver.specs.declared.early.Taken.{Taken}
use Rattle.early_receiver.specs.Answers.{request_words}
use Rattle.early_receiver.specs.Early.{with_slots, wanted_to, wanted}
use Rattle.early_receiver.specs.Steps.{Stays}

-- ---- the plain receiver's refusal

module _ (a : Plain) where
  pub in-deliver : (f : SequenceNumber) (c : MessageCount) (s : MessagePlace) → a ≡ plain.Deliver f c s → Ok tt ≡ refused_by (answer_words a).refusal
  unfolding answer_words
  in-deliver f c s e = passes _ (rw e refl)

  pub in-old : a ≡ plain.Old → Ok tt ≡ refused_by (answer_words a).refusal
  unfolding answer_words
  in-old e = passes _ (rw e refl)

  pub in-quiet : a ≡ plain.Quiet → Ok tt ≡ refused_by (answer_words a).refusal
  unfolding answer_words
  in-quiet e = passes _ (rw e refl)

  pub in-ask : (f : SequenceNumber) (c : MessageCount) → a ≡ plain.Ask f c → Ok tt ≡ refused_by (answer_words a).refusal
  unfolding answer_words
  in-ask f c e = passes _ (rw e refl)

  pub in-ended : a ≡ plain.Ended → Ok tt ≡ refused_by (answer_words a).refusal
  unfolding answer_words
  in-ended e = passes _ (rw e refl)

  pub in-made-up : (r : Refusal) → a ≡ plain.Refused r → r.number ≡ 0 → Ok tt ≡ refused_by (answer_words a).refusal
  unfolding answer_words
  in-made-up r e z = passes _ (rw (e, z) refl)

  pub in-refused : (r : Refusal) → a ≡ plain.Refused r → (r.number ≡ 0 → ⊥) → Err r ≡ refused_by (answer_words a).refusal
  unfolding answer_words
  in-refused r e z = refuses-by _ r (rw e refl) (ne_eqb _ _ z)

-- ---- 19 before 20: f is what was found

module _ (b : Bool) (f : Result ⊤ Refusal) where
  pub slots-right : b ≡ true → (k : ℕ) → f ≡ refused_by k → f ≡ refused_by (with_slots b k)
  unfolding with_slots
  slots-right e k g = g ∙ rw e refl

  pub slots-none : b ≡ false → (u : ⊤) → f ≡ Ok u → (k : ℕ) → f ≡ refused_by k → Err (record { number = 19 }) ≡ refused_by (with_slots b k)
  unfolding with_slots
  slots-none e u d k g = let z = checked f u k g d in refuses-by _ _ (rw (e, eq-eqb _ _ z) refl) refl

  pub slots-above : b ≡ false → (r : Refusal) → f ≡ Err r → 19 < r.number → (k : ℕ) → f ≡ refused_by k
      → Err (record { number = 19 }) ≡ refused_by (with_slots b k)
  unfolding with_slots
  slots-above e r d h k g =
      let n = ground-of f r k g d in
      let i : 19 < k = omega arith in
      refuses-by _ _ (rw (e, ne_eqb _ _ (has-ground f r k g d), lt-ltb _ _ i) refl) refl

  pub slots-below : b ≡ false → (r : Refusal) → f ≡ Err r → r.number ≤ 19 → (k : ℕ) → f ≡ refused_by k → f ≡ refused_by (with_slots b k)
  unfolding with_slots
  slots-below e r d h k g =
      let n = ground-of f r k g d in
      let i : k ≤ 19 = omega arith in
      g ∙ rw (e, ne_eqb _ _ (has-ground f r k g d), le-ltb _ _ i) refl

-- no refusal with the slots: they are right, and there is none without them
pub slots-open : (b : Bool) (k : ℕ) → with_slots b k ≡ 0 → (b ≡ true) × (k ≡ 0)
unfolding with_slots
slots-open true k e = (refl, e)
slots-open false k e = absurd (go (eqb k 0) refl (ltb 19 k) e)
  where
    go : (z : Bool) → eqb k 0 ≡ z → (a : Bool) → (if z then 19 else if a then 19 else k) ≡ 0 → ⊥
    go true q a x = omega arith
    go false q true x = omega arith
    go false q false x = eqb-false _ _ q x

-- ---- the request

pub ask-is : (n gap limit : ℕ) (k : MessageCount) → k.0 ≡ min gap limit → request_words (Some (record { from = record { 0 = n }; count = k })) ≡ n ∷ min gap limit ∷ []
unfolding request_words
ask-is n gap limit k e = rw e

pub lowest-fits : (h k : ℕ) → k ≡ lowest h → Fits w16 (k + 1)
lowest-fits h k e = record { fits = omega (arith, zeros-le 64 h) }

-- an ended receiver asks for nothing
pub wants-ended : (r : EarlyReceiver) (f : ℕ) → r.base.ended ≡ true → request_words None ≡ wanted r f
unfolding request_words wanted
wants-ended r f e = rw e

module _ (r : EarlyReceiver) (f : ℕ) (e : r.base.ended ≡ false) where
  pub wants-none : r.held.0 ≡ 0 → f ≤ next_of r → request_words None ≡ wanted r f
  unfolding request_words wanted wanted_to
  wants-none z h = rw (e, eq-eqb _ _ z, le-ltb _ _ h)

  pub wants-ahead : (q : Option Ask) (g : ℕ) → r.held.0 ≡ 0 → next_of r < f → Fits w16 r.base.limit.0 → g ≡ min 65535 (f - next_of r)
      → request_words q ≡ next_of r ∷ min g r.base.limit.0 ∷ [] → request_words q ≡ wanted r f
  unfolding wanted wanted_to
  wants-ahead q g z h s d w =
      let m : min (f - next_of r) r.base.limit.0 ≡ min g r.base.limit.0 = omega arith in
      rw (e, eq-eqb _ _ z, lt-ltb _ _ h, m) w

  pub wants-held : (q : Option Ask) (k : ℕ) → (r.held.0 ≡ 0 → ⊥) → k ≡ lowest r.held.0 → request_words q ≡ next_of r ∷ min (k + 1) r.base.limit.0 ∷ []
      → request_words q ≡ wanted r f
  unfolding wanted wanted_to
  wants-held q k z o w =
      let h : next_of r < next_of r + 1 + lowest r.held.0 = omega arith in
      let d : next_of r + 1 + lowest r.held.0 - next_of r ≡ k + 1 = omega arith in
      rw (e, ne_eqb _ _ z, lt-ltb _ _ h, d) w

-- whatever the datagram's number, where something is held
pub wants-same : (r : EarlyReceiver) (f g : ℕ) → (r.held.0 ≡ 0 → ⊥) → wanted r f ≡ wanted r g
unfolding wanted wanted_to
wants-same r f g z = rw (ne_eqb _ _ z)

-- as code that has no number above the expected one
pub wants-nothing : (r : EarlyReceiver) → r.base.ended ≡ false → r.held.0 ≡ 0 → request_words None ≡ wanted r 0
wants-nothing r e z = wants-none r 0 e z (omega arith)

pub no_number : (r : EarlyReceiver) (f : ℕ) → f ≤ next_of r → wanted r 0 ≡ wanted r f
unfolding wanted wanted_to
no_number r f h = go (eqb r.held.0 0)
  where
    go : (b : Bool)
        → (if r.base.ended then [] else if ltb (next_of r) (if b then 0 else next_of r + 1 + lowest r.held.0)
        then next_of r ∷ min ((if b then 0 else next_of r + 1 + lowest r.held.0) - next_of r) r.base.limit.0 ∷ [] else [])
        ≡ (if r.base.ended then [] else if ltb (next_of r) (if b then f else next_of r + 1 + lowest r.held.0)
        then next_of r ∷ min ((if b then f else next_of r + 1 + lowest r.held.0) - next_of r) r.base.limit.0 ∷ [] else [])
    go true = let z : 0 ≤ next_of r = omega arith in rw (le-ltb _ _ z, le-ltb _ _ h)
    go false = refl

-- ---- as `stay`, `end` and `ahead_of` have them

pub ends_so : (r : EarlyReceiver) → r.base.ended ≡ true → Stays (record { answer = Ended; request = None; receiver = early r.base 0 }) (early r.base 0) Ended 0
ends_so r e = record { answers = refl; asks = wants-ended (early r.base 0) 0 e; leaves = refl }

pub ahead-held : (r : EarlyReceiver) (f : ℕ) (x : Taken) (a : Answer) → (r.held.0 ≡ 0 → ⊥) → Stays x r a 0 → Stays x r a f
ahead-held r f x a z y = record { answers = y.answers; asks = y.asks ∙ wants-same r 0 f z; leaves = y.leaves }
