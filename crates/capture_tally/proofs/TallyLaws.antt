-- The parts of an answer and of the request beside it, and two tallies together, as the code has them.
use mathlib.Core.Path.{◌≡◌, refl, ◌∙◌}
use mathlib.Core.Bool.{Bool}
use mathlib.Core.Logic.{◌⊎◌, inl, inr}
use mathlib.Core.List.{List}
use Prim.Native.Nat.{ℕ, ◌+◌, min}
use mir.Val.{bool_byte}
use Rattle.wire.specs.Bounds.{largest_number}
use Rattle.wire.proofs.Rooms.{capped-sum}
use Rattle.wire.specs.declared.kinds.SequenceNumber.{SequenceNumber}
use Rattle.wire.specs.declared.kinds.MessageCount.{MessageCount}
use Rattle.wire.specs.declared.kinds.MessagePlace.{MessagePlace}
use Rattle.wire.specs.declared.refusal.Refusal.{Refusal}
use Rattle.early_receiver.specs.declared.early.Answer.{Answer}
use Rattle.early_receiver.specs.declared.early.Answer.TheVariants.{Deliver, Old, Quiet, Ahead, Ended, Refused}
use Rattle.early_receiver.specs.declared.early.Ask.{Ask}
use Rattle.std.specs.Prelude.{Option, Some, None, is_some}
use Rattle.early_receiver.specs.Answers.{early_words, request_words}
use Rattle.capture_tally.specs.declared.tally.Tally.{Tally}
use Rattle.capture_tally.specs.Tally.{tally, parts_in, asks_of, parts_of, plus_of}

asks : (q : Option Ask) → bool_byte (is_some q) ≡ asks_of (request_words q)
unfolding request_words asks_of
asks None = refl
asks (Some a) = refl

pub asks-so : (q : Option Ask) (b : Bool) (k : ℕ) → b ≡ is_some q → k ≡ bool_byte b → k ≡ asks_of (request_words q)
asks-so q b k e f = f ∙ rw e (asks q)

-- one law for each answer; the words q of the request count as k
module _ (a : Answer) (q : List ℕ) (k : ℕ) (h : k ≡ asks_of q) where
  pub parts-deliver : (f : SequenceNumber) (c : MessageCount) (s : MessagePlace) (n : ℕ) → a ≡ Deliver f c s → n ≡ c.0
      → tally n 0 0 k 0 ≡ parts_of (early_words a) q
  unfolding early_words parts_in
  parts-deliver f c s n e g = rw (e, h, g)

  pub parts-old : a ≡ Old → tally 0 1 0 k 0 ≡ parts_of (early_words a) q
  unfolding early_words parts_in
  parts-old e = rw (e, h)

  pub parts-quiet : a ≡ Quiet → tally 0 0 1 k 0 ≡ parts_of (early_words a) q
  unfolding early_words parts_in
  parts-quiet e = rw (e, h)

  pub parts-none : (a ≡ Ahead) ⊎ (a ≡ Ended) → tally 0 0 0 k 0 ≡ parts_of (early_words a) q
  unfolding early_words parts_in
  parts-none (inl e) = rw (e, h)
  parts-none (inr e) = rw (e, h)

  pub parts-refused : (n : Refusal) → a ≡ Refused n → tally 0 0 0 k 1 ≡ parts_of (early_words a) q
  unfolding early_words parts_in
  parts-refused n e = rw (e, h)

pub plus-all : (x y : Tally) (d o q a f : ℕ) → d ≡ min (x.delivered + y.delivered) largest_number → o ≡ min (x.old + y.old) largest_number
    → q ≡ min (x.quiet + y.quiet) largest_number → a ≡ min (x.asked + y.asked) largest_number
    → f ≡ min (x.refused + y.refused) largest_number → tally d o q a f ≡ plus_of x y
plus-all x y d o q a f e₁ e₂ e₃ e₄ e₅ =
    rw (
      capped-sum x.delivered y.delivered d e₁,
      capped-sum x.old y.old o e₂,
      capped-sum x.quiet y.quiet q e₃,
      capped-sum x.asked y.asked a e₄,
      capped-sum x.refused y.refused f e₅,
    )
