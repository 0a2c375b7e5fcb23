-- The model over the messages of a datagram.
use Prim.Native.Nat.{ℕ, suc, ◌+◌, ◌<◌, ◌≤◌}
use mathlib.Core.Path.{◌≡◌}
use mathlib.Core.List.Memᴰ
use mathlib.Core.List.{List, [], ◌∷◌}
use mathlib.Core.Logic.{◌⊎◌, inl, inr}
use native.Mathlib.Omega.{arith}
use lib.ListN.{length, get_or}
use Rattle.feed.specs.Session.{Message, Session, IsMessage, All}
use Rattle.feed.specs.Machine.{after}
use Rattle.feed.proofs.FeedLaws.{first_of, rest_of}
use Rattle.wire.proofs.Cases.{below_or_not}
use Rattle.early_condition_3.proofs.RunLaws.{cases}
use Rattle.early_condition_3.proofs.Model.{Numbered, single, Hold, run, hold_step, holding, numbered}
use Rattle.early_condition_3.proofs.ModelLaws.{Has, Inv, Behind, Good, Effect, now, later, never, effect, moved-has, kept-has, run_holds, itself, further, keeps}

module _ (s : Session) where
  -- each message of true data is the session's at its number
  pub true-run : (f : ℕ) (l : List Message) → ((i : ℕ) → i < length l → IsMessage s (f + i) (get_or l i [])) → All (Good s) (numbered f l)
  unfolding numbered
  true-run f [] h x m = absurd (Memᴰ.not-nil m)
  true-run f (y ∷ l) h x m =
      cases (Memᴰ.cases_cons m)
      (λ e. let z : f + 0 ≡ f = omega arith in rw e (rw z at (h 0 (omega arith))))
      (λ e.
      true-run (f + 1) l (λ i g. let z : f + suc i ≡ f + 1 + i = omega arith in rw z at (h (suc i) (omega arith))) x e)

  -- the model is ahead of itself after any true messages
  pub model-ahead : (h : Hold) (es : List Numbered) → Inv s h → All (Good s) es → Behind s h (after holding h es)
  unfolding after
  model-ahead h [] i a = itself s h
  model-ahead h (e ∷ es) i a =
      let o = first_of a in
      further s _ _ _ ((keeps s).ahead h e i o) (model-ahead (hold_step h e) es ((keeps s).kept h e i o) (rest_of a))

  -- a number that is passed was held, or is one of the messages'
  abbrev Among : ℕ → ℕ → ℕ → Type 0
  Among f k j = (f ≤ j) × (j < f + k)

  among-more : (f k j : ℕ) → Among (f + 1) k j → Among f (suc k) j
  among-more f k j w = let u : f + 1 ≤ j = w.0 in let v : j < f + 1 + k = w.1 in (omega arith, omega arith)

  passed-one : (h : Hold) (f : ℕ) (m : Message) (k j : ℕ) → Inv s h → h.next ≤ j → Effect s (single f m) h
      → ((hold_step h (single f m)).next ≤ j → Has (hold_step h (single f m)) j ⊎ Among (f + 1) k j) → Has h j ⊎ Among f (suc k) j
  passed-one h f m k j i x (now q st g) rest =
      below_or_not _ j (h.next + length (run h m))
      (λ b. below_or_not _ h.next j (λ c. inl (run_holds s h i m j c b)) (λ c. inr (omega arith, omega arith)))
      (λ b. cases (rest (rw st b)) (λ w. inl (moved-has s h m j (rw st at w)).1) (λ w. inr (among-more f k j w)))
  passed-one h f m k j i x (later b c d st g) rest =
      cases (rest (rw st x))
      (λ w. cases (kept-has s h (single f m) j (rw st at w)) (λ z. inr (omega arith, omega arith)) (λ z. inl z))
      (λ w. inr (among-more f k j w))
  passed-one h f m k j i x (never st g) rest =
      cases (rest (rw st x)) (λ w. inl (rw st at w)) (λ w. inr (among-more f k j w))

  pub passed : (h : Hold) (f : ℕ) (ms : List Message) → Inv s h → All (Good s) (numbered f ms) → (j : ℕ) → h.next ≤ j
      → j < (after holding h (numbered f ms)).next → Has h j ⊎ ((f ≤ j) × (j < f + length ms))
  unfolding after numbered
  passed h f [] i a j x y = absurd (omega arith)
  passed h f (m ∷ ms) i a j x y =
      passed-one h f m (length ms) j i x (effect s (single f m) h)
      (λ z. passed (hold_step h (single f m)) (f + 1) ms ((keeps s).kept h (single f m) i (first_of a)) (rest_of a) j z y)
