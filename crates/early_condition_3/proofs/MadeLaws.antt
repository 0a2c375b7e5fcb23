-- What is held and the number depend on which numbers have come, not on their order: shown of the model.
use Prim.Native.Nat.{ℕ, suc, ◌+◌, ◌<◌, ◌≤◌}
use mathlib.Core.Path.{◌≡◌, sym, ◌∙◌}
use mathlib.Core.List.{List, [], ◌∷◌}
use mathlib.Core.Bool.{true≢false}
use mathlib.Core.Logic.{◌⊎◌, inl, inr}
use native.Mathlib.Omega.{arith}
use lib.ListN.{length, get_or}
use Rattle.feed.specs.Session.{Message, Session, IsMessage}
use Rattle.feed.specs.Machine.{after}
use Rattle.wire.proofs.Cases.{below_or_not}
use Rattle.early_condition_3.proofs.RunLaws.{cases}
use Rattle.early_condition_3.proofs.Model.{Numbered, single, Hold, run, hold_step, holding, numbered}
use Rattle.early_condition_3.proofs.ModelLaws.{Has, Inv, now-if, later-if, never-if, moved-has, has-moved, kept-has, has_kept, kept-now, free, run_holds, run-some, keeps}

-- the model's state is what the numbers X that have come make of a number b: all from b to just below the next have come, the next hasn't,
-- and above it what is held is what has come
pub record Made (b : ℕ) (X : ℕ → Type 0) (h : Hold) : Type 0 where
  pub from : b ≤ h.next
  pub come : (j : ℕ) → b ≤ j → j < h.next → X j
  pub gap : X h.next → ⊥
  pub has : (j : ℕ) → h.next < j → X j → Has h j
  pub only : (j : ℕ) → h.next < j → Has h j → X j

-- X with one more number
abbrev With : (ℕ → Type 0) → ℕ → ℕ → Type 0
With X k j = X j ⊎ (j ≡ k)

-- X with k numbers from f on
abbrev pub Run : (ℕ → Type 0) → ℕ → ℕ → ℕ → Type 0
Run X f k j = X j ⊎ ((f ≤ j) × (j < f + k))

pub same-made : (b : ℕ) (X Y : ℕ → Type 0) (h : Hold) → ((j : ℕ) → X j → Y j) → ((j : ℕ) → Y j → X j) → Made b X h → Made b Y h
same-made b X Y h f g m =
    record {
      from = m.from;
      come = λ j x y. f j (m.come j x y);
      gap = λ x. m.gap (g h.next x);
      has = λ j x y. m.has j x (g j y);
      only = λ j x y. f j (m.only j x y);
    }

-- two states made by the same numbers have the same next number and hold the same
pub same_next : (b : ℕ) (X : ℕ → Type 0) (h g : Hold) → Made b X h → Made b X g → h.next ≤ g.next
same_next b X h g m n =
    below_or_not _ g.next h.next (λ a. absurd (n.gap (m.come g.next n.from a))) (λ a. a)

module _ (s : Session) where
  made_one : (b : ℕ) (X : ℕ → Type 0) (h : Hold) (e : Numbered) → Inv s h → Made b X h → b ≤ e.number → e.number ≤ b + 64
      → length e.message ≤ 1024 → Made b (With X e.number) (hold_step h e)
  made_one b X h e i m lo hi short =
      below_or_not _ e.number h.next
      (λ a.
      rw (never-if s e h a)
      (record {
        from = m.from;
        come = λ j x y. inl (m.come j x y);
        gap = λ x. cases x (λ y. m.gap y) (λ y. omega arith);
        has = λ j x y. cases y (λ z. m.has j x z) (λ z. absurd (omega arith));
        only = λ j x y. inl (m.only j x y);
      }))
      (λ a.
      below_or_not _ h.next e.number
      (λ c.
      rw (later-if s e h c (omega (arith, m.from)) short)
      (record {
        from = m.from;
        come = λ j x y. inl (m.come j x y);
        gap = λ x. cases x (λ y. m.gap y) (λ y. omega arith);
        has = λ j x y. cases y (λ z. has_kept s h e j (m.has j x z)) (λ z. rw z (kept-now s h e));
        only = λ j x y. cases (kept-has s h e j y) (λ z. inr z) (λ z. inl (m.only j x z));
      }))
      (λ c.
      let q : e.number ≡ h.next = omega arith in
      let n = h.next + length (run h e.message) in
      let p = run-some s h i e.message in
      rw (now-if s e h q)
      (record {
        from = omega (arith, m.from);
        come = λ j x y.
            below_or_not _ j h.next (λ z. inl (m.come j x z))
            (λ z.
            below_or_not _ h.next j (λ w. inl (m.only j w (run_holds s h i e.message j w y))) (λ w. inr (omega arith)));
        gap = λ x.
            cases x (λ y. true≢false (sym (m.has n (omega arith) y) ∙ free s h i e.message)) (λ y. omega arith);
        has = λ j x y. cases y (λ z. has-moved s h e.message j x (m.has j (omega arith) z)) (λ z. absurd (omega arith));
        only = λ j x y. inl (m.only j (omega arith) (moved-has s h e.message j y).1);
      })))

  pub made_all : (b : ℕ) (X : ℕ → Type 0) (h : Hold) (f : ℕ) (ms : List Message) → Inv s h → Made b X h → b ≤ f → f + length ms ≤ b + 65
      → ((i : ℕ) → i < length ms → IsMessage s (f + i) (get_or ms i [])) → ((i : ℕ) → i < length ms → length (get_or ms i []) ≤ 1024)
      → Made b (Run X f (length ms)) (after holding h (numbered f ms))
  unfolding after numbered
  made_all b X h f [] i m lo hi t short = same-made b X (Run X f 0) h (λ j x. inl x) (λ j x. cases x (λ y. y) (λ y. absurd (omega (arith, y.0, y.1)))) m
  made_all b X h f (x ∷ ms) i m lo hi t short =
      let z : f + 0 ≡ f = omega arith in
      let e : Numbered = single f x in
      let g : IsMessage s f x = rw z at (t 0 (omega arith)) in
      let o = made_one b X h e i m lo (omega arith) (short 0 (omega arith)) in
      let a = made_all b (With X f) (hold_step h e) (f + 1) ms ((keeps s).kept h e i g) o (omega arith) (omega arith)
      (λ k v. let y : f + suc k ≡ f + 1 + k = omega arith in rw y at (t (suc k) (omega arith))) (λ k v. short (suc k) (omega arith)) in
      same-made b (Run (With X f) (f + 1) (length ms)) (Run X f (suc (length ms))) _
      (λ j y. cases y (λ w. cases w (λ u. inl u) (λ u. inr (omega arith, omega arith))) (λ w. let w0 : f + 1 ≤ j = w.0 in let w1 : j < f + 1 + length ms = w.1 in inr (omega arith, omega arith)))
      (λ j y.
      cases y (λ w. inl (inl w))
      (λ w.
      let w0 : f ≤ j = w.0 in
      let w1 : j < f + suc (length ms) = w.1 in
      below_or_not _ f j (λ u. inr (omega arith, omega arith)) (λ u. inl (inr (omega arith)))))
      a

  pub same-held : (b : ℕ) (X : ℕ → Type 0) (h g : Hold) → Made b X h → Made b X g → h.next ≡ g.next → Inv s h → (j : ℕ) → Has h j → Has g j
  same-held b X h g m n e i j x =
      let a = i.above j x in
      n.has j (omega arith) (m.only j a x)
