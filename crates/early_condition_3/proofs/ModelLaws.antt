-- What is to be shown of one message at a time, for the model.
use Prim.Native.Nat.{ℕ, suc, ◌+◌, ◌<◌, ◌≤◌}
use mathlib.Core.Path.{◌≡◌, refl, sym, ap, ◌∙◌}
use mathlib.Core.List.{[]}
use mathlib.Core.Bool.{true, false, not, ◌&&◌, true≢false, false≢true}
use mathlib.Core.Option.{some}
use mathlib.Core.Logic.{◌⊎◌, inl, inr}
use native.Mathlib.Omega.{arith}
use lib.ListN.{length}
use lib.Dec.{ltb, leb, eqb}
use borrow.Author.Tests.{ltb-true, leb-true, eqb-true, lt-ltb, le-ltb, le-leb, eq-eqb, ne_eqb}
use Rattle.feed.specs.Session.{Message, Session, last_of, IsMessage, messages_from}
use Rattle.feed.proofs.FeedLaws.{none_from, Keeps}
use Rattle.early_condition_3.proofs.Model.{Numbered, Hold, is_held, follow, run, fits, moved, kept, hold_step, hold_gives, holding}
use Rattle.wire.proofs.Cases.{below_or_not}
use Rattle.early_holding.proofs.HoldingLaws.{either, both}
use Rattle.early_condition_3.proofs.RunLaws.{cases, cons-true, runs, run-has, run-stop, run_end, run-true, run-longer}

-- ---- one message at a time

abbrev pub Has : Hold → ℕ → Type 0
Has h j = is_held (h.held j) ≡ true

module _ (s : Session) where
  pub record Inv (h : Hold) : Type 0 where
    pub from_one : 1 ≤ h.next
    pub to_last : h.next ≤ last_of s + 1
    pub is_true : (j : ℕ) (x : Message) → h.held j ≡ some x → IsMessage s j x
    pub above : (j : ℕ) → Has h j → h.next < j
    pub near : (j : ℕ) → Has h j → j ≤ h.next + 64

  pub record Behind (h g : Hold) : Type 0 where
    pub number : h.next ≤ g.next
    pub holds : (j : ℕ) → g.next ≤ j → Has h j → Has g j

  abbrev pub Good : Numbered → Type 0
  Good e = IsMessage s e.number e.message

  -- what a message does: it is delivered, held, or left
  pub data Effect (e : Numbered) (h : Hold) : Type 0 where
    now : e.number ≡ h.next → hold_step h e ≡ moved h e.message → hold_gives h e ≡ run h e.message → Effect e h
    later : h.next < e.number → e.number ≤ h.next + 64 → length e.message ≤ 1024 → hold_step h e ≡ kept h e →
        hold_gives h e ≡ [] → Effect e h
    never : hold_step h e ≡ h → hold_gives h e ≡ [] → Effect e h

  pub effect : (e : Numbered) (h : Hold) → Effect e h
  unfolding hold_step hold_gives fits
  effect e h =
      either (eqb e.number h.next) _ (λ (q : eqb e.number h.next ≡ true). now (eqb-true _ _ q) (rw q) (rw q))
      (λ (q : eqb e.number h.next ≡ false).
      either (fits h.next e) _
      (λ (f : fits h.next e ≡ true).
      let w = both (ltb h.next e.number) _ f in
      let v = both (leb e.number (h.next + 64)) _ w.1 in
      later (ltb-true _ _ w.0) (leb-true _ _ v.0) (leb-true _ _ v.1) (rw (q, f)) (rw q))
      (λ (f : fits h.next e ≡ false). never (rw (q, f)) (rw q)))

  pub now-if : (e : Numbered) (h : Hold) → e.number ≡ h.next → hold_step h e ≡ moved h e.message
  unfolding hold_step
  now-if e h q = rw (eq-eqb _ _ q)

  pub later-if : (e : Numbered) (h : Hold) → h.next < e.number → e.number ≤ h.next + 64 → length e.message ≤ 1024 →
      hold_step h e ≡ kept h e
  unfolding hold_step fits
  later-if e h a b c = rw (ne_eqb e.number h.next (omega arith), lt-ltb _ _ a, le-leb _ _ b, le-leb _ _ c)

  pub never-if : (e : Numbered) (h : Hold) → e.number < h.next → hold_step h e ≡ h
  unfolding hold_step fits
  never-if e h a = rw (ne_eqb e.number h.next (omega arith), le-ltb h.next e.number (omega arith))

  -- ---- the receiver that a delivered message leaves, and the one that a held one leaves

  module _ (h : Hold) (m : Message) where
    pub moved-has : (j : ℕ) → Has (moved h m) j → (h.next + length (run h m) < j) × Has h j
    moved-has j e =
        either (ltb (h.next + length (run h m)) j) _ (λ (q : ltb (h.next + length (run h m)) j ≡ true). (ltb-true _ _ q, rw q at e))
        (λ (q : ltb (h.next + length (run h m)) j ≡ false). absurd (false≢true (rw q at e)))

    pub has-moved : (j : ℕ) → h.next + length (run h m) < j → Has h j → Has (moved h m) j
    has-moved j a b = rw (lt-ltb _ _ a) b

  module _ (h : Hold) (e : Numbered) where
    pub kept-has : (j : ℕ) → Has (kept h e) j → (j ≡ e.number) ⊎ Has h j
    kept-has j a =
        either (eqb j e.number) _ (λ (q : eqb j e.number ≡ true). inl (eqb-true _ _ q))
        (λ (q : eqb j e.number ≡ false). inr (rw q at a))

    pub has_kept : (j : ℕ) → Has h j → Has (kept h e) j
    has_kept j a =
        either (eqb j e.number) _ (λ (q : eqb j e.number ≡ true). rw (q, a) a) (λ (q : eqb j e.number ≡ false). rw q a)

    pub kept-now : Has (kept h e) e.number
    kept-now =
        either (is_held (h.held e.number)) _ (λ (q : Has h e.number). rw (eq-eqb e.number e.number refl, q) q)
        (λ (q : is_held (h.held e.number) ≡ false). rw (eq-eqb e.number e.number refl, q))

  module _ (h : Hold) (i : Inv h) (m : Message) where
    -- nothing is held at the number that a delivered message leaves
    pub free : is_held (h.held (h.next + length (run h m))) ≡ false
    unfolding run
    free =
        let l = follow h.held 64 (h.next + 1) in
        let z : h.next + suc (length l) ≡ h.next + 1 + length l = omega arith in
        rw z
        (run-stop h.held (runs h.held 64 (h.next + 1))
        (λ j a. either (is_held (h.held j)) _ (λ q. absurd (omega (arith, i.near j q))) (λ q. q)))

    pub run_holds : (j : ℕ) → h.next < j → j < h.next + length (run h m) → Has h j
    unfolding run
    run_holds j a b = run-has h.held (runs h.held 64 (h.next + 1)) j (omega arith) (omega arith)

    pub run-some : 1 ≤ length (run h m)
    unfolding run
    run-some = omega arith

    run-to-last : IsMessage s h.next m → h.next + length (run h m) ≤ last_of s + 1
    unfolding run
    run-to-last t = omega (arith, run_end h.held s i.is_true (runs h.held 64 (h.next + 1)) (omega (arith, t.to_last)))

    run-exact : IsMessage s h.next m → run h m ≡ messages_from s h.next (h.next + length (run h m))
    unfolding run
    run-exact t =
        cons-true s h.next m _ i.from_one t
        (run-true h.held s i.is_true (runs h.held 64 (h.next + 1)) (omega arith))

    above-free : (j : ℕ) → h.next + length (run h m) ≤ j → Has h j → h.next + length (run h m) < j
    above-free j a b =
        below_or_not _ (h.next + length (run h m)) j (λ q. q)
        (λ q.
        let z : h.next + length (run h m) ≡ j = omega arith in
        absurd (true≢false (sym b ∙ (rw z at free))))

  moved-inv : (e : Numbered) (h : Hold) → Inv h → Good e → e.number ≡ h.next → Inv (moved h e.message)
  moved-inv e h i t q =
      record {
        from_one = omega (arith, i.from_one);
        to_last = run-to-last h i e.message (rw (← q) t);
        is_true = λ j x w.
            either (ltb (h.next + length (run h e.message)) j) _
            (λ (f : ltb (h.next + length (run h e.message)) j ≡ true). i.is_true j x (rw f at w))
            (λ (f : ltb (h.next + length (run h e.message)) j ≡ false).
            absurd (false≢true (ap is_held (rw f at w))));
        above = λ j w. (moved-has h e.message j w).0;
        near = λ j w. omega (arith, i.near j (moved-has h e.message j w).1);
      }

  kept-inv : (e : Numbered) (h : Hold) → Inv h → Good e → h.next < e.number → e.number ≤ h.next + 64 → Inv (kept h e)
  kept-inv e h i t a b =
      record {
        from_one = i.from_one;
        to_last = i.to_last;
        is_true = λ j x w.
            either (eqb j e.number && not (is_held (h.held j))) _
            (λ (f : (eqb j e.number && not (is_held (h.held j))) ≡ true).
            let z : j ≡ e.number = eqb-true _ _ (both _ _ f).0 in
            let y : some e.message ≡ some x = rw f at w in
            let v : e.message ≡ x = cc in
            rw (z, ← v) t)
            (λ (f : (eqb j e.number && not (is_held (h.held j))) ≡ false). i.is_true j x (rw f at w));
        above = λ j w. cases (kept-has h e j w) (λ q. omega arith) (λ q. i.above j q);
        near = λ j w. cases (kept-has h e j w) (λ q. omega arith) (λ q. i.near j q);
      }

  inv-by : (e : Numbered) (h : Hold) → Inv h → Good e → Effect e h → Inv (hold_step h e)
  inv-by e h i t (now q st g) = rw st (moved-inv e h i t q)
  inv-by e h i t (later a b c st g) = rw st (kept-inv e h i t a b)
  inv-by e h i t (never st g) = rw st i

  ahead-by : (e : Numbered) (h : Hold) → Inv h → Effect e h → Behind h (hold_step h e)
  ahead-by e h i (now q st g) =
      rw st
      (record { number = omega arith; holds = λ j a b. has-moved h e.message j (above-free h i e.message j a b) b })
  ahead-by e h i (later a b c st g) = rw st (record { number = omega arith; holds = λ j x y. has_kept h e j y })
  ahead-by e h i (never st g) = rw st (record { number = omega arith; holds = λ j x y. y })

  exact-by : (e : Numbered) (h : Hold) → Inv h → Good e → Effect e h →
      hold_gives h e ≡ messages_from s h.next (hold_step h e).next
  exact-by e h i t (now q st g) = rw (st, g) (run-exact h i e.message (rw (← q) t))
  exact-by e h i t (later a b c st g) = rw (st, g) (sym (none_from s h.next))
  exact-by e h i t (never st g) = rw (st, g) (sym (none_from s h.next))

  pub itself : (h : Hold) → Behind h h
  itself h = record { number = omega arith; holds = λ j x y. y }

  pub further : (h g f : Hold) → Behind h g → Behind g f → Behind h f
  further h g f a b = record { number = omega arith; holds = λ j x y. b.holds j x (a.holds j (omega (arith, b.number)) y) }

  -- the run of one that is as far, and holds what the other holds, is no shorter
  run-as-long : (h g : Hold) (m : Message) → h.next ≡ g.next → Behind h g → length (run h m) ≤ length (run g m)
  unfolding run
  run-as-long h g m z b =
      rw z
      (omega (
        arith,
        run-longer (runs h.held 64 (g.next + 1)) (runs g.held 64 (g.next + 1)) (λ j a w. b.holds j (omega arith) w),
      ))

  behind-now : (e : Numbered) (h g : Hold) → Inv h → Inv g → Behind h g → e.number ≡ h.next →
      Behind (moved h e.message) (hold_step g e)
  behind-now e h g i j b q =
      below_or_not _ h.next g.next
      (λ p.
      rw (never-if e g (omega arith))
      (record {
        number = below_or_not _ g.next (h.next + length (run h e.message))
            (λ f.
            absurd
            (omega (arith, j.above g.next (b.holds g.next (omega arith) (run_holds h i e.message g.next p f)))))
            (λ f. f);
        holds = λ x a w. b.holds x a (moved-has h e.message x w).1;
      }))
      (λ p.
      let z : h.next ≡ g.next = omega (arith, b.number) in
      rw (now-if e g (q ∙ z))
      (record {
        number = omega (arith, run-as-long h g e.message z b);
        holds = λ x a w.
            let y = b.holds x (omega arith) (moved-has h e.message x w).1 in
            has-moved g e.message x (above-free g j e.message x a y) y;
      }))

  behind-later : (e : Numbered) (h g : Hold) → Inv h → Inv g → Behind h g → h.next < e.number → e.number ≤ h.next + 64 →
      length e.message ≤ 1024 → Behind (kept h e) (hold_step g e)
  behind-later e h g i j b p r c =
      below_or_not _ e.number g.next
      (λ f.
      rw (never-if e g f)
      (record {
        number = b.number;
        holds = λ x a w. cases (kept-has h e x w) (λ z. absurd (omega arith)) (λ y. b.holds x a y);
      }))
      (λ f.
      below_or_not _ g.next e.number
      (λ k.
      rw (later-if e g k (omega (arith, b.number)) c)
      (record {
        number = b.number;
        holds = λ x a w. cases (kept-has h e x w) (λ z. rw z (kept-now g e)) (λ y. has_kept g e x (b.holds x a y));
      }))
      (λ k.
      rw (now-if e g (omega arith))
      (record {
        number = omega (arith, b.number);
        holds = λ x a w.
            cases (kept-has h e x w)
            (λ z. absurd (omega (arith, run-some g j e.message)))
            (λ y.
            let u = b.holds x (omega arith) y in
            has-moved g e.message x (above-free g j e.message x a u) u);
      })))

  behind-by : (e : Numbered) (h g : Hold) → Inv h → Inv g → Behind h g → Effect e h → Behind (hold_step h e) (hold_step g e)
  behind-by e h g i j b (now q st gv) = rw st (behind-now e h g i j b q)
  behind-by e h g i j b (later p r c st gv) = rw st (behind-later e h g i j b p r c)
  behind-by e h g i j b (never st gv) = rw st (further h g _ b (ahead-by e g j (effect e g)))

  pub keeps : Keeps holding s Good Inv Behind
  keeps =
      record {
        in-range = λ h i. (i.from_one, i.to_last);
        kept = λ h e i t. inv-by e h i t (effect e h);
        rises = λ h e i t. (ahead-by e h i (effect e h)).number;
        exact = λ h e i t. exact-by e h i t (effect e h);
        ahead = λ h e i t. ahead-by e h i (effect e h);
        still-behind = λ h g e i j b t. behind-by e h g i j b (effect e h);
        behind-number = λ h g b. b.number;
        behind-ended = λ h g b x. x;
      }
