-- Laws of a run, for every session S and its step: a stream in pieces gives what it gives whole, and a run stops only where a step
-- takes nothing, and says why.
use mathlib.Core.Path.{◌≡◌, refl, ap, sym, ◌∙◌}
use mathlib.Core.List.{List, [], ◌∷◌, ◌++◌, append_assoc, append-nil}
use Prim.Native.Nat.{ℕ, zero, suc, ◌≤◌}
use native.Mathlib.Omega.{arith}
use lib.ListN.{length, take, drop, length-drop, take-append-drop}
use lib.Seq.{take-append-le, drop-append-le}
use Rattle.soupbintcp_session.specs.Answer.{StepOutcome}
use Rattle.wire.specs.Bytes.{joined}
use Rattle.soupbintcp_session.specs.Stream.{Taking, Run, Stepping, stopped, then_run, run_at, run_up_to, run, run_on, run_pieces, packets_of}
use Rattle.soupbintcp_session.specs.Statements.{TakesNothing, AnyStreamCutting, RunsOn, RunsByStep}

-- what a run asks of its step: it takes no more than there is, what it takes doesn't change by what follows, and it takes nothing
-- by need more and by a refusal, and by nothing else
pub record Steady (S : Type 0) (step : Stepping S) : Type 0 where
  pub fits : (s : S) (l : List ℕ) → (step s l).size ≤ length l
  pub keeps : (s : S) (l m : List ℕ) (k : ℕ) → (step s l).size ≡ suc k → step s (l ++ m) ≡ step s l
  pub silent : (s : S) (l : List ℕ) → (step s l).size ≡ 0 → TakesNothing (step s l).reply.which
  pub idle : (s : S) (l : List ℕ) → TakesNothing (step s l).reply.which → (step s l).size ≡ 0

module _ {S : Type 0} (step : Stepping S) (o : Steady S step) where
  -- the packet that is taken of l, with k + 1 bytes
  abbrev taken_of : S → List ℕ → ℕ → Taking
  taken_of s l k = record { bytes = take (suc k) l; reply = (step s l).reply }

  -- what holds of a run that stops at once, and of a run after one more packet, holds of every run
  module _ (P : S → List ℕ → Run S → Type 0) (stop : (s : S) (l : List ℕ) → (step s l).size ≡ 0 → P s l (stopped s l (step s l).reply))
      (go : (s : S) (l : List ℕ) (k : ℕ) (r : Run S) → (step s l).size ≡ suc k → suc k ≤ length l → P (step s l).after (drop (suc k) l) r
      → P s l (then_run (taken_of s l k) r)) where
    none-fits : (s : S) (l : List ℕ) → length l ≤ 0 → (step s l).size ≡ 0
    none-fits s l h = let a = o.fits s l in omega arith

    one-fits : (s : S) (l : List ℕ) (k : ℕ) → (step s l).size ≡ suc k → suc k ≤ length l
    one-fits s l k e = let a = o.fits s l in omega arith

    less-left : (l : List ℕ) (k f : ℕ) → length l ≤ suc f → length (drop (suc k) l) ≤ f
    less-left l k f h = let e = length-drop (suc k) l in omega arith

    one_more : (f : ℕ) (on : S → List ℕ → Run S) → ((s : S) (l : List ℕ) → length l ≤ f → P s l (on s l))
        → (s : S) (l : List ℕ) → length l ≤ suc f → (k : ℕ) → (step s l).size ≡ k → P s l (run_at s l (step s l) k on)
    unfolding run_at
    one_more f on ih s l h zero e = stop s l e
    one_more f on ih s l h (suc k) e = go s l k (on (step s l).after (drop (suc k) l)) e (one-fits s l k e) (ih (step s l).after (drop (suc k) l) (less-left l k f h))

    pub runs-up-to : (f : ℕ) (s : S) (l : List ℕ) → length l ≤ f → P s l (run_up_to step f s l)
    unfolding run_up_to
    runs-up-to zero s l h = stop s l (none-fits s l h)
    runs-up-to (suc f) s l h = one_more f (λ t m. run_up_to step f t m) (runs-up-to f) s l h (step s l).size refl

    pub runs : (s : S) (l : List ℕ) → P s l (run step s l)
    unfolding run
    runs s l = runs-up-to (length l) s l (omega arith)

  -- ---- a run by its first step

  up-to-stops : (f : ℕ) (s : S) (l : List ℕ) → (step s l).size ≡ 0 → run_up_to step f s l ≡ stopped s l (step s l).reply
  unfolding run_up_to run_at
  up-to-stops zero s l e = refl
  up-to-stops (suc f) s l e = rw e refl

  up-to-goes : (f : ℕ) (s : S) (l : List ℕ) (k : ℕ) → (step s l).size ≡ suc k
      → run_up_to step (suc f) s l ≡ then_run (taken_of s l k) (run_up_to step f (step s l).after (drop (suc k) l))
  unfolding run_up_to run_at
  up-to-goes f s l k e = rw e refl

  -- a stream of so many bytes has no more packets
  Reached : S → List ℕ → Run S → Type 0
  Reached s l r = (f : ℕ) → length l ≤ f → run_up_to step f s l ≡ r

  reached-more : (s : S) (l : List ℕ) (k : ℕ) (r : Run S) → (step s l).size ≡ suc k → suc k ≤ length l → Reached (step s l).after (drop (suc k) l) r
      → Reached s l (then_run (taken_of s l k) r)
  unfolding Reached
  reached-more s l k r e h ih zero g = absurd (omega arith)
  reached-more s l k r e h ih (suc f) g =
      let d = length-drop (suc k) l in
      up-to-goes f s l k e ∙ ap (then_run (taken_of s l k)) (ih f (omega arith))

  enough : (s : S) (l : List ℕ) → Reached s l (run step s l)
  unfolding Reached
  enough = runs Reached (λ s l e f h. up-to-stops f s l e) reached-more

  pub run-stops : (s : S) (l : List ℕ) → (step s l).size ≡ 0 → run step s l ≡ stopped s l (step s l).reply
  unfolding run
  run-stops s l e = up-to-stops (length l) s l e

  pub run-goes : (s : S) (l : List ℕ) (k : ℕ) → (step s l).size ≡ suc k
      → run step s l ≡ then_run (taken_of s l k) (run step (step s l).after (drop (suc k) l))
  unfolding Reached
  run-goes s l k e =
      let d = length-drop (suc k) l in
      sym (enough s l (suc (length l)) (omega arith)) ∙ up-to-goes (length l) s l k e
      ∙ ap (then_run (taken_of s l k)) (enough (step s l).after (drop (suc k) l) (length l) (omega arith))

  module _ (s : S) (l : List ℕ) where
    goes-by-size : (TakesNothing (step s l).reply.which → ⊥) → (n : ℕ) → (step s l).size ≡ n
        → run step s l ≡ then_run (record { bytes = take n l; reply = (step s l).reply }) (run step (step s l).after (drop n l))
    goes-by-size z zero e = absurd (z (o.silent s l e))
    goes-by-size z (suc k) e = run-goes s l k e

    pub runs_by_step : RunsByStep S step s l
    runs_by_step = record { goes = λ z. goes-by-size z (step s l).size refl; stops = λ z. run-stops s l (o.idle s l z) }

  -- ---- more bytes

  Appends : S → List ℕ → Run S → Type 0
  Appends s l r = (m : List ℕ) → run step s (l ++ m) ≡ run_on step r m

  appends-more : (s : S) (l : List ℕ) (k : ℕ) (r : Run S) → (step s l).size ≡ suc k → suc k ≤ length l → Appends (step s l).after (drop (suc k) l) r
      → Appends s l (then_run (taken_of s l k) r)
  unfolding Appends
  appends-more s l k r e h ih m =
      let a : step s (l ++ m) ≡ step s l = o.keeps s l m k e in
      let b : take (suc k) (l ++ m) ≡ take (suc k) l = take-append-le (suc k) l m h in
      let c : drop (suc k) (l ++ m) ≡ drop (suc k) l ++ m = drop-append-le (suc k) l m h in
      run-goes s (l ++ m) k (ap (λ (x : StepOutcome S). x.size) a ∙ e) ∙ rw (a, b, c) (ap (then_run (taken_of s l k)) (ih m))

  pub run-append : (s : S) (l m : List ℕ) → run step s (l ++ m) ≡ run_on step (run step s l) m
  unfolding Appends
  run-append s l m = runs Appends (λ s l e m. refl) appends-more s l m

  pieces-from : (s : S) (l : List ℕ) (ms : List (List ℕ)) → run_pieces step (run step s l) ms ≡ run step s (l ++ joined ms)
  unfolding run_pieces joined
  pieces-from s l [] = rw (append-nil l) refl
  pieces-from s l (m ∷ ms) = rw (← run-append s l m) (pieces-from s (l ++ m) ms) ∙ ap (run step s) (append_assoc l m (joined ms))

  pub any_cutting : AnyStreamCutting S step
  any_cutting s ms = pieces-from s [] ms

  -- ---- all of the stream, up to a step that takes nothing

  OnAll : S → List ℕ → Run S → Type 0
  OnAll s l r = joined (packets_of r.taken) ++ r.rest ≡ l

  all_more : (s : S) (l : List ℕ) (k : ℕ) (r : Run S) → (step s l).size ≡ suc k → suc k ≤ length l → OnAll (step s l).after (drop (suc k) l) r
      → OnAll s l (then_run (taken_of s l k) r)
  unfolding OnAll joined packets_of
  all_more s l k r e h ih =
      append_assoc (take (suc k) l) (joined (packets_of r.taken)) r.rest ∙ ap (λ (x : List ℕ). take (suc k) l ++ x) ih ∙ take-append-drop (suc k) l

  on-all : (s : S) (l : List ℕ) → OnAll s l (run step s l)
  unfolding OnAll joined packets_of
  on-all = runs OnAll (λ s l e. refl) all_more

  Stops : S → List ℕ → Run S → Type 0
  Stops s l r = TakesNothing (step r.after r.rest).reply.which

  at_last : (s : S) (l : List ℕ) → Stops s l (run step s l)
  unfolding Stops
  at_last = runs Stops (λ s l e. o.silent s l e) (λ s l k r e h ih. ih)

  SaysWhy : S → List ℕ → Run S → Type 0
  SaysWhy s l r = r.why ≡ (step r.after r.rest).reply

  because : (s : S) (l : List ℕ) → SaysWhy s l (run step s l)
  unfolding SaysWhy
  because = runs SaysWhy (λ s l e. refl) (λ s l k r e h ih. ih)

  pub runs_on : (s : S) (l : List ℕ) → RunsOn S step s l
  unfolding OnAll Stops SaysWhy
  runs_on s l = record { all = on-all s l; stops = at_last s l; why = because s l }
