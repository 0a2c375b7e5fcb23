-- A progress laid, and read back.
use Prim.Native.Nat.{ℕ, ◌^◌, ◌≤◌, ◌<◌}
use mathlib.Core.List.{List, [], ◌∷◌, ◌++◌, append_assoc}
use mathlib.Core.Bool.{Bool, true, false}
use mathlib.Core.Path.{◌≡◌, refl, ap, ◌∙◌}
use native.Mathlib.Omega.{arith}
use lib.ListN.{length, length-append}
use borrow.Author.Tests.{lt-ltb, le-ltb}
use Rattle.wire.specs.Output.{put}
use Rattle.wire.proofs.Outputs.{length-put}
use Rattle.transmitter.specs.declared.turns.Progress.{Progress}
use Rattle.transmitter.specs.Turns.{progress}
use Rattle.host_states.specs.Little.{little, little_bytes}
use Rattle.host_states.specs.States.{transmitter_code, is_open, open_byte, Lays, on_code, StatePromises}
use Rattle.host_states.proofs.LittleLaws.{length-little}
use Rattle.host_states.proofs.StateLaws.{open-back, put_next, keeps-not, keeps-laid, laid-front, little-past-field, little-in-front, state-promises}
use Rattle.host_transmitter.specs.Progress.{progress_size, progress_bytes, progress_in, past_all, KeepsProgress}

-- ---- read

pub progress-short : (l : List ℕ) → length l < progress_size → past_all ≡ progress_in l
unfolding progress_in
progress-short l h = rw (lt-ltb (length l) progress_size h)

pub progress-closed : (l : List ℕ) (b : Bool) → progress_size ≤ length l → b ≡ is_open transmitter_code l → b ≡ false → past_all ≡ progress_in l
unfolding progress_in
progress-closed l b h e f = rw (le-ltb (length l) progress_size h, ← e, f)

pub progress-read : (l : List ℕ) (b : Bool) (sent sum : ℕ) → progress_size ≤ length l → b ≡ is_open transmitter_code l → b ≡ true → sent ≡ little l 1 8 → sum ≡ little l 9 8
    → progress sent sum ≡ progress_in l
unfolding progress_in
progress-read l b sent sum h e f p q = rw (le-ltb (length l) progress_size h, ← e, f, p, q)

-- ---- laid

pub length-progress : (c : Progress) → length (progress_bytes c) ≡ progress_size
unfolding progress_bytes
length-progress c =
    omega (arith, length-append (little_bytes 8 c.messages) (little_bytes 8 c.bytes), length-little 8 c.messages, length-little 8 c.bytes)

module _ (sent sum : ℕ) where
  -- its fields, one behind the other
  progress-fields : (b : List ℕ) → progress_bytes (progress sent sum) ++ b ≡ (transmitter_code ∷ []) ++ (little_bytes 8 sent ++ (little_bytes 8 sum ++ b))
  unfolding progress_bytes
  progress-fields b = simp append_assoc

  progress-open : (b : List ℕ) → is_open transmitter_code ((transmitter_code ∷ []) ++ b) ≡ true
  unfolding open_byte
  progress-open b = open-back transmitter_code true b (omega arith)

  -- it is read from them, whatever follows
  progress-back : (l m : List ℕ) → progress_size ≤ length m → m ≡ progress_bytes (progress sent sum) ++ l → sent < 2 ^ 64 → sum < 2 ^ 64 → progress_in m ≡ progress sent sum
  unfolding progress_in
  progress-back l m h e a b =
      rw (le-ltb (length m) progress_size h, e, progress-fields l, progress-open (little_bytes 8 sent ++ (little_bytes 8 sum ++ l)))
      (rw (
        little-past-field (transmitter_code ∷ []) _ 1 refl 0 8,
        little-in-front 8 sent _ a,
        little-past-field (transmitter_code ∷ []) _ 1 refl 8 8,
        little-past-field (little_bytes 8 sent) _ 8 (length-little 8 sent) 0 8,
        little-in-front 8 sum _ b,
      ))

  pub progress-lays : (l l₀ l₁ l₂ : List ℕ) → progress_size ≤ length l → l₀ ≡ put l 0 (transmitter_code ∷ []) → l₁ ≡ put l₀ 1 (little_bytes 8 sent)
      → l₂ ≡ put l₁ 9 (little_bytes 8 sum)
      → sent < 2 ^ 64 → sum < 2 ^ 64 → Lays l l₂ progress_in (progress_bytes (progress sent sum)) (progress sent sum)
  unfolding progress_bytes
  progress-lays l l₀ l₁ l₂ h o p q a b =
      let a₁ = put_next l l₀ l₁ (transmitter_code ∷ []) (little_bytes 8 sent) 1 refl (omega (arith, length-little 8 sent)) o p in
      let a₂ = put_next l l₁ l₂ (transmitter_code ∷ little_bytes 8 sent) (little_bytes 8 sum) 9 (omega (arith, length-little 8 sent)) (omega (arith, length-little 8 sum)) a₁ q in
      let k : length l₂ ≡ length l = ap length a₂ ∙ length-put l 0 _ in
      record { laid = a₂; back = progress-back _ l₂ (omega arith) (a₂ ∙ laid-front l _ (omega (arith, length-progress (progress sent sum)))) a b }

-- ---- kept

module _ (c : Progress) (l : List ℕ) (r : ℕ) where
  pub progress-not : (r ≡ 0 → ⊥) → KeepsProgress (on_code r) l l c
  progress-not z = keeps-not l progress_size progress_in _ _ (length-progress c) r z

  pub progress-laid : (m : List ℕ) → r ≡ 0 → Lays l m progress_in (progress_bytes c) c → KeepsProgress (on_code r) l m c
  progress-laid m z p = keeps-laid l progress_size progress_in _ _ (length-progress c) r m z p

pub progress-promises : StatePromises KeepsProgress progress_size progress_bytes
progress-promises = state-promises progress_size progress_in progress_bytes
