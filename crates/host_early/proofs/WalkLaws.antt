-- A walk laid, and read back.
use Prim.Native.Nat.{ℕ, ◌+◌, ◌^◌, ◌≤◌, ◌<◌}
use mathlib.Core.List.{List, [], ◌∷◌, ◌++◌, append_assoc}
use mathlib.Core.Bool.{Bool, true, false}
use mathlib.Core.Path.{◌≡◌, refl, ap, ◌∙◌}
use native.Mathlib.Omega.{arith}
use lib.ListN.{length, length-append}
use borrow.Author.Tests.{lt-ltb, le-ltb}
use Rattle.wire.specs.Output.{put}
use Rattle.wire.proofs.Outputs.{length-put, put-put}
use Rattle.moldudp64_messages.specs.Cursor.{cursor}
use Rattle.early_messages.specs.declared.walk.Walk.{Walk}
use Rattle.early_messages.specs.Walk.{walk}
use Rattle.host_states.specs.Little.{little, little_bytes}
use Rattle.host_states.specs.States.{walk_code, is_open, open_byte, Lays, on_code, StatePromises}
use Rattle.host_states.proofs.LittleLaws.{length-little}
use Rattle.host_states.proofs.StateLaws.{open-back, put_next, keeps-not, keeps-laid, laid-front, little-past-field, little-in-front, state-promises}
use Rattle.host_early.specs.Walk.{coming_bytes, block_bytes, walk_bytes, walk_in, no_walk, KeepsWalk}

-- ---- read

pub walk-short : (l : List ℕ) → length l < 21 → no_walk ≡ walk_in l
unfolding walk_in
walk-short l h = rw (lt-ltb (length l) 21 h)

pub walk-closed : (l : List ℕ) (b : Bool) → 21 ≤ length l → b ≡ is_open walk_code l → b ≡ false → no_walk ≡ walk_in l
unfolding walk_in
walk-closed l b h e f = rw (le-ltb (length l) 21 h, ← e, f)

pub walk-read : (l : List ℕ) (b : Bool) (n left at blocks : ℕ) → 21 ≤ length l → b ≡ is_open walk_code l → b ≡ true → n ≡ little l 1 8 → left ≡ little l 9 2
    → at ≡ little l 11 8 → blocks ≡ little l 19 2 → walk n left (cursor at blocks) ≡ walk_in l
unfolding walk_in
walk-read l b n left at blocks h e f p q s t = rw (le-ltb (length l) 21 h, ← e, f, p, q, s, t)

-- ---- laid

pub length-coming : (n left : ℕ) → length (coming_bytes n left) ≡ 11
unfolding coming_bytes
length-coming n left = length-append (walk_code ∷ little_bytes 8 n) (little_bytes 2 left) ∙ omega (arith, length-little 8 n, length-little 2 left)

pub length-block : (at blocks : ℕ) → length (block_bytes at blocks) ≡ 10
unfolding block_bytes
length-block at blocks = length-append (little_bytes 8 at) (little_bytes 2 blocks) ∙ omega (arith, length-little 8 at, length-little 2 blocks)

pub coming-put : (l l₀ l₁ l₂ : List ℕ) (n left : ℕ) → 21 ≤ length l → l₀ ≡ put l 0 (walk_code ∷ []) → l₁ ≡ put l₀ 1 (little_bytes 8 n) → l₂ ≡ put l₁ 9 (little_bytes 2 left)
    → l₂ ≡ put l 0 (coming_bytes n left)
unfolding coming_bytes
coming-put l l₀ l₁ l₂ n left h o p q =
    let a = put_next l l₀ l₁ (walk_code ∷ []) (little_bytes 8 n) 1 refl (omega (arith, length-little 8 n)) o p in
    put_next l l₁ l₂ (walk_code ∷ little_bytes 8 n) (little_bytes 2 left) 9 (omega (arith, length-little 8 n)) (omega (arith, length-little 2 left)) a q

pub block-put : (l l₁ l₂ : List ℕ) (at blocks : ℕ) → 21 ≤ length l → l₁ ≡ put l 11 (little_bytes 8 at) → l₂ ≡ put l₁ 19 (little_bytes 2 blocks) → l₂ ≡ put l 11 (block_bytes at blocks)
unfolding block_bytes
block-put l l₁ l₂ at blocks h p q =
    let n = length-little 8 at in
    let two : put (put l 11 (little_bytes 8 at)) (11 + length (little_bytes 8 at)) (little_bytes 2 blocks) ≡ put l 11 (little_bytes 8 at ++ little_bytes 2 blocks) =
    put-put l 11 (little_bytes 8 at) (little_bytes 2 blocks) (omega (arith, length-little 2 blocks)) in
    q ∙ rw p (rw n at two)

module _ (n left at blocks : ℕ) where
  pub length-walk : length (walk_bytes (walk n left (cursor at blocks))) ≡ 21
  unfolding walk_bytes
  length-walk = length-append (coming_bytes n left) (block_bytes at blocks) ∙ omega (arith, length-coming n left, length-block at blocks)

  -- its fields, one behind the other
  walk-fields : (b : List ℕ) → walk_bytes (walk n left (cursor at blocks)) ++ b ≡ (walk_code ∷ []) ++ (little_bytes 8 n ++ (little_bytes 2 left ++ (little_bytes 8 at ++ (little_bytes 2 blocks ++ b))))
  unfolding walk_bytes coming_bytes block_bytes
  walk-fields b = simp append_assoc (ap (λ (x : List ℕ). walk_code ∷ x) (append_assoc (little_bytes 8 n) (little_bytes 2 left) (little_bytes 8 at ++ (little_bytes 2 blocks ++ b))))

  walk-open : (b : List ℕ) → is_open walk_code ((walk_code ∷ []) ++ b) ≡ true
  unfolding open_byte
  walk-open b = open-back walk_code true b (omega arith)

  -- it is read from them, whatever follows
  walk-back : (l m : List ℕ) → 21 ≤ length m → m ≡ walk_bytes (walk n left (cursor at blocks)) ++ l → n < 2 ^ 64 → left < 2 ^ 16 → at < 2 ^ 64 → blocks < 2 ^ 16
      → walk_in m ≡ walk n left (cursor at blocks)
  unfolding walk_in
  walk-back l m h e a b c d =
      rw (le-ltb (length m) 21 h, e, walk-fields l, walk-open (little_bytes 8 n ++ (little_bytes 2 left ++ (little_bytes 8 at ++ (little_bytes 2 blocks ++ l)))))
      (rw (
        little-past-field (walk_code ∷ []) _ 1 refl 0 8,
        little-in-front 8 n _ a,
        little-past-field (walk_code ∷ []) _ 1 refl 8 2,
        little-past-field (little_bytes 8 n) _ 8 (length-little 8 n) 0 2,
        little-in-front 2 left _ b,
        little-past-field (walk_code ∷ []) _ 1 refl 10 8,
        little-past-field (little_bytes 8 n) _ 8 (length-little 8 n) 2 8,
        little-past-field (little_bytes 2 left) _ 2 (length-little 2 left) 0 8,
        little-in-front 8 at _ c,
        little-past-field (walk_code ∷ []) _ 1 refl 18 2,
        little-past-field (little_bytes 8 n) _ 8 (length-little 8 n) 10 2,
        little-past-field (little_bytes 2 left) _ 2 (length-little 2 left) 8 2,
        little-past-field (little_bytes 8 at) _ 8 (length-little 8 at) 0 2,
        little-in-front 2 blocks _ d,
      ))

  pub walk-lays : (l l₁ l₂ : List ℕ) → 21 ≤ length l → l₁ ≡ put l 0 (coming_bytes n left) → l₂ ≡ put l₁ 11 (block_bytes at blocks)
      → n < 2 ^ 64 → left < 2 ^ 16 → at < 2 ^ 64 → blocks < 2 ^ 16
      → Lays l l₂ walk_in (walk_bytes (walk n left (cursor at blocks))) (walk n left (cursor at blocks))
  unfolding walk_bytes
  walk-lays l l₁ l₂ h o p a b c d =
      let all = put_next l l₁ l₂ (coming_bytes n left) (block_bytes at blocks) 11 (length-coming n left) (omega (arith, length-block at blocks)) o p in
      let k : length l₂ ≡ length l = ap length all ∙ length-put l 0 _ in
      record { laid = all; back = walk-back _ l₂ (omega arith) (all ∙ laid-front l _ (omega (arith, length-walk))) a b c d }

pub still-room : (l m bs : List ℕ) (at : ℕ) → 21 ≤ length l → m ≡ put l at bs → 21 ≤ length m
still-room l m bs at h e = omega (arith, ap length e ∙ length-put l at bs)

-- ---- kept

module _ (w : Walk) (l : List ℕ) (r : ℕ) where
  pub walk-length : length (walk_bytes w) ≡ 21
  walk-length = length-walk w.number.0 w.left.0 w.cursor.at.0 w.cursor.left.0

  pub walk-not : (r ≡ 0 → ⊥) → KeepsWalk (on_code r) l l w
  walk-not z = keeps-not l 21 walk_in _ _ walk-length r z

  pub walk-laid : (m : List ℕ) → r ≡ 0 → Lays l m walk_in (walk_bytes w) w → KeepsWalk (on_code r) l m w
  walk-laid m z p = keeps-laid l 21 walk_in _ _ walk-length r m z p

pub walk-promises : StatePromises KeepsWalk 21 walk_bytes
walk-promises = state-promises 21 walk_in walk_bytes
