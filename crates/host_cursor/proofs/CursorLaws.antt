-- A cursor laid, and read back.
use Prim.Native.Nat.{ℕ, ◌^◌, ◌≤◌, ◌<◌}
use mathlib.Core.List.{List, [], ◌∷◌, ◌++◌, append_assoc}
use mathlib.Core.Bool.{Bool, true, false}
use mathlib.Core.Path.{◌≡◌, refl, ap, ◌∙◌}
use native.Mathlib.Omega.{arith}
use lib.ListN.{length, length-append}
use borrow.Author.Tests.{lt-ltb, le-ltb}
use Rattle.wire.specs.Output.{put}
use Rattle.wire.proofs.Outputs.{length-put}
use Rattle.moldudp64_messages.specs.declared.cursor.Cursor.{Cursor}
use Rattle.moldudp64_messages.specs.Cursor.{cursor}
use Rattle.host_states.specs.Little.{little, little_bytes}
use Rattle.host_states.specs.States.{cursor_code, is_open, open_byte, Lays, on_code, StatePromises}
use Rattle.host_states.proofs.LittleLaws.{length-little}
use Rattle.host_states.proofs.StateLaws.{open-back, put_next, keeps-not, keeps-laid, laid-front, little-past-field, little-in-front, state-promises}
use Rattle.host_cursor.specs.Cursor.{cursor_size, cursor_bytes, cursor_in, no_messages, KeepsCursor}

-- ---- read

pub cursor-short : (l : List ℕ) → length l < cursor_size → no_messages ≡ cursor_in l
unfolding cursor_in
cursor-short l h = rw (lt-ltb (length l) cursor_size h)

pub cursor-closed : (l : List ℕ) (b : Bool) → cursor_size ≤ length l → b ≡ is_open cursor_code l → b ≡ false → no_messages ≡ cursor_in l
unfolding cursor_in
cursor-closed l b h e f = rw (le-ltb (length l) cursor_size h, ← e, f)

pub cursor-read : (l : List ℕ) (b : Bool) (at left : ℕ) → cursor_size ≤ length l → b ≡ is_open cursor_code l → b ≡ true → at ≡ little l 1 8 → left ≡ little l 9 2
    → cursor at left ≡ cursor_in l
unfolding cursor_in
cursor-read l b at left h e f p q = rw (le-ltb (length l) cursor_size h, ← e, f, p, q)

-- ---- laid

pub length-cursor : (c : Cursor) → length (cursor_bytes c) ≡ cursor_size
unfolding cursor_bytes
length-cursor c =
    omega (arith, length-append (little_bytes 8 c.at.0) (little_bytes 2 c.left.0), length-little 8 c.at.0, length-little 2 c.left.0)

module _ (at left : ℕ) where
  -- its fields, one behind the other
  cursor-fields : (b : List ℕ) → cursor_bytes (cursor at left) ++ b ≡ (cursor_code ∷ []) ++ (little_bytes 8 at ++ (little_bytes 2 left ++ b))
  unfolding cursor_bytes
  cursor-fields b = simp append_assoc

  cursor-open : (b : List ℕ) → is_open cursor_code ((cursor_code ∷ []) ++ b) ≡ true
  unfolding open_byte
  cursor-open b = open-back cursor_code true b (omega arith)

  -- it is read from them, whatever follows
  cursor-back : (l m : List ℕ) → cursor_size ≤ length m → m ≡ cursor_bytes (cursor at left) ++ l → at < 2 ^ 64 → left < 2 ^ 16 → cursor_in m ≡ cursor at left
  unfolding cursor_in
  cursor-back l m h e a b =
      rw (le-ltb (length m) cursor_size h, e, cursor-fields l, cursor-open (little_bytes 8 at ++ (little_bytes 2 left ++ l)))
      (rw (
        little-past-field (cursor_code ∷ []) _ 1 refl 0 8,
        little-in-front 8 at _ a,
        little-past-field (cursor_code ∷ []) _ 1 refl 8 2,
        little-past-field (little_bytes 8 at) _ 8 (length-little 8 at) 0 2,
        little-in-front 2 left _ b,
      ))

  pub cursor-lays : (l l₀ l₁ l₂ : List ℕ) → cursor_size ≤ length l → l₀ ≡ put l 0 (cursor_code ∷ []) → l₁ ≡ put l₀ 1 (little_bytes 8 at)
      → l₂ ≡ put l₁ 9 (little_bytes 2 left)
      → at < 2 ^ 64 → left < 2 ^ 16 → Lays l l₂ cursor_in (cursor_bytes (cursor at left)) (cursor at left)
  unfolding cursor_bytes
  cursor-lays l l₀ l₁ l₂ h o p q a b =
      let a₁ = put_next l l₀ l₁ (cursor_code ∷ []) (little_bytes 8 at) 1 refl (omega (arith, length-little 8 at)) o p in
      let a₂ = put_next l l₁ l₂ (cursor_code ∷ little_bytes 8 at) (little_bytes 2 left) 9 (omega (arith, length-little 8 at)) (omega (arith, length-little 2 left)) a₁ q in
      let k : length l₂ ≡ length l = ap length a₂ ∙ length-put l 0 _ in
      record { laid = a₂; back = cursor-back _ l₂ (omega arith) (a₂ ∙ laid-front l _ (omega (arith, length-cursor (cursor at left)))) a b }

-- ---- kept

module _ (c : Cursor) (l : List ℕ) (r : ℕ) where
  pub cursor-not : (r ≡ 0 → ⊥) → KeepsCursor (on_code r) l l c
  cursor-not z = keeps-not l cursor_size cursor_in _ _ (length-cursor c) r z

  pub cursor-laid : (m : List ℕ) → r ≡ 0 → Lays l m cursor_in (cursor_bytes c) c → KeepsCursor (on_code r) l m c
  cursor-laid m z p = keeps-laid l cursor_size cursor_in _ _ (length-cursor c) r m z p

pub cursor-promises : StatePromises KeepsCursor cursor_size cursor_bytes
cursor-promises = state-promises cursor_size cursor_in cursor_bytes
