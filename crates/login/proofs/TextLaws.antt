-- Two fields have the same text exactly when they have as many bytes, and each byte is the same without case.
use mathlib.Core.Path.{◌≡◌, refl, ap, sym}
use mathlib.Core.List.{List, [], ◌∷◌}
use mathlib.Core.Bool.{Bool, true, false}
use Prim.Native.Nat.{ℕ, zero, suc, ◌+◌, ◌≤◌, ◌<◌}
use native.Mathlib.Omega.{arith}
use lib.ListN.{length, get_or}
use lib.Dec.{ltb, leb, eqb}
use borrow.Author.Tests.{le-ltb, le-leb, lt-leb, ltb-false, leb-true, eq-eqb, eqb-true}
use Rattle.std.specs.Prelude.{if◌then◌else◌}
use Rattle.wire.specs.Bytes.{same_bytes}
use Rattle.text_fields.specs.Letters.{lower}
use Rattle.login.specs.Account.{lowered, same_text}
use Rattle.login.specs.Statements.{SameLetter, same, capital, small, SameText}

pub both : (t r : Bool) → if t then r else false ≡ true → (t ≡ true) × (r ≡ true)
both true r e = (refl, e)
both false r e = let z : ◌≡◌ {A = ℕ} 0 1 = cc in absurd (omega arith)

-- ---- one byte

-- a byte as a small letter: a capital is 32 less, every other byte is itself
data Lowering (b : ℕ) : Type 0 where
  itself : lower b ≡ b → Lowering b
  lowers : 65 ≤ b → b ≤ 90 → lower b ≡ b + 32 → Lowering b

lowering : (b : ℕ) → Lowering b
unfolding lower
lowering b = go (ltb b 65) refl (leb b 90) refl
  where
    go : (t : Bool) → ltb b 65 ≡ t → (r : Bool) → leb b 90 ≡ r → Lowering b
    go true e r f = itself (rw e refl)
    go false e true f = lowers (ltb-false _ _ e) (leb-true _ _ f) (rw (e, f) refl)
    go false e false f = itself (rw (e, f) refl)

letter-so : (a b : ℕ) → lower a ≡ lower b → SameLetter a b
letter-so a b e = go (lowering a) (lowering b)
  where
    go : Lowering a → Lowering b → SameLetter a b
    go (itself f) (itself g) = same (omega arith)
    go (itself f) (lowers h i g) = small h i (omega arith)
    go (lowers h i f) (itself g) = capital h i (omega arith)
    go (lowers h i f) (lowers j k g) = same (omega arith)

-- a capital and its small letter
lower-both : (a b : ℕ) → 65 ≤ a → a ≤ 90 → b ≡ a + 32 → lower a ≡ lower b
unfolding lower
lower-both a b h i e =
    let p : 65 ≤ b = omega arith in
    let q : 90 < b = omega arith in
    simp (le-ltb _ _ h, le-leb _ _ i, le-ltb _ _ p, lt-leb _ _ q) (sym e)

letter-same : (a b : ℕ) → SameLetter a b → lower a ≡ lower b
letter-same a b (same e) = ap lower e
letter-same a b (capital h i e) = lower-both a b h i e
letter-same a b (small h i e) = sym (lower-both b a h i e)

-- ---- all bytes

module _ (a b : ℕ) (l m : List ℕ) where
  behind : SameLetter a b → SameText l m → SameText (a ∷ l) (b ∷ m)
  behind x s = record { size = ap suc s.size; each = go }
    where
      go : (i : ℕ) → i < length (a ∷ l) → SameLetter (get_or (a ∷ l) i 0) (get_or (b ∷ m) i 0)
      go zero h = x
      go (suc i) h = s.each i (omega arith)

  rest : SameText (a ∷ l) (b ∷ m) → SameText l m
  rest s = record { size = let h = s.size in omega arith; each = λ (i : ℕ) (h : i < length l). s.each (suc i) (omega arith) }

pub text-so : (a b : List ℕ) → same_text a b ≡ true → SameText a b
unfolding same_text lowered same_bytes
text-so [] [] e = record { size = refl; each = λ (i : ℕ) (h : i < 0). absurd (omega arith) }
text-so [] (b ∷ m) e = let z : ◌≡◌ {A = ℕ} 0 1 = cc in absurd (omega arith)
text-so (a ∷ l) [] e = let z : ◌≡◌ {A = ℕ} 0 1 = cc in absurd (omega arith)
text-so (a ∷ l) (b ∷ m) e =
    let s = both (eqb (lower a) (lower b)) (same_bytes (lowered l) (lowered m)) e in
    behind a b l m (letter-so a b (eqb-true _ _ s.0)) (text-so l m s.1)

pub text_same : (a b : List ℕ) → SameText a b → same_text a b ≡ true
unfolding same_text lowered same_bytes
text_same [] [] s = refl
text_same [] (b ∷ m) s = let h = s.size in absurd (omega arith)
text_same (a ∷ l) [] s = let h = s.size in absurd (omega arith)
text_same (a ∷ l) (b ∷ m) s =
    let h : lower a ≡ lower b = letter-same a b (s.each 0 (omega arith)) in
    simp (eq-eqb _ _ h) (text_same l m (rest a b l m s))
