-- Laws of account records: letters without case, two fields compared byte for byte, and what a record says of an entry.
use mathlib.Core.Path.{◌≡◌, refl, ap, sym, ◌∙◌}
use mathlib.Core.List.{List, [], ◌∷◌}
use mathlib.Core.Bool.{Bool, true, false, ◌&&◌, not}
use Prim.Native.Nat.{ℕ, zero, suc, ◌+◌, ◌≤◌, ◌<◌}
use native.Mathlib.Omega.{arith}
use native.Mathlib.Numerals.{unary_clauses}
use mir.Val.{bool_byte, Fits}
use mir.Syntax.{w64}
use lib.ListN.{length}
use lib.Dec.{eqb}
use borrow.Author.Tests.{eq-eqb, ne_eqb}
use Rattle.std.specs.Prelude.{if◌then◌else◌, ◌≢◌, MatchBool}
use Rattle.std.specs.List.{zip, AllWithin, HoldsAt}
use Rattle.wire.specs.Bytes.{same_bytes}
use Rattle.wire.proofs.Same.{same_length, false-or-true}
use Rattle.text_fields.specs.Sound.{sound_username, sound_password}
use Rattle.text_fields.specs.Letters.{lower}
use Rattle.login.specs.declared.account.Account.{Account}
use Rattle.login.specs.Account.{lowered, same_text, sound_account, is_of, has_password, is_known}

-- ---- two fields

lowered-length : (l : List ℕ) → length (lowered l) ≡ length l
unfolding lowered
lowered-length [] = refl
lowered-length (b ∷ l) = ap suc (lowered-length l)

-- by a count of the bytes that differ, where x and y are left of them: those left decide the rest
pub record DifferOn (a b x y : List ℕ) (differ : ℕ) : Type 0 where
  pub lengths : length x ≡ length y
  pub within : differ + length x ≤ length a
  pub same : (eqb differ 0 && same_text x y) ≡ same_text a b

and-true : (x : Bool) → (x && true) ≡ x
and-true true = refl
and-true false = refl

and-false : (x : Bool) → (x && false) ≡ false
and-false true = refl
and-false false = refl

-- none differs where none did and the next does not
none-differs : (d : ℕ) (x : Bool) → eqb (d + bool_byte (not x)) 0 ≡ (eqb d 0 && x)
none-differs d true = simp unary_clauses (sym (and-true (eqb d 0)))
none-differs d false = ne_eqb (d + 1) 0 (λ e. omega (arith, e)) ∙ sym (and-false (eqb d 0))

and_first : (x t s w : Bool) → (x && (if t then s else false)) ≡ w → ((x && t) && s) ≡ w
and_first true true s w e = e
and_first true false s w e = e
and_first false t s w e = e

pub same-unlike : (a b : List ℕ) → (length a ≡ length b → ⊥) → false ≡ same_text a b
unfolding same_text
same-unlike a b h =
    false-or-true (same_bytes (lowered a) (lowered b))
    (λ e. let k = same_length (lowered a) (lowered b) e in h (omega (arith, lowered-length a, lowered-length b)))

-- ---- by the first pair that differs

abbrev pub Alike : ℕ × ℕ → Type 0
Alike p = lower p.0 ≡ lower p.1

abbrev pub Unlike : ℕ × ℕ → Type 0
Unlike p = lower p.0 ≢ lower p.1

all-alike : (a b : List ℕ) → length a ≡ length b → AllWithin Alike (zip a b) 0 (length (zip a b)) → same_text a b ≡ true
unfolding same_text lowered same_bytes
all-alike [] [] n h = refl
all-alike [] (y ∷ b) n h = absurd (omega arith)
all-alike (x ∷ a) [] n h = absurd (omega arith)
all-alike (x ∷ a) (y ∷ b) n h =
    let e : lower x ≡ lower y = h 0 (x, y) (omega arith) (omega arith) in
    rw (eq-eqb _ _ e) (all-alike a b (omega arith) (λ k d p q. h (suc k) d (omega arith) (omega arith)))

one-unlike : (a b : List ℕ) (k : ℕ) → k < length (zip a b) → HoldsAt Unlike (zip a b) k → same_text a b ≡ false
unfolding same_text lowered same_bytes
one-unlike [] b k l h = absurd (omega arith)
one-unlike (x ∷ a) [] k l h = absurd (omega arith)
one-unlike (x ∷ a) (y ∷ b) zero l h = rw (ne_eqb _ _ (h (x, y))) refl
one-unlike (x ∷ a) (y ∷ b) (suc k) l h = go (eqb (lower x) (lower y)) (one-unlike a b k (omega arith) h)
  where
    go : (t : Bool) → same_text a b ≡ false → (if t then same_text a b else false) ≡ false
    go true e = e
    go false e = refl

-- what the search over the pairs answers
pub alike-so : (a b : List ℕ) (r : Bool) → length a ≡ length b
    → MatchBool r (AllWithin Alike (zip a b) 0 (length (zip a b))) ((k : ℕ) × (k < length (zip a b)) × HoldsAt Unlike (zip a b) k)
    → r ≡ same_text a b
alike-so a b true n h = sym (all-alike a b n h)
alike-so a b false n h = sym (one-unlike a b h.0 h.1 h.2)

-- ---- by the count of those that differ

module _ (a b : List ℕ) where
  pub differ-start : length a ≡ length b → DifferOn a b a b 0
  differ-start h = record { lengths = h; within = omega arith; same = refl }

  pub differ-end : (x y : List ℕ) (differ : ℕ) → DifferOn a b x y differ → x ≡ [] → y ≡ [] → eqb differ 0 ≡ same_text a b
  unfolding same_text lowered same_bytes
  differ-end x y differ d e f = rw (e, f, and-true (eqb differ 0)) at d.same

  -- one pair in front
  module _ (x y m n : List ℕ) (differ p q : ℕ) (d : DifferOn a b x y differ) (e : x ≡ p ∷ m) (f : y ≡ q ∷ n) where
    fewer : differ + suc (length m) ≤ length a
    fewer = rw e at d.within

    pub differ-fits : (t : Bool) → Fits w64 (length a) → Fits w64 (differ + bool_byte t)
    differ-fits true h = record { fits = omega (arith, fewer, h.fits) }
    differ-fits false h = record { fits = omega (arith, fewer, h.fits) }

    pub differ-next : DifferOn a b m n (differ + bool_byte (not (eqb (lower p) (lower q))))
    unfolding same_text lowered same_bytes
    differ-next =
        record {
          lengths = let l : suc (length m) ≡ suc (length n) = rw (e, f) at d.lengths in omega arith;
          within = at_most (not (eqb (lower p) (lower q)));
          same =
              rw (none-differs differ (eqb (lower p) (lower q)))
              (and_first (eqb differ 0) (eqb (lower p) (lower q)) (same_text m n) (same_text a b) (rw (e, f) at d.same));
        }
      where
        at_most : (t : Bool) → differ + bool_byte t + length m ≤ length a
        at_most true = omega (arith, fewer)
        at_most false = omega (arith, fewer)

-- ---- one record: t is what the first test gave, r what the second did

module _ (a : Account) (t : Bool) where
  pub sound-both : (r : Bool) → t ≡ sound_username a.username → t ≡ true → r ≡ sound_password a.password → r ≡ sound_account a
  unfolding sound_account
  sound-both r e f g = rw (← e, f) g

  pub sound-not : t ≡ sound_username a.username → t ≡ false → false ≡ sound_account a
  unfolding sound_account
  sound-not e f = rw (← e, f) refl

module _ (a e : Account) (t : Bool) where
  pub of-both : (r : Bool) → t ≡ same_text a.username e.username → t ≡ true → r ≡ sound_account a → r ≡ is_of a e
  unfolding is_of
  of-both r f g h = go (sound_account a) h
    where
      go : (x : Bool) → r ≡ x → r ≡ (if x then same_text a.username e.username else false)
      go true i = i ∙ sym (sym f ∙ g)
      go false i = i

  pub of-not : t ≡ same_text a.username e.username → t ≡ false → false ≡ is_of a e
  unfolding is_of
  of-not f g = go (sound_account a)
    where
      go : (x : Bool) → false ≡ (if x then same_text a.username e.username else false)
      go true = sym (sym f ∙ g)
      go false = refl

  pub password-both : (r : Bool) → t ≡ sound_account e → t ≡ true → r ≡ same_text a.password e.password → r ≡ has_password a e
  unfolding has_password
  password-both r f g h = rw (← f, g) h

  pub password-not : t ≡ sound_account e → t ≡ false → false ≡ has_password a e
  unfolding has_password
  password-not f g = rw (← f, g) refl

  pub known_both : (r : Bool) → t ≡ is_of a e → t ≡ true → r ≡ has_password a e → r ≡ is_known (a ∷ []) e
  unfolding is_known
  known_both r f g h = rw (← f, g) h

  pub known-not : t ≡ is_of a e → t ≡ false → false ≡ is_known (a ∷ []) e
  unfolding is_known
  known-not f g = rw (← f, g) refl
