-- Laws of the table of letters: c is a letter, r its row, k the bytes of a payload.
use mathlib.Core.Path.{◌≡◌, refl}
use mathlib.Core.Bool.{Bool, true, false}
use Prim.Native.Nat.{ℕ, ◌≤◌, ◌<◌}
use native.Mathlib.Omega.{arith}
use lib.Dec.{ltb, leb, eqb}
use borrow.Author.Tests.{lt-ltb, le-ltb, ltb-false, leb-true, ne_eqb}
use Rattle.std.specs.Prelude.{if◌then◌else◌}
use Rattle.soupbintcp.specs.declared.packet.Sender.{Sender}
use Rattle.soupbintcp.specs.declared.packet.Sender.TheVariants.{Server, Client}
use Rattle.soupbintcp.specs.declared.letters.Row.{Row}
use Rattle.soupbintcp.specs.Letters.{most_payload, row, letter_row, sent_in, allowed_in, sends, allows}

-- ---- the rows

module _ (c : ℕ) (r : Row) where
  pub row-plus : r ≡ row true true 0 most_payload → c ≡ 43 → r ≡ letter_row c
  unfolding letter_row
  row-plus f e = simp e f

  pub row-A : r ≡ row true false 30 30 → c ≡ 65 → r ≡ letter_row c
  unfolding letter_row
  row-A f e = simp e f

  pub row-J : r ≡ row true false 1 1 → c ≡ 74 → r ≡ letter_row c
  unfolding letter_row
  row-J f e = simp e f

  pub row-S : r ≡ row true false 0 most_payload → c ≡ 83 → r ≡ letter_row c
  unfolding letter_row
  row-S f e = simp e f

  pub row-H : r ≡ row true false 0 0 → c ≡ 72 → r ≡ letter_row c
  unfolding letter_row
  row-H f e = simp e f

  pub row-Z : r ≡ row true false 0 0 → c ≡ 90 → r ≡ letter_row c
  unfolding letter_row
  row-Z f e = simp e f

  pub row-L : r ≡ row false true 46 46 → c ≡ 76 → r ≡ letter_row c
  unfolding letter_row
  row-L f e = simp e f

  pub row-U : r ≡ row false true 0 most_payload → c ≡ 85 → r ≡ letter_row c
  unfolding letter_row
  row-U f e = simp e f

  pub row-R : r ≡ row false true 0 0 → c ≡ 82 → r ≡ letter_row c
  unfolding letter_row
  row-R f e = simp e f

  pub row-O : r ≡ row false true 0 0 → c ≡ 79 → r ≡ letter_row c
  unfolding letter_row
  row-O f e = simp e f

  pub row-none : r ≡ row false false 0 0
      → (c ≡ 43 → ⊥) → (c ≡ 65 → ⊥) → (c ≡ 74 → ⊥) → (c ≡ 83 → ⊥) → (c ≡ 72 → ⊥)
      → (c ≡ 90 → ⊥) → (c ≡ 76 → ⊥) → (c ≡ 85 → ⊥) → (c ≡ 82 → ⊥) → (c ≡ 79 → ⊥) → r ≡ letter_row c
  unfolding letter_row
  row-none f e0 e1 e2 e3 e4 e5 e6 e7 e8 e9 =
      simp (
        ne_eqb _ _ e0,
        ne_eqb _ _ e1,
        ne_eqb _ _ e2,
        ne_eqb _ _ e3,
        ne_eqb _ _ e4,
        ne_eqb _ _ e5,
        ne_eqb _ _ e6,
        ne_eqb _ _ e7,
        ne_eqb _ _ e8,
        ne_eqb _ _ e9,
      ) f

-- ---- who sends it, and how long it may be

module _ (r : Row) where
  pub sent-server : (s : Sender) → s ≡ Server → r.server ≡ sent_in s r
  sent-server s f = rw f

  pub sent-client : (s : Sender) → s ≡ Client → r.client ≡ sent_in s r
  sent-client s f = rw f

  pub allowed-under : (k : ℕ) → k < r.least → false ≡ allowed_in r k
  allowed-under k h = rw (lt-ltb _ _ h)

  pub allowed-up : (k : ℕ) → r.least ≤ k → leb k r.most ≡ allowed_in r k
  allowed-up k h = rw (le-ltb _ _ h)

  -- the row of a letter is the letter's
  pub row-sends : (c : ℕ) (s : Sender) (t : Bool) → r ≡ letter_row c → t ≡ sent_in s r → t ≡ sends s c
  unfolding sends
  row-sends c s t e f = rw e at f

  pub row-allows : (c k : ℕ) (t : Bool) → r ≡ letter_row c → t ≡ allowed_in r k → t ≡ allows c k
  unfolding allows
  row-allows c k t e f = rw e at f

-- ---- a length that is allowed is within the letter's row, and no row has more than 4,096 bytes

pub choice : {A : Type 0} {x y : A} (P : A → Type 0) (b : Bool) → (b ≡ true → P x) → (b ≡ false → P y) → P (if b then x else y)
choice P true f g = f refl
choice P false f g = g refl

Small : Row → Type 0
Small r = r.most ≤ most_payload

row_small : (c : ℕ) → Small (letter_row c)
unfolding letter_row Small
row_small c =
    choice Small (eqb c 43) (λ e. omega arith) (λ e.
    choice Small (eqb c 65) (λ e. omega arith) (λ e.
    choice Small (eqb c 74) (λ e. omega arith) (λ e.
    choice Small (eqb c 83) (λ e. omega arith) (λ e.
    choice Small (eqb c 72) (λ e. omega arith) (λ e.
    choice Small (eqb c 90) (λ e. omega arith) (λ e.
    choice Small (eqb c 76) (λ e. omega arith) (λ e.
    choice Small (eqb c 85) (λ e. omega arith) (λ e.
    choice Small (eqb c 82) (λ e. omega arith) (λ e.
    choice Small (eqb c 79) (λ e. omega arith) (λ e. omega arith))))))))))

reaches : (k n : ℕ) (b t : Bool) → ltb k n ≡ t → if t then false else b ≡ true → n ≤ k
reaches k n b false e h = ltb-false k n e
reaches k n b true e h = let z : ◌≡◌ {A = ℕ} 0 1 = cc in absurd (omega arith)

keeps : (k n : ℕ) (t b : Bool) → leb k n ≡ b → if t then false else b ≡ true → k ≤ n
keeps k n false true e h = leb-true k n e
keeps k n false false e h = let z : ◌≡◌ {A = ℕ} 0 1 = cc in absurd (omega arith)
keeps k n true b e h = let z : ◌≡◌ {A = ℕ} 0 1 = cc in absurd (omega arith)

module _ (c k : ℕ) (h : allows c k ≡ true) where
  pub allowed-most : k ≤ (letter_row c).most
  unfolding allows
  allowed-most = keeps k (letter_row c).most (ltb k (letter_row c).least) (leb k (letter_row c).most) refl h

  pub allowed-small : k ≤ most_payload
  unfolding Small
  allowed-small = let a = allowed-most in let b = row_small c in omega arith

  pub allowed-least : (letter_row c).least ≤ k
  unfolding allows
  allowed-least = reaches k (letter_row c).least (leb k (letter_row c).most) (ltb k (letter_row c).least) refl h

  pub least-A : c ≡ 65 → 30 ≤ k
  unfolding letter_row
  least-A e = rw e at allowed-least

  pub least-L : c ≡ 76 → 46 ≤ k
  unfolding letter_row
  least-L e = rw e at allowed-least

  pub least-J : c ≡ 74 → 1 ≤ k
  unfolding letter_row
  least-J e = rw e at allowed-least
