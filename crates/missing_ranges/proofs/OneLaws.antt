-- There is just one list of ranges that lists the same numbers.
use mathlib.Core.Path.{◌≡◌, refl, ap, sym, ◌∙◌}
use mathlib.Core.List.{List, [], ◌∷◌}
use mathlib.Core.Bool.{Bool, true, false, ◌&&◌}
use Prim.Native.Nat.{ℕ, ◌+◌, ◌≤◌, ◌<◌}
use native.Mathlib.Omega.{arith}
use lib.Dec.{leb}
use borrow.Author.Tests.{le-leb, lt-leb, leb-true}
use Rattle.wire.proofs.Cases.{below_or_not}
use Rattle.missing_ranges.specs.Edges.{Range, range, is_listed, rises_from}
use Rattle.missing_ranges.specs.Meaning.{JustOne}

never : {A : Type 0} → false ≡ true → A
never e = let z : ◌≡◌ {A = ℕ} 0 1 = cc in absurd (omega arith)

-- ---- what rises

pub record Rising (low : ℕ) (r : Range) (rs : List Range) : Type 0 where
  pub above : low ≤ r.from
  pub some : r.from ≤ r.to
  pub rest : rises_from (r.to + 2) rs ≡ true

rising : (low : ℕ) (r : Range) (rs : List Range) → rises_from low (r ∷ rs) ≡ true → Rising low r rs
unfolding rises_from
rising low r rs = go (leb low r.from) (leb r.from r.to) (rises_from (r.to + 2) rs) refl refl refl
  where
    go : (a b c : Bool) → leb low r.from ≡ a → leb r.from r.to ≡ b → rises_from (r.to + 2) rs ≡ c → a && b && c ≡ true → Rising low r rs
    go true true true p q s e = record { above = leb-true _ _ p; some = leb-true _ _ q; rest = s }
    go true true false p q s e = never e
    go true false c p q s e = never e
    go false b c p q s e = never e

-- ---- what is listed

module _ (x : ℕ) (r : Range) (rs : List Range) where
  inside : r.from ≤ x → x ≤ r.to → is_listed x (r ∷ rs) ≡ true
  unfolding is_listed
  inside h g = rw (le-leb _ _ h, le-leb _ _ g)

  before : x < r.from → is_listed x (r ∷ rs) ≡ is_listed x rs
  unfolding is_listed
  before h = rw (lt-leb _ _ h)

  behind : r.from ≤ x → r.to < x → is_listed x (r ∷ rs) ≡ is_listed x rs
  unfolding is_listed
  behind h g = rw (le-leb _ _ h, lt-leb _ _ g)

-- nothing below the first number
none_below : (low : ℕ) (rs : List Range) (x : ℕ) → rises_from low rs ≡ true → x < low → is_listed x rs ≡ false
unfolding is_listed
none_below low [] x u h = refl
none_below low (r ∷ rs) x u h =
    let s = rising low r rs u in
    let a = s.above in
    let b = s.some in
    before x r rs (omega arith) ∙ none_below (r.to + 2) rs x s.rest (omega arith)

-- ---- two lists

module _ (low : ℕ) (r q : Range) (rs qs : List Range) (s : Rising low r rs) (t : Rising low q qs) (same : (x : ℕ) → is_listed x (r ∷ rs) ≡ is_listed x (q ∷ qs)) where
  first-not-below : r.from < q.from → ⊥
  first-not-below h =
      let a = s.some in
      let b = t.some in
      let n : is_listed r.from (q ∷ qs) ≡ false = before r.from q qs h ∙ none_below (q.to + 2) qs r.from t.rest (omega arith) in
      never (sym n ∙ sym (same r.from) ∙ inside r.from r rs (omega arith) a)

  last-not-below : r.from ≡ q.from → r.to < q.to → ⊥
  last-not-below e h =
      let a = s.some in
      let y : is_listed (r.to + 1) (q ∷ qs) ≡ true = inside (r.to + 1) q qs (omega arith) (omega arith) in
      let n : is_listed (r.to + 1) (r ∷ rs) ≡ false = behind (r.to + 1) r rs (omega arith) (omega arith) ∙ none_below (r.to + 2) rs (r.to + 1) s.rest (omega arith) in
      never (sym n ∙ same (r.to + 1) ∙ y)

  rests : r.to ≡ q.to → r.from ≡ q.from → (x : ℕ) → is_listed x rs ≡ is_listed x qs
  rests e f x = below_or_not _ r.to x after upto
    where
      after : r.to < x → is_listed x rs ≡ is_listed x qs
      after h = let a = s.some in let b = t.some in sym (behind x r rs (omega arith) h) ∙ same x ∙ behind x q qs (omega arith) (omega arith)

      upto : x ≤ r.to → is_listed x rs ≡ is_listed x qs
      upto h = none_below (r.to + 2) rs x s.rest (omega arith) ∙ sym (none_below (q.to + 2) qs x t.rest (omega arith))

equal : (a b : ℕ) → (a < b → ⊥) → (b < a → ⊥) → a ≡ b
equal a b f g = below_or_not _ a b (λ h. absurd (f h)) (λ h. below_or_not _ b a (λ k. absurd (g k)) (λ k. omega arith))

pub same-list : (low : ℕ) (rs qs : List Range) → rises_from low rs ≡ true → rises_from low qs ≡ true → ((x : ℕ) → is_listed x rs ≡ is_listed x qs) → rs ≡ qs
unfolding is_listed
same-list low [] [] u v same = refl
same-list low [] (q ∷ qs) u v same = let t = rising low q qs v in never (same q.from ∙ inside q.from q qs (omega arith) t.some)
same-list low (r ∷ rs) [] u v same = let s = rising low r rs u in never (sym (same r.from) ∙ inside r.from r rs (omega arith) s.some)
same-list low (r ∷ rs) (q ∷ qs) u v same =
    let s = rising low r rs u in
    let t = rising low q qs v in
    let back : (x : ℕ) → is_listed x (q ∷ qs) ≡ is_listed x (r ∷ rs) = λ x. sym (same x) in
    let f = equal r.from q.from (first-not-below low r q rs qs s t same) (first-not-below low q r qs rs t s back) in
    let e = equal r.to q.to (last-not-below low r q rs qs s t same f) (last-not-below low q r qs rs t s back (sym f)) in
    let c : rises_from (r.to + 2) qs ≡ true = rw e t.rest in
    let i = same-list (r.to + 2) rs qs s.rest c (rests low r q rs qs s t same e f) in
    ap (λ (k : ℕ). range k r.to ∷ rs) f ∙ ap (λ (k : ℕ). range q.from k ∷ rs) e ∙ ap (λ (ts : List Range). q ∷ ts) i

pub just_one : JustOne
unfolding JustOne
just_one n ds rs qs a b = same-list 0 rs qs a.apart b.apart (λ x. a.exactly x ∙ sym (b.exactly x))
