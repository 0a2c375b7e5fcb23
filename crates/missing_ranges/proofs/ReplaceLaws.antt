-- What `replace` leaves, as the code has it: l is the memory at entry, n its edges, i and j two places.
use mathlib.Core.Path.{◌≡◌, refl, ap, sym, ◌∙◌}
use mathlib.Core.List.{List, [], ◌++◌, append_assoc}
use mathlib.Core.Bool.{Bool, true, false}
use Prim.Native.Nat.{ℕ, ◌+◌, ◌-◌, ◌%◌, ◌≤◌}
use native.Mathlib.Omega.{arith}
use lib.ListN.{length, take, drop, length-append, length-drop, take-append-drop}
use lib.Seq.{length-take-le, take-take, take-add, drop_at, drop-append-add, drop-drop}
use borrow.Author.Tests.{eqb-true, eqb-false}
use Rattle.wire.specs.Output.{put}
use Rattle.wire.proofs.Outputs.{put-room, put-put, put-before, length-put}
use Rattle.missing_ranges.specs.Edges.{is_odd, middle, replaced}
use Rattle.missing_ranges.specs.Notes.{Fitting}
use Rattle.missing_ranges.proofs.EdgeLaws.{odd_code, middle-both, middle-first, middle-second, middle-none}

-- ---- parity as a number

pub odd-mod : (n : ℕ) → is_odd n ≡ true → n % 2 ≡ 1
odd-mod n h = eqb-true _ _ (odd_code n ∙ h)

pub even-mod : (n : ℕ) → is_odd n ≡ false → n % 2 ≡ 0
even-mod n h = let z : n % 2 ≡ 1 → ⊥ = eqb-false _ _ (odd_code n ∙ h) in omega arith

pub middle-size : (i j f e : ℕ) → length (middle i j f e) ≡ i % 2 + j % 2
middle-size i j f e = go (is_odd i) (is_odd j) refl refl
  where
    go : (a b : Bool) → is_odd i ≡ a → is_odd j ≡ b → length (middle i j f e) ≡ i % 2 + j % 2
    go true true p q =
        let h = odd-mod i p in
        let k = odd-mod j q in
        let m : length (middle i j f e) ≡ 2 = ap length (middle-both i j f e p q) in
        omega arith
    go true false p q =
        let h = odd-mod i p in
        let k = even-mod j q in
        let m : length (middle i j f e) ≡ 1 = ap length (middle-first i j f e p q) in
        omega arith
    go false true p q =
        let h = even-mod i p in
        let k = odd-mod j q in
        let m : length (middle i j f e) ≡ 1 = ap length (middle-second i j f e p q) in
        omega arith
    go false false p q =
        let h = even-mod i p in
        let k = even-mod j q in
        let m : length (middle i j f e) ≡ 0 = ap length (middle-none i j f e p q) in
        omega arith

-- ---- lists

pub drop-take : (j n : ℕ) (l : List ℕ) → j ≤ n → n ≤ length l → drop j (take n l) ≡ take (n - j) (drop j l)
drop-take j n l h g =
    let e : n ≡ j + (n - j) = omega arith in
    ap (λ (m : ℕ). drop j (take m l)) e
    ∙ ap (drop j) (take-add j (n - j) l)
    ∙ drop_at (take j l) (take (n - j) (drop j l)) j (length-take-le j l (omega arith))

-- what stands at a place, laid there again
pub put-again : (l : List ℕ) (j k : ℕ) → j + k ≤ length l → put l j (take k (drop j l)) ≡ l
put-again l j k h =
    let lb : length (take k (drop j l)) ≡ k = length-take-le k (drop j l) (omega (arith, length-drop j l)) in
    put-room l j (take k (drop j l)) (omega arith)
    ∙ rw lb
    (append_assoc (take j l) (take k (drop j l)) (drop (j + k) l)
    ∙ rw (← drop-drop k j l, take-append-drop k (drop j l)) (take-append-drop j l))

module _ (l : List ℕ) (n i j f e : ℕ) (fit : Fitting l n i j f e) where
  -- one write at i is the write of all from the front on
  whole : put l i (middle i j f e ++ take (n - j) (drop j l)) ≡ put l 0 (replaced i j f e (take n l))
  unfolding replaced
  whole =
      let M = middle i j f e in
      let B = take (n - j) (drop j l) in
      let a = fit.rising in
      let b = fit.among in
      let c = fit.there in
      let r = fit.room in
      let lb : length B ≡ n - j = length-take-le (n - j) (drop j l) (omega (arith, length-drop j l)) in
      let li : length (take i l) ≡ i = length-take-le i l (omega arith) in
      let e₁ : take i (take n l) ≡ take i l = take-take i n l (omega arith) in
      let e₂ : drop j (take n l) ≡ B = drop-take j n l b c in
      let m₁ = length-append M B in
      let m₂ = length-append (take i l ++ M) B in
      let m₃ = length-append (take i l) M in
      let p₁ = put-room l i (M ++ B) (omega arith) in
      let p₂ = put-room l 0 (take i l ++ M ++ B) (omega arith) in
      let k : 0 + length (take i l ++ M ++ B) ≡ i + length (M ++ B) = omega arith in
      let assoc : take i l ++ (M ++ B) ≡ take i l ++ M ++ B = sym (append_assoc (take i l) M B) in
      rw (e₁, e₂, p₁, p₂, k, assoc)

  pub up-end : (m out : List ℕ) (a : Bool) → i ≡ j → a ≡ is_odd i → a ≡ true
      → m ≡ put l (i + 2) (take (n - j) (drop j l)) → out ≡ put m i (middle i j f e)
      → out ≡ put l 0 (replaced i j f e (take n l))
  up-end m out a ij p x em eo =
      let M = middle i j f e in
      let B = take (n - j) (drop j l) in
      let lb : length B ≡ n - j = length-take-le (n - j) (drop j l) (omega (arith, length-drop j l, fit.there)) in
      let o : is_odd i ≡ true = sym p ∙ x in
      let oj : is_odd j ≡ true = ap is_odd (sym ij) ∙ o in
      let s : length M ≡ 2 = ap length (middle-both i j f e o oj) in
      eo ∙ rw (em, ← s) (put-before l i M B (omega (arith, fit.room))) ∙ whole

  pub same_end : (a : Bool) → i ≡ j → a ≡ is_odd i → a ≡ false → l ≡ put l 0 (replaced i j f e (take n l))
  same_end a ij p x =
      let M = middle i j f e in
      let B = take (n - j) (drop j l) in
      let o : is_odd i ≡ false = sym p ∙ x in
      let oj : is_odd j ≡ false = ap is_odd (sym ij) ∙ o in
      let mn : M ≡ [] = middle-none i j f e o oj in
      let c = fit.there in
      let d = fit.among in
      let same : put l i B ≡ l = ap (λ (x : ℕ). put l x B) ij ∙ put-again l j (n - j) (omega arith) in
      sym same ∙ ap (put l i) (sym (rw mn)) ∙ whole

  -- what lies behind j is not touched by the edges laid before it
  untouched : i + length (middle i j f e) ≤ j → drop j (put l i (middle i j f e)) ≡ drop j l
  untouched h =
      let M = middle i j f e in
      let at = i + length M in
      let li : length (take i l) ≡ i = length-take-le i l (omega (arith, fit.there, fit.among)) in
      let lm : length (take i l ++ M) ≡ i + length M = omega (arith, length-append (take i l) M) in
      let k : length (take i l ++ M) + (j - (i + length M)) ≡ j = omega arith in
      let k₂ : i + length M + (j - (i + length M)) ≡ j = omega arith in
      ap (drop j) (put-room l i M (omega (arith, fit.there, fit.among)))
      ∙ ap (λ (x : ℕ). drop x (take i l ++ M ++ drop (i + length M) l)) (sym k)
      ∙ drop-append-add (take i l ++ M) (drop (i + length M) l) (j - (i + length M))
      ∙ drop-drop (j - (i + length M)) (i + length M) l
      ∙ ap (λ (x : ℕ). drop x l) k₂

  below : (i ≡ j → ⊥) → i + length (middle i j f e) ≤ j
  below z = let s = middle-size i j f e in let r = fit.rising in ne-le z r s
    where
      ne-le : (i ≡ j → ⊥) → i ≤ j → length (middle i j f e) ≡ i % 2 + j % 2 → i + length (middle i j f e) ≤ j
      ne-le z r s = omega arith

  pub down-end : (m out : List ℕ) (at : ℕ) → (i ≡ j → ⊥) → at ≡ i + length (middle i j f e)
      → m ≡ put l i (middle i j f e) → out ≡ put m at (take (n - j) (drop j m))
      → out ≡ put l 0 (replaced i j f e (take n l))
  down-end m out at z ea em eo =
      let M = middle i j f e in
      let B = take (n - j) (drop j l) in
      let lb : length B ≡ n - j = length-take-le (n - j) (drop j l) (omega (arith, length-drop j l, fit.there)) in
      eo ∙ rw (ea, em, untouched (below z)) (put-put l i M B (omega (arith, fit.room))) ∙ whole

  -- the edges laid take just as many places as those before
  pub skip-end : (m : List ℕ) (at : ℕ) → at ≡ i + length (middle i j f e) → at ≡ j → m ≡ put l i (middle i j f e)
      → m ≡ put l 0 (replaced i j f e (take n l))
  skip-end m at ea ej em =
      let M = middle i j f e in
      let B = take (n - j) (drop j l) in
      let lb : length B ≡ n - j = length-take-le (n - j) (drop j l) (omega (arith, length-drop j l, fit.there)) in
      let k : i + length M ≡ j = sym ea ∙ ej in
      let r = fit.room in
      let b = fit.among in
      let c = fit.there in
      let s : length m ≡ length l = ap length em ∙ length-put l i M in
      let u : take (n - j) (drop j m) ≡ B = ap (take (n - j)) (ap (drop j) em ∙ untouched (omega arith)) in
      let v : put m j B ≡ m = ap (put m j) (sym u) ∙ put-again m j (n - j) (omega arith) in
      let w : put m (i + length M) B ≡ m = ap (λ (x : ℕ). put m x B) k ∙ v in
      sym w ∙ ap (λ (x : List ℕ). put x (i + length M) B) em ∙ put-put l i M B (omega arith) ∙ whole

  -- ---- what the callees ask

  pub down-room : (m : List ℕ) → m ≡ put l i (middle i j f e) → j + (n - j) ≤ length m
  down-room m em = let s : length m
      ≡ length l = ap length em ∙ length-put l i (middle i j f e) in omega (arith, fit.there, fit.among)

  pub up_room : (a : Bool) → i ≡ j → a ≡ is_odd i → a ≡ true → i + 2 + (n - j) ≤ length l
  up_room a ij p x =
      let o : is_odd i ≡ true = sym p ∙ x in
      let oj : is_odd j ≡ true = ap is_odd (sym ij) ∙ o in
      let s : length (middle i j f e) ≡ 2 = ap length (middle-both i j f e o oj) in
      omega (arith, fit.room)

  pub lay-room : i + length (middle i j f e) ≤ length l
  lay-room = omega (arith, fit.room)

  pub lay-room-up : (m : List ℕ) → m ≡ put l (i + 2) (take (n - j) (drop j l)) → i + length (middle i j f e) ≤ length m
  lay-room-up m em = let s : length m
      ≡ length l = ap length em ∙ length-put l (i + 2) (take (n - j) (drop j l)) in omega (arith, fit.room)

  pub fit-sub : j ≤ n
  fit-sub = fit.among
