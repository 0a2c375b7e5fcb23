-- Parity, and the edges laid between two places, as the code has them.
use mathlib.Core.Path.{◌≡◌, refl, ap, sym, ◌∙◌}
use mathlib.Core.List.{List, [], ◌∷◌}
use mathlib.Core.Bool.{Bool, true, false, not}
use Prim.Native.Nat.{ℕ, zero, suc, ◌+◌, ◌%◌, ◌≤◌, ◌<◌}
use native.Mathlib.Omega.{arith}
use lib.ListN.{length, set, length-set}
use lib.Seq.{sets-eq}
use lib.Dec.{eqb}
use Rattle.wire.specs.Output.{put}
use Rattle.wire.proofs.Outputs.{put-room, put-empty, put-put}
use Rattle.missing_ranges.specs.Edges.{is_odd, middle}

-- ---- parity

-- two more change nothing
odd-two : (n : ℕ) → eqb (suc (suc n) % 2) 1 ≡ eqb (n % 2) 1
odd-two n = let e : suc (suc n) % 2 ≡ n % 2 = omega arith in rw e

not-not : (b : Bool) → not (not b) ≡ b
not-not true = refl
not-not false = refl

pub odd_code : (n : ℕ) → eqb (n % 2) 1 ≡ is_odd n
unfolding is_odd
odd_code zero = refl
odd_code (suc zero) = refl
odd_code (suc (suc n)) = odd-two n ∙ odd_code n ∙ sym (not-not (is_odd n))

-- ---- the edges between two places

pub set-put : (l : List ℕ) (k x : ℕ) → k < length l → set l k x ≡ put l k (x ∷ [])
set-put l k x h =
    let f : k + length (x ∷ []) ≤ length l = omega arith in sets-eq (x ∷ []) l k f ∙ sym (put-room l k (x ∷ []) f)

module _ (i j f e : ℕ) where
  pub middle-both : is_odd i ≡ true → is_odd j ≡ true → middle i j f e ≡ f ∷ e ∷ []
  unfolding middle
  middle-both a b = simp (a, b)

  pub middle-first : is_odd i ≡ true → is_odd j ≡ false → middle i j f e ≡ f ∷ []
  unfolding middle
  middle-first a b = simp (a, b)

  pub middle-second : is_odd i ≡ false → is_odd j ≡ true → middle i j f e ≡ e ∷ []
  unfolding middle
  middle-second a b = simp (a, b)

  pub middle-none : is_odd i ≡ false → is_odd j ≡ false → middle i j f e ≡ []
  unfolding middle
  middle-none a b = simp (a, b)

  -- as the code has them: a and b are what `is_odd` answers
  module _ (a : Bool) (p : a ≡ is_odd i) where
    module _ (b : Bool) (q : b ≡ is_odd j) where
      pub after_both : a ≡ true → b ≡ true → i + 2 ≡ i + length (middle i j f e)
      after_both x y = rw (middle-both (sym p ∙ x) (sym q ∙ y))

      pub after_first : a ≡ true → b ≡ false → i + 1 ≡ i + length (middle i j f e)
      after_first x y = rw (middle-first (sym p ∙ x) (sym q ∙ y))

      pub after-second : a ≡ false → b ≡ true → i + 1 ≡ i + length (middle i j f e)
      after-second x y = rw (middle-second (sym p ∙ x) (sym q ∙ y))

      pub after_none : a ≡ false → b ≡ false → i ≡ i + length (middle i j f e)
      after_none x y = let k : length (middle i j f e)
          ≡ 0 = ap length (middle-none (sym p ∙ x) (sym q ∙ y)) in omega arith

    module _ (l : List ℕ) (room : i + length (middle i j f e) ≤ length l) where
      pub room-first : a ≡ true → i < length l
      room-first x = go (is_odd j) refl
        where
          go : (b : Bool) → is_odd j ≡ b → i < length l
          go true y = let h : i + 2 ≤ length l = rw (middle-both (sym p ∙ x) y) at room in omega arith
          go false y = let h : i + 1 ≤ length l = rw (middle-first (sym p ∙ x) y) at room in omega arith

      module _ (b : Bool) (q : b ≡ is_odd j) where
        pub room_next : a ≡ true → b ≡ true → i + 1 < length (set l i f)
        room_next x y =
            let h : i + 2 ≤ length l = rw (middle-both (sym p ∙ x) (sym q ∙ y)) at room in
            let n = length-set l i f in
            omega arith

        pub room-second : a ≡ false → b ≡ true → i < length l
        room-second x y = let h : i + 1 ≤ length l = rw (middle-second (sym p ∙ x) (sym q ∙ y)) at room in omega arith

        pub lay-both : a ≡ true → b ≡ true → set (set l i f) (i + 1) e ≡ put l i (middle i j f e)
        lay-both x y =
            let m = middle-both (sym p ∙ x) (sym q ∙ y) in
            let h : i + 2 ≤ length l = rw m at room in
            let n = length-set l i f in
            rw m
            (set-put (set l i f) (i + 1) e (omega arith)
            ∙ ap (λ (o : List ℕ). put o (i + 1) (e ∷ [])) (set-put l i f (omega arith))
            ∙ put-put l i (f ∷ []) (e ∷ []) (omega arith))

        pub lay-first : a ≡ true → b ≡ false → set l i f ≡ put l i (middle i j f e)
        lay-first x y =
            let m = middle-first (sym p ∙ x) (sym q ∙ y) in
            let h : i + 1 ≤ length l = rw m at room in
            rw m (set-put l i f (omega arith))

        pub lay-second : a ≡ false → b ≡ true → set l i e ≡ put l i (middle i j f e)
        lay-second x y =
            let m = middle-second (sym p ∙ x) (sym q ∙ y) in
            let h : i + 1 ≤ length l = rw m at room in
            rw m (set-put l i e (omega arith))

        pub lay-none : a ≡ false → b ≡ false → l ≡ put l i (middle i j f e)
        lay-none x y = rw (middle-none (sym p ∙ x) (sym q ∙ y)) (sym (put-empty l i))
