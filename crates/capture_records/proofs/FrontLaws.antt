-- The records in front of some bytes, and what more bytes behind them change.
use mathlib.Core.Path.{◌≡◌, refl, ap, sym, ◌∙◌}
use mathlib.Core.List.{List, [], ◌∷◌, ◌++◌}
use mathlib.Core.Bool.{Bool, true, false}
use Prim.Native.Nat.{ℕ, zero, suc, ◌+◌, ◌-◌, ◌≤◌, ◌<◌}
use native.Mathlib.Omega.{arith}
use lib.ListN.{length, take, drop, length-drop, length-append}
use lib.Seq.{take-append-le, drop-append-le, drop-drop}
use Rattle.wire.specs.Bytes.{number}
use Rattle.wire.proofs.Numbers.{number_append}
use Rattle.std.specs.Prelude.{Option, Some}
use Rattle.capture_records.specs.Records.{record_size, is_whole, datagram_of, record_words, record_in_front, datagrams_of, rest_of}
use Rattle.capture_records.proofs.RecordLaws.{whole-within, IsFront, said-whole, whole-there}

-- ---- what the words say, as the loop has them: p is the front of l

module _ (l : List ℕ) (p : Option ℕ) (k : ℕ) (e : record_words p ≡ record_in_front l) (f : p ≡ Some k) where
  pub front-is : IsFront l k
  front-is = said-whole l k (rw f at e)

  pub whole-least : 2 ≤ k
  whole-least = let i = front-is in omega (arith, i.size, (whole-within l i.all).least)

  pub whole-most : k ≤ length l
  whole-most = let i = front-is in omega (arith, i.size, (whole-within l i.all).most)

-- ---- the records of a list, one by one

module _ (k : ℕ) (l : List ℕ) where
  pub datagrams-none : is_whole l ≡ false → datagrams_of (suc k) l ≡ []
  unfolding datagrams_of
  datagrams-none e = simp e

  pub datagrams-some : is_whole l ≡ true → datagrams_of (suc k) l ≡ datagram_of l ∷ datagrams_of k (drop (record_size l) l)
  unfolding datagrams_of
  datagrams-some e = simp e

  pub rest-none : is_whole l ≡ false → rest_of (suc k) l ≡ l
  unfolding rest_of
  rest-none e = simp e

  pub rest_some : is_whole l ≡ true → rest_of (suc k) l ≡ rest_of k (drop (record_size l) l)
  unfolding rest_of
  rest_some e = simp e

pub datagrams-zero : (l : List ℕ) → datagrams_of 0 l ≡ []
unfolding datagrams_of
datagrams-zero l = refl

pub rest-zero : (l : List ℕ) → rest_of 0 l ≡ l
unfolding rest_of
rest-zero l = refl

-- ---- how many records there are, and what is left

pub by_front : (P : Type 0) (l : List ℕ) → (is_whole l ≡ true → P) → (is_whole l ≡ false → P) → P
by_front P l f g = go (is_whole l) refl
  where
    go : (b : Bool) → is_whole l ≡ b → P
    go true e = f e
    go false e = g e

pub few : (k : ℕ) (l : List ℕ) → length (datagrams_of k l) ≤ k
few zero l = rw (datagrams-zero l) (omega arith)
few (suc k) l =
    let i = few k (drop (record_size l) l) in
    by_front _ l (λ w. rw (datagrams-some k l w) (omega arith)) (λ w. rw (datagrams-none k l w) (omega arith))

-- what is left is a part of the bytes, to their end
pub record Part (k : ℕ) (l : List ℕ) : Type 0 where
  pub within : length (rest_of k l) ≤ length l
  pub part : drop (length l - length (rest_of k l)) l ≡ rest_of k l

drop-none : (l m : List ℕ) → m ≡ l → drop (length l - length m) l ≡ m
drop-none l m e = let z : length l - length l ≡ 0 = omega arith in rw (e, z)

pub is-part : (k : ℕ) (l : List ℕ) → Part k l
is-part zero l = record { within = rw (rest-zero l) (omega arith); part = drop-none l (rest_of 0 l) (rest-zero l) }
is-part (suc k) l = by_front _ l (some (is-part k (drop (record_size l) l))) none
  where
    none : is_whole l ≡ false → Part (suc k) l
    none w = record { within = rw (rest-none k l w) (omega arith); part = drop-none l (rest_of (suc k) l) (rest-none k l w) }

    some : Part k (drop (record_size l) l) → is_whole l ≡ true → Part (suc k) l
    some i w =
        let n = length-drop (record_size l) l in
        let m = (whole-within l w).most in
        let e : record_size l + (length (drop (record_size l) l) - length (rest_of k (drop (record_size l) l))) ≡ length l - length (rest_of k (drop (record_size l) l)) = omega (arith, i.within) in
        record {
          within = rw (rest_some k l w) (omega (arith, i.within));
          part = rw (rest_some k l w) (ap (λ (j : ℕ). drop j l) (sym e) ∙ sym (drop-drop _ (record_size l) l) ∙ i.part);
        }

-- where fewer than k records were read, what is left is no whole record
pub left-short : (k : ℕ) (l : List ℕ) → length (datagrams_of k l) < k → is_whole (rest_of k l) ≡ false
left-short zero l h = absurd (omega arith)
left-short (suc k) l h = by_front _ l (λ w. some (left-short k (drop (record_size l) l)) w h) (λ w. none w h)
  where
    none : is_whole l ≡ false → length (datagrams_of (suc k) l) < suc k → is_whole (rest_of (suc k) l) ≡ false
    none w h = rw (rest-none k l w) w

    some : (length (datagrams_of k (drop (record_size l) l)) < k → is_whole (rest_of k (drop (record_size l) l)) ≡ false) → is_whole l ≡ true
        → length (datagrams_of (suc k) l) < suc k → is_whole (rest_of (suc k) l) ≡ false
    some i w h =
        let e : length (datagrams_of (suc k) l) ≡ suc (length (datagrams_of k (drop (record_size l) l))) = ap length (datagrams-some k l w) in
        rw (rest_some k l w) (i (omega arith))

-- ---- more bytes behind

record Same (a b : List ℕ) : Type 0 where
  same_size : record_size (a ++ b) ≡ record_size a
  still-whole : is_whole (a ++ b) ≡ true

whole_append : (a b : List ℕ) → is_whole a ≡ true → Same a b
unfolding record_size
whole_append a b w =
    let i = whole-within a w in
    let m : number a 0 2 + 2 ≤ length a = i.most in
    let n = number_append a b 0 2 (omega arith) in
    let l = length-append a b in
    record { same_size = rw n; still-whole = whole-there (a ++ b) (number a 0 2) (omega arith) (sym n) (omega arith) }

pub record Joins (k : ℕ) (a b : List ℕ) : Type 0 where
  pub datagrams : datagrams_of k (a ++ b) ≡ datagrams_of k a ++ datagrams_of (k - length (datagrams_of k a)) (rest_of k a ++ b)
  pub rest : rest_of k (a ++ b) ≡ rest_of (k - length (datagrams_of k a)) (rest_of k a ++ b)

pub joins : (k : ℕ) (a b : List ℕ) → Joins k a b
joins zero a b =
    record {
      datagrams = rw (datagrams-zero a, rest-zero a);
      rest = rw (datagrams-zero a, rest-zero a);
    }
joins (suc k) a b = by_front _ a (some (joins k (drop (record_size a) a) b)) none
  where
    none : is_whole a ≡ false → Joins (suc k) a b
    none w =
        let s : suc k - 0 ≡ suc k = omega arith in
        record { datagrams = rw (datagrams-none k a w, rest-none k a w, s); rest = rw (datagrams-none k a w, rest-none k a w, s) }

    some : Joins k (drop (record_size a) a) b → is_whole a ≡ true → Joins (suc k) a b
    some j w =
        let x = whole_append a b w in
        let i = whole-within a w in
        let d : drop (record_size a) (a ++ b) ≡ drop (record_size a) a ++ b = drop-append-le (record_size a) a b i.most in
        let c : drop 2 (a ++ b) ≡ drop 2 a ++ b = drop-append-le 2 a b (omega (arith, i.least, i.most)) in
        let t : take (record_size a - 2) (drop 2 a ++ b) ≡ take (record_size a - 2) (drop 2 a) =
        take-append-le (record_size a - 2) (drop 2 a) b (omega (arith, i.most, length-drop 2 a)) in
        let s : (n : ℕ) → suc k - suc n ≡ k - n = λ (n : ℕ). omega arith in
        record {
          datagrams = rw (datagrams-some k (a ++ b) x.still-whole, x.same_size, c, t, d, datagrams-some k a w, rest_some k a w, j.datagrams, s);
          rest = rw (rest_some k (a ++ b) x.still-whole, x.same_size, d, datagrams-some k a w, rest_some k a w, j.rest, s);
        }
