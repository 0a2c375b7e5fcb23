-- The loop over what a datagram d delivers: ps are the words at entry, out those after some places, word is where the next
-- one is laid. What is still to be laid makes the whole.
use Prim.Native.Nat.{ℕ, zero, suc, ◌+◌, ◌-◌, ◌*◌, ◌≤◌, ◌<◌}
use mathlib.Core.List.{List, [], ◌∷◌, ◌++◌}
use mathlib.Core.Bool.{Bool, true, false}
use mathlib.Core.Path.{◌≡◌, refl, ap, sym, ◌∙◌}
use native.Mathlib.Omega.{arith}
use native.Mathlib.Numerals.{sub-one, add-one}
use mir.Val.{Fits}
use mir.Syntax.{w64}
use lib.ListN.{length, set, length-set}
use lib.Seq.{sets-eq}
use lib.Dec.{ltb}
use borrow.Author.Tests.{ltb-true, ltb-false}
use Rattle.wire.specs.Output.{put}
use Rattle.wire.proofs.Outputs.{length-put, put-room, put-put, put-none, put-empty}
use Rattle.early_holding.specs.Holding.{Lent}
use Rattle.early_messages.specs.declared.message.Part.{Part}
use Rattle.early_messages.specs.declared.walk.Walk.{Walk}
use Rattle.early_messages.specs.Delivery.{delivered_count, part_at}
use Rattle.early_messages.specs.Walk.{start_walk, walk_part, walk_on, walk_by, WalksTheDelivery}
use Rattle.early_messages.proofs.CountLaws.{few}
use Rattle.early_messages.proofs.WalkLaws.{walks-the-delivery}
use Rattle.host_answers.specs.Answers.{flag}
use Rattle.exports_early.proofs.RunLaws.{moves-one}
use Rattle.exports_early_deliver.specs.Places.{place_words, places_of, places_delivered}
use Rattle.exports_early_deliver.proofs.PlaceLaws.{length-places, length-delivered}

-- ---- one place: three stores in a row are one write of three words

three-put : (l : List ℕ) (k x y z : ℕ) → k + 3 ≤ length l → set (set (set l k x) (k + 1) y) (k + 2) z ≡ put l k (x ∷ y ∷ z ∷ [])
three-put l k x y z h =
    let f : k + length (x ∷ y ∷ z ∷ []) ≤ length l = omega arith in
    let two : k + 2 ≡ suc (suc k) = omega arith in
    rw (add-one k, two) (sets-eq (x ∷ y ∷ z ∷ []) l k f ∙ sym (put-room l k (x ∷ y ∷ z ∷ []) f))

pub place-laid : (l : List ℕ) (k x : ℕ) (p : Part) → k + 3 ≤ length l → x ≡ flag p.held
    → set (set (set l k x) (k + 1) p.offset.0) (k + 2) p.length ≡ put l k (place_words p)
place-laid l k x p h e = rw e (three-put l k (flag p.held) p.offset.0 p.length h)

pub second_fits : (l : List ℕ) (k x : ℕ) → k + 3 ≤ length l → k + 1 < length (set l k x)
second_fits l k x h = let m = length-set l k x in omega arith

pub third-fits : (l : List ℕ) (k x y : ℕ) → k + 3 ≤ length l → k + 2 < length (set (set l k x) (k + 1) y)
third-fits l k x y h = let m = length-set l k x in let n = length-set (set l k x) (k + 1) y in omega arith

-- ---- all places

-- how many are left at the start
pub left_so : (s : Lent) (d : List ℕ) → (start_walk s d).left.0 ≡ delivered_count s d
unfolding start_walk
left_so s d = let h = few s d in omega arith

pub record Laying (s : Lent) (d ps out : List ℕ) (here : Walk) (left word : ℕ) : Type 0 where
  pub place : ℕ
  pub stands : here ≡ walk_by place d (start_walk s d)
  pub room : word + 3 * left ≤ length out
  pub most : word + 3 * left ≤ 196605
  pub kept : length out ≡ length ps
  pub makes : put out word (places_of s d place left) ≡ put ps 0 (places_delivered s d)

pub laying-start : (s : Lent) (d ps : List ℕ) (start : Walk) → start ≡ start_walk s d → 3 * start.left.0 ≤ length ps → Laying s d ps ps start start.left.0 0
unfolding walk_by places_delivered
laying-start s d ps start e h =
    let n : start.left.0 ≡ delivered_count s d = ap (λ (w : Walk). w.left.0) e ∙ left_so s d in
    record { place = 0; stands = e; room = omega arith; most = omega (arith, few s d); kept = refl; makes = rw n refl }

module _ (s : Lent) (d ps out : List ℕ) (here : Walk) (word : ℕ) where
  pub laying-room : (left : ℕ) → Laying s d ps out here left word → 0 < left → word + 3 ≤ length out
  laying-room left t h = let r = t.room in omega arith

  pub laying-word : (left : ℕ) → Laying s d ps out here left word → 0 < left → Fits w64 (word + 3)
  laying-word left t h = record { fits = let m = t.most in omega arith }

  pub laying-kept : (left : ℕ) → Laying s d ps out here left word → length out ≡ length ps
  laying-kept left t = t.kept

  pub laying-step : (left : ℕ) (part : Part) (next : Walk) (out' : List ℕ) → Laying s d ps out here left word → 0 < left → part ≡ walk_part s d here
      → out' ≡ put out word (place_words part) → next ≡ walk_on d here → Laying s d ps out' next (left - 1) (word + 3)
  unfolding places_of WalksTheDelivery
  laying-step zero part next out' t h e f g = absurd (omega arith)
  laying-step (suc n) part next out' t h e f g =
      let r = t.room in
      let p = t.place in
      let is : part ≡ part_at s d p = e ∙ rw t.stands (walks-the-delivery s d p) in
      let on : next ≡ walk_by (p + 1) d (start_walk s d) = g ∙ ap (walk_on d) t.stands ∙ moves-one p d (start_walk s d) ∙ ap (λ (k : ℕ). walk_by k d (start_walk s d)) (plus_one p) in
      let size : length out' ≡ length out = ap length f ∙ length-put out word (place_words part) in
      let many = length-places s d (p + 1) n in
      let both : put (put out word (place_words part)) (word + 3) (places_of s d (p + 1) n) ≡ put out word (place_words part ++ places_of s d (p + 1) n) = put-put out word (place_words part) (places_of s d (p + 1) n) (omega arith) in
      rw sub-one
      (record {
        place = p + 1;
        stands = on;
        room = omega arith;
        most = omega (arith, t.most);
        kept = size ∙ t.kept;
        makes = rw f (both ∙ rw is t.makes);
      })
    where
      plus_one : (k : ℕ) → suc k ≡ k + 1
      plus_one k = omega arith

  pub laying-end : (left : ℕ) → Laying s d ps out here left word → left ≤ 0 → out ≡ put ps 0 (places_delivered s d)
  unfolding places_of
  laying-end zero t h = sym (put-empty out word) ∙ t.makes
  laying-end (suc n) t h = absurd (omega arith)

-- ---- where there is room: b is whether there isn't

module _ (s : Lent) (d ps : List ℕ) (w : Walk) (f : w ≡ start_walk s d) (b : Bool) (t : b ≡ ltb (length ps) (3 * w.left.0)) where
  lacks-so : b ≡ ltb (length ps) (length (places_delivered s d))
  lacks-so =
      let n : 3 * w.left.0 ≡ length (places_delivered s d) = ap (λ (x : Walk). 3 * x.left.0) f ∙ ap (λ (k : ℕ). 3 * k) (left_so s d) ∙ sym (length-delivered s d) in
      t ∙ ap (ltb (length ps)) n

  pub lacks-yes : b ≡ true → true ≡ ltb (length ps) (length (places_delivered s d))
  lacks-yes e = sym e ∙ lacks-so

  pub lacks-no : b ≡ false → false ≡ ltb (length ps) (length (places_delivered s d))
  lacks-no e = sym e ∙ lacks-so

  pub lays-none : b ≡ true → ps ≡ put ps 0 (places_delivered s d)
  lays-none e = sym (put-none ps 0 (places_delivered s d) (omega (arith, ltb-true (length ps) (length (places_delivered s d)) (sym lacks-so ∙ e))))

pub room-so : (ps : List ℕ) (k : ℕ) (b : Bool) → b ≡ ltb (length ps) (3 * k) → b ≡ false → 3 * k ≤ length ps
room-so ps k b t e = ltb-false _ _ (sym t ∙ e)
