-- Laws of a lent output: l is the output at entry, at the place, bs what is laid there.
use mathlib.Core.Path.{◌≡◌, refl, ap, sym, ◌∙◌}
use mathlib.Core.List.{List, [], ◌∷◌, ◌++◌, append_assoc, append-nil}
use mathlib.Core.Bool.{Bool, true, false}
use Prim.Native.Nat.{ℕ, ◌+◌, ◌/◌, ◌%◌, ◌≤◌, ◌<◌}
use native.Mathlib.Omega.{arith}
use native.Mathlib.Nat.{add-zero}
use lib.ListN.{length, get_or, take, drop, length-append, length-take, length-drop, take-append-drop}
use lib.Seq.{take_at, drop_at, take-take, take-append-le, drop-append-add, drop-drop, length-take-le}
use lib.Dec.{leb, eqb}
use borrow.Author.Tests.{le-leb, lt-leb, leb-true, leb-false, eq-eqb, ne_eqb, eqb-true}
use Rattle.std.specs.Prelude.{if◌then◌else◌, Result, ⊤, is_ok}
use Rattle.std.specs.Int.{to_be_bytes}
use Rattle.std.proofs.Math.Nat.{div-div-eq-div-mul}
use borrow.Rule.Slice.PartMut.{put_mid}
use mir.Syntax.{w16, w64}
use Rattle.wire.specs.Refusals.{output_short}
use Rattle.wire.specs.Words.{Case, answer, refused, says, refuses}
use Rattle.wire.specs.Bytes.{bytes}
use Rattle.wire.specs.Output.{Written}
use Rattle.std.specs.Prelude.{Ok, Err}
use Rattle.wire.specs.Output.{WrittenKind, wrote, written_words, put, write_refusal, write_answer, write_output, Writes, Outside, ReadsBack, AdjacentAreOne, OnlyWhatItReports, StandsThere, RefusalWritesNothing, TellsApart, OutputLaws}
use Rattle.wire.specs.declared.refusal.Refusal.{Refusal}
use Rattle.wire.specs.Words.{refused_by}
use Rattle.wire.proofs.Refusing.{passes, refuses-by, no-ground, its-ground, a-ground}
use Rattle.wire.proofs.Words.{which-of, values-of, read_back}
use Rattle.wire.proofs.Numbers.{length-bytes, number-bytes}

-- ---- `put` by itself

pub put-room : (l : List ℕ) (at : ℕ) (bs : List ℕ) → at + length bs ≤ length l → put l at bs ≡ take at l ++ bs ++ drop (at + length bs) l
unfolding put
put-room l at bs h = rw (le-leb _ _ h)

pub put-none : (l : List ℕ) (at : ℕ) (bs : List ℕ) → length l < at + length bs → put l at bs ≡ l
unfolding put
put-none l at bs h = rw (lt-leb _ _ h)

put-length-room : (l : List ℕ) (at : ℕ) (bs : List ℕ) → at + length bs ≤ length l → length (put l at bs) ≡ length l
put-length-room l at bs h =
    omega (arith, ap length (put-room l at bs h), length-append (take at l ++ bs) (drop (at + length bs) l), length-append (take at l) bs, length-take at l, length-drop (at + length bs) l)

-- a fact of `put` that holds with room and without it
module _ (l : List ℕ) (at : ℕ) (bs : List ℕ) where
  either : (P : Type 0) → (at + length bs ≤ length l → P) → (length l < at + length bs → P) → P
  either P f g = go (leb (at + length bs) (length l)) refl
    where
      go : (b : Bool) → leb (at + length bs) (length l) ≡ b → P
      go true e = f (leb-true _ _ e)
      go false e = g (leb-false _ _ e)

pub length-put : (l : List ℕ) (at : ℕ) (bs : List ℕ) → length (put l at bs) ≡ length l
length-put l at bs = either l at bs _ (put-length-room l at bs) (λ h. ap length (put-none l at bs h))

-- what stands before the place, with what was laid there
take-laid : (l : List ℕ) (at : ℕ) (bs : List ℕ) → at + length bs ≤ length l → length (take at l ++ bs) ≡ at + length bs
take-laid l at bs h = omega (arith, length-append (take at l) bs, length-take at l)

-- a write changes nothing outside its bytes
pub only-its-bytes : (l : List ℕ) (at : ℕ) (bs : List ℕ) → Outside l (put l at bs) at (at + length bs)
only-its-bytes l at bs = either l at bs _ room none
  where
    room : at + length bs ≤ length l → Outside l (put l at bs) at (at + length bs)
    room h =
        let e = put-room l at bs h in
        let k : length (take at l) ≡ at = length-take-le at l (omega arith) in
        record {
          size = length-put l at bs;
          before = rw (e, append_assoc (take at l) bs (drop (at + length bs) l)) (take_at (take at l) (bs ++ drop (at + length bs) l) at k);
          behind = rw e (drop_at (take at l ++ bs) (drop (at + length bs) l) (at + length bs) (take-laid l at bs h));
        }

    none : length l < at + length bs → Outside l (put l at bs) at (at + length bs)
    none h =
        let e = put-none l at bs h in
        record { size = length-put l at bs; before = ap (take at) e; behind = ap (drop (at + length bs)) e }

-- two adjacent writes are one
pub put-put : (l : List ℕ) (at : ℕ) (a b : List ℕ) → at + length a + length b ≤ length l
    → put (put l at a) (at + length a) b ≡ put l at (a ++ b)
put-put l at a b h =
    let h₁ : at + length a ≤ length l = omega arith in
    let e₁ = put-room l at a h₁ in
    let n₁ = length-put l at a in
    let e₂ = put-room (put l at a) (at + length a) b (omega arith) in
    let n = length-append a b in
    let e₃ = put-room l at (a ++ b) (omega arith) in
    let q = take-laid l at a h₁ in
    let t : take (at + length a) (put l at a) ≡ take at l ++ a = rw e₁ (take_at (take at l ++ a) (drop (at + length a) l) (at + length a) q) in
    let d : drop (at + length a + length b) (put l at a) ≡ drop (at + length a + length b) l =
    rw (e₁, ← q) (drop-append-add (take at l ++ a) (drop (length (take at l ++ a)) l) (length b) ∙ drop-drop (length b) (length (take at l ++ a)) l) in
    let m : at + length (a ++ b) ≡ at + length a + length b = omega arith in
    rw (e₂, t, d, e₃, m) (simp append_assoc)

adjacent_are_one : AdjacentAreOne
unfolding AdjacentAreOne
adjacent_are_one = put-put

-- and so they are where the later place is written first
pub put-before : (l : List ℕ) (at : ℕ) (a b : List ℕ) → at + length a + length b ≤ length l
    → put (put l (at + length a) b) at a ≡ put l at (a ++ b)
put-before l at a b h =
    let m = put l (at + length a) b in
    let e₁ = put-room l (at + length a) b h in
    let n₁ = length-put l (at + length a) b in
    let e₂ = put-room m at a (omega arith) in
    let n = length-append a b in
    let e₃ = put-room l at (a ++ b) (omega arith) in
    let k : length (take (at + length a) l) ≡ at + length a = length-take-le (at + length a) l (omega arith) in
    let t : take at m ≡ take at l = rw (e₁, append_assoc (take (at + length a) l) b (drop (at + length a + length b) l))
    (take-append-le at (take (at + length a) l) (b ++ drop (at + length a + length b) l) (omega arith) ∙ take-take at (at + length a) l (omega arith)) in
    let d : drop (at + length a) m ≡ b ++ drop (at + length a + length b) l =
    rw (e₁, append_assoc (take (at + length a) l) b (drop (at + length a + length b) l)) (drop_at (take (at + length a) l) (b ++ drop (at + length a + length b) l) (at + length a) k) in
    let s : at + length (a ++ b) ≡ at + length a + length b = omega arith in
    rw (e₂, t, d, e₃, s) (simp append_assoc)

-- no bytes change nothing
pub put-empty : (l : List ℕ) (at : ℕ) → put l at [] ≡ l
put-empty l at = either l at [] _ (λ h. put-room l at [] h ∙ rw (append-nil (take at l), add-zero at) (take-append-drop at l)) (put-none l at [])

-- what is written reads back
reads_back : ReadsBack
unfolding ReadsBack
reads_back n v l at small h =
    let e = length-bytes n v in
    let g = length-take-le at l (omega arith) in
    rw (put-room l at (bytes n v) (omega arith)) (simp append_assoc (rw g at (number-bytes n v small (take at l) (drop (at + length (bytes n v)) l))))

-- ---- every writer

module _ (l : List ℕ) (at : ℕ) (bs : List ℕ) where
  refusal-ground : (g : ℕ) → (g ≡ 0 → ⊥) → write_refusal g l at bs ≡ g
  unfolding write_refusal
  refusal-ground g z = simp (ne_eqb _ _ z)

  refusal-room : at + length bs ≤ length l → write_refusal 0 l at bs ≡ 0
  unfolding write_refusal
  refusal-room h = simp (le-leb _ _ h)

  refusal-short : length l < at + length bs → write_refusal 0 l at bs ≡ output_short
  unfolding write_refusal
  refusal-short h = simp (lt-leb _ _ h)

  -- g applies
  pub writes-ground : (g : ℕ) → (g ≡ 0 → ⊥) → Writes (Err (record { number = g })) l l g at bs
  unfolding written_words write_answer
  writes-ground g z = record { answers = simp (refusal-ground g z, ne_eqb _ _ z); leaves = simp (ne_eqb _ _ z) }

  -- none applies, and there is no room
  pub writes_short : length l < at + length bs → Writes (Err (record { number = output_short })) l l 0 at bs
  unfolding written_words write_answer
  writes_short h = record { answers = simp (refusal-short h); leaves = sym (put-none l at bs h) }

  -- none applies, and there is room
  pub writes-done : (m : List ℕ) → at + length bs ≤ length l → m ≡ put l at bs → Writes (Ok (length bs)) l m 0 at bs
  unfolding written_words write_answer
  writes-done m h e = record { answers = simp (refusal-room h); leaves = e }

  refusal_writes_nothing : (r : Written) (m : List ℕ) (g : ℕ) → Writes r l m g at bs → (written_words r).which ≡ refused → m ≡ l
  unfolding written_words write_answer
  refusal_writes_nothing r m g w e = go (eqb g 0) refl
    where
      go : (b : Bool) → eqb g 0 ≡ b → m ≡ l
      go false f = w.leaves ∙ rw f
      go true f = either l at bs _ room (λ h. w.leaves ∙ rw f (put-none l at bs h))
        where
          room : at + length bs ≤ length l → m ≡ l
          room h =
              let z : g ≡ 0 = eqb-true _ _ f in
              let v : written_words r ≡ says wrote (length bs ∷ []) = w.answers ∙ rw (z, refusal-room h) in
              let c : answer wrote ≡ refused = sym (which-of v) ∙ e in
              let k : ◌≡◌ {A = ℕ} 0 1 = cc in
              absurd (omega arith)

refusal-nothing : RefusalWritesNothing
unfolding RefusalWritesNothing
refusal-nothing r l m g at bs w e = refusal_writes_nothing l at bs r m g w e

-- ---- what a writer that wrote says of its ground and its bytes

-- the refusal in a writer's answer
pub answer-refusal : (g : ℕ) (l : List ℕ) (at : ℕ) (bs : List ℕ) → (write_answer g l at bs).refusal ≡ write_refusal g l at bs
unfolding write_answer
answer-refusal g l at bs = go (eqb (write_refusal g l at bs) 0) refl
  where
    go : (b : Bool) → eqb (write_refusal g l at bs) 0 ≡ b → (write_answer g l at bs).refusal ≡ write_refusal g l at bs
    go true e = rw e (sym (eqb-true _ _ e))
    go false e = rw e

-- none where there is no ground, and room
pub no-write-refusal : (g : ℕ) (l : List ℕ) (at : ℕ) (bs : List ℕ) → g ≡ 0 → at + length bs ≤ length l → write_refusal g l at bs ≡ 0
unfolding write_refusal
no-write-refusal g l at bs e h = rw (eq-eqb _ _ e, le-leb _ _ h)

pub record WroteSo (g : ℕ) (l : List ℕ) (at : ℕ) (bs : List ℕ) (k : ℕ) : Type 0 where
  pub no_ground : g ≡ 0
  pub room : at + length bs ≤ length l
  pub size : k ≡ length bs

pub wrote_so : (g : ℕ) (l : List ℕ) (at : ℕ) (bs : List ℕ) (k : ℕ) → write_answer g l at bs ≡ says wrote (k ∷ []) → WroteSo g l at bs k
unfolding write_answer write_refusal
wrote_so g l at bs k = go (eqb g 0) refl (leb (at + length bs) (length l)) refl
  where
    go : (b : Bool) → eqb g 0 ≡ b → (c : Bool) → leb (at + length bs) (length l) ≡ c
        → if eqb (if b then (if c then 0 else output_short) else g) 0 then says wrote (length bs ∷ []) else refuses (if b then (if c then 0 else output_short) else g) ≡ says wrote (k ∷ [])
        → WroteSo g l at bs k
    go true d true f e = record { no_ground = eqb-true _ _ d; room = leb-true _ _ f; size = let v = values-of e in cc }
    go true d false f e = let w = which-of e in let z : ◌≡◌ {A = ℕ} 0 1 = cc in absurd (omega arith)
    go false d c f e = let w = which-of (rw d at e) in let z : ◌≡◌ {A = ℕ} 0 1 = cc in absurd (omega arith)

-- it changes only the bytes that it reports
only_what_it_reports : OnlyWhatItReports
unfolding OnlyWhatItReports
only_what_it_reports r l m g at bs k w e =
    let s = wrote_so g l at bs k (sym w.answers ∙ e) in
    let p : m ≡ put l at bs = w.leaves ∙ rw s.no_ground in
    rw (p, s.size) (only-its-bytes l at bs)

-- the bytes that it reports stand at its place
stands_there : StandsThere
unfolding StandsThere
stands_there r l m g at bs k w e =
    let s = wrote_so g l at bs k (sym w.answers ∙ e) in
    let f = s.room in
    let t : length (take at l) ≡ at = length-take-le at l (omega arith) in
    let p : m ≡ put l at bs = w.leaves ∙ rw s.no_ground in
    let rest = drop (at + length bs) l in
    let q : put l at bs ≡ take at l ++ (bs ++ rest) = put-room l at bs f ∙ append_assoc (take at l) bs rest in
    rw (p, q, drop_at (take at l) (bs ++ rest) at t, s.size) (take_at bs rest (length bs) refl)

-- the bytes that it reports are its bytes
pub wrote-front : (g : ℕ) (l bs : List ℕ) (k : ℕ) → write_answer g l 0 bs ≡ says wrote (k ∷ []) → take k (write_output g l 0 bs) ≡ bs
wrote-front g l bs k e =
    let s = wrote_so g l 0 bs k e in
    rw (s.no_ground, s.size, put-room l 0 bs s.room) (take_at bs (drop (0 + length bs) l) (length bs) refl)

-- ---- a check by the writer's ground that refused
pub writes-refused : (l : List ℕ) (at : ℕ) (bs : List ℕ) (g : ℕ) (s : Result ⊤ Refusal) (w : Written) (r : Refusal)
    → s ≡ refused_by g → s ≡ Err r → w ≡ Err r → Writes w l l g at bs
writes-refused l at bs g s w r e d f =
    let h = its-ground g r (sym d ∙ e) in
    let z : g ≡ 0 → ⊥ = a-ground g r (sym d ∙ e) in
    rw (f, ← h) (writes-ground l at bs r.number (λ y. z (sym h ∙ y)))

-- ---- as the code of `room`, `put16`, `put64` and `put_bytes` has them: n is the size

module _ (m at n : ℕ) where
  pub room-there : (s : Result ⊤ Refusal) (u : ⊤) → s ≡ refused_by (if leb (at + n) m then 0 else output_short) → s ≡ Ok u → at + n ≤ m
  room-there s u e d = go (leb (at + n) m) refl (no-ground _ u (sym d ∙ e))
    where
      go : (b : Bool) → leb (at + n) m ≡ b → (if b then 0 else output_short) ≡ 0 → at + n ≤ m
      go true f h = leb-true _ _ f
      go false f h = absurd (omega arith)

  pub no-room-there : (s : Result ⊤ Refusal) (r : Refusal) → s ≡ refused_by (if leb (at + n) m then 0 else output_short) → s ≡ Err r
      → (m < at + n) × (r ≡ record { number = output_short })
  no-room-there s r e d = go (leb (at + n) m) refl (its-ground _ r (sym d ∙ e)) (a-ground _ r (sym d ∙ e))
    where
      go : (b : Bool) → leb (at + n) m ≡ b → r.number ≡ (if b then 0 else output_short) → ((if b then 0 else output_short) ≡ 0 → ⊥)
          → (m < at + n) × (r ≡ record { number = output_short })
      go true f h z = absurd (z refl)
      go false f h z = (leb-false _ _ f, ap (λ (k : ℕ). record { number = k }) h)

  pub room-so : (r : Result ⊤ Refusal) → at + n ≤ m → r ≡ Ok tt → r ≡ refused_by (if leb (at + n) m then 0 else output_short)
  room-so r h e = e ∙ passes _ (rw (le-leb _ _ h) refl)

  pub room-short : m < at + n → Err (record { number = output_short }) ≡ refused_by (if leb (at + n) m then 0 else output_short)
  room-short h = refuses-by _ _ (rw (lt-leb _ _ h) refl) refl

  pub room-short-so : (s : Result ⊤ Refusal) → s ≡ refused_by (if leb (at + n) m then 0 else output_short) → is_ok s ≡ false → m < at + n
  room-short-so s e f = go (leb (at + n) m) refl e
    where
      go : (b : Bool) → leb (at + n) m ≡ b → s ≡ refused_by (if b then 0 else output_short) → m < at + n
      go true g h = let k : is_ok s ≡ true = rw (h ∙ sym (passes 0 refl)) refl in let z : ◌≡◌ {A = ℕ} 0 1 = cc in absurd (omega arith)
      go false g h = leb-false _ _ g

  pub room-ok : (s : Result ⊤ Refusal) → s ≡ refused_by (if leb (at + n) m then 0 else output_short) → is_ok s ≡ true → at + n ≤ m
  unfolding refused_by
  room-ok s e f = go (leb (at + n) m) refl e
    where
      go : (b : Bool) → leb (at + n) m ≡ b → s ≡ refused_by (if b then 0 else output_short) → at + n ≤ m
      go true g h = leb-true _ _ g
      go false g h = let k : is_ok s ≡ false = rw h refl in let z : ◌≡◌ {A = ℕ} 0 1 = cc in absurd (omega arith)

-- a part that was written over is what is laid
pub laid-bytes : (l bs x : List ℕ) (at k : ℕ) → x ≡ bs → at + length bs ≤ length l → k ≡ length bs → put_mid at k l x ≡ put l at bs
laid-bytes l bs x at k d h e =
    rw (d, e, drop-drop (length bs) at l) (sym (append_assoc (take at l) bs (drop (at + length bs) l))) ∙ sym (put-room l at bs h)

module _ (l : List ℕ) (at : ℕ) (bs : List ℕ) where
  pub lay-over : (s : Result ⊤ Refusal) (w : Written) (r : Refusal) → s ≡ refused_by (if leb (at + length bs) (length l) then 0 else output_short)
      → s ≡ Err r → w ≡ Err r → Writes w l l 0 at bs
  lay-over s w r e d f = let h = no-room-there (length l) at (length bs) s r e d in rw (f, h.1) (writes_short l at bs h.0)

  pub lay_done : (n : ℕ) (m : List ℕ) → at + n ≤ length l → n ≡ length bs → m ≡ put l at bs → Writes (Ok n) l m 0 at bs
  lay_done n m h e d = rw e (writes-done l at bs m (omega arith) d)

-- the library's bytes of a number, the most significant first
bytes-2 : (v : ℕ) → bytes 2 v ≡ v / 256 % 256 ∷ v % 256 ∷ []
unfolding bytes
bytes-2 v = refl

pub laid-16 : (l m bs : List ℕ) (at v : ℕ) → m ≡ put l at bs → bs ≡ to_be_bytes w16 v → m ≡ put l at (bytes 2 v)
laid-16 l m bs at v w e = rw (bytes-2 v) (rw e at w)

bytes-8 : (v : ℕ) → bytes 8 v ≡ to_be_bytes w64 v
unfolding bytes
bytes-8 v = simp div-div-eq-div-mul

pub laid-64 : (l m bs : List ℕ) (at v : ℕ) → m ≡ put l at bs → bs ≡ to_be_bytes w64 v → m ≡ put l at (bytes 8 v)
laid-64 l m bs at v w e = rw (bytes-8 v) (rw e at w)

-- ---- the words tell all answers apart

answered : Case WrittenKind → ℕ → List ℕ → Written
answered (answer wrote) r vs = Ok (get_or vs 0 0)
answered refused r vs = Err (record { number = r })

tells_apart : TellsApart
unfolding TellsApart written_words answered
tells_apart = read_back written_words (λ w. answered w.which w.refusal w.values) back
  where
    back : (a : Written) → answered (written_words a).which (written_words a).refusal (written_words a).values ≡ a
    back (Ok n) = refl
    back (Err r) = refl

pub output-laws : OutputLaws
output-laws =
    record {
      reads_back = reads_back;
      adjacent_are_one = adjacent_are_one;
      only_what_it_reports = only_what_it_reports;
      stands_there = stands_there;
      refusal_writes_nothing = refusal-nothing;
      tells_apart = tells_apart;
    }
