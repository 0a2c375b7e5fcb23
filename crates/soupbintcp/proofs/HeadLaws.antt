-- Laws of the head: n is the length that was read, t and u what the table said of the letter.
use mathlib.Core.Path.{◌≡◌, refl, sym}
use mathlib.Core.List.{List, [], ◌∷◌, ◌++◌}
use mathlib.Core.Bool.{Bool, true, false, not}
use Prim.Native.Nat.{ℕ, ◌+◌, ◌-◌, ◌≤◌, ◌<◌}
use native.Mathlib.Omega.{arith}
use lib.ListN.{length, get_or, length-append, get_or-append}
use lib.Dec.{ltb, eqb}
use borrow.Author.Tests.{lt-ltb, le-ltb, ne_eqb, not-true, not-false, ltb-true, ltb-false, eqb-true, eqb-false}
use Rattle.wire.specs.Words.{Words, answer, says, refuses}
use Rattle.wire.specs.Bytes.{number}
use Rattle.wire.proofs.Words.{which-of, values-of}
use Rattle.wire.proofs.Numbers.{number_append}
use Rattle.soupbintcp.specs.declared.packet.Sender.{Sender}
use Rattle.soupbintcp.specs.declared.head.Head.TheVariants.{Whole, NeedMore, Refused}
use Rattle.soupbintcp.specs.Letters.{most_payload, sends, allows}
use Rattle.soupbintcp.specs.Head.{HeadKind, whole, need_more, packet_length, letter_of, head_words, head_of}
use Rattle.soupbintcp.proofs.LetterLaws.{choice, allowed-small}

-- ---- the ladder, as the code has it

module _ (s : Sender) (l : List ℕ) where
  pub head-two : length l < 2 → head_words NeedMore ≡ head_of s l
  unfolding head_words head_of
  head-two h = simp (lt-ltb _ _ h)

  pub head-21 : (n : ℕ) → 2 ≤ length l → n ≡ number l 0 2 → n ≡ 0 → head_words (Refused (record { number = 21 })) ≡ head_of s l
  unfolding head_words head_of packet_length
  head-21 n h e z = simp (le-ltb _ _ h, ← e, z)

  pub head-22 : (n : ℕ) → 2 ≤ length l → n ≡ number l 0 2 → (n ≡ 0 → ⊥) → most_payload < n - 1
      → head_words (Refused (record { number = 22 })) ≡ head_of s l
  unfolding head_words head_of packet_length
  head-22 n h e z f = simp (le-ltb _ _ h, ← e, ne_eqb _ _ z, lt-ltb _ _ f)

  pub head_three : (n : ℕ) → 2 ≤ length l → n ≡ number l 0 2 → (n ≡ 0 → ⊥) → n - 1 ≤ most_payload → length l < 3
      → head_words NeedMore ≡ head_of s l
  unfolding head_words head_of packet_length
  head_three n h e z f i = simp (le-ltb _ _ h, ← e, ne_eqb _ _ z, le-ltb _ _ f, lt-ltb _ _ i)

  pub head-23 : (n : ℕ) (t : Bool) → 2 ≤ length l → n ≡ number l 0 2 → (n ≡ 0 → ⊥) → n - 1 ≤ most_payload → 3 ≤ length l
      → t ≡ sends s (get_or l 2 0) → not t ≡ true → head_words (Refused (record { number = 23 })) ≡ head_of s l
  unfolding head_words head_of packet_length letter_of
  head-23 n t h e z f i g j = simp (le-ltb _ _ h, ← e, ne_eqb _ _ z, le-ltb _ _ f, le-ltb _ _ i, ← g, not-true t j)

  pub head-24 : (n : ℕ) (t u : Bool) → 2 ≤ length l → n ≡ number l 0 2 → (n ≡ 0 → ⊥) → n - 1 ≤ most_payload → 3 ≤ length l
      → t ≡ sends s (get_or l 2 0) → not t ≡ false → u ≡ allows (get_or l 2 0) (n - 1) → not u ≡ true
      → head_words (Refused (record { number = 24 })) ≡ head_of s l
  unfolding head_words head_of packet_length letter_of
  head-24 n t u h e z f i g j k m =
      simp (le-ltb _ _ h, ← e, ne_eqb _ _ z, le-ltb _ _ f, le-ltb _ _ i, ← g, not-false t j, ← k, not-true u m)

  pub head-part : (n : ℕ) (t u : Bool) → 2 ≤ length l → n ≡ number l 0 2 → (n ≡ 0 → ⊥) → n - 1 ≤ most_payload → 3 ≤ length l
      → t ≡ sends s (get_or l 2 0) → not t ≡ false → u ≡ allows (get_or l 2 0) (n - 1) → not u ≡ false → length l < n + 2
      → head_words NeedMore ≡ head_of s l
  unfolding head_words head_of packet_length letter_of
  head-part n t u h e z f i g j k m p =
      simp (le-ltb _ _ h, ← e, ne_eqb _ _ z, le-ltb _ _ f, le-ltb _ _ i, ← g, not-false t j, ← k, not-false u m, lt-ltb _ _ p)

  pub head-whole : (n : ℕ) (t u : Bool) → 2 ≤ length l → n ≡ number l 0 2 → (n ≡ 0 → ⊥) → n - 1 ≤ most_payload → 3 ≤ length l
      → t ≡ sends s (get_or l 2 0) → not t ≡ false → u ≡ allows (get_or l 2 0) (n - 1) → not u ≡ false → n + 2 ≤ length l
      → head_words (Whole (n + 2)) ≡ head_of s l
  unfolding head_words head_of packet_length letter_of
  head-whole n t u h e z f i g j k m p =
      simp (le-ltb _ _ h, ← e, ne_eqb _ _ z, le-ltb _ _ f, le-ltb _ _ i, ← g, not-false t j, ← k, not-false u m, le-ltb _ _ p)

-- ---- by its cases: a property of what the head is, if it holds at every rung

-- a head that is there and that the table allows: the packet may yet be cut
pub record IsHead (s : Sender) (l : List ℕ) : Type 0 where
  pub there : 3 ≤ length l
  pub some : packet_length l ≡ 0 → ⊥
  pub sent : sends s (letter_of l) ≡ true
  pub allowed : allows (letter_of l) (packet_length l - 1) ≡ true

module _ (s : Sender) (l : List ℕ) (P : Words HeadKind → Type 0) where
  pub head-cases : (length l < 2 → P (says need_more []))
      → (2 ≤ length l → packet_length l ≡ 0 → P (refuses 21))
      → (2 ≤ length l → (packet_length l ≡ 0 → ⊥) → most_payload < packet_length l - 1 → P (refuses 22))
      → (2 ≤ length l → length l < 3 → P (says need_more []))
      → (3 ≤ length l → (packet_length l ≡ 0 → ⊥) → packet_length l - 1 ≤ most_payload → sends s (letter_of l) ≡ false → P (refuses 23))
      → (3 ≤ length l → (packet_length l ≡ 0 → ⊥) → packet_length l - 1 ≤ most_payload → sends s (letter_of l) ≡ true
      → allows (letter_of l) (packet_length l - 1) ≡ false → P (refuses 24))
      → (IsHead s l → length l < packet_length l + 2 → P (says need_more []))
      → (IsHead s l → packet_length l + 2 ≤ length l → P (says whole ((packet_length l + 2) ∷ [])))
      → P (head_of s l)
  unfolding head_of
  head-cases p0 p1 p2 p3 p4 p5 p6 p7 =
      choice P (ltb (length l) 2) (λ a. p0 (ltb-true _ _ a)) (λ a.
      choice P (eqb (packet_length l) 0) (λ b. p1 (ltb-false _ _ a) (eqb-true _ _ b)) (λ b.
      choice P (ltb most_payload (packet_length l - 1)) (λ c. p2 (ltb-false _ _ a) (eqb-false _ _ b) (ltb-true _ _ c)) (λ c.
      choice P (ltb (length l) 3) (λ d. p3 (ltb-false _ _ a) (ltb-true _ _ d)) (λ d.
      choice P (not (sends s (letter_of l)))
      (λ e. p4 (ltb-false _ _ d) (eqb-false _ _ b) (ltb-false _ _ c) (not-true _ e)) (λ e.
      choice P (not (allows (letter_of l) (packet_length l - 1)))
      (λ f. p5 (ltb-false _ _ d) (eqb-false _ _ b) (ltb-false _ _ c) (not-false _ e) (not-true _ f)) (λ f.
      let h : IsHead s l = record { there = ltb-false _ _ d; some = eqb-false _ _ b; sent = not-false _ e; allowed = not-false _ f } in
      choice P (ltb (length l) (packet_length l + 2)) (λ g. p6 h (ltb-true _ _ g)) (λ g. p7 h (ltb-false _ _ g))))))))

-- ---- what a whole head says of the stream

pub record IsWhole (s : Sender) (l : List ℕ) (k : ℕ) : Type 0 where
  pub size : k ≡ packet_length l + 2
  pub within : k ≤ length l
  pub head : 3 ≤ k
  pub some : packet_length l ≡ 0 → ⊥
  pub sent : sends s (letter_of l) ≡ true
  pub allowed : allows (letter_of l) (packet_length l - 1) ≡ true

Wholes : Sender → List ℕ → Words HeadKind → Type 0
Wholes s l w = (k : ℕ) → w ≡ says whole (k ∷ []) → IsWhole s l k

not_more : (s : Sender) (l : List ℕ) → Wholes s l (says need_more [])
unfolding Wholes
not_more s l k e = let w = which-of e in let z : ◌≡◌ {A = ℕ} 0 1 = cc in absurd (omega arith)

not_refused : (s : Sender) (l : List ℕ) (r : ℕ) → Wholes s l (refuses r)
unfolding Wholes
not_refused s l r k e = let w = which-of e in let z : ◌≡◌ {A = ℕ} 0 1 = cc in absurd (omega arith)

pub head-in-whole : (s : Sender) (l : List ℕ) (k : ℕ) → IsHead s l → packet_length l + 2 ≤ length l → packet_length l + 2 ≡ k → IsWhole s l k
head-in-whole s l k h f e =
    let o = h.some in
    let p : 1 ≤ packet_length l = omega arith in
    record { size = sym e; within = omega arith; head = omega arith; some = o; sent = h.sent; allowed = h.allowed }

is_whole : (s : Sender) (l : List ℕ) → IsHead s l → packet_length l + 2 ≤ length l → Wholes s l (says whole ((packet_length l + 2) ∷ []))
unfolding Wholes
is_whole s l h f k e =
    let v = values-of e in
    let g : packet_length l + 2 ≡ k = cc in
    head-in-whole s l k h f g

pub said-whole : (s : Sender) (l : List ℕ) (k : ℕ) → head_of s l ≡ says whole (k ∷ []) → IsWhole s l k
unfolding Wholes
said-whole s l =
    let more = not_more s l in
    head-cases s l (Wholes s l) (λ a. more) (λ a b. not_refused s l 21) (λ a b c. not_refused s l 22) (λ a b. more)
    (λ a b c d. not_refused s l 23) (λ a b c d e. not_refused s l 24) (λ h f. more) (is_whole s l)

pub whole-short : (s : Sender) (l : List ℕ) (k : ℕ) → IsWhole s l k → packet_length l - 1 ≤ most_payload
whole-short s l k o = allowed-small (letter_of l) (packet_length l - 1) o.allowed

-- and a packet that is there whole has such a head
pub whole-so : (s : Sender) (l : List ℕ) (k : ℕ) → IsWhole s l k → head_of s l ≡ says whole (k ∷ [])
unfolding head_of
whole-so s l k o =
    let e = o.size in
    let a = o.within in
    let b = o.head in
    let c : 2 ≤ length l = omega arith in
    let d : 3 ≤ length l = omega arith in
    let f : packet_length l + 2 ≤ length l = omega arith in
    rw e (simp (le-ltb _ _ c, ne_eqb _ _ o.some, le-ltb _ _ (whole-short s l k o), le-ltb _ _ d, o.sent, o.allowed, le-ltb _ _ f))

-- ---- bytes appended later never change a head that is not cut

module _ (l m : List ℕ) where
  pub length-stays : 2 ≤ length l → packet_length (l ++ m) ≡ packet_length l
  unfolding packet_length
  length-stays h = number_append l m 0 2 h

  pub letter-stays : 3 ≤ length l → letter_of (l ++ m) ≡ letter_of l
  unfolding letter_of
  letter-stays h = get_or-append l m 0 2 h

pub whole-stays : (s : Sender) (l m : List ℕ) (k : ℕ) → IsWhole s l k → IsWhole s (l ++ m) k
whole-stays s l m k o =
    let a = o.within in
    let b = o.head in
    let w = length-append l m in
    let e : packet_length (l ++ m) ≡ packet_length l = length-stays l m (omega arith) in
    let f : letter_of (l ++ m) ≡ letter_of l = letter-stays l m (omega arith) in
    record {
      size = rw e o.size;
      within = omega arith;
      head = b;
      some = rw e o.some;
      sent = rw f o.sent;
      allowed = rw (e, f) o.allowed;
    }

Stays : Sender → List ℕ → List ℕ → Words HeadKind → Type 0
Stays s l m w = (w.which ≡ answer need_more → ⊥) → head_of s (l ++ m) ≡ w

pub head-stays : (s : Sender) (l m : List ℕ) → ((head_of s l).which ≡ answer need_more → ⊥) → head_of s (l ++ m) ≡ head_of s l
unfolding Stays head_words packet_length letter_of
head-stays s l m =
    let q = l ++ m in
    let w = length-append l m in
    head-cases s l (Stays s l m) (λ a z. absurd (z refl))
    (λ a b z. sym (head-21 s q (packet_length l) (omega arith) (sym (length-stays l m a)) b))
    (λ a b c z. sym (head-22 s q (packet_length l) (omega arith) (sym (length-stays l m a)) b c))
    (λ a b z. absurd (z refl))
    (λ a b c d z.
    let e : 2 ≤ length l = omega arith in
    let f : sends s (letter_of q) ≡ false = rw (letter-stays l m a) d in
    sym (head-23 s q (packet_length l) false (omega arith) (sym (length-stays l m e)) b c (omega arith) (sym f) refl))
    (λ a b c d g z.
    let e : 2 ≤ length l = omega arith in
    let f : sends s (letter_of q) ≡ true = rw (letter-stays l m a) d in
    let i : allows (letter_of q) (packet_length l - 1) ≡ false = rw (letter-stays l m a) g in
    sym (head-24 s q (packet_length l) true false (omega arith) (sym (length-stays l m e)) b c (omega arith) (sym f) refl (sym i) refl))
    (λ h f z. absurd (z refl))
    (λ h f z. whole-so s q (packet_length l + 2) (whole-stays s l m (packet_length l + 2) (head-in-whole s l (packet_length l + 2) h f refl)))
