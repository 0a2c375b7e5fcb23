-- Bytes appended later never change a packet or a refusal already given; and what the front promises.
use mathlib.Core.Path.{◌≡◌, refl, ap, sym, ◌∙◌}
use mathlib.Core.List.{List, ◌∷◌, ◌++◌}
use mathlib.Core.Bool.{Bool, true, false}
use Prim.Native.Nat.{ℕ, ◌+◌, ◌-◌, ◌≤◌}
use native.Mathlib.Omega.{arith}
use lib.ListN.{length, get_or, take, drop, length-drop, take-append-drop, get_or-append}
use lib.Seq.{take-append-le, drop-append-le, length-take-le, get_or-take}
use lib.Dec.{eqb}
use borrow.Author.Tests.{eqb-true}
use Rattle.std.specs.Prelude.{if◌then◌else◌}
use Rattle.wire.specs.Words.{Words, Case, says}
use Rattle.text_fields.specs.Number.{NumberKind}
use Rattle.soupbintcp.specs.declared.packet.Sender.{Sender}
use Rattle.soupbintcp.specs.Letters.{PacketKind, allows}
use Rattle.soupbintcp.specs.Head.{HeadKind, packet_length, letter_of, head_of}
use Rattle.soupbintcp.specs.Fields.{has_fields, session_at, session_bytes, number_bytes, reason_fields, fields_at, fields_of}
use Rattle.soupbintcp.specs.Front.{packet, front_at, front_of, packet_at, packet_bytes, payload_of, session_of, login_part, Stable, StableBytes, FrontPromises}
use Rattle.soupbintcp.proofs.LetterLaws.{least-A, least-L, least-J}
use Rattle.soupbintcp.proofs.HeadLaws.{IsWhole, head-cases, head-in-whole, head-stays, letter-stays}
use Rattle.wire.proofs.PartLaws.{drop-take}
use Rattle.soupbintcp.proofs.FrontLaws.{front-tells-apart, said-packet}
use Rattle.soupbintcp.proofs.KindLaws.{kind_of_letter}
use Rattle.soupbintcp.proofs.ScanLaws.{FrontIs, stops-short, stops_at, passes, front-is}

le_trans : {a b c : ℕ} → a ≤ b → b ≤ c → a ≤ c
le_trans f g = omega arith

own_room : {a b : ℕ} → a ≡ b → b ≤ a
own_room e = omega arith

-- ---- a packet that is there whole has all its fields in it

reach-go : (a b : Bool) (k : ℕ) → (a ≡ true → 30 ≤ k) → (b ≡ true → 46 ≤ k) → if a then true else b ≡ true
    → (if b then 19 else 3) + 30 ≤ k + 3
reach-go true true k f g e = let h = g refl in omega arith
reach-go true false k f g e = let h = f refl in omega arith
reach-go false true k f g e = let h = g refl in omega arith
reach-go false false k f g e = let z : ◌≡◌ {A = ℕ} 0 1 = cc in absurd (omega arith)

reach : (c k : ℕ) → allows c k ≡ true → has_fields c ≡ true → session_at c + 30 ≤ k + 3
unfolding has_fields session_at
reach c k h e = reach-go (eqb c 65) (eqb c 76) k (λ f. least-A c k h (eqb-true _ _ f)) (λ f. least-L c k h (eqb-true _ _ f)) e

module _ {s : Sender} {l : List ℕ} {k : ℕ} (o : IsWhole s l k) where
  pub fields-reach : has_fields (letter_of l) ≡ true → session_at (letter_of l) + 30 ≤ k
  fields-reach e =
      let h = reach (letter_of l) (packet_length l - 1) o.allowed e in
      let a = o.size in
      let b = o.head in
      omega arith

  pub login-reach : letter_of l ≡ 76 → 49 ≤ k
  login-reach e =
      let h = least-L (letter_of l) (packet_length l - 1) o.allowed e in
      let a = o.size in
      omega arith

  pub reason-reach : letter_of l ≡ 74 → 4 ≤ k
  reason-reach e =
      let h = least-J (letter_of l) (packet_length l - 1) o.allowed e in
      let a = o.size in
      omega arith

-- ---- what is read within a list is read the same when more follows

part_stays : (l m : List ℕ) (at n : ℕ) → at + n ≤ length l → take n (drop at (l ++ m)) ≡ take n (drop at l)
part_stays l m at n h =
    let d = length-drop at l in
    rw (drop-append-le at l m (omega arith)) (take-append-le n (drop at l) m (omega arith))

same-choice : {A : Type 0} (b : Bool) {x x' y y' : A} → (b ≡ true → x ≡ x') → (b ≡ false → y ≡ y')
    → if b then x else y ≡ if b then x' else y'
same-choice true f g = f refl
same-choice false f g = g refl

module _ (c : ℕ) (l m : List ℕ) (h : has_fields c ≡ true → session_at c + 30 ≤ length l) where
  pub session-stays : session_bytes c (l ++ m) ≡ session_bytes c l
  unfolding session_bytes
  session-stays = same-choice (has_fields c) (λ e. let f = h e in part_stays l m (session_at c) 10 (omega arith)) (λ e. refl)

  pub number-stays : number_bytes c (l ++ m) ≡ number_bytes c l
  unfolding number_bytes
  number-stays = same-choice (has_fields c) (λ e. let f = h e in part_stays l m (session_at c + 10) 20 (omega arith)) (λ e. refl)

reason-stays : (c a b : ℕ) (ok : Bool) (w : Words NumberKind) → (c ≡ 74 → a ≡ b) → fields_at c a ok w ≡ fields_at c b ok w
unfolding fields_at
reason-stays c a b ok w f =
    same-choice (has_fields c) (λ e. refl) (λ e. same-choice (eqb c 74) (λ g. ap reason_fields (f (eqb-true _ _ g))) (λ g. refl))

pub fields-stay : (s : Sender) (l m : List ℕ) (k : ℕ) → IsWhole s l k → fields_of (l ++ m) ≡ fields_of l
unfolding fields_of
fields-stay s l m k o =
    let a = o.within in
    let b = o.head in
    let c = letter_of l in
    let f : letter_of (l ++ m) ≡ letter_of l = letter-stays l m (omega arith) in
    let g : has_fields c ≡ true → session_at c + 30 ≤ length l = λ e. le_trans (fields-reach o e) a in
    rw (f, session-stays c l m g, number-stays c l m g)
    (reason-stays c (get_or (l ++ m) 3 0) (get_or l 3 0) _ _ (λ e. get_or-append l m 0 3 (le_trans (reason-reach o e) a)))

-- ---- the packet's own bytes say the same as the stream that they stand in front of

module _ (s : Sender) (l : List ℕ) (k : ℕ) (o : IsWhole s l k) where
  own-length : length (take k l) ≡ k
  own-length = length-take-le k l o.within

  pub own-letter : letter_of (take k l) ≡ letter_of l
  unfolding letter_of
  own-letter = get_or-take k l 2 0 (let h = o.head in omega arith)

  pub own-session : session_bytes (letter_of l) (take k l) ≡ session_bytes (letter_of l) l
  own-session =
      sym (session-stays (letter_of l) (take k l) (drop k l) (λ e. le_trans (fields-reach o e) (own_room own-length)))
      ∙ ap (session_bytes (letter_of l)) (take-append-drop k l)

  pub own-number : number_bytes (letter_of l) (take k l) ≡ number_bytes (letter_of l) l
  own-number =
      sym (number-stays (letter_of l) (take k l) (drop k l) (λ e. le_trans (fields-reach o e) (own_room own-length)))
      ∙ ap (number_bytes (letter_of l)) (take-append-drop k l)

-- so the parts of a packet that the front gives are parts of the stream
module _ (s : Sender) (l : List ℕ) (t : PacketKind) (k : ℕ) (vs : List ℕ) (e : front_of s l ≡ says (packet t) (k ∷ vs)) where
  pub said-bytes : packet_bytes s l ≡ take k l
  unfolding packet_bytes packet_at
  said-bytes = rw e refl

  pub said-payload : payload_of s l ≡ take (k - 3) (drop 3 l)
  unfolding payload_of
  said-payload = rw said-bytes (drop-take 3 k l)

  pub said-session : session_of s l ≡ session_bytes (letter_of l) l
  unfolding session_of
  said-session =
      let o = (said-packet s l t k vs e).head in
      rw (said-bytes, own-letter s l k o) (own-session s l k o)

  pub said-login : (at n : ℕ) → letter_of l ≡ 76 → at + n ≤ 49 → login_part (packet_bytes s l) at n ≡ take n (drop at l)
  unfolding login_part
  said-login at n c h =
      let o = (said-packet s l t k vs e).head in
      let r = login-reach o c in
      let d = own-length s l k o in
      rw (said-bytes, own-letter s l k o, c)
      (sym (part_stays (take k l) (drop k l) at n (omega arith)) ∙ ap (λ (x : List ℕ). take n (drop at x)) (take-append-drop k l))

-- ---- the front

Same : List ℕ → List ℕ → Words HeadKind → Type 0
Same l m w = front_at (l ++ m) w.which w.refusal w.values ≡ front_at l w.which w.refusal w.values

front_same : (s : Sender) (l m : List ℕ) → Same l m (head_of s l)
unfolding Same front_at
front_same s l m =
    head-cases s l (Same l m) (λ a. refl) (λ a b. refl) (λ a b c. refl) (λ a b. refl) (λ a b c d. refl) (λ a b c d e. refl) (λ h f. refl)
    (λ h f. rw (fields-stay s l m (packet_length l + 2) (head-in-whole s l (packet_length l + 2) h f refl)) refl)

pub stable : Stable
unfolding Stable front_of Same front_at
stable s l m z =
    rw (head-stays s l m (λ e. z (ap (λ (c : Case HeadKind). (front_at l c (head_of s l).refusal (head_of s l).values).which) e)))
    (front_same s l m)

stable_bytes : StableBytes
unfolding StableBytes Stable packet_bytes packet_at
stable_bytes s l m z = rw (stable s l m z) (go (front-is s l))
  where
    go : FrontIs s l → packet_at (front_of s l).which (front_of s l).values (l ++ m) ≡ packet_at (front_of s l).which (front_of s l).values l
    go (stops-short e) = rw e
    go (stops_at r e) = rw e
    go (passes p k vs e a b) = rw e (take-append-le k l m b)

pub front-promises : FrontPromises
front-promises = record { stable = stable; stable_bytes = stable_bytes; kind_of_letter = kind_of_letter; tells_apart = front-tells-apart }
