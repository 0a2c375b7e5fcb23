-- Laws of the writers: l is the lent output at entry, l₁ l₂ l₃ after each part laid in it, c a letter, p a payload, s a session, n a number.
use mathlib.Core.Path.{◌≡◌, refl, sym, ◌∙◌}
use mathlib.Core.List.{List, [], ◌∷◌, ◌++◌, append_assoc}
use mathlib.Core.Bool.{Bool, true, false, not}
use Prim.Native.Nat.{ℕ, ◌+◌, ◌-◌, ◌≤◌, ◌<◌}
use native.Mathlib.Omega.{arith}
use lib.ListN.{length, replicate, length-append, length-replicate}
use borrow.Author.Tests.{lt-ltb, le-ltb, not-true, not-false}
use Rattle.wire.specs.Bytes.{bytes}
use Rattle.wire.specs.Output.{Written}
use Rattle.wire.specs.declared.refusal.Refusal.{Refusal}
use Rattle.wire.specs.Refusals.{output_short}
use Rattle.wire.specs.Words.{refused_by}
use Rattle.std.specs.Prelude.{Result, Ok, Err, ⊤, if◌then◌else◌}
use lib.Dec.{leb, eqb}
use Rattle.wire.specs.Output.{put, Writes}
use Rattle.wire.proofs.Numbers.{length-bytes}
use Rattle.wire.proofs.Outputs.{writes-ground, writes-done, writes_short, put-put, no-room-there, room-there}
use Rattle.decimal.proofs.SpellLaws.{length_digits}
use Rattle.decimal.specs.Decimal.{digits}
use Rattle.text_fields.specs.Letters.{space}
use Rattle.text_fields.specs.Session.{good_session}
use Rattle.text_fields.specs.Sound.{sound}
use Rattle.text_fields.specs.Number.{number_field_size, number_field}
use Rattle.soupbintcp.specs.Letters.{most_payload}
use Rattle.soupbintcp.specs.Fields.{good_reason}
use Rattle.soupbintcp_writer.specs.Packets.{head_bytes, encoded, payload_ground, accepted_ground, accepted_payload, reason_ground, good_login, login_ground, login_payload}

-- ---- every writer: g is its ground, bs its bytes

module _ (l bs : List ℕ) (g : ℕ) where
  not_written : (n : ℕ) → g ≡ n → (n ≡ 0 → ⊥) → Writes (Err (record { number = n })) l l g 0 bs
  not_written n e z = rw e (writes-ground l 0 bs n z)

  -- s is what the check of the room for them, or for a part of them, answered, w what the writer hands up of it
  no_room : (k : ℕ) (s : Result ⊤ Refusal) (w : Written) (x : Refusal) → g ≡ 0 → k ≤ length bs → s ≡ refused_by (if leb (0 + k) (length l) then 0 else output_short)
      → s ≡ Err x → w ≡ Err x → Writes w l l g 0 bs
  no_room k s w x e f h i j =
      let q = no-room-there (length l) 0 k s x h i in
      rw (e, j, q.1) (writes_short l 0 bs (omega (arith, q.0)))

  written : (k : ℕ) (m : List ℕ) → g ≡ 0 → length bs ≡ k → k ≤ length l → m ≡ put l 0 bs → Writes (Ok k) l m g 0 bs
  written k m e f h p = rw (e, ← f) (writes-done l 0 bs m (omega arith) p)

-- what the check of the room tells where it passed
pub room-for : (l : List ℕ) (k : ℕ) (s : Result ⊤ Refusal) → s ≡ refused_by (if leb (0 + k) (length l) then 0 else output_short) → s ≡ Ok tt → k ≤ length l
room-for l k s e d = let h = room-there (length l) 0 k s tt e d in omega arith

-- two parts laid one after the other from the front on
laid_on : (l l₁ l₂ a b : List ℕ) (k : ℕ) → length a ≡ k → k + length b ≤ length l → l₁ ≡ put l 0 a → l₂ ≡ put l₁ k b → l₂ ≡ put l 0 (a ++ b)
laid_on l l₁ l₂ a b k e h p q =
    let m : 0 + length a ≡ k = omega arith in
    rw (q, p) (rw m at (put-put l 0 a b (omega arith)))

-- ---- length and letter

pub length-head : (c k : ℕ) → length (head_bytes c k) ≡ 3
unfolding head_bytes
length-head c k = omega (arith, length-append (bytes 2 (k + 1)) (c ∷ []), length-bytes 2 (k + 1))

pub head-put : (l l₁ l₂ : List ℕ) (c k : ℕ) → 3 ≤ length l → l₁ ≡ put l 0 (bytes 2 (k + 1)) → l₂ ≡ put l₁ 2 (c ∷ []) → l₂ ≡ put l 0 (head_bytes c k)
unfolding head_bytes
head-put l l₁ l₂ c k h p q = laid_on l l₁ l₂ (bytes 2 (k + 1)) (c ∷ []) 2 (length-bytes 2 (k + 1)) (omega arith) p q

-- ---- a letter and a payload

pub length-packet : (c : ℕ) (p : List ℕ) → length (encoded c p) ≡ length p + 3
unfolding encoded
length-packet c p = omega (arith, length-append (head_bytes c (length p)) p, length-head c (length p))

packet-put : (l l₁ l₂ : List ℕ) (c : ℕ) (p : List ℕ) → length p + 3 ≤ length l → l₁ ≡ put l 0 (head_bytes c (length p)) → l₂ ≡ put l₁ 3 p
    → l₂ ≡ put l 0 (encoded c p)
unfolding encoded
packet-put l l₁ l₂ c p h e f = laid_on l l₁ l₂ (head_bytes c (length p)) p 3 (length-head c (length p)) (omega arith) e f

payload-22 : (p : List ℕ) → most_payload < length p → payload_ground p ≡ 22
unfolding payload_ground
payload-22 p h = simp (lt-ltb _ _ h)

payload-good : (p : List ℕ) → length p ≤ most_payload → payload_ground p ≡ 0
unfolding payload_ground
payload-good p h = simp (le-ltb _ _ h)

pub payload-refused : (l bs p : List ℕ) → most_payload < length p → Writes (Err (record { number = 22 })) l l (payload_ground p) 0 bs
payload-refused l bs p h = not_written l bs (payload_ground p) 22 (payload-22 p h) (omega arith)

pub payload-short : (l p : List ℕ) (c k : ℕ) (s : Result ⊤ Refusal) (w : Written) (x : Refusal) → length p ≤ most_payload → k ≤ 3 + length p
    → s ≡ refused_by (if leb (0 + k) (length l) then 0 else output_short) → s ≡ Err x → w ≡ Err x
    → Writes w l l (payload_ground p) 0 (encoded c p)
payload-short l p c k s w x h i = no_room l (encoded c p) (payload_ground p) k s w x (payload-good p h) (omega (arith, length-packet c p))

pub payload-done : (l l₁ l₂ p : List ℕ) (c : ℕ) → length p ≤ most_payload → 3 + length p ≤ length l → l₁ ≡ put l 0 (head_bytes c (length p)) → l₂ ≡ put l₁ 3 p
    → Writes (Ok (3 + length p)) l l₂ (payload_ground p) 0 (encoded c p)
payload-done l l₁ l₂ p c h i e f =
    written l (encoded c p) (payload_ground p) (3 + length p) l₂ (payload-good p h) (omega (arith, length-packet c p)) i (packet-put l l₁ l₂ c p (omega arith) e f)

-- ---- a letter alone

pub letter-done : (r : Written) (l m : List ℕ) (c : ℕ) → Writes r l m (payload_ground []) 0 (encoded c []) → Writes r l m 0 0 (encoded c [])
letter-done r l m c w = rw (payload-good [] (omega arith)) at w

-- ---- a number field

pub length-field : (n : ℕ) → length (number_field n) ≡ 20
unfolding number_field
length-field n =
    let k = number_field_size - length (digits n) in
    omega (arith, length_digits n, length-append (replicate k space) (digits n), length-replicate k space)

-- ---- login accepted: b is whether its session is good

module _ (s : List ℕ) (n : ℕ) (b : Bool) (e : b ≡ good_session false s) where
  accepted_session : b ≡ false → accepted_ground s n ≡ 46
  unfolding accepted_ground
  accepted_session f = rw (← e, f) refl

  accepted-zero : eqb n 0 ≡ true → accepted_ground s n ≡ 46
  unfolding accepted_ground
  accepted-zero z = rw z (go (good_session false s))
    where
      go : (t : Bool) → ◌≡◌ {A = ℕ} (if t then 46 else 46) 46
      go true = refl
      go false = refl

  pub accepted-good : b ≡ true → eqb n 0 ≡ false → accepted_ground s n ≡ 0
  unfolding accepted_ground
  accepted-good f z = rw (← e, f, z) refl

  module _ (l bs : List ℕ) where
    pub accepted-no-session : b ≡ false → Writes (Err (record { number = 46 })) l l (accepted_ground s n) 0 bs
    accepted-no-session f = not_written l bs (accepted_ground s n) 46 (accepted_session f) (omega arith)

    pub accepted-no-number : (z : Bool) → z ≡ eqb n 0 → z ≡ true → Writes (Err (record { number = 46 })) l l (accepted_ground s n) 0 bs
    accepted-no-number z d f = not_written l bs (accepted_ground s n) 46 (accepted-zero (sym d ∙ f)) (omega arith)

pub length-accepted : (s : List ℕ) (n : ℕ) → length s ≡ 10 → length (accepted_payload s n) ≡ 30
unfolding accepted_payload
length-accepted s n ten = omega (arith, length-append s (number_field n), length-field n)

length-A : (s : List ℕ) (n : ℕ) → length s ≡ 10 → length (encoded 65 (accepted_payload s n)) ≡ 33
length-A s n ten = omega (arith, length-packet 65 (accepted_payload s n), length-accepted s n ten)

pub accepted-short : (l t : List ℕ) (n : ℕ) (s : Result ⊤ Refusal) (w : Written) (x : Refusal) → length t ≡ 10 → accepted_ground t n ≡ 0
    → s ≡ refused_by (if leb (0 + 33) (length l) then 0 else output_short) → s ≡ Err x → w ≡ Err x
    → Writes w l l (accepted_ground t n) 0 (encoded 65 (accepted_payload t n))
accepted-short l t n s w x ten g = no_room l (encoded 65 (accepted_payload t n)) (accepted_ground t n) 33 s w x g (omega (arith, length-A t n ten))

accepted-put : (l l₁ l₂ l₃ s : List ℕ) (n : ℕ) → length s ≡ 10 → 33 ≤ length l → l₁ ≡ put l 0 (head_bytes 65 30) → l₂ ≡ put l₁ 3 s
    → l₃ ≡ put l₂ 13 (number_field n) → l₃ ≡ put l 0 (encoded 65 (accepted_payload s n))
unfolding encoded accepted_payload
accepted-put l l₁ l₂ l₃ s n ten h e f g =
    let k = length-field n in
    let q = length-head 65 30 in
    let j : length (s ++ number_field n) ≡ 30 = omega (arith, length-append s (number_field n)) in
    let a : l₂ ≡ put l 0 (head_bytes 65 30 ++ s) = laid_on l l₁ l₂ (head_bytes 65 30) s 3 q (omega arith) e f in
    let b : l₃ ≡ put l 0 ((head_bytes 65 30 ++ s) ++ number_field n) =
    laid_on l l₂ l₃ (head_bytes 65 30 ++ s) (number_field n) 13 (omega (arith, length-append (head_bytes 65 30) s)) (omega arith) a g in
    rw (j, ← append_assoc (head_bytes 65 30) s (number_field n)) b

pub accepted-done : (l l₁ l₂ l₃ s : List ℕ) (n : ℕ) → length s ≡ 10 → accepted_ground s n ≡ 0 → 33 ≤ length l
    → l₁ ≡ put l 0 (head_bytes 65 30) → l₂ ≡ put l₁ 3 s → l₃ ≡ put l₂ 13 (number_field n)
    → Writes (Ok 33) l l₃ (accepted_ground s n) 0 (encoded 65 (accepted_payload s n))
accepted-done l l₁ l₂ l₃ s n ten g h p q r =
    written l (encoded 65 (accepted_payload s n)) (accepted_ground s n) 33 l₃ g (length-A s n ten) h
    (accepted-put l l₁ l₂ l₃ s n ten h p q r)

-- ---- login rejected: b is its reason, t whether it is one

reason-bad : (b : ℕ) → good_reason b ≡ false → reason_ground b ≡ 46
unfolding reason_ground
reason-bad b e = rw e

reason-good : (b : ℕ) → good_reason b ≡ true → reason_ground b ≡ 0
unfolding reason_ground
reason-good b e = rw e

pub reason-refused : (l bs : List ℕ) (b : ℕ) (t : Bool) → t ≡ good_reason b → t ≡ false
    → Writes (Err (record { number = 46 })) l l (reason_ground b) 0 bs
reason-refused l bs b t e f = not_written l bs (reason_ground b) 46 (reason-bad b (sym e ∙ f)) (omega arith)

pub reason-done : (r : Written) (l m bs : List ℕ) (b : ℕ) (t : Bool) → t ≡ good_reason b → t ≡ true
    → Writes r l m (payload_ground (b ∷ [])) 0 bs → Writes r l m (reason_ground b) 0 bs
reason-done r l m bs b t e f w =
    let y : payload_ground (b ∷ []) ≡ 0 = payload-good (b ∷ []) (omega arith) in
    rw (reason-good b (sym e ∙ f)) (rw y at w)

-- ---- login request: u is its username, w its password, b whether all three are good

pub login-no-username : (u w s : List ℕ) (b : Bool) → b ≡ sound 1 u → not b ≡ true → false ≡ good_login u w s
unfolding good_login
login-no-username u w s b e f = rw (← e, not-true b f)

pub login-no-password : (u w s : List ℕ) (b d : Bool) → b ≡ sound 1 u → not b ≡ false → d ≡ sound 1 w → not d ≡ true → false ≡ good_login u w s
unfolding good_login
login-no-password u w s b d e f g h = rw (← e, not-false b f, ← g, not-true d h)

pub login_session : (u w s : List ℕ) (b d r : Bool) → b ≡ sound 1 u → not b ≡ false → d ≡ sound 1 w → not d ≡ false → r ≡ good_session true s
    → r ≡ good_login u w s
unfolding good_login
login_session u w s b d r e f g h i = rw (← e, not-false b f, ← g, not-false d h) i

login-bad : (u w s : List ℕ) (b : Bool) → b ≡ good_login u w s → b ≡ false → login_ground u w s ≡ 46
unfolding login_ground
login-bad u w s b e f = rw (← e, f) refl

pub login-good : (u w s : List ℕ) (b : Bool) → b ≡ good_login u w s → b ≡ true → login_ground u w s ≡ 0
unfolding login_ground
login-good u w s b e f = rw (← e, f) refl

pub login-refused : (l bs u w s : List ℕ) (b : Bool) → b ≡ good_login u w s → b ≡ false
    → Writes (Err (record { number = 46 })) l l (login_ground u w s) 0 bs
login-refused l bs u w s b e f = not_written l bs (login_ground u w s) 46 (login-bad u w s b e f) (omega arith)

pub length-login : (u w s : List ℕ) (n : ℕ) → length u ≡ 6 → length w ≡ 10 → length s ≡ 10 → length (login_payload u w s n) ≡ 46
unfolding login_payload
length-login u w s n six ten ten' =
    omega (arith, length-append ((u ++ w) ++ s) (number_field n), length-append (u ++ w) s, length-append u w, length-field n)

length-L : (u w s : List ℕ) (n : ℕ) → length u ≡ 6 → length w ≡ 10 → length s ≡ 10 → length (encoded 76 (login_payload u w s n)) ≡ 49
length-L u w s n six ten ten' = omega (arith, length-packet 76 (login_payload u w s n), length-login u w s n six ten ten')

pub login-short : (l u w s : List ℕ) (n : ℕ) (t : Result ⊤ Refusal) (a : Written) (x : Refusal) → length u ≡ 6 → length w ≡ 10 → length s ≡ 10
    → login_ground u w s ≡ 0 → t ≡ refused_by (if leb (0 + 49) (length l) then 0 else output_short) → t ≡ Err x → a ≡ Err x
    → Writes a l l (login_ground u w s) 0 (encoded 76 (login_payload u w s n))
login-short l u w s n t a x six ten ten' g =
    no_room l (encoded 76 (login_payload u w s n)) (login_ground u w s) 49 t a x g (omega (arith, length-L u w s n six ten ten'))

-- the three names laid behind the head
pub names-put : (l l₁ l₂ l₃ u w s : List ℕ) → length u ≡ 6 → length w ≡ 10 → length s ≡ 10 → 29 ≤ length l
    → l₁ ≡ put l 3 u → l₂ ≡ put l₁ 9 w → l₃ ≡ put l₂ 19 s → l₃ ≡ put l 3 (u ++ w ++ s)
names-put l l₁ l₂ l₃ u w s six ten ten' h e f g =
    let k : 3 + length u ≡ 9 = omega arith in
    let a : put (put l 3 u) 9 w ≡ put l 3 (u ++ w) = rw k at (put-put l 3 u w (omega arith)) in
    let j : 3 + length (u ++ w) ≡ 19 = omega (arith, length-append u w) in
    let b : put (put l 3 (u ++ w)) 19 s ≡ put l 3 (u ++ w ++ s) = rw j at (put-put l 3 (u ++ w) s (omega (arith, length-append u w))) in
    rw (g, f, e, a) b

login-put : (l l₁ l₂ l₃ u w s : List ℕ) (n : ℕ) → length u ≡ 6 → length w ≡ 10 → length s ≡ 10 → 49 ≤ length l
    → l₁ ≡ put l 0 (head_bytes 76 46) → l₂ ≡ put l₁ 3 (u ++ w ++ s) → l₃ ≡ put l₂ 29 (number_field n) → l₃ ≡ put l 0 (encoded 76 (login_payload u w s n))
unfolding encoded login_payload
login-put l l₁ l₂ l₃ u w s n six ten ten' h e f g =
    let k = length-field n in
    let q = length-head 76 46 in
    let m : length (u ++ w ++ s) ≡ 26 = omega (arith, length-append (u ++ w) s, length-append u w) in
    let j : length (u ++ w ++ s ++ number_field n) ≡ 46 = omega (arith, length-append (u ++ w ++ s) (number_field n)) in
    let a : l₂ ≡ put l 0 (head_bytes 76 46 ++ (u ++ w ++ s)) = laid_on l l₁ l₂ (head_bytes 76 46) (u ++ w ++ s) 3 q (omega arith) e f in
    let b : l₃ ≡ put l 0 ((head_bytes 76 46 ++ (u ++ w ++ s)) ++ number_field n) =
    laid_on l l₂ l₃ (head_bytes 76 46 ++ (u ++ w ++ s)) (number_field n) 29 (omega (arith, length-append (head_bytes 76 46) (u ++ w ++ s)))
    (omega arith) a g in
    rw (j, ← append_assoc (head_bytes 76 46) (u ++ w ++ s) (number_field n)) b

pub login-done : (l l₁ l₂ l₃ u w s : List ℕ) (n : ℕ) → length u ≡ 6 → length w ≡ 10 → length s ≡ 10 → login_ground u w s ≡ 0
    → 49 ≤ length l → l₁ ≡ put l 0 (head_bytes 76 46) → l₂ ≡ put l₁ 3 (u ++ w ++ s) → l₃ ≡ put l₂ 29 (number_field n)
    → Writes (Ok 49) l l₃ (login_ground u w s) 0 (encoded 76 (login_payload u w s n))
login-done l l₁ l₂ l₃ u w s n six ten ten' g h p q r =
    written l (encoded 76 (login_payload u w s n)) (login_ground u w s) 49 l₃ g (length-L u w s n six ten ten') h
    (login-put l l₁ l₂ l₃ u w s n six ten ten' h p q r)
