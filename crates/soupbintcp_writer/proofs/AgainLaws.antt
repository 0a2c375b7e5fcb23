-- What is read is what is written of its parts: l is a stream with a packet of kind k, of this size and with the values vs, in front.
use mathlib.Core.Path.{◌≡◌, refl, ap, sym, ◌∙◌}
use mathlib.Core.List.{List, [], ◌∷◌, ◌++◌}
use mathlib.Core.Bool.{Bool, true, false, ◌&&◌}
use Prim.Native.Nat.{ℕ, ◌+◌, ◌-◌, ◌≤◌}
use native.Mathlib.Omega.{arith}
use lib.ListN.{length, get_or, take, drop, length-drop, take-append-drop, drop_of_length-le}
use lib.Seq.{take-take, take-suc, take-add, drop_at, drop-drop, length-take-le}
use lib.Dec.{ltb, leb}
use borrow.Author.Tests.{le-ltb, leb-true, ne_eqb}
use Rattle.std.specs.Prelude.{if◌then◌else◌}
use Rattle.wire.specs.Bounds.{largest_number}
use Rattle.wire.specs.Words.{Words, answer, says}
use Rattle.wire.specs.Bytes.{bytes, AreBytes}
use Rattle.wire.proofs.Numbers.{bytes-number}
use Rattle.text_fields.specs.Letters.{after_spaces}
use Rattle.text_fields.specs.Session.{good_session}
use Rattle.text_fields.specs.Sound.{sound_username, sound_password}
use Rattle.text_fields.specs.Number.{NumberKind, value, bad, is_number, read_number, number_field, NoLeadingZero}
use Rattle.text_fields.proofs.FieldLaws.{number-laws}
use Rattle.decimal.specs.Decimal.{value_of, are_digits}
use Rattle.soupbintcp.specs.declared.packet.Sender.{Sender}
use Rattle.soupbintcp.specs.declared.packet.Sender.TheVariants.{Server, Client}
use Rattle.soupbintcp.specs.Letters.{PacketKind, accepted, rejected, login, letter_for, most_payload, letter_row, allows}
use Rattle.soupbintcp.specs.Head.{packet_length, letter_of}
use Rattle.soupbintcp.specs.Fields.{FieldsKind, good, bad_field, has_fields, session_at, session_bytes, number_bytes, blank_allowed, least_number_of, with_number, good_reason, reason_fields, fields_at, fields_of}
use Rattle.soupbintcp.specs.Front.{front_of, payload_of, session_of, username_of, password_of}
use Rattle.soupbintcp.specs.Front as front
use Rattle.soupbintcp.proofs.LetterLaws.{allowed-most, allowed-least}
use Rattle.soupbintcp.proofs.HeadLaws.{IsWhole, whole-short}
use Rattle.soupbintcp.proofs.FrontLaws.{IsPacket, said-packet}
use Rattle.soupbintcp.proofs.KindLaws.{bad-never, numbered, its-letter}
use Rattle.soupbintcp.proofs.StableLaws.{said-bytes, said-session, said-login}
use Rattle.soupbintcp_writer.specs.Packets.{head_bytes, encoded, payload_ground, accepted_ground, accepted_payload, reason_ground, good_login, login_ground, login_payload}
use Rattle.soupbintcp_writer.specs.RoundTrips.{WithPayload, LetterAlone, EveryPacketWritesBack, AcceptedFits, LoginFits}

-- ---- the packet is written of its letter and what stands behind the head

head_bytes-read : (l : List ℕ) → AreBytes l → 2 ≤ length l → bytes 2 (packet_length l) ≡ take 2 l
unfolding packet_length
head_bytes-read l small h = bytes-number 2 l small h

head_three : (l : List ℕ) (c : ℕ) → 3 ≤ length l → letter_of l ≡ c → take 2 l ++ (c ∷ []) ≡ take 3 l
unfolding letter_of
head_three l c h e = rw (← e) (sym (take-suc l 2 0 (omega arith)))

module _ (s : Sender) (l : List ℕ) (k : PacketKind) (size : ℕ) (vs : List ℕ) (e : front_of s l ≡ says (front.packet k) (size ∷ vs)) where
  found : IsWhole s l size
  found = (said-packet s l k size vs e).head

  found-again : AreBytes l → encoded (letter_for k) (drop 3 (take size l)) ≡ take size l
  unfolding encoded head_bytes
  found-again small =
      let o = found in
      let a = o.head in
      let b = o.within in
      let z = o.size in
      let t : length (take size l) ≡ size = length-take-le size l b in
      let n : length (drop 3 (take size l)) + 1 ≡ packet_length l = omega (arith, length-drop 3 (take size l)) in
      let f : bytes 2 (packet_length l) ≡ take 2 l = head_bytes-read l small (omega arith) in
      let g : take 2 l ++ (letter_for k ∷ []) ≡ take 3 l = head_three l (letter_for k) (omega arith) (its-letter s l k size vs e) in
      let h : take 3 l ≡ take 3 (take size l) = sym (take-take 3 size l (omega arith)) in
      rw (n, f, g, h) (take-append-drop 3 (take size l))

  front-payload : payload_of s l ≡ drop 3 (take size l)
  unfolding payload_of
  front-payload = ap (drop 3) (said-bytes s l k size vs e)

  payload-written : AreBytes l → encoded (letter_for k) (payload_of s l) ≡ take size l
  payload-written small = rw front-payload (found-again small)

pub every-again : EveryPacketWritesBack
unfolding EveryPacketWritesBack
every-again s l k size vs small e = payload-written s l k size vs e small

-- ---- + S U

pub payload-again : (s : Sender) (k : PacketKind) → WithPayload s k → (l : List ℕ) (size : ℕ) → AreBytes l
    → front_of s l ≡ says (front.packet k) (size ∷ []) → encoded (letter_for k) (payload_of s l) ≡ take size l
payload-again s k t l size small e = payload-written s l k size [] e small

payload-small : (p : List ℕ) → length p ≤ most_payload → payload_ground p ≡ 0
unfolding payload_ground
payload-small p h = rw (le-ltb _ _ h)

pub payload-may : (s : Sender) (k : PacketKind) → WithPayload s k → (l : List ℕ) (size : ℕ)
    → front_of s l ≡ says (front.packet k) (size ∷ []) → payload_ground (payload_of s l) ≡ 0
payload-may s k t l size e =
    let o = found s l k size [] e in
    let m = length-take-le size l o.within in
    rw (front-payload s l k size [] e)
    (payload-small (drop 3 (take size l)) (omega (arith, length-drop 3 (take size l), whole-short s l size o, o.size)))

-- ---- H Z R O

pub letter-again : (s : Sender) (k : PacketKind) → LetterAlone s k → (l : List ℕ) (size : ℕ) → AreBytes l
    → front_of s l ≡ says (front.packet k) (size ∷ []) → encoded (letter_for k) [] ≡ take size l
letter-again s k t l size small e =
    let o = found s l k size [] e in
    let a = allowed-most (letter_of l) (packet_length l - 1) o.allowed in
    let n : packet_length l - 1 ≤ 0 = rw (its-letter s l k size [] e, t.most) at a in
    let h : drop 3 (take size l) ≡ [] = drop_of_length-le (take size l) {i = 3} (omega (arith, length-take-le size l o.within, o.size)) in
    rw h at (found-again s l k size [] e small)

-- ---- J

rejected-one : (j : ℕ) → allows 74 j ≡ true → j ≡ 1
unfolding letter_row
rejected-one j e = omega (arith, allowed-least 74 j e, allowed-most 74 j e)

record Reason (b : ℕ) (vs : List ℕ) : Type 0 where
  its-value : vs ≡ b ∷ []
  reason-good : reason_ground b ≡ 0

reason-so : (b : ℕ) → (reason_fields b).which ≡ answer (good rejected) → Reason b (reason_fields b).values
unfolding reason_fields reason_ground
reason-so b = go (good_reason b) refl
  where
    go : (t : Bool) → good_reason b ≡ t → (if t then says (good rejected) (b ∷ []) else says bad_field []).which ≡ answer (good rejected)
        → Reason b (if t then says (good rejected) (b ∷ []) else says bad_field []).values
    go true f e = record { its-value = refl; reason-good = rw f }
    go false f e = absurd (bad-never rejected e)

rejected-fields : (l : List ℕ) → letter_of l ≡ 74 → fields_of l ≡ reason_fields (get_or l 3 0)
unfolding fields_of fields_at has_fields
rejected-fields l e = rw e

module _ (l : List ℕ) (size b : ℕ) (e : front_of Server l ≡ says (front.packet rejected) (size ∷ b ∷ [])) where
  rejected-found : IsPacket Server l rejected size (b ∷ [])
  rejected-found = said-packet Server l rejected size (b ∷ []) e

  rejected-letter : letter_of l ≡ 74
  unfolding letter_for
  rejected-letter = its-letter Server l rejected size (b ∷ []) e

  rejected-reason : Reason (get_or l 3 0) (b ∷ [])
  rejected-reason =
      let o = rejected-found in
      let f = rejected-fields l rejected-letter in
      let r = reason-so (get_or l 3 0) (sym (ap (λ (w : Words FieldsKind). w.which) f) ∙ o.kind) in
      let v : b ∷ [] ≡ (reason_fields (get_or l 3 0)).values = sym o.values ∙ ap (λ (w : Words FieldsKind). w.values) f in
      rw v r

  rejected-value : b ≡ get_or l 3 0
  rejected-value = let v = rejected-reason.its-value in cc

  pub rejected-may : reason_ground b ≡ 0
  rejected-may = rw rejected-value rejected-reason.reason-good

  pub rejected-again : AreBytes l → encoded 74 (b ∷ []) ≡ take size l
  unfolding letter_for
  rejected-again small =
      let o = rejected-found.head in
      let n = rejected-one (packet_length l - 1) (rw rejected-letter at o.allowed) in
      let z : size ≡ 4 = omega (arith, o.size, o.head) in
      let t : 4 ≤ length l = omega (arith, o.within) in
      let p : take 4 l ≡ take 3 l ++ (get_or l 3 0 ∷ []) = take-suc l 3 0 (omega arith) in
      let d : drop 3 (take size l) ≡ b ∷ [] =
      rw (z, p, rejected-value) (drop_at (take 3 l) (get_or l 3 0 ∷ []) 3 (length-take-le 3 l (omega arith))) in
      rw d at (found-again Server l rejected size (b ∷ []) e small)

-- ---- a session and a number: c is the letter

record NumberSaid (least : ℕ) (w : Words NumberKind) : Type 0 where
  said : w ≡ says value (get_or w.values 0 0 ∷ [])
  enough : least ≤ get_or w.values 0 0
  fits : get_or w.values 0 0 ≤ largest_number

number_small : (t : List ℕ) → is_number t ≡ true → value_of t ≤ largest_number
unfolding is_number
number_small t = go (ltb 0 (length t)) (are_digits t) (leb (value_of t) largest_number) refl
  where
    go : (a b c : Bool) → leb (value_of t) largest_number ≡ c → a && b && c ≡ true → value_of t ≤ largest_number
    go true true true e f = leb-true _ _ e
    go true true false e f = let z : ◌≡◌ {A = ℕ} 0 1 = cc in absurd (omega arith)
    go true false c e f = let z : ◌≡◌ {A = ℕ} 0 1 = cc in absurd (omega arith)
    go false b c e f = let z : ◌≡◌ {A = ℕ} 0 1 = cc in absurd (omega arith)

number-said : (least : ℕ) (l : List ℕ) → (read_number least l).which ≡ answer value → NumberSaid least (read_number least l)
unfolding read_number
number-said least l = go (is_number (after_spaces l)) (leb least v) refl refl
  where
    v : ℕ
    v = value_of (after_spaces l)

    go : (x y : Bool) → is_number (after_spaces l) ≡ x → leb least v ≡ y → (if x && y then says value (v ∷ []) else says bad []).which ≡ answer value
        → NumberSaid least (if x && y then says value (v ∷ []) else says bad [])
    go true true g f e = record { said = refl; enough = leb-true _ _ f; fits = number_small (after_spaces l) g }
    go true false g f e = let z : ◌≡◌ {A = ℕ} 0 1 = cc in absurd (omega arith)
    go false y g f e = let z : ◌≡◌ {A = ℕ} 0 1 = cc in absurd (omega arith)

numbered-at : (l : List ℕ) (c : ℕ) → letter_of l ≡ c → has_fields c ≡ true
    → fields_of l ≡ with_number c (good_session (blank_allowed c) (session_bytes c l)) (read_number (least_number_of c) (number_bytes c l))
unfolding fields_of fields_at
numbered-at l c e f = rw (e, f)

record NumberFound (c : ℕ) (l : List ℕ) (n : ℕ) : Type 0 where
  session-good : good_session (blank_allowed c) (session_bytes c l) ≡ true
  number_read : read_number (least_number_of c) (number_bytes c l) ≡ says value (n ∷ [])
  enough : least_number_of c ≤ n
  fits : n ≤ largest_number

number-found : (s : Sender) (l : List ℕ) (k : PacketKind) (size n : ℕ) → IsPacket s l k size (n ∷ []) → (c : ℕ) → letter_of l ≡ c → has_fields c ≡ true
    → NumberFound c l n
number-found s l k size n o c e h =
    let w = read_number (least_number_of c) (number_bytes c l) in
    let f = numbered-at l c e h in
    let x = numbered c (good_session (blank_allowed c) (session_bytes c l)) w k (sym (ap (λ (y : Words FieldsKind). y.which) f) ∙ o.kind) in
    let v : n ∷ [] ≡ get_or w.values 0 0 ∷ [] = sym o.values ∙ ap (λ (y : Words FieldsKind). y.values) f ∙ x.its_number in
    let q : n ≡ get_or w.values 0 0 = cc in
    let r = number-said (least_number_of c) (number_bytes c l) x.number-good in
    record { session-good = x.session-good; number_read = r.said ∙ ap (λ (j : ℕ). says value (j ∷ [])) (sym q); enough = rw q r.enough; fits = rw q r.fits }

-- what stands behind the head, in front of the first m + 3 elements
behind-head : (l : List ℕ) (m : ℕ) → 3 + m ≤ length l → drop 3 (take (3 + m) l) ≡ take m (drop 3 l)
behind-head l m h = rw (take-add 3 m l) (drop_at (take 3 l) (take m (drop 3 l)) 3 (length-take-le 3 l (omega arith)))

two-parts : (l : List ℕ) (a b i : ℕ) → take (a + b) (drop i l) ≡ take a (drop i l) ++ take b (drop (i + a) l)
two-parts l a b i = take-add a b (drop i l) ∙ ap (λ (m : List ℕ). take a (drop i l) ++ take b m) (drop-drop a i l)

-- ---- A

accepted-exact : (j : ℕ) → allows 65 j ≡ true → j ≡ 30
unfolding letter_row
accepted-exact j e = omega (arith, allowed-least 65 j e, allowed-most 65 j e)

accepted-least : (n : ℕ) → least_number_of 65 ≤ n → 1 ≤ n
unfolding least_number_of
accepted-least n h = h

accepted-has : has_fields 65 ≡ true
unfolding has_fields
accepted-has = refl

accepted-at : (l : List ℕ) → session_bytes 65 l ≡ take 10 (drop 3 l)
unfolding session_bytes has_fields session_at
accepted-at l = refl

accepted-number-at : (l : List ℕ) → number_bytes 65 l ≡ take 20 (drop 13 l)
unfolding number_bytes has_fields session_at
accepted-number-at l = refl

accepted-good : (s : List ℕ) (n : ℕ) → good_session (blank_allowed 65) s ≡ true → 1 ≤ n → accepted_ground s n ≡ 0
unfolding accepted_ground blank_allowed
accepted-good s n g h =
    let z : n ≡ 0 → ⊥ = λ (e : n ≡ 0). omega arith in
    rw (g, ne_eqb _ _ z)

module _ (l : List ℕ) (size n : ℕ) (e : front_of Server l ≡ says (front.packet accepted) (size ∷ n ∷ [])) where
  accepted-found : IsPacket Server l accepted size (n ∷ [])
  accepted-found = said-packet Server l accepted size (n ∷ []) e

  accepted-letter : letter_of l ≡ 65
  unfolding letter_for
  accepted-letter = its-letter Server l accepted size (n ∷ []) e

  accepted-size : size ≡ 33
  accepted-size =
      let o = accepted-found.head in
      let j = accepted-exact (packet_length l - 1) (rw accepted-letter at o.allowed) in
      omega (arith, o.size, o.head)

  accepted-there : 33 ≤ length l
  accepted-there = omega (arith, accepted-size, accepted-found.head.within)

  accepted-fields : NumberFound 65 l n
  accepted-fields = number-found Server l accepted size n accepted-found 65 accepted-letter accepted-has

  accepted_session : session_of Server l ≡ take 10 (drop 3 l)
  accepted_session = said-session Server l accepted size (n ∷ []) e ∙ ap (λ (c : ℕ). session_bytes c l) accepted-letter ∙ accepted-at l

  pub accepted-may : AcceptedFits l n
  accepted-may =
      let f = accepted-fields in
      record {
        size_of_session = ap length accepted_session ∙ length-take-le 10 (drop 3 l) (omega (arith, accepted-there, length-drop 3 l));
        number_fits = f.fits;
        no_ground = rw (accepted_session, ← accepted-at l) (accepted-good (session_bytes 65 l) n f.session-good (accepted-least n f.enough));
      }

  accepted-behind : drop 3 (take size l) ≡ take 10 (drop 3 l) ++ take 20 (drop 13 l)
  accepted-behind = rw accepted-size (behind-head l 30 accepted-there ∙ two-parts l 10 20 3)

  accepted-number : NoLeadingZero (number_bytes 65 l) → number_field n ≡ take 20 (drop 13 l)
  accepted-number z =
      let t : length (number_bytes 65 l) ≡ 20 =
      ap length (accepted-number-at l) ∙ length-take-le 20 (drop 13 l) (omega (arith, accepted-there, length-drop 13 l)) in
      number-laws.writes_back (number_bytes 65 l) n (least_number_of 65) t accepted-fields.number_read z ∙ accepted-number-at l

  accepted-payload : NoLeadingZero (number_bytes 65 l) → accepted_payload (session_of Server l) n ≡ drop 3 (take size l)
  unfolding accepted_payload
  accepted-payload z = rw (accepted_session, accepted-number z, accepted-behind)

  pub accepted-again : AreBytes l → NoLeadingZero (number_bytes 65 l) → encoded 65 (accepted_payload (session_of Server l) n) ≡ take size l
  unfolding letter_for
  accepted-again small z = ap (encoded 65) (accepted-payload z) ∙ found-again Server l accepted size (n ∷ []) e small

-- ---- L

login-exact : (j : ℕ) → allows 76 j ≡ true → j ≡ 46
unfolding letter_row
login-exact j e = omega (arith, allowed-least 76 j e, allowed-most 76 j e)

login-has : has_fields 76 ≡ true
unfolding has_fields
login-has = refl

login-at : (l : List ℕ) → session_bytes 76 l ≡ take 10 (drop 19 l)
unfolding session_bytes has_fields session_at
login-at l = refl

login-number-at : (l : List ℕ) → number_bytes 76 l ≡ take 20 (drop 29 l)
unfolding number_bytes has_fields session_at
login-number-at l = refl

login-good : (u w s : List ℕ) → sound_username u ≡ true → sound_password w ≡ true → good_session (blank_allowed 76) s ≡ true → login_ground u w s ≡ 0
unfolding login_ground good_login blank_allowed
login-good u w s a b d = rw (a, b, d)

module _ (l : List ℕ) (size n : ℕ) (e : front_of Client l ≡ says (front.packet login) (size ∷ n ∷ [])) where
  login-found : IsPacket Client l login size (n ∷ [])
  login-found = said-packet Client l login size (n ∷ []) e

  login-letter : letter_of l ≡ 76
  unfolding letter_for
  login-letter = its-letter Client l login size (n ∷ []) e

  login-size : size ≡ 49
  login-size =
      let o = login-found.head in
      let j = login-exact (packet_length l - 1) (rw login-letter at o.allowed) in
      omega (arith, o.size, o.head)

  login-there : 49 ≤ length l
  login-there = omega (arith, login-size, login-found.head.within)

  login-fields : NumberFound 76 l n
  login-fields = number-found Client l login size n login-found 76 login-letter login-has

  login_session : session_of Client l ≡ take 10 (drop 19 l)
  login_session = said-session Client l login size (n ∷ []) e ∙ ap (λ (c : ℕ). session_bytes c l) login-letter ∙ login-at l

  login_username : username_of Client l ≡ take 6 (drop 3 l)
  unfolding username_of
  login_username = said-login Client l login size (n ∷ []) e 3 6 login-letter (omega arith)

  login_password : password_of Client l ≡ take 10 (drop 9 l)
  unfolding password_of
  login_password = said-login Client l login size (n ∷ []) e 9 10 login-letter (omega arith)

  pub login-may : sound_username (username_of Client l) ≡ true → sound_password (password_of Client l) ≡ true → LoginFits l n
  login-may a b =
      let h = login-there in
      let d : good_session (blank_allowed 76) (session_of Client l) ≡ true = rw (login_session, ← login-at l) login-fields.session-good in
      record {
        size_of_username = ap length login_username ∙ length-take-le 6 (drop 3 l) (omega (arith, length-drop 3 l));
        size_of_password = ap length login_password ∙ length-take-le 10 (drop 9 l) (omega (arith, length-drop 9 l));
        size_of_session = ap length login_session ∙ length-take-le 10 (drop 19 l) (omega (arith, length-drop 19 l));
        number_fits = login-fields.fits;
        no_ground = login-good (username_of Client l) (password_of Client l) (session_of Client l) a b d;
      }

  login-behind : drop 3 (take size l) ≡ take 6 (drop 3 l) ++ take 10 (drop 9 l) ++ take 10 (drop 19 l) ++ take 20 (drop 29 l)
  login-behind =
      let a : take 16 (drop 3 l) ≡ take 6 (drop 3 l) ++ take 10 (drop 9 l) = two-parts l 6 10 3 in
      let b : take 26 (drop 3 l) ≡ take 16 (drop 3 l) ++ take 10 (drop 19 l) = two-parts l 16 10 3 in
      let c : take 46 (drop 3 l) ≡ take 26 (drop 3 l) ++ take 20 (drop 29 l) = two-parts l 26 20 3 in
      rw login-size (behind-head l 46 login-there ∙ rw (c, b, a))

  login-number : NoLeadingZero (number_bytes 76 l) → number_field n ≡ take 20 (drop 29 l)
  login-number z =
      let t : length (number_bytes 76 l) ≡ 20 =
      ap length (login-number-at l) ∙ length-take-le 20 (drop 29 l) (omega (arith, login-there, length-drop 29 l)) in
      number-laws.writes_back (number_bytes 76 l) n (least_number_of 76) t login-fields.number_read z ∙ login-number-at l

  login-payload : NoLeadingZero (number_bytes 76 l)
      → login_payload (username_of Client l) (password_of Client l) (session_of Client l) n ≡ drop 3 (take size l)
  unfolding login_payload
  login-payload z = rw (login_username, login_password, login_session, login-number z, login-behind)

  pub login-again : AreBytes l → NoLeadingZero (number_bytes 76 l)
      → encoded 76 (login_payload (username_of Client l) (password_of Client l) (session_of Client l) n) ≡ take size l
  unfolding letter_for
  login-again small z = ap (encoded 76) (login-payload z) ∙ found-again Client l login size (n ∷ []) e small
