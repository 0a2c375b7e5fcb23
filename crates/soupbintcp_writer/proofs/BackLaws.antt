-- What is written reads back, whatever follows it: s is the sender, c the letter, p the payload.
use mathlib.Core.Path.{◌≡◌, refl, ap, sym, ◌∙◌}
use mathlib.Core.List.{List, [], ◌∷◌, ◌++◌, append_assoc, append-nil}
use mathlib.Core.Bool.{Bool, true, false}
use Prim.Native.Nat.{ℕ, ◌+◌, ◌-◌, ◌≤◌}
use native.Mathlib.Omega.{arith}
use lib.ListN.{length, get_or, take, drop, length-append}
use lib.Seq.{get_or_at, take_at, drop_at, drop-drop}
use lib.Dec.{ltb, eqb}
use borrow.Author.Tests.{le-leb, le-ltb, ltb-false, eqb-false}
use Rattle.std.specs.Prelude.{if◌then◌else◌}
use Rattle.wire.specs.Refusals.{payload_long}
use Rattle.wire.specs.Words.{says}
use Rattle.wire.specs.Bytes.{bytes}
use Rattle.wire.proofs.Numbers.{length-bytes, number-bytes}
use Rattle.text_fields.specs.Session.{good_session}
use Rattle.text_fields.specs.Sound.{sound}
use Rattle.text_fields.specs.Number.{value, read_number, number_field}
use Rattle.text_fields.proofs.FieldLaws.{number-laws}
use Rattle.soupbintcp.specs.declared.packet.Sender.{Sender}
use Rattle.soupbintcp.specs.declared.packet.Sender.TheVariants.{Server, Client}
use Rattle.soupbintcp.specs.Letters.{PacketKind, debug, accepted, rejected, sequenced, server_heartbeat, end_of_session, login, unsequenced, client_heartbeat, logout, letter_rejected, letter_for, most_payload, letter_row, sends, allows, plain_of}
use Rattle.soupbintcp.specs.Head.{packet_length, letter_of}
use Rattle.soupbintcp.specs.Fields.{good, bad_field, has_fields, session_at, session_bytes, number_bytes, blank_allowed, least_number_of, numbered_of, number_fields, with_number, good_reason, reason_fields, fields_at, fields_of}
use Rattle.soupbintcp.specs.Front.{front_of, packet_bytes, payload_of, session_of, login_part, username_of, password_of}
use Rattle.soupbintcp.specs.Front as front
use Rattle.soupbintcp.proofs.LetterLaws.{allowed-small}
use Rattle.soupbintcp.proofs.HeadLaws.{IsWhole}
use Rattle.soupbintcp.proofs.FrontLaws.{packet-so}
use Rattle.soupbintcp.proofs.StableLaws.{said-bytes}
use Rattle.soupbintcp_writer.specs.Packets.{head_bytes, encoded, payload_ground, accepted_ground, accepted_payload, reason_ground, good_login, login_ground, login_payload}
use Rattle.soupbintcp_writer.specs.RoundTrips.{PayloadUpTo, WithPayload, LetterAlone, ReadsAs, AcceptedReads, LoginReads}
use Rattle.soupbintcp_writer.proofs.WriteLaws.{length-head, length-packet, length-field, length-accepted, length-login}

-- ---- what is sent

module _ (c : ℕ) (p rest : List ℕ) where
  as-sent : encoded c p ++ rest ≡ bytes 2 (length p + 1) ++ (c ∷ (p ++ rest))
  unfolding encoded head_bytes
  as-sent = simp append_assoc

  sent-size : length (encoded c p ++ rest) ≡ length p + 3 + length rest
  sent-size = omega (arith, length-append (encoded c p) rest, length-packet c p)

  sent-length : length p ≤ most_payload → packet_length (encoded c p ++ rest) ≡ length p + 1
  unfolding packet_length
  sent-length h = rw as-sent (number-bytes 2 (length p + 1) (omega arith) [] (c ∷ (p ++ rest)))

  sent-letter : letter_of (encoded c p ++ rest) ≡ c
  unfolding letter_of
  sent-letter = rw as-sent (get_or_at (bytes 2 (length p + 1)) c (p ++ rest) 0 2 (length-bytes 2 (length p + 1)))

  sent-behind : drop 3 (encoded c p ++ rest) ≡ p ++ rest
  unfolding encoded
  sent-behind = rw (append_assoc (head_bytes c (length p)) p rest) (drop_at (head_bytes c (length p)) (p ++ rest) 3 (length-head c (length p)))

  sent-whole : (s : Sender) → sends s c ≡ true → allows c (length p) ≡ true → IsWhole s (encoded c p ++ rest) (length p + 3)
  sent-whole s f g =
      let e = sent-letter in
      let n = sent-length (allowed-small c (length p) g) in
      let d : packet_length (encoded c p ++ rest) - 1 ≡ length p = omega arith in
      record {
        size = omega arith;
        within = omega (arith, sent-size);
        head = omega arith;
        some = λ (z : packet_length (encoded c p ++ rest) ≡ 0). omega arith;
        sent = rw e f;
        allowed = rw (e, d) g;
      }

  sent-bytes : (s : Sender) (k : PacketKind) (vs : List ℕ) → front_of s (encoded c p ++ rest) ≡ says (front.packet k) ((length p + 3) ∷ vs)
      → packet_bytes s (encoded c p ++ rest) ≡ encoded c p
  sent-bytes s k vs e =
      said-bytes s (encoded c p ++ rest) k (length p + 3) vs e ∙ take_at (encoded c p) rest (length p + 3) (length-packet c p)

  sent-payload : (s : Sender) (k : PacketKind) (vs : List ℕ) → front_of s (encoded c p ++ rest) ≡ says (front.packet k) ((length p + 3) ∷ vs)
      → payload_of s (encoded c p ++ rest) ≡ p
  unfolding payload_of encoded
  sent-payload s k vs e = ap (drop 3) (sent-bytes s k vs e) ∙ drop_at (head_bytes c (length p)) p 3 (length-head c (length p))

  -- by what its fields make
  sent_front : (s : Sender) (k : PacketKind) (vs : List ℕ) → sends s c ≡ true → allows c (length p) ≡ true
      → fields_of (encoded c p ++ rest) ≡ says (good k) vs → front_of s (encoded c p ++ rest) ≡ says (front.packet k) ((length p + 3) ∷ vs)
  sent_front s k vs f g e = packet-so s (encoded c p ++ rest) k (length p + 3) vs (sent-whole s f g) e

  sent-reads : (s : Sender) (k : PacketKind) (vs : List ℕ) → sends s c ≡ true → allows c (length p) ≡ true
      → fields_of (encoded c p ++ rest) ≡ says (good k) vs → ReadsAs s (encoded c p ++ rest) k ((length p + 3) ∷ vs) p
  sent-reads s k vs f g e = let x = sent_front s k vs f g e in record { front = x; its_payload = sent-payload s k vs x }

-- ---- letters that say all: a payload that may be empty has no field that must be there

record SaysAll (k : PacketKind) : Type 0 where
  no_fields : has_fields (letter_for k) ≡ false
  no-reason : eqb (letter_for k) letter_rejected ≡ false
  kind : plain_of (letter_for k) ≡ k

says_all : (k : PacketKind) → (letter_row (letter_for k)).least ≡ 0 → SaysAll k
unfolding letter_row letter_for has_fields plain_of
says_all debug e = record { no_fields = refl; no-reason = refl; kind = refl }
says_all accepted e = absurd (omega arith)
says_all rejected e = absurd (omega arith)
says_all sequenced e = record { no_fields = refl; no-reason = refl; kind = refl }
says_all server_heartbeat e = record { no_fields = refl; no-reason = refl; kind = refl }
says_all end_of_session e = record { no_fields = refl; no-reason = refl; kind = refl }
says_all login e = absurd (omega arith)
says_all unsequenced e = record { no_fields = refl; no-reason = refl; kind = refl }
says_all client_heartbeat e = record { no_fields = refl; no-reason = refl; kind = refl }
says_all logout e = record { no_fields = refl; no-reason = refl; kind = refl }

plain-fields : (l : List ℕ) (c : ℕ) → letter_of l ≡ c → has_fields c ≡ false → eqb c letter_rejected ≡ false → fields_of l ≡ says (good (plain_of c)) []
unfolding fields_of fields_at
plain-fields l c e f g = rw (e, f, g)

module _ (s : Sender) (k : PacketKind) (n : ℕ) (t : PayloadUpTo s k n) where
  up-to-allows : (j : ℕ) → j ≤ n → allows (letter_for k) j ≡ true
  unfolding allows
  up-to-allows j h = let z : 0 ≤ j = omega arith in rw (t.least, t.most, le-ltb _ _ z) (le-leb _ _ h)

  plain-reads : (p rest : List ℕ) → length p ≤ n → ReadsAs s (encoded (letter_for k) p ++ rest) k ((length p + 3) ∷ []) p
  plain-reads p rest h =
      let a = says_all k t.least in
      let f = plain-fields (encoded (letter_for k) p ++ rest) (letter_for k) (sent-letter (letter_for k) p rest) a.no_fields a.no-reason in
      sent-reads (letter_for k) p rest s k [] t.sent (up-to-allows (length p) h) (rw a.kind at f)

ground-small : (p : List ℕ) → payload_ground p ≡ 0 → length p ≤ most_payload
unfolding payload_ground
ground-small p = go (ltb most_payload (length p)) refl
  where
    go : (t : Bool) → ltb most_payload (length p) ≡ t → ◌≡◌ {A = ℕ} (if t then payload_long else 0) 0 → length p ≤ most_payload
    go true e h = absurd (omega arith)
    go false e h = ltb-false _ _ e

pub payload-back : (s : Sender) (k : PacketKind) → WithPayload s k → (p rest : List ℕ) → payload_ground p ≡ 0
    → ReadsAs s (encoded (letter_for k) p ++ rest) k ((length p + 3) ∷ []) p
payload-back s k t p rest g = plain-reads s k most_payload t p rest (ground-small p g)

pub letter-back : (s : Sender) (k : PacketKind) → LetterAlone s k → (rest : List ℕ) → ReadsAs s (encoded (letter_for k) [] ++ rest) k (3 ∷ []) []
letter-back s k t rest = plain-reads s k 0 t [] rest (omega arith)

-- ---- login rejected

rejected-fields : (l : List ℕ) (b : ℕ) → letter_of l ≡ 74 → get_or l 3 0 ≡ b → reason_ground b ≡ 0 → fields_of l ≡ says (good rejected) (b ∷ [])
unfolding fields_of fields_at has_fields reason_fields reason_ground
rejected-fields l b e f = rw (e, f) (go (good_reason b))
  where
    go : (t : Bool) → ◌≡◌ {A = ℕ} (if t then 0 else 46) 0 → if t then says (good rejected) (b ∷ []) else says bad_field [] ≡ says (good rejected) (b ∷ [])
    go true z = refl
    go false z = absurd (omega arith)

sent-reason : (b : ℕ) (rest : List ℕ) → get_or (encoded 74 (b ∷ []) ++ rest) 3 0 ≡ b
unfolding encoded
sent-reason b rest = rw (append_assoc (head_bytes 74 1) (b ∷ []) rest) (get_or_at (head_bytes 74 1) b rest 0 3 (length-head 74 1))

rejected-sent : sends Server 74 ≡ true
unfolding sends letter_row
rejected-sent = refl

rejected-allowed : allows 74 1 ≡ true
unfolding allows letter_row
rejected-allowed = refl

pub rejected-back : (b : ℕ) (rest : List ℕ) → reason_ground b ≡ 0 → ReadsAs Server (encoded 74 (b ∷ []) ++ rest) rejected (4 ∷ b ∷ []) (b ∷ [])
rejected-back b rest g =
    sent-reads 74 (b ∷ []) rest Server rejected (b ∷ []) rejected-sent rejected-allowed
    (rejected-fields (encoded 74 (b ∷ []) ++ rest) b (sent-letter 74 (b ∷ []) rest) (sent-reason b rest) g)

-- ---- letters with a session and a number

numbered-fields : (l : List ℕ) (c n : ℕ) → letter_of l ≡ c → has_fields c ≡ true → good_session (blank_allowed c) (session_bytes c l) ≡ true
    → read_number (least_number_of c) (number_bytes c l) ≡ says value (n ∷ []) → fields_of l ≡ says (good (numbered_of c)) (n ∷ [])
unfolding fields_of fields_at with_number number_fields
numbered-fields l c n e f g h = rw (e, f, g, h)

-- a part behind a
part_of : (a b d : List ℕ) (i n : ℕ) → length a ≡ i → length b ≡ n → take n (drop i (a ++ (b ++ d))) ≡ b
part_of a b d i n e f = rw (drop_at a (b ++ d) i e) (take_at b d n f)

-- ---- login accepted

module _ (s : List ℕ) (n : ℕ) (rest : List ℕ) (ten : length s ≡ 10) where
  accepted_session : (m : List ℕ) → session_bytes 65 (encoded 65 (accepted_payload s n) ++ m) ≡ s
  unfolding session_bytes has_fields session_at accepted_payload
  accepted_session m =
      rw (sent-behind 65 (s ++ number_field n) m, append_assoc s (number_field n) m) (take_at s (number_field n ++ m) 10 ten)

  accepted-number : number_bytes 65 (encoded 65 (accepted_payload s n) ++ rest) ≡ number_field n
  unfolding number_bytes has_fields session_at accepted_payload
  accepted-number =
      let d : drop 13 (encoded 65 (s ++ number_field n) ++ rest) ≡ drop 10 (s ++ (number_field n ++ rest)) =
      sym (drop-drop 10 3 (encoded 65 (s ++ number_field n) ++ rest))
      ∙ ap (drop 10) (sent-behind 65 (s ++ number_field n) rest ∙ append_assoc s (number_field n) rest) in
      ap (take 20) d ∙ part_of s (number_field n) rest 10 20 ten (length-field n)

accepted-ground : (s : List ℕ) (n : ℕ) → accepted_ground s n ≡ 0 → (good_session false s ≡ true) × (n ≡ 0 → ⊥)
unfolding accepted_ground
accepted-ground s n = go (good_session false s) (eqb n 0) refl
  where
    go : (t u : Bool) → eqb n 0 ≡ u → ◌≡◌ {A = ℕ} (if t then (if u then 46 else 0) else 46) 0 → (t ≡ true) × (n ≡ 0 → ⊥)
    go true true e h = absurd (omega arith)
    go true false e h = (refl, eqb-false _ _ e)
    go false u e h = absurd (omega arith)

accepted-fields : (l s : List ℕ) (n : ℕ) → letter_of l ≡ 65 → session_bytes 65 l ≡ s → number_bytes 65 l ≡ number_field n → good_session false s ≡ true
    → (n ≡ 0 → ⊥) → n ≤ 18446744073709551615 → fields_of l ≡ says (good accepted) (n ∷ [])
unfolding numbered_of has_fields blank_allowed least_number_of
accepted-fields l s n e f g h z i =
    numbered-fields l 65 n e refl (rw f h) (rw g (number-laws.reads_back n 1 i (omega arith)))

accepted-sent : sends Server 65 ≡ true
unfolding sends letter_row
accepted-sent = refl

accepted-allowed : allows 65 30 ≡ true
unfolding allows letter_row
accepted-allowed = refl

-- the session of a packet in front is that of its bytes
sent-session : (c : ℕ) (p rest : List ℕ) (s : Sender) (k : PacketKind) (vs : List ℕ)
    → front_of s (encoded c p ++ rest) ≡ says (front.packet k) ((length p + 3) ∷ vs)
    → session_of s (encoded c p ++ rest) ≡ session_bytes c (encoded c p ++ [])
unfolding session_of
sent-session c p rest s k vs e =
    let q : packet_bytes s (encoded c p ++ rest) ≡ encoded c p ++ [] = sent-bytes c p rest s k vs e ∙ sym (append-nil (encoded c p)) in
    rw (q, sent-letter c p [])

pub accepted-back : (s : List ℕ) (n : ℕ) (rest : List ℕ) → length s ≡ 10 → n ≤ 18446744073709551615 → accepted_ground s n ≡ 0 → AcceptedReads s n rest
accepted-back s n rest ten h g =
    let o = accepted-ground s n g in
    let p = accepted_payload s n in
    let k : length p ≡ 30 = length-accepted s n ten in
    let e = sent-letter 65 p rest in
    let f = accepted-fields (encoded 65 p ++ rest) s n e (accepted_session s n rest ten rest) (accepted-number s n rest ten) o.0 o.1 h in
    let x = sent_front 65 p rest Server accepted (n ∷ []) accepted-sent (rw k accepted-allowed) f in
    record { front = rw k at x; its_session = sent-session 65 p rest Server accepted (n ∷ []) x ∙ accepted_session s n rest ten [] }

-- ---- login request

module _ (u w s : List ℕ) (n : ℕ) (six : length u ≡ 6) (ten : length w ≡ 10) (ten' : length s ≡ 10) (m : List ℕ) where
  login-laid : drop 3 (encoded 76 (login_payload u w s n) ++ m) ≡ u ++ (w ++ (s ++ (number_field n ++ m)))
  unfolding login_payload
  login-laid = sent-behind 76 (u ++ w ++ s ++ number_field n) m ∙ simp append_assoc

  login-from : (i : ℕ) → drop (3 + i) (encoded 76 (login_payload u w s n) ++ m) ≡ drop i (u ++ (w ++ (s ++ (number_field n ++ m))))
  login-from i = sym (drop-drop i 3 (encoded 76 (login_payload u w s n) ++ m)) ∙ ap (drop i) login-laid

  login_username : take 6 (drop 3 (encoded 76 (login_payload u w s n) ++ m)) ≡ u
  login_username = rw login-laid (take_at u (w ++ (s ++ (number_field n ++ m))) 6 six)

  login_password : take 10 (drop 9 (encoded 76 (login_payload u w s n) ++ m)) ≡ w
  login_password = ap (take 10) (login-from 6) ∙ part_of u w (s ++ (number_field n ++ m)) 6 10 six ten

  login_session : session_bytes 76 (encoded 76 (login_payload u w s n) ++ m) ≡ s
  unfolding session_bytes has_fields session_at
  login_session =
      ap (take 10) (login-from 16 ∙ ap (drop 16) (sym (append_assoc u w (s ++ (number_field n ++ m)))))
      ∙ part_of (u ++ w) s (number_field n ++ m) 16 10 (omega (arith, length-append u w)) ten'

  login-number : number_bytes 76 (encoded 76 (login_payload u w s n) ++ m) ≡ number_field n
  unfolding number_bytes has_fields session_at
  login-number =
      let e : u ++ (w ++ (s ++ (number_field n ++ m))) ≡ ((u ++ w) ++ s) ++ (number_field n ++ m) = simp append_assoc in
      ap (take 20) (login-from 26 ∙ ap (drop 26) e)
      ∙ part_of ((u ++ w) ++ s) (number_field n) m 26 20 (omega (arith, length-append u w, length-append (u ++ w) s)) (length-field n)

login-ground : (u w s : List ℕ) → login_ground u w s ≡ 0 → good_session true s ≡ true
unfolding login_ground good_login
login-ground u w s = go (sound 1 u) (sound 1 w) (good_session true s)
  where
    go : (a b t : Bool) → ◌≡◌ {A = ℕ} (if (if a then (if b then t else false) else false) then 0 else 46) 0 → t ≡ true
    go true true true h = refl
    go true true false h = absurd (omega arith)
    go true false t h = absurd (omega arith)
    go false b t h = absurd (omega arith)

login-fields : (l s : List ℕ) (n : ℕ) → letter_of l ≡ 76 → session_bytes 76 l ≡ s → number_bytes 76 l ≡ number_field n → good_session true s ≡ true
    → n ≤ 18446744073709551615 → fields_of l ≡ says (good login) (n ∷ [])
unfolding numbered_of has_fields blank_allowed least_number_of
login-fields l s n e f g h i =
    numbered-fields l 76 n e refl (rw f h) (rw g (number-laws.reads_back n 0 i (omega arith)))

login-sent : sends Client 76 ≡ true
unfolding sends letter_row
login-sent = refl

login-allowed : allows 76 46 ≡ true
unfolding allows letter_row
login-allowed = refl

-- a part of a login request that is in front is that of its bytes
sent-part : (p rest : List ℕ) (vs : List ℕ) (at size : ℕ) → front_of Client (encoded 76 p ++ rest) ≡ says (front.packet login) ((length p + 3) ∷ vs)
    → login_part (packet_bytes Client (encoded 76 p ++ rest)) at size ≡ take size (drop at (encoded 76 p ++ []))
unfolding login_part
sent-part p rest vs at size e =
    let q : packet_bytes Client (encoded 76 p ++ rest) ≡ encoded 76 p ++ [] = sent-bytes 76 p rest Client login vs e ∙ sym (append-nil (encoded 76 p)) in
    rw (q, sent-letter 76 p [])

pub login-back : (u w s : List ℕ) (n : ℕ) (rest : List ℕ) → length u ≡ 6 → length w ≡ 10 → length s ≡ 10 → n ≤ 18446744073709551615
    → login_ground u w s ≡ 0 → LoginReads u w s n rest
unfolding username_of password_of
login-back u w s n rest six ten ten' h g =
    let p = login_payload u w s n in
    let k : length p ≡ 46 = length-login u w s n six ten ten' in
    let e = sent-letter 76 p rest in
    let a = login_session u w s n six ten ten' rest in
    let f = login-fields (encoded 76 p ++ rest) s n e a (login-number u w s n six ten ten' rest) (login-ground u w s g) h in
    let x = sent_front 76 p rest Client login (n ∷ []) login-sent (rw k login-allowed) f in
    record {
      front = rw k at x;
      its_username = sent-part p rest (n ∷ []) 3 6 x ∙ login_username u w s n six ten ten' [];
      its_password = sent-part p rest (n ∷ []) 9 10 x ∙ login_password u w s n six ten ten' [];
      its_session = sent-session 76 p rest Client login (n ∷ []) x ∙ login_session u w s n six ten ten' [];
    }
