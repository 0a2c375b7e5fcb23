-- Laws of the front and of its parts: h is the head as it was read, f the fields, x the front, p its packet, k its size.
use mathlib.Core.Path.{◌≡◌, refl, ap, sym, ◌∙◌}
use mathlib.Core.List.{List, [], ◌∷◌}
use mathlib.Core.Bool.{Bool, true, false, not}
use Prim.Native.Nat.{ℕ, ◌+◌, ◌-◌, ◌≤◌}
use native.Mathlib.Omega.{arith}
use lib.ListN.{get_or, take, drop}
use borrow.Author.Tests.{ne_eqb, not-true}
use Rattle.std.specs.Prelude.{Option, Some, None}
use Rattle.wire.specs.Words.{Words, Case, answer, refused, says, refuses, Injective}
use Rattle.wire.specs.declared.refusal.Refusal.{Refusal}
use Rattle.wire.specs.declared.kinds.SequenceNumber.{SequenceNumber}
use Rattle.wire.proofs.PartLaws.{drop-take}
use Rattle.wire.proofs.Words.{which-of, values-of, read_back}
use Rattle.text_fields.specs.Session.{good_session}
use Rattle.text_fields.specs.Number.{number_words, read_number}
use Rattle.soupbintcp.specs.declared.packet.Sender.{Sender}
use Rattle.soupbintcp.specs.declared.packet.Packet.{Packet}
use Rattle.soupbintcp.specs.declared.packet.Packet.TheVariants.{Debug, Accepted, Rejected, Sequenced, ServerHeartbeat, EndOfSession, Login, Unsequenced, ClientHeartbeat, Logout}
use Rattle.soupbintcp.specs.declared.head.Head.{Head}
use Rattle.soupbintcp.specs.declared.head.Head.TheVariants as head
use Rattle.soupbintcp.specs.declared.front.Front.{Front}
use Rattle.soupbintcp.specs.declared.front.Front.TheVariants.{Whole, NeedMore, Refused}
use Rattle.soupbintcp.specs.Letters.{PacketKind, debug, accepted, rejected, sequenced, server_heartbeat, end_of_session, login, unsequenced, client_heartbeat, logout, packet_kind, packet_values}
use Rattle.soupbintcp.specs.Head.{HeadKind, whole, need_more, head_words, head_of, packet_length, letter_of}
use Rattle.soupbintcp.specs.Fields.{FieldsKind, good, bad_field, has_fields, session_bytes, number_bytes, blank_allowed, least_number_of, fields_words, fields_at, fields_of}
use Rattle.soupbintcp.specs.Front.{FrontKind, packet, wants_more, front_words, front_packet, front_at, front_of, packet_at, packet_bytes, payload_of, session_of, login_part, username_of, password_of}
use Rattle.soupbintcp.proofs.HeadLaws.{IsWhole, whole-so, head-cases, head-in-whole}

-- ---- the fields, as they are read

pub fields_read : (l y z : List ℕ) (c : ℕ) (blank ok : Bool) (n : Option SequenceNumber) (least : SequenceNumber) (r : Option Packet) → c ≡ letter_of l
    → y ≡ session_bytes c l → blank ≡ blank_allowed c → ok ≡ good_session blank y
    → z ≡ number_bytes c l → least.0 ≡ least_number_of c → number_words n ≡ read_number least.0 z
    → fields_words r ≡ fields_at c (get_or l 3 0) ok (number_words n) → fields_words r ≡ fields_of l
unfolding fields_of
fields_read l y z c blank ok n least r e f g h i j k m = rw (← e, ← f, ← g, ← h, ← i, ← j, ← k) m

-- a letter without them: t is what the test of the letter gave, and neither ok nor n counts
pub fields-none : (l : List ℕ) (c : ℕ) (t ok : Bool) (n : Option SequenceNumber) (r : Option Packet) → c ≡ letter_of l → t ≡ has_fields c → not t ≡ true
    → fields_words r ≡ fields_at c (get_or l 3 0) ok (number_words n) → fields_words r ≡ fields_of l
unfolding fields_of fields_at
fields-none l c t ok n r e f g m =
    let h : has_fields c ≡ false = sym f ∙ not-true t g in
    rw (← e, h) (rw h at m)

-- ---- the front, as it is read

module _ (s : Sender) (l : List ℕ) (h : Head) where
  pub front-more : head_words h ≡ head_of s l → h ≡ head.NeedMore → front_words NeedMore ≡ front_of s l
  unfolding front_words front_of head_words front_at
  front-more e f = rw (← e, f)

  pub front-refused : (r : Refusal) → head_words h ≡ head_of s l → h ≡ head.Refused r → front_words (Refused r) ≡ front_of s l
  unfolding front_words front_of head_words front_at
  front-refused r e f = rw (← e, f)

  pub front-packet : (k : ℕ) (f : Option Packet) (p : Packet) → head_words h ≡ head_of s l → h ≡ head.Whole k → fields_words f ≡ fields_of l → f ≡ Some p
      → front_words (Whole p k) ≡ front_of s l
  unfolding front_words front_of head_words front_at fields_words front_packet
  front-packet k f p e g i j = rw (← e, g, ← i, j)

  pub front-bad : (k : ℕ) (f : Option Packet) → head_words h ≡ head_of s l → h ≡ head.Whole k → fields_words f ≡ fields_of l → f ≡ None
      → front_words (Refused (record { number = 25 })) ≡ front_of s l
  unfolding front_words front_of head_words front_at fields_words front_packet
  front-bad k f e g i j = rw (← e, g, ← i, j)

-- ---- the front by the head's words: need more and a refusal are handed on, and a whole packet is by its fields

module _ (s : Sender) (l : List ℕ) where
  pub said-more-front : head_of s l ≡ says need_more [] → front_of s l ≡ says wants_more []
  unfolding front_of front_at
  said-more-front e = rw e refl

  pub said-refused-front : (r : ℕ) → head_of s l ≡ refuses r → front_of s l ≡ refuses r
  unfolding front_of front_at
  said-refused-front r e = rw e refl

  pub said-whole-front : (k : ℕ) → head_of s l ≡ says whole (k ∷ []) → front_of s l ≡ front_packet k (fields_of l).which (fields_of l).values
  unfolding front_of front_at
  said-whole-front k e = rw e refl

  -- a packet that is there whole, with good fields
  pub packet-so : (t : PacketKind) (k : ℕ) (vs : List ℕ) → IsWhole s l k → fields_of l ≡ says (good t) vs → front_of s l ≡ says (packet t) (k ∷ vs)
  unfolding front_packet
  packet-so t k vs o e = said-whole-front k (whole-so s l k o) ∙ rw e refl

-- ---- the words of a front read back

packet-of : PacketKind → ℕ → Packet
packet-of debug v = Debug
packet-of accepted v = Accepted (record { 0 = v })
packet-of rejected v = Rejected v
packet-of sequenced v = Sequenced
packet-of server_heartbeat v = ServerHeartbeat
packet-of end_of_session v = EndOfSession
packet-of login v = Login (record { 0 = v })
packet-of unsequenced v = Unsequenced
packet-of client_heartbeat v = ClientHeartbeat
packet-of logout v = Logout

packet-back : (p : Packet) → packet-of (packet_kind p) (get_or (packet_values p) 0 0) ≡ p
unfolding packet_kind packet_values packet-of
packet-back Debug = refl
packet-back (Accepted n) = refl
packet-back (Rejected reason) = refl
packet-back Sequenced = refl
packet-back ServerHeartbeat = refl
packet-back EndOfSession = refl
packet-back (Login n) = refl
packet-back Unsequenced = refl
packet-back ClientHeartbeat = refl
packet-back Logout = refl

made_front : Case FrontKind → ℕ → List ℕ → Front
made_front (answer (packet k)) r vs = Whole (packet-of k (get_or vs 1 0)) (get_or vs 0 0)
made_front (answer wants_more) r vs = NeedMore
made_front refused r vs = Refused (record { number = r })

pub front-tells-apart : Injective front_words
unfolding front_words made_front
front-tells-apart = read_back front_words (λ w. made_front w.which w.refusal w.values) back
  where
    back : (x : Front) → made_front (front_words x).which (front_words x).refusal (front_words x).values ≡ x
    back (Whole p k) = ap (λ (q : Packet). Whole q k) (packet-back p)
    back NeedMore = refl
    back (Refused r) = refl

-- ---- a packet that the front gives has a whole head, of its size

pub record IsPacket (s : Sender) (l : List ℕ) (t : PacketKind) (k : ℕ) (vs : List ℕ) : Type 0 where
  pub head : IsWhole s l k
  pub kind : (fields_of l).which ≡ answer (good t)
  pub values : (fields_of l).values ≡ vs

Packets : Sender → List ℕ → PacketKind → ℕ → List ℕ → Words HeadKind → Type 0
Packets s l t k vs w = front_at l w.which w.refusal w.values ≡ says (packet t) (k ∷ vs) → IsPacket s l t k vs

module _ (s : Sender) (l : List ℕ) (t : PacketKind) (k : ℕ) (vs : List ℕ) where
  more-no-packet : Packets s l t k vs (says need_more [])
  unfolding Packets front_at
  more-no-packet e = let w = which-of e in let z : ◌≡◌ {A = ℕ} 0 1 = cc in absurd (omega arith)

  refused-no-packet : (r : ℕ) → Packets s l t k vs (refuses r)
  unfolding Packets front_at
  refused-no-packet r e = let w = which-of e in let z : ◌≡◌ {A = ℕ} 0 1 = cc in absurd (omega arith)

  whole-packet : (n : ℕ) (c : Case FieldsKind) (ws : List ℕ) → IsWhole s l n → (fields_of l).which ≡ c → (fields_of l).values ≡ ws
      → front_packet n c ws ≡ says (packet t) (k ∷ vs) → IsPacket s l t k vs
  unfolding front_packet
  whole-packet n (answer (good u)) ws o f g e =
      let w = which-of e in
      let v = values-of e in
      let a : u ≡ t = cc in
      let b : n ≡ k = cc in
      let d : ws ≡ vs = cc in
      record { head = rw b at o; kind = f ∙ ap (λ (x : PacketKind). answer (good x)) a; values = g ∙ d }
  whole-packet n (answer bad_field) ws o f g e = let w = which-of e in let z : ◌≡◌ {A = ℕ} 0 1 = cc in absurd (omega arith)
  whole-packet n refused ws o f g e = let w = which-of e in let z : ◌≡◌ {A = ℕ} 0 1 = cc in absurd (omega arith)

  pub said-packet : front_of s l ≡ says (packet t) (k ∷ vs) → IsPacket s l t k vs
  unfolding front_of Packets front_at
  said-packet =
      head-cases s l (Packets s l t k vs) (λ a. more-no-packet) (λ a b. refused-no-packet 21) (λ a b c. refused-no-packet 22)
      (λ a b. more-no-packet) (λ a b c d. refused-no-packet 23) (λ a b c d e. refused-no-packet 24) (λ h f. more-no-packet)
      (λ h f. whole-packet (packet_length l + 2) (fields_of l).which (fields_of l).values (head-in-whole s l (packet_length l + 2) h f refl) refl refl)

-- ---- its payload

module _ (s : Sender) (l : List ℕ) (x : Front) where
  pub packet-size : (p : Packet) (k : ℕ) → front_words x ≡ front_of s l → x ≡ Whole p k → 3 ≤ k
  unfolding front_words
  packet-size p k e f = (said-packet s l (packet_kind p) k (packet_values p) (sym e ∙ ap front_words f)).head.head

  pub packet-bytes : (p : Packet) (k : ℕ) → front_words x ≡ front_of s l → x ≡ Whole p k → packet_bytes s l ≡ take k l
  unfolding packet_bytes front_words packet_at
  packet-bytes p k e f = rw (← e, f)

  -- where it is no packet there are none
  pub bytes-none : front_words x ≡ front_of s l → ((p : Packet) (k : ℕ) → x ≡ Whole p k → ⊥) → [] ≡ packet_bytes s l
  unfolding packet_bytes front_words packet_at
  bytes-none e n = go x refl
    where
      go : (y : Front) → x ≡ y → [] ≡ packet_bytes s l
      go (Whole p k) f = absurd (n p k f)
      go NeedMore f = rw (← e, f) refl
      go (Refused r) f = rw (← e, f) refl

  pub packet-payload : (p : Packet) (k : ℕ) (y : List ℕ) → front_words x ≡ front_of s l → x ≡ Whole p k → y ≡ take (k - 3) (drop 3 l)
      → y ≡ payload_of s l
  unfolding payload_of
  packet-payload p k y e f g = g ∙ rw (packet-bytes p k e f) (sym (drop-take 3 k l))

  pub payload-none : front_words x ≡ front_of s l → ((p : Packet) (k : ℕ) → x ≡ Whole p k → ⊥) → [] ≡ payload_of s l
  unfolding payload_of
  payload-none e n = rw (← bytes-none e n) refl

  -- the packet's bytes, as the code has them
  pub bytes-packet : (p : Packet) (k : ℕ) (y : List ℕ) → front_words x ≡ front_of s l → x ≡ Whole p k → y ≡ take k (drop 0 l)
      → y ≡ packet_bytes s l
  bytes-packet p k y e f g = g ∙ sym (packet-bytes p k e f)

-- ---- its other parts: b is the packet's bytes, y the part that was read

module _ (b y : List ℕ) (c : ℕ) where
  pub session-read : (s : Sender) (l : List ℕ) → b ≡ packet_bytes s l → c ≡ letter_of b → y ≡ session_bytes c b → y ≡ session_of s l
  unfolding session_of
  session-read s l e f g = rw (← e, ← f) g

  pub login-part : (at n : ℕ) → c ≡ letter_of b → c ≡ 76 → y ≡ take n (drop at b) → y ≡ login_part b at n
  unfolding login_part
  login-part at n e f g = rw (← e, f) g

  pub login-no-part : (at n : ℕ) → c ≡ letter_of b → (c ≡ 76 → ⊥) → y ≡ take 0 (drop 0 b) → y ≡ login_part b at n
  unfolding login_part
  login-no-part at n e f g = rw (← e, ne_eqb _ _ f) g

module _ (s : Sender) (l b y : List ℕ) where
  pub username-read : b ≡ packet_bytes s l → y ≡ login_part b 3 6 → y ≡ username_of s l
  unfolding username_of
  username-read e f = rw (← e) f

  pub password-read : b ≡ packet_bytes s l → y ≡ login_part b 9 10 → y ≡ password_of s l
  unfolding password_of
  password-read e f = rw (← e) f
