-- Laws of the fields: c is the letter, at a place, l the stream.
use mathlib.Core.Path.{◌≡◌, refl}
use mathlib.Core.List.{List, [], ◌∷◌}
use mathlib.Core.Bool.{Bool, true, false, not}
use Prim.Native.Nat.{ℕ, ◌+◌, ◌≤◌}
use native.Mathlib.Omega.{arith}
use lib.ListN.{get_or, take, drop}
use lib.Dec.{eqb}
use mir.Val.{Fits}
use mir.Syntax.{w64}
use borrow.Author.Tests.{ne_eqb, not-true, not-false}
use Rattle.std.specs.Prelude.{if◌then◌else◌, Option, Some, None}
use Rattle.wire.specs.declared.kinds.SequenceNumber.{SequenceNumber}
use Rattle.text_fields.specs.Number.{number_words}
use Rattle.soupbintcp.specs.declared.packet.Packet.{Packet}
use Rattle.soupbintcp.specs.declared.packet.Packet.TheVariants.{Debug, Accepted, Rejected, Sequenced, ServerHeartbeat, EndOfSession, Login, Unsequenced, ClientHeartbeat, Logout}
use Rattle.soupbintcp.specs.Letters.{packet_kind, packet_values, plain_of}
use Rattle.soupbintcp.specs.Head.{letter_of}
use Rattle.soupbintcp.specs.Fields.{has_fields, session_at, session_bytes, number_bytes, blank_allowed, least_number_of, numbered_of, number_fields, with_number, good_reason, reason_fields, fields_words, fields_at}

pub letter-read : (l : List ℕ) (r : ℕ) → r ≡ get_or l 2 0 → r ≡ letter_of l
unfolding letter_of
letter-read l r e = e

-- ---- by the letter

module _ (c : ℕ) where
  pub at-L : c ≡ 76 → 19 ≡ session_at c
  unfolding session_at
  at-L e = simp e

  pub at_other : (c ≡ 76 → ⊥) → 3 ≡ session_at c
  unfolding session_at
  at_other e = simp (ne_eqb _ _ e)

  pub has-A : c ≡ 65 → true ≡ has_fields c
  unfolding has_fields
  has-A e = simp e

  pub has-L : (c ≡ 65 → ⊥) → eqb c 76 ≡ has_fields c
  unfolding has_fields
  has-L e = simp (ne_eqb _ _ e)

  pub blank-read : not (eqb c 65) ≡ blank_allowed c
  unfolding blank_allowed
  blank-read = refl

  pub least-one : c ≡ 65 → 1 ≡ least_number_of c
  unfolding least_number_of
  least-one e = simp e

  pub least_zero : (c ≡ 65 → ⊥) → 0 ≡ least_number_of c
  unfolding least_number_of
  least_zero e = simp (ne_eqb _ _ e)

at_small : (b : Bool) → (if b then 19 else 3) ≤ 19
at_small true = omega arith
at_small false = omega arith

pub session-at-small : (c : ℕ) → session_at c ≤ 19
unfolding session_at
session-at-small c = at_small (eqb c 76)

pub number-at-fits : (c at : ℕ) → at ≡ session_at c → Fits w64 (at + 10)
number-at-fits c at e = let h = session-at-small c in omega arith

module _ (c at : ℕ) (l r : List ℕ) (t : Bool) where
  pub session-there : t ≡ has_fields c → t ≡ true → at ≡ session_at c → r ≡ take 10 (drop at l) → r ≡ session_bytes c l
  unfolding session_bytes
  session-there e f g h = simp (← e, f, ← g, h)

  pub number-there : t ≡ has_fields c → t ≡ true → at ≡ session_at c → r ≡ take 20 (drop (at + 10) l) → r ≡ number_bytes c l
  unfolding number_bytes
  number-there e f g h = simp (← e, f, ← g, h)

module _ (c : ℕ) (l r : List ℕ) (t : Bool) where
  pub session-none : t ≡ has_fields c → t ≡ false → r ≡ take 0 (drop 0 l) → r ≡ session_bytes c l
  unfolding session_bytes
  session-none e f h = simp (← e, f, h)

  pub number-none : t ≡ has_fields c → t ≡ false → r ≡ take 0 (drop 0 l) → r ≡ number_bytes c l
  unfolding number_bytes
  number-none e f h = simp (← e, f, h)

-- ---- the packets

module _ (c : ℕ) where
  pub plain-S : c ≡ 83 → packet_kind Sequenced ≡ plain_of c
  unfolding packet_kind plain_of
  plain-S e = simp e

  pub plain-H : c ≡ 72 → packet_kind ServerHeartbeat ≡ plain_of c
  unfolding packet_kind plain_of
  plain-H e = simp e

  pub plain-Z : c ≡ 90 → packet_kind EndOfSession ≡ plain_of c
  unfolding packet_kind plain_of
  plain-Z e = simp e

  pub plain-U : c ≡ 85 → packet_kind Unsequenced ≡ plain_of c
  unfolding packet_kind plain_of
  plain-U e = simp e

  pub plain-R : c ≡ 82 → packet_kind ClientHeartbeat ≡ plain_of c
  unfolding packet_kind plain_of
  plain-R e = simp e

  pub plain-O : c ≡ 79 → packet_kind Logout ≡ plain_of c
  unfolding packet_kind plain_of
  plain-O e = simp e

  pub plain_other : (c ≡ 83 → ⊥) → (c ≡ 72 → ⊥) → (c ≡ 90 → ⊥) → (c ≡ 85 → ⊥) → (c ≡ 82 → ⊥) → (c ≡ 79 → ⊥)
      → packet_kind Debug ≡ plain_of c
  unfolding packet_kind plain_of
  plain_other e0 e1 e2 e3 e4 e5 =
      simp (ne_eqb _ _ e0, ne_eqb _ _ e1, ne_eqb _ _ e2, ne_eqb _ _ e3, ne_eqb _ _ e4, ne_eqb _ _ e5)

  pub numbered-A : (n : SequenceNumber) → c ≡ 65 → packet_kind (Accepted n) ≡ numbered_of c
  unfolding packet_kind numbered_of
  numbered-A n e = simp e

  pub numbered-L : (n : SequenceNumber) → (c ≡ 65 → ⊥) → packet_kind (Login n) ≡ numbered_of c
  unfolding packet_kind numbered_of
  numbered-L n e = simp (ne_eqb _ _ e)

pub values-sequenced : packet_values Sequenced ≡ []
unfolding packet_values
values-sequenced = refl

pub values-server-heartbeat : packet_values ServerHeartbeat ≡ []
unfolding packet_values
values-server-heartbeat = refl

pub values-end-of-session : packet_values EndOfSession ≡ []
unfolding packet_values
values-end-of-session = refl

pub values-unsequenced : packet_values Unsequenced ≡ []
unfolding packet_values
values-unsequenced = refl

pub values-client-heartbeat : packet_values ClientHeartbeat ≡ []
unfolding packet_values
values-client-heartbeat = refl

pub values-logout : packet_values Logout ≡ []
unfolding packet_values
values-logout = refl

pub values-debug : packet_values Debug ≡ []
unfolding packet_values
values-debug = refl

pub values-accepted : (n : SequenceNumber) → packet_values (Accepted n) ≡ n.0 ∷ []
unfolding packet_values
values-accepted n = refl

pub values-login : (n : SequenceNumber) → packet_values (Login n) ≡ n.0 ∷ []
unfolding packet_values
values-login n = refl

-- ---- what the fields make: x is the number field as it was read, ok whether the session is good, p the packet

module _ (c : ℕ) (ok : Bool) (x : Option SequenceNumber) where
  pub number-no-session : not ok ≡ true → fields_words None ≡ with_number c ok (number_words x)
  unfolding fields_words with_number
  number-no-session e = simp (not-true ok e)

  pub number-good : (n : SequenceNumber) (p : Packet) → not ok ≡ false → x ≡ Some n → packet_kind p ≡ numbered_of c
      → packet_values p ≡ n.0 ∷ [] → fields_words (Some p) ≡ with_number c ok (number_words x)
  unfolding fields_words with_number number_words number_fields
  number-good n p e f g h = simp (not-false ok e, f, g, h)

  pub number-bad : not ok ≡ false → x ≡ None → fields_words None ≡ with_number c ok (number_words x)
  unfolding fields_words with_number number_words number_fields
  number-bad e f = simp (not-false ok e, f)

module _ (b : ℕ) where
  pub reason-bad : (t : Bool) → t ≡ good_reason b → not t ≡ true → fields_words None ≡ reason_fields b
  unfolding fields_words reason_fields
  reason-bad t e f = simp (← e, not-true t f)

  pub reason-good : (t : Bool) → t ≡ good_reason b → not t ≡ false → fields_words (Some (Rejected b)) ≡ reason_fields b
  unfolding fields_words reason_fields packet_kind packet_values
  reason-good t e f = simp (← e, not-false t f)

  pub reason-A : b ≡ 65 → true ≡ good_reason b
  unfolding good_reason
  reason-A e = simp e

  pub reason-other : (b ≡ 65 → ⊥) → eqb b 83 ≡ good_reason b
  unfolding good_reason
  reason-other e = simp (ne_eqb _ _ e)

module _ (l : List ℕ) (c : ℕ) (ok t : Bool) (x : Option SequenceNumber) where
  pub fields-number : (r : Option Packet) → t ≡ has_fields c → t ≡ true → fields_words r ≡ with_number c ok (number_words x)
      → fields_words r ≡ fields_at c (get_or l 3 0) ok (number_words x)
  unfolding fields_at
  fields-number r e f g = simp (← e, f) g

  pub fields-reason : (r : Option Packet) (b : ℕ) → t ≡ has_fields c → t ≡ false → c ≡ 74 → b ≡ get_or l 3 0 → fields_words r ≡ reason_fields b
      → fields_words r ≡ fields_at c (get_or l 3 0) ok (number_words x)
  unfolding fields_at
  fields-reason r b e f g h i = rw (← e, f, g, ← h) i

  pub fields-plain : (p : Packet) → t ≡ has_fields c → t ≡ false → (c ≡ 74 → ⊥) → packet_kind p ≡ plain_of c → packet_values p ≡ []
      → fields_words (Some p) ≡ fields_at c (get_or l 3 0) ok (number_words x)
  unfolding fields_at fields_words
  fields-plain p e f g h i = simp (← e, f, ne_eqb _ _ g, h, i)
