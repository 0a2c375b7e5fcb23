-- The kind of a packet is its letter's: only the letters of the table are sent, and the fields of each make its own kind. s is the
-- sender, l the stream, p the kind of the packet in front, k its size, vs its values.
use mathlib.Core.Path.{◌≡◌, refl, ap, sym, ◌∙◌}
use mathlib.Core.List.{List, [], ◌∷◌}
use mathlib.Core.Bool.{Bool, true, false}
use Prim.Native.Nat.{ℕ}
use native.Mathlib.Omega.{arith}
use lib.ListN.{get_or}
use lib.Dec.{eqb}
use borrow.Author.Tests.{eqb-true}
use Rattle.std.specs.Prelude.{if◌then◌else◌}
use Rattle.wire.specs.Words.{Words, Case, answer, refused, says}
use Rattle.text_fields.specs.Number.{NumberKind, value, bad}
use Rattle.soupbintcp.specs.declared.packet.Sender.{Sender}
use Rattle.soupbintcp.specs.declared.packet.Sender.TheVariants.{Server, Client}
use Rattle.soupbintcp.specs.declared.letters.Row.{Row}
use Rattle.soupbintcp.specs.Letters.{PacketKind, debug, accepted, rejected, sequenced, server_heartbeat, end_of_session, login, unsequenced, client_heartbeat, logout, letter_debug, letter_accepted, letter_rejected, letter_sequenced, letter_server_heartbeat, letter_end, letter_login, letter_unsequenced, letter_client_heartbeat, letter_logout, letter_for, row, letter_row, sends, plain_of}
use Rattle.soupbintcp.specs.Head.{letter_of}
use Rattle.soupbintcp.specs.Fields.{good, bad_field, has_fields, numbered_of, number_fields, with_number, good_reason, reason_fields, fields_at, fields_of}
use Rattle.soupbintcp.specs.Front.{packet, front_of, KindOfLetter}
use Rattle.soupbintcp.proofs.FrontLaws.{said-packet}

-- ---- the letters of the table

data Listed : ℕ → Type 0 where
  in-debug : Listed letter_debug
  in-accepted : Listed letter_accepted
  in-rejected : Listed letter_rejected
  in-sequenced : Listed letter_sequenced
  in-server-heartbeat : Listed letter_server_heartbeat
  in-end-of-session : Listed letter_end
  in-login : Listed letter_login
  in-unsequenced : Listed letter_unsequenced
  in-client-heartbeat : Listed letter_client_heartbeat
  in-logout : Listed letter_logout

-- one row of the table
one-row : (P : Row → Type 0) (c a : ℕ) (x y : Row) → P (if eqb c a then x else y) → Listed a → (P y → Listed c) → Listed c
one-row P c a x y h f g = go (eqb c a) refl h
  where
    go : (t : Bool) → eqb c a ≡ t → P (if t then x else y) → Listed c
    go true e q = let d : c ≡ a = eqb-true _ _ e in rw d f
    go false e q = g q

abbrev SentBy : Sender → Row → Type 0
SentBy Server r = r.server ≡ true
SentBy Client r = r.client ≡ true

nobody : (s : Sender) → SentBy s (row false false 0 0) → ⊥
nobody Server e = let z : ◌≡◌ {A = ℕ} 0 1 = cc in omega arith
nobody Client e = let z : ◌≡◌ {A = ℕ} 0 1 = cc in omega arith

row_listed : (s : Sender) (c : ℕ) → SentBy s (letter_row c) → Listed c
unfolding letter_row
row_listed s c h =
    one-row (SentBy s) c letter_debug _ _ h in-debug (λ h.
    one-row (SentBy s) c letter_accepted _ _ h in-accepted (λ h.
    one-row (SentBy s) c letter_rejected _ _ h in-rejected (λ h.
    one-row (SentBy s) c letter_sequenced _ _ h in-sequenced (λ h.
    one-row (SentBy s) c letter_server_heartbeat _ _ h in-server-heartbeat (λ h.
    one-row (SentBy s) c letter_end _ _ h in-end-of-session (λ h.
    one-row (SentBy s) c letter_login _ _ h in-login (λ h.
    one-row (SentBy s) c letter_unsequenced _ _ h in-unsequenced (λ h.
    one-row (SentBy s) c letter_client_heartbeat _ _ h in-client-heartbeat (λ h.
    one-row (SentBy s) c letter_logout _ _ h in-logout (λ h. absurd (nobody s h)))))))))))

listed : (s : Sender) (c : ℕ) → sends s c ≡ true → Listed c
unfolding sends
listed Server c e = row_listed Server c e
listed Client c e = row_listed Client c e

-- ---- the fields of a letter make its kind

same-letter : (a p : PacketKind) → answer (good a) ≡ answer (good p) → letter_for a ≡ letter_for p
same-letter a p e = let z : a ≡ p = cc in ap letter_for z

pub bad-never : (p : PacketKind) → answer bad_field ≡ answer (good p) → ⊥
bad-never p e = let z : ◌≡◌ {A = ℕ} 0 1 = cc in omega arith

-- a session and a number that make a packet: c is the letter, ok whether the session is good, w the number as it was read
pub record Numbered (c : ℕ) (ok : Bool) (w : Words NumberKind) (p : PacketKind) : Type 0 where
  pub session-good : ok ≡ true
  pub number-good : w.which ≡ answer value
  pub its_number : (with_number c ok w).values ≡ get_or w.values 0 0 ∷ []
  pub letter : letter_for (numbered_of c) ≡ letter_for p

number-kind : (c : ℕ) (w : Case NumberKind) (vs : List ℕ) (p : PacketKind) → (number_fields c w vs).which ≡ answer (good p)
    → (w ≡ answer value) × ((number_fields c w vs).values ≡ get_or vs 0 0 ∷ []) × (letter_for (numbered_of c) ≡ letter_for p)
unfolding number_fields
number-kind c (answer value) vs p e = (refl, refl, same-letter (numbered_of c) p e)
number-kind c (answer bad) vs p e = absurd (bad-never p e)
number-kind c refused vs p e = absurd (bad-never p e)

pub numbered : (c : ℕ) (ok : Bool) (w : Words NumberKind) (p : PacketKind) → (with_number c ok w).which ≡ answer (good p) → Numbered c ok w p
unfolding with_number
numbered c true w p e =
    let n = number-kind c w.which w.values p e in
    record { session-good = refl; number-good = n.0; its_number = n.1; letter = n.2 }
numbered c false w p e = absurd (bad-never p e)

reason-read : (b : ℕ) (t : Bool) (p : PacketKind) → (if t then says (good rejected) (b ∷ []) else says bad_field []).which ≡ answer (good p)
    → letter_for rejected ≡ letter_for p
reason-read b true p e = same-letter rejected p e
reason-read b false p e = absurd (bad-never p e)

kind-letter : (c reason : ℕ) (ok : Bool) (w : Words NumberKind) (p : PacketKind) → Listed c → (fields_at c reason ok w).which ≡ answer (good p)
    → c ≡ letter_for p
unfolding fields_at has_fields plain_of reason_fields numbered_of letter_for
kind-letter c reason ok w p in-debug e = same-letter debug p e
kind-letter c reason ok w p in-accepted e = (numbered letter_accepted ok w p e).letter
kind-letter c reason ok w p in-rejected e = reason-read reason (good_reason reason) p e
kind-letter c reason ok w p in-sequenced e = same-letter sequenced p e
kind-letter c reason ok w p in-server-heartbeat e = same-letter server_heartbeat p e
kind-letter c reason ok w p in-end-of-session e = same-letter end_of_session p e
kind-letter c reason ok w p in-login e = (numbered letter_login ok w p e).letter
kind-letter c reason ok w p in-unsequenced e = same-letter unsequenced p e
kind-letter c reason ok w p in-client-heartbeat e = same-letter client_heartbeat p e
kind-letter c reason ok w p in-logout e = same-letter logout p e

pub its-letter : (s : Sender) (l : List ℕ) (p : PacketKind) (k : ℕ) (vs : List ℕ) → front_of s l ≡ says (packet p) (k ∷ vs) → letter_of l ≡ letter_for p
unfolding fields_of
its-letter s l p k vs e =
    let i = said-packet s l p k vs e in
    kind-letter (letter_of l) _ _ _ p (listed s (letter_of l) i.head.sent) i.kind

pub kind_of_letter : KindOfLetter
unfolding KindOfLetter
kind_of_letter s l p k vs e = its-letter s l p k vs e

-- ---- A and L have one value, the number

one_value : (c reason : ℕ) (ok : Bool) (w : Words NumberKind) → has_fields c ≡ true → (p : PacketKind) → (fields_at c reason ok w).which ≡ answer (good p)
    → (fields_at c reason ok w).values ≡ get_or (fields_at c reason ok w).values 0 0 ∷ []
unfolding fields_at
one_value c reason ok w e p f = let n = (numbered c ok w p (rw e at f)).its_number in rw (e, n) refl

pub one_number : (s : Sender) (l : List ℕ) (p : PacketKind) (k : ℕ) (vs : List ℕ) → front_of s l ≡ says (packet p) (k ∷ vs)
    → has_fields (letter_for p) ≡ true → vs ≡ get_or vs 0 0 ∷ []
unfolding fields_of
one_number s l p k vs e h =
    let i = said-packet s l p k vs e in
    let o = one_value (letter_of l) _ _ _ (ap has_fields (its-letter s l p k vs e) ∙ h) p i.kind in
    rw i.values at o

-- ---- the letters tell the kinds apart

kind_for : ℕ → PacketKind
kind_for c =
    if eqb c letter_debug then debug
    else if eqb c letter_accepted then accepted
    else if eqb c letter_rejected then rejected
    else if eqb c letter_sequenced then sequenced
    else if eqb c letter_server_heartbeat then server_heartbeat
    else if eqb c letter_end then end_of_session
    else if eqb c letter_login then login
    else if eqb c letter_unsequenced then unsequenced
    else if eqb c letter_client_heartbeat then client_heartbeat
    else logout

its-kind : (p : PacketKind) → kind_for (letter_for p) ≡ p
unfolding kind_for letter_for
its-kind debug = refl
its-kind accepted = refl
its-kind rejected = refl
its-kind sequenced = refl
its-kind server_heartbeat = refl
its-kind end_of_session = refl
its-kind login = refl
its-kind unsequenced = refl
its-kind client_heartbeat = refl
its-kind logout = refl

pub same_kind : (p q : PacketKind) → letter_for p ≡ letter_for q → p ≡ q
same_kind p q e = sym (its-kind p) ∙ ap kind_for e ∙ its-kind q
