-- What stands in front of a stream, by its cases: need more, a fault of the grounds 21 to 25, or a packet.
use Prim.Native.Nat.{ℕ}
use mathlib.Core.List.{List, [], ◌∷◌}
use mathlib.Core.Path.{◌≡◌, refl}
use native.Mathlib.Omega.{arith}
use Rattle.wire.specs.Words.{Words, Case, answer, refused, says, refuses}
use Rattle.soupbintcp.specs.declared.packet.Sender.{Sender}
use Rattle.soupbintcp.specs.Letters.{PacketKind}
use Rattle.soupbintcp.specs.Fields.{FieldsKind, good, bad_field, fields_of}
use Rattle.soupbintcp.specs.Front.{FrontKind, packet, wants_more, front_packet, front_at, front_of}
use Rattle.soupbintcp.proofs.HeadLaws.{head-cases}
use Rattle.soupbintcp.proofs.ScanLaws.{FrontIs, stops-short, stops_at, passes, front-is}
use Rattle.host_session.proofs.GroundLaws.{Ground, is-21, is-22, is-23, is-24, is-25}

Faults : Words FrontKind → Type 0
Faults w = w.which ≡ refused → Ground w.refusal

says-no-fault : (k : FrontKind) (vs : List ℕ) → Faults (says k vs)
unfolding Faults
says-no-fault k vs e = let z : ◌≡◌ {A = ℕ} 0 1 = cc in absurd (omega arith)

packet-faults : (k : ℕ) (c : Case FieldsKind) (vs : List ℕ) → Faults (front_packet k c vs)
unfolding front_packet Faults
packet-faults k (answer (good t)) vs = says-no-fault (packet t) (k ∷ vs)
packet-faults k (answer bad_field) vs = λ e. is-25
packet-faults k refused vs = λ e. is-25

front-faults : (s : Sender) (l : List ℕ) → Faults (front_of s l)
unfolding front_of front_at Faults
front-faults s l =
    head-cases s l (λ h. Faults (front_at l h.which h.refusal h.values)) (λ a. says-no-fault wants_more []) (λ a b e. is-21) (λ a b c e. is-22)
    (λ a b. says-no-fault wants_more []) (λ a b c d e. is-23) (λ a b c d f e. is-24) (λ h f. says-no-fault wants_more [])
    (λ h f. packet-faults _ (fields_of l).which (fields_of l).values)

pub data FrontSays (s : Sender) (l : List ℕ) : Type 0 where
  says-more : front_of s l ≡ says wants_more [] → FrontSays s l
  says-fault : (r : ℕ) → Ground r → front_of s l ≡ refuses r → FrontSays s l
  says-packet : (p : PacketKind) (k : ℕ) (vs : List ℕ) → front_of s l ≡ says (packet p) (k ∷ vs) → (k ≡ 0 → ⊥) → FrontSays s l

fault-ground : (w : Words FrontKind) (r : ℕ) → w ≡ refuses r → Faults w → Ground r
unfolding Faults
fault-ground w r e f = (rw e at f) refl

pub front-says : (s : Sender) (l : List ℕ) → FrontSays s l
front-says s l = go (front-is s l)
  where
    go : FrontIs s l → FrontSays s l
    go (stops-short e) = says-more e
    go (stops_at r e) = says-fault r (fault-ground (front_of s l) r e (front-faults s l)) e
    go (passes p k vs e a b) = says-packet p k vs e (λ z. omega arith)
