-- What the packet in front says of the stream l: p is its kind, k its size, vs its values.
use mathlib.Core.Path.{◌≡◌, ap, sym, ◌∙◌}
use mathlib.Core.List.{List, ◌∷◌, ◌++◌}
use Prim.Native.Nat.{ℕ, ◌+◌, ◌≤◌}
use native.Mathlib.Omega.{arith}
use lib.ListN.{length, take, drop, length-drop, take-append-drop}
use lib.Seq.{take_all, length-take-le}
use Rattle.wire.specs.Words.{says}
use Rattle.wire.specs.Parts.{first_bytes}
use Rattle.wire.proofs.PartLaws.{first-there}
use Rattle.soupbintcp.specs.declared.packet.Sender.{Sender}
use Rattle.soupbintcp.specs.Letters.{PacketKind}
use Rattle.soupbintcp.specs.Head.{packet_length, letter_of}
use Rattle.soupbintcp.specs.Fields.{fields_of}
use Rattle.soupbintcp.specs.Front.{packet, front_of}
use Rattle.soupbintcp.proofs.HeadLaws.{IsWhole, whole-so, length-stays, letter-stays}
use Rattle.soupbintcp.proofs.FrontLaws.{said-whole-front, said-packet}
use Rattle.soupbintcp.proofs.StableLaws.{fields-stay}

-- ---- its own bytes alone

-- a packet's bytes are a whole packet
own-whole : (s : Sender) (l : List ℕ) (k : ℕ) → IsWhole s l k → IsWhole s (take k l) k
own-whole s l k o =
    let a = o.within in
    let b = o.head in
    let n : length (take k l) ≡ k = length-take-le k l a in
    let j : take k l ++ drop k l ≡ l = take-append-drop k l in
    let e : packet_length l ≡ packet_length (take k l) = ap packet_length (sym j) ∙ length-stays (take k l) (drop k l) (omega arith) in
    let f : letter_of l ≡ letter_of (take k l) = ap letter_of (sym j) ∙ letter-stays (take k l) (drop k l) (omega arith) in
    record {
      size = rw (← e) o.size;
      within = omega arith;
      head = b;
      some = rw (← e) o.some;
      sent = rw (← f) o.sent;
      allowed = rw (← e, ← f) o.allowed;
    }

module _ (s : Sender) (l : List ℕ) (p : PacketKind) (k : ℕ) (vs : List ℕ) (e : front_of s l ≡ says (packet p) (k ∷ vs)) where
  pub whole : IsWhole s l k
  whole = (said-packet s l p k vs e).head

  -- they read as the packet
  pub own-front : front_of s (take k l) ≡ says (packet p) (k ∷ vs)
  own-front =
      let o = whole in
      let i = own-whole s l k o in
      let f : fields_of (take k l) ≡ fields_of l = sym (fields-stay s (take k l) (drop k l) k i) ∙ ap fields_of (take-append-drop k l) in
      said-whole-front s (take k l) k (whole-so s (take k l) k i) ∙ rw f (sym (said-whole-front s l k (whole-so s l k o)) ∙ e)

-- ---- a field of the packet, read as a part of this length

pub first-all : (k : ℕ) (l : List ℕ) → length l ≡ k → first_bytes k l ≡ l
first-all k l e = first-there k l (omega arith) ∙ take_all k l (omega arith)

pub part_length : (l : List ℕ) (at n : ℕ) → at + n ≤ length l → length (take n (drop at l)) ≡ n
part_length l at n h = let d = length-drop at l in length-take-le n (drop at l) (omega arith)
