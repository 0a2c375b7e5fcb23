-- What a login accepted in front says of the stream l: k is its size, vs its values. Its session is there whole.
use mathlib.Core.Path.{◌≡◌, refl, ◌∙◌}
use mathlib.Core.List.{List, ◌∷◌}
use mathlib.Core.Bool.{Bool, true, false}
use Prim.Native.Nat.{ℕ, ◌-◌, ◌≤◌}
use native.Mathlib.Omega.{arith}
use lib.ListN.{length, take, drop}
use lib.Dec.{ltb, leb}
use borrow.Author.Tests.{ltb-false, leb-true}
use Rattle.std.specs.Prelude.{if◌then◌else◌}
use Rattle.wire.specs.Words.{says}
use Rattle.wire.specs.Parts.{first_bytes}
use Rattle.soupbintcp.specs.declared.packet.Sender.TheVariants.{Server}
use Rattle.soupbintcp.specs.Letters.{accepted, letter_for, letter_row, allows}
use Rattle.soupbintcp.specs.Head.{packet_length, letter_of}
use Rattle.soupbintcp.specs.Fields.{has_fields, session_at, session_bytes}
use Rattle.soupbintcp.specs.Front.{packet, front_of, session_of}
use Rattle.soupbintcp.proofs.KindLaws.{its-letter}
use Rattle.soupbintcp.proofs.StableLaws.{fields-reach, said-session}
use Rattle.soupbintcp_session.proofs.PacketLaws.{whole, first-all, part_length}

-- an A has a payload of thirty bytes
thirty : (n : ℕ) → allows 65 n ≡ true → n ≡ 30
unfolding allows letter_row
thirty n = go (ltb n 30) refl
  where
    go : (x : Bool) → ltb n 30 ≡ x → if x then false else leb n 30 ≡ true → n ≡ 30
    go true e h = let z : ◌≡◌ {A = ℕ} 0 1 = cc in absurd (omega arith)
    go false e h =
        let a : 30 ≤ n = ltb-false _ _ e in
        let b : n ≤ 30 = leb-true _ _ h in
        omega arith

module _ (l : List ℕ) (k : ℕ) (vs : List ℕ) (e : front_of Server l ≡ says (packet accepted) (k ∷ vs)) where
  accepted-letter : letter_of l ≡ 65
  unfolding letter_for
  accepted-letter = its-letter Server l accepted k vs e

  pub accepted-size : k ≡ 33
  accepted-size =
      let o = whole Server l accepted k vs e in
      let a = o.size in
      let b = o.head in
      let h = thirty (packet_length l - 1) (rw accepted-letter at o.allowed) in
      omega arith

  accepted-there : 33 ≤ length l
  unfolding has_fields session_at
  accepted-there =
      let o = whole Server l accepted k vs e in
      let a = o.within in
      let b = rw accepted-letter at (fields-reach o (rw accepted-letter refl)) in
      omega arith

  pub session-first : first_bytes 10 (session_of Server l) ≡ session_of Server l
  unfolding session_bytes has_fields session_at
  session-first =
      let h = accepted-there in
      let f : session_of Server l ≡ take 10 (drop 3 l) = said-session Server l accepted k vs e ∙ rw accepted-letter refl in
      first-all 10 (session_of Server l) (rw f (part_length l 3 10 (omega arith)))
