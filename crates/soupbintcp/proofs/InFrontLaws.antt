-- A packet that was read in front: its fields stand at their places in the stream l.
use mathlib.Core.Path.{◌≡◌, refl, sym, ap, ◌∙◌}
use mathlib.Core.List.{List, []}
use mathlib.Core.Bool.{false}
use Prim.Native.Nat.{ℕ, ◌+◌, ◌≤◌}
use native.Mathlib.Omega.{arith}
use lib.ListN.{take, drop}
use lib.Dec.{eqb}
use Rattle.soupbintcp.specs.declared.packet.Sender.{Sender}
use Rattle.soupbintcp.specs.declared.packet.Packet.{Packet}
use Rattle.soupbintcp.specs.declared.front.Front.{Front}
use Rattle.soupbintcp.specs.declared.front.Front.TheVariants.{Whole}
use Rattle.soupbintcp.specs.Letters.{PacketKind, accepted, login, packet_kind, packet_values, letter_for}
use Rattle.soupbintcp.specs.Head.{letter_of}
use Rattle.soupbintcp.specs.Fields.{has_fields, session_at, session_bytes}
use Rattle.soupbintcp.specs.Front.{front_words, front_of, packet_bytes, session_of, login_part, username_of, password_of, IsInFront}
use Rattle.soupbintcp.proofs.FrontLaws.{said-packet}
use Rattle.soupbintcp.proofs.KindLaws.{its-letter}
use Rattle.soupbintcp.proofs.StableLaws.{own-letter, said-bytes, said-session, said-login}

pub in-front : (s : Sender) (l : List ℕ) (x : Front) (p : Packet) (k : ℕ) → front_words x ≡ front_of s l → x ≡ Whole p k → IsInFront s (packet_kind p) l
unfolding front_words
in-front s l x p k e f = record { size = k; values = packet_values p; said = sym e ∙ ap front_words f }

module _ (s : Sender) (l : List ℕ) where
  front-letter : (k : PacketKind) → IsInFront s k l → letter_of l ≡ letter_for k
  front-letter k f = its-letter s l k f.size f.values f.said

  login-part : (at n : ℕ) → IsInFront s login l → at + n ≤ 49 → login_part (packet_bytes s l) at n ≡ take n (drop at l)
  unfolding letter_for
  login-part at n f h = said-login s l login f.size f.values f.said at n (front-letter login f) h

  pub login_username : IsInFront s login l → take 6 (drop 3 l) ≡ username_of s l
  unfolding username_of
  login_username f = sym (login-part 3 6 f (omega arith))

  pub login_password : IsInFront s login l → take 10 (drop 9 l) ≡ password_of s l
  unfolding password_of
  login_password f = sym (login-part 9 10 f (omega arith))

  pub login_session : IsInFront s login l → take 10 (drop 19 l) ≡ session_of s l
  unfolding session_bytes session_at has_fields letter_for
  login_session f = rw (said-session s l login f.size f.values f.said, front-letter login f) refl

  pub accepted_session : IsInFront s accepted l → take 10 (drop 3 l) ≡ session_of s l
  unfolding session_bytes session_at has_fields letter_for
  accepted_session f = rw (said-session s l accepted f.size f.values f.said, front-letter accepted f) refl

  -- a packet that is no login has no part of one
  module _ (k : PacketKind) (f : IsInFront s k l) (other : eqb (letter_for k) (letter_for login) ≡ false) where
    no_part : (at n : ℕ) → login_part (packet_bytes s l) at n ≡ []
    unfolding login_part letter_for
    no_part at n =
        let o = (said-packet s l k f.size f.values f.said).head in
        rw (said-bytes s l k f.size f.values f.said, own-letter s l f.size o, front-letter k f, other) refl

    pub no_username : username_of s l ≡ []
    unfolding username_of
    no_username = no_part 3 6
