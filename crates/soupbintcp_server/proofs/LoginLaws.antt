-- What a login request in front says of the stream l: k is its size, vs its values. Its username and its password are there whole.
use mathlib.Core.Path.{◌≡◌}
use mathlib.Core.List.{List, ◌∷◌}
use Prim.Native.Nat.{ℕ, ◌≤◌}
use native.Mathlib.Omega.{arith}
use lib.ListN.{length}
use Rattle.wire.specs.Words.{says}
use Rattle.wire.specs.Parts.{first_bytes}
use Rattle.soupbintcp.specs.declared.packet.Sender.TheVariants.{Client}
use Rattle.soupbintcp.specs.Letters.{login, letter_for}
use Rattle.soupbintcp.specs.Head.{letter_of}
use Rattle.soupbintcp.specs.Front.{packet, front_of, packet_bytes, login_part, username_of, password_of}
use Rattle.soupbintcp.proofs.KindLaws.{its-letter}
use Rattle.soupbintcp.proofs.StableLaws.{login-reach, said-login}
use Rattle.soupbintcp_session.proofs.PacketLaws.{whole, first-all, part_length}

module _ (l : List ℕ) (k : ℕ) (vs : List ℕ) (e : front_of Client l ≡ says (packet login) (k ∷ vs)) where
  login-letter : letter_of l ≡ 76
  unfolding letter_for
  login-letter = its-letter Client l login k vs e

  login-there : 49 ≤ length l
  login-there =
      let o = whole Client l login k vs e in
      let a = o.within in
      let b = login-reach o login-letter in
      omega arith

  pub username-first : first_bytes 6 (username_of Client l) ≡ username_of Client l
  unfolding username_of
  username-first =
      let h = login-there in
      first-all 6 (login_part (packet_bytes Client l) 3 6) (rw (said-login Client l login k vs e 3 6 login-letter (omega arith)) (part_length l 3 6 (omega arith)))

  pub password-first : first_bytes 10 (password_of Client l) ≡ password_of Client l
  unfolding password_of
  password-first =
      let h = login-there in
      first-all 10 (login_part (packet_bytes Client l) 9 10) (rw (said-login Client l login k vs e 9 10 login-letter (omega arith)) (part_length l 9 10 (omega arith)))
