-- What the receiver asks for can be sent.
use Rattle.std.specs.Prelude.{ℕ, ◌≤◌, [], ◌∷◌, ◌≡◌}
use Rattle.moldudp64.specs.Request.{request_ground}
use Rattle.feed.specs.Session.{Datagram}
use Rattle.receiver.specs.Receiver.{receiver_start_refusal}
use Rattle.early_holding.specs.Holding.{Lent, next_of}
use Rattle.early_receiver.specs.Early.{lent_after, request_of}

-- the settings are those of a start that isn't refused: a number of at least 1, and a limit of 1 to 65,534
abbrev pub Good : Lent → Type 0
Good s = receiver_start_refusal (next_of s.receiver) s.receiver.base.limit.0 ≡ 0

-- such a receiver's request is never refused; its limit stays, its number never falls, and it stays such a receiver
pub record AsksWell : Type 0 where
  pub is_a_request : (s : Lent) (l : Datagram) (from count : ℕ) → Good s → request_of s l ≡ from ∷ count ∷ []
      → request_ground from count ≡ 0
  pub limit_stays : (s : Lent) (l : Datagram) → Good s
      → (lent_after s l).receiver.base.limit ≡ s.receiver.base.limit
  pub number_never_falls : (s : Lent) (l : Datagram) → Good s → next_of s.receiver ≤ next_of (lent_after s l).receiver
  pub stays_good : (s : Lent) (l : Datagram) → Good s → Good (lent_after s l)
