-- The claim speaks of something, and its bound is met: three missing messages of which a packet holds one each time
-- need three rounds.
use Rattle.std.specs.Prelude.{ℕ, List, [], ◌∷◌, false, ◌≡◌, replicate}
use Rattle.receiver.specs.declared.receiver.Receiver.{Receiver}
use Rattle.receiver.specs.Receiver.{receiver}
use Rattle.receiver.specs.Witnesses.{name, a, b, c, heartbeat_at}
use Rattle.store.specs.Store.{Store}
use Rattle.store.specs.Rounds.{after_rounds, given_in_all}
use Rattle.store.specs.Statements.{Serves}

abbrev pub three : Store
three = record { session = name; first = 1; lengths = 1 ∷ 0 ∷ 2 ∷ []; joined = 97 ∷ 99 ∷ 100 ∷ [] }

-- the smallest size that the longest of them fits
abbrev pub size : ℕ
size = 24

abbrev pub misses : Receiver
misses = receiver name 1 100 false

abbrev pub lent : ℕ → List (List ℕ)
lent k = replicate k (replicate size 0)

pub record NotVacuous : Type 0 where
  pub serves : Serves three size (heartbeat_at 4) misses
  pub two_rounds : (after_rounds three size (heartbeat_at 4) misses (lent 2)).next.0 ≡ 3
  pub three_rounds : (after_rounds three size (heartbeat_at 4) misses (lent 3)).next.0 ≡ 4
  pub given : given_in_all three size (heartbeat_at 4) misses (lent 3) ≡ a ∷ b ∷ c ∷ []
