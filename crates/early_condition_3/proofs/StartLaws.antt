-- The plain receiver's start, with nothing held.
use mathlib.Core.List.{List}
use mathlib.Core.Path.{◌≡◌}
use Prim.Native.Nat.{ℕ}
use Rattle.receiver.specs.declared.receiver.Receiver.{Receiver}
use Rattle.receiver.specs.Receiver.{start_receiver}
use Rattle.early_holding.specs.Holding.{early}
use Rattle.early_receiver.specs.Early.{start_early}

pub start_is : (b : Receiver) (name : List ℕ) (n limit : ℕ) → b ≡ start_receiver name n limit → early b 0 ≡ start_early name n limit
unfolding start_early
start_is b name n limit e = rw e
