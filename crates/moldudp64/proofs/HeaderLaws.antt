-- Laws of the header, read at its places.
use mathlib.Core.Path.{◌≡◌}
use mathlib.Core.List.{List}
use Prim.Native.Nat.{ℕ}
use Rattle.wire.specs.Bytes.{number}
use Rattle.moldudp64.specs.Header.{number_of, count_of}

pub sequence-read : (l : List ℕ) (r : ℕ) → r ≡ number l 10 8 → r ≡ number_of l
unfolding number_of
sequence-read l r e = e

pub count-read : (l : List ℕ) (r : ℕ) → r ≡ number l 18 2 → r ≡ count_of l
unfolding count_of
count-read l r e = e
