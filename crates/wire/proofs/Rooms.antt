-- A sum is at most the largest of its kind exactly where what is added isn't above the room that is left.
use Prim.Native.Nat.{ℕ, ◌+◌, ◌-◌, ◌≤◌, ◌<◌, min}
use Rattle.std.specs.Prelude.{if◌then◌else◌}
use native.Mathlib.Omega.{arith}
use mathlib.Core.Path.{◌≡◌, refl, sym}
use mathlib.Core.Bool.{Bool, true, false}
use lib.Dec.{leb, ltb}
use mir.Syntax.{w16, w64}
use mir.Val.{Fits}
use borrow.Author.Tests.{le-leb, lt-leb, ltb-true, ltb-false}
use Rattle.wire.specs.Bounds.{largest_number, largest_count, up_to}

pub no_room : (m a b : ℕ) → m - a < b → false ≡ leb (a + b) m
no_room m a b h = sym (lt-leb (a + b) m (omega arith))

pub number-room : (a b : ℕ) → b ≤ largest_number - a → Fits w64 a → true ≡ leb (a + b) largest_number
number-room a b h f = sym (le-leb (a + b) largest_number (omega arith))

pub count_room : (a b : ℕ) → b ≤ largest_count - a → Fits w16 a → true ≡ leb (a + b) largest_count
count_room a b h f = sym (le-leb (a + b) largest_count (omega arith))

-- ---- a capped sum

pub capped-sum : (a b r : ℕ) → r ≡ min (a + b) largest_number → r ≡ up_to a b
unfolding up_to
capped-sum a b r e = go (ltb largest_number (a + b)) refl
  where
    go : (t : Bool) → ltb largest_number (a + b) ≡ t → r ≡ (if t then largest_number else a + b)
    go true h = let f = ltb-true _ _ h in omega arith
    go false h = let f = ltb-false _ _ h in omega arith
