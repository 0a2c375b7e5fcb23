-- A model of what the receiver holds, a function from the number to the message, one message at a time; it stands in no promise.
use Prim.Native.Nat.{ℕ, zero, suc, ◌+◌}
use mathlib.Core.List.{List, [], ◌∷◌}
use mathlib.Core.Bool.{Bool, true, false, not, ◌&&◌}
use mathlib.Core.Option.{Option, none, some}
use lib.ListN.{length}
use lib.Dec.{ltb, leb, eqb}
use Rattle.std.specs.Prelude.{if◌then◌else◌}
use Rattle.feed.specs.Session.{Message}
use Rattle.feed.specs.Machine.{Machine}

pub record Numbered : Type 0 where
  pub number : ℕ
  pub message : Message

abbrev pub single : ℕ → Message → Numbered
single j m = record { number = j; message = m }

-- the number that is expected, and the messages held, by their numbers
pub record Hold : Type 0 where
  pub next : ℕ
  pub held : ℕ → Option Message

abbrev pub is_held : Option Message → Bool
is_held none = false
is_held (some m) = true

abbrev pub follow_of : Option Message → List Message → List Message
follow_of none rest = []
follow_of (some m) rest = m ∷ rest

-- the held messages from number n on without a gap, at most k
unfoldable pub follow : (ℕ → Option Message) → ℕ → ℕ → List Message
follow held zero n = []
follow held (suc k) n = follow_of (held n) (follow held k (n + 1))

-- number n is delivered, and then every held message that follows without a gap
unfoldable pub run : Hold → Message → List Message
run h m = m ∷ follow h.held 64 (h.next + 1)

unfoldable pub fits : ℕ → Numbered → Bool
fits n e = ltb n e.number && (leb e.number (n + 64) && leb (length e.message) 1024)

abbrev pub moved : Hold → Message → Hold
moved h m =
    record { next = h.next + length (run h m); held = λ j. if ltb (h.next + length (run h m)) j then h.held j else none }

abbrev pub kept : Hold → Numbered → Hold
kept h e = record { next = h.next; held = λ j. if eqb j e.number && not (is_held (h.held j)) then some e.message else h.held j }

unfoldable pub hold_step : Hold → Numbered → Hold
hold_step h e =
    if eqb e.number h.next then moved h e.message
    else if fits h.next e then kept h e
    else h

unfoldable pub hold_gives : Hold → Numbered → List Message
hold_gives h e = if eqb e.number h.next then run h e.message else []

-- one message at a time, as a machine of its own
abbrev pub holding : Machine Numbered
holding = record { State = Hold; step = hold_step; gives = hold_gives; number = λ h. h.next; ended = λ h. false }

-- the messages of a datagram with their numbers, the first at f
unfoldable pub numbered : ℕ → List Message → List Numbered
numbered f [] = []
numbered f (m ∷ ms) = single f m ∷ numbered (f + 1) ms
