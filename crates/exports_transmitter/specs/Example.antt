-- A run of calls, computed: `HandsOn` speaks of something.
use Rattle.std.specs.Prelude.{ℕ, List, [], ◌∷◌, ◌++◌, replicate}
use Rattle.wire.specs.Text.{ascii, readroom}
use Rattle.moldudp64.specs.Written.{encoded}
use Rattle.exports_transmitter.specs.Run.{StartCall, Handed}

-- `a`, and a message of no bytes, the first with number 6; a packet of at most 23 bytes holds one of them
abbrev pub ks : List ℕ
ks = 1 ∷ 0 ∷ []

abbrev pub d : List ℕ
d = ascii "a"

abbrev pub size : ℕ
size = 23

abbrev pub first : ℕ
first = 6

-- the state's bytes before the first packet, before the second, and behind it
abbrev pub at_first : List ℕ
at_first = 230 ∷ replicate 16 0

abbrev pub at_second : List ℕ
at_second = 230 ∷ 1 ∷ replicate 7 0 ++ 1 ∷ replicate 7 0

abbrev pub at_end : List ℕ
at_end = 230 ∷ 2 ∷ replicate 7 0 ++ 1 ∷ replicate 7 0

-- both packets
abbrev pub packets : List (List ℕ)
packets = encoded readroom 6 (ascii "a" ∷ []) ∷ encoded readroom 7 ([] ∷ []) ∷ []

-- an output that is too short, two that aren't, and one for which no packet is left
pub record HandedExample : Type 0 where
  pub starts : StartCall readroom size first ks d at_first
  pub hands : Handed readroom size first ks d at_first at_end packets
