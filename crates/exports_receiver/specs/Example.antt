-- A run of calls, computed: `HandsOn` speaks of something.
use Rattle.std.specs.Prelude.{ℕ, List, [], ◌∷◌, ◌++◌, replicate}
use Rattle.wire.specs.Bounds.{blank}
use Rattle.wire.specs.Text.{ascii, readroom}
use Rattle.moldudp64.specs.Written.{encoded}
use Rattle.exports_receiver.specs.Run.{Handed}

-- an open receiver without a name at number 1, its limit 100; and the same of READROOM01 at number 3
abbrev pub at_one : List ℕ
at_one = 226 ∷ blank ++ 1 ∷ replicate 7 0 ++ 100 ∷ 0 ∷ []

abbrev pub at_three : List ℕ
at_three = 226 ∷ readroom ++ 3 ∷ replicate 7 0 ++ 100 ∷ 0 ∷ []

-- data at 1: `hi`, and a message of no bytes
abbrev pub two_messages : List ℕ
two_messages = encoded readroom 1 (ascii "hi" ∷ [] ∷ [])

-- one byte, which is refused; the datagram, which names the receiver and from which the host gets both messages; and the
-- datagram again
unfoldable pub HandedExample : Type 0
HandedExample =
    Handed at_one ((0 ∷ []) ∷ two_messages ∷ two_messages ∷ []) at_three (ascii "hi" ∷ [] ∷ [])
