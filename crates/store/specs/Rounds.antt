-- Rounds of heartbeat, ask and answer: r is a receiver, h a heartbeat that is given to it again and again, and each
-- round has an output lent, o.
use Rattle.std.specs.Prelude.{ℕ, List, [], ◌∷◌, ◌++◌, get_or, take}
use Rattle.wire.specs.Words.{Words, Case, answer, refused}
use Rattle.wire.specs.Output.{WrittenKind, write_answer, write_output}
use Rattle.moldudp64.specs.Header.{header}
use Rattle.receiver.specs.declared.receiver.Receiver.{Receiver}
use Rattle.receiver.specs.Table.{AnswerKind, deliver, old, quiet, ask, ended}
use Rattle.receiver.specs.Receiver.{answer_of, receiver_after}
use Rattle.receiver.specs.Delivery.{messages_delivered}
use Rattle.store.specs.Store.{Message, Store, answer_ground, answer_bytes}

-- the store's answer to a request, and the bytes that it reports of the output: none where it is refused
abbrev pub replied : Store → ℕ → List ℕ → List ℕ → Words WrittenKind
replied st size q o = write_answer (answer_ground st size q) o 0 (answer_bytes st size q)

unfoldable pub sent : Store → ℕ → List ℕ → List ℕ → List ℕ
sent st size q o =
    take (get_or (replied st size q o).values 0 0) (write_output (answer_ground st size q) o 0 (answer_bytes st size q))

-- the request of an ask, as its writer writes it; the receiver has its name already (`Serves`)
unfoldable pub request_for : Receiver → List ℕ → List ℕ
request_for r vs = header r.session (get_or vs 0 0) (get_or vs 1 0)

-- what comes back for an ask, and nothing for another answer; a refused request brings a datagram of no bytes
unfoldable pub back_for : Store → ℕ → Receiver → List ℕ → Case AnswerKind → List ℕ → List (List ℕ)
back_for st size r o (answer ask) vs = sent st size (request_for r vs) o ∷ []
back_for st size r o (answer deliver) vs = []
back_for st size r o (answer old) vs = []
back_for st size r o (answer quiet) vs = []
back_for st size r o (answer ended) vs = []
back_for st size r o refused vs = []

-- the receiver over datagrams, and what they deliver
unfoldable pub takes : Receiver → List (List ℕ) → Receiver
takes r [] = r
takes r (d ∷ ds) = takes (receiver_after r d) ds

unfoldable pub gives : Receiver → List (List ℕ) → List Message
gives r [] = []
gives r (d ∷ ds) = messages_delivered (answer_of r d) d ++ gives (receiver_after r d) ds

-- the datagrams of a round: the heartbeat, and what comes back for it
abbrev pub round_of : Store → ℕ → List ℕ → Receiver → List ℕ → List (List ℕ)
round_of st size h r o = h ∷ back_for st size r o (answer_of r h).which (answer_of r h).values

-- the receiver after a round, and what the round delivers
unfoldable pub after_round : Store → ℕ → List ℕ → Receiver → List ℕ → Receiver
after_round st size h r o = takes r (round_of st size h r o)

unfoldable pub given_in : Store → ℕ → List ℕ → Receiver → List ℕ → List Message
given_in st size h r o = gives r (round_of st size h r o)

-- a round for each output lent
unfoldable pub after_rounds : Store → ℕ → List ℕ → Receiver → List (List ℕ) → Receiver
after_rounds st size h r [] = r
after_rounds st size h r (o ∷ os) = after_rounds st size h (after_round st size h r o) os

unfoldable pub given_in_all : Store → ℕ → List ℕ → Receiver → List (List ℕ) → List Message
given_in_all st size h r [] = []
given_in_all st size h r (o ∷ os) =
    given_in st size h r o ++ given_in_all st size h (after_round st size h r o) os
