-- The five counts of a report.
use Rattle.std.specs.Prelude.{ℕ, List, [], ◌∷◌, get_or}
use Rattle.wire.specs.Bounds.{up_to}
use Rattle.wire.specs.Words.{Words, Case, answer, refused}
use Rattle.receiver.specs.Table.{AnswerKind, deliver, old, quiet, ask, ended}
use Rattle.capture_tally.specs.declared.tally.Tally.{Tally}

-- messages delivered; datagrams that are old, quiet, and that draw a request; refusals
abbrev pub tally : ℕ → ℕ → ℕ → ℕ → ℕ → Tally
tally d o q a r = record { delivered = d; old = o; quiet = q; asked = a; refused = r }

-- what an answer adds, whatever it asks for: a deliver answer its messages, the second of its values
unfoldable pub parts_in : Case AnswerKind → List ℕ → Tally
parts_in (answer deliver) values = tally (get_or values 1 0) 0 0 0 0
parts_in (answer old) values = tally 0 1 0 0 0
parts_in (answer quiet) values = tally 0 0 1 0 0
parts_in (answer ask) values = tally 0 0 0 0 0
parts_in (answer ended) values = tally 0 0 0 0 0
parts_in refused values = tally 0 0 0 0 1

abbrev pub answer_parts : Words AnswerKind → Tally
answer_parts w = parts_in w.which w.values

-- a request is one, whatever answer it stands beside; no words are none
unfoldable pub asks_of : List ℕ → ℕ
asks_of [] = 0
asks_of (n ∷ ns) = 1

-- what an answer and the request beside it add to each count
abbrev pub parts_of : Words AnswerKind → List ℕ → Tally
parts_of w request =
    tally (answer_parts w).delivered (answer_parts w).old (answer_parts w).quiet (asks_of request)
    (answer_parts w).refused

-- what a record that is cut short adds: one refusal
abbrev pub cut_parts : Tally
cut_parts = tally 0 0 0 0 1

-- two tallies together
abbrev pub plus_of : Tally → Tally → Tally
plus_of x y =
    tally (up_to x.delivered y.delivered) (up_to x.old y.old) (up_to x.quiet y.quiet)
    (up_to x.asked y.asked)
    (up_to x.refused y.refused)
