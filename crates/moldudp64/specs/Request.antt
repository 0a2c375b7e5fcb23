-- Request packets: session, first number wanted, how many.
use Rattle.std.specs.Prelude.{ℕ, List, [], ◌∷◌, not, length, take, eqb, if◌then◌else◌, Result, Ok, Err}
use Rattle.wire.specs.Refusals.{number_zero, request_size, request_count}
use Rattle.wire.specs.Bounds.{session_size}
use Rattle.wire.specs.Words.{Words, says, refuses, refused_words}
use Rattle.moldudp64.specs.Header.{header_size, end_count, number_of, count_of}
use Rattle.wire.specs.declared.refusal.Refusal.{Refusal}
use Rattle.moldudp64.specs.declared.request.Wanted.{Wanted}

-- a number of at least 1, and a count of 1 to 65,534: the first of 13 and 48 that applies, or 0
unfoldable pub request_ground : ℕ → ℕ → ℕ
request_ground n c =
    if eqb n 0 then number_zero
    else if eqb c 0 then request_count
    else if eqb c end_count then request_count
    else 0

-- exactly 20 bytes: the first of 47, 13 and 48 that applies, or 0
unfoldable pub request_refusal : List ℕ → ℕ
request_refusal l =
    if not (eqb (length l) header_size) then request_size
    else request_ground (number_of l) (count_of l)

-- what a request can say, but for a refusal
pub data RequestKind : Type 0 where
  wanted : RequestKind

-- what a request says: its first number and its count
unfoldable pub request_of : List ℕ → Words RequestKind
request_of l =
    if eqb (request_refusal l) 0 then says wanted (number_of l ∷ count_of l ∷ [])
    else refuses (request_refusal l)

-- the reader's answer in these words
unfoldable pub request_words : Result Wanted Refusal → Words RequestKind
request_words (Ok w) = says wanted (w.first.0 ∷ w.count.0 ∷ [])
request_words (Err r) = refused_words r

-- the session: no bytes where the request is refused
unfoldable pub request_session : List ℕ → List ℕ
request_session l = if eqb (request_refusal l) 0 then take session_size l else []
