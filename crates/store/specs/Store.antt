-- A branch store, and how it answers a request: st is the store, size the most bytes of a packet, header included, and
-- q the request's bytes.
use Rattle.std.specs.Prelude.{ℕ, ◌-◌, List, Bool, false, not, length, get_or, take, drop, ltb, leb, eqb, if◌then◌else◌}
use Rattle.wire.specs.Refusals.{bad_setting, lengths_differ, not_in_store, message_long, store_differs}
use Rattle.wire.specs.Bytes.{same_bytes}
use Rattle.moldudp64.specs.Header.{number_of, count_of}
use Rattle.moldudp64.specs.Downstream.{run_out}
use Rattle.moldudp64.specs.Request.{request_refusal, request_session}
use Rattle.moldudp64.specs.Written.{encoded}
use Rattle.moldudp64_writer.specs.Writer.{cut, add_up}
use Rattle.packing.specs.Fit.{size_ground, room_of, fits_alone, most_that_fit}

abbrev pub Message : Type 0
Message = List ℕ

-- ---- the store

-- it is lent: a session, the lengths of its messages, their joined data, and the first one's number
pub record Store : Type 0 where
  pub session : List ℕ
  pub first : ℕ
  pub lengths : List ℕ
  pub joined : List ℕ

abbrev pub store : List ℕ → ℕ → List ℕ → List ℕ → Store
store session n ks d = record { session = session; first = n; lengths = ks; joined = d }

abbrev pub messages_in : Store → List Message
messages_in st = cut st.lengths st.joined

-- its numbers keep document 01's bounds: the first is at least 1, and first + how many is at most 2^64 - 1
unfoldable pub numbers_ground : Store → ℕ
numbers_ground st =
    if eqb st.first 0 then bad_setting
    else if run_out st.first (length st.lengths) then bad_setting
    else 0

-- 19 for the size and for the store's numbers, then 44
unfoldable pub store_ground : Store → ℕ → ℕ
store_ground st size =
    if not (eqb (size_ground size) 0) then size_ground size
    else if not (eqb (numbers_ground st) 0) then numbers_ground st
    else if not (add_up st.lengths st.joined) then lengths_differ
    else 0

-- ---- a number in it

-- its place from 0
abbrev pub place_of : Store → ℕ → ℕ
place_of st n = n - st.first

unfoldable pub in_store : Store → ℕ → Bool
in_store st n = if leb st.first n then ltb (place_of st n) (length st.lengths) else false

-- the length of its message
abbrev pub length_at : Store → ℕ → ℕ
length_at st n = get_or st.lengths (place_of st n) 0

-- ---- a request

-- the first of 19, 44, 47, 13, 48, 53, 51, 52 that applies, or 0
unfoldable pub answer_ground : Store → ℕ → List ℕ → ℕ
answer_ground st size q =
    if not (eqb (store_ground st size) 0) then store_ground st size
    else if not (eqb (request_refusal q) 0) then request_refusal q
    else if not (same_bytes (request_session q) st.session) then store_differs
    else if not (in_store st (number_of q)) then not_in_store
    else if not (fits_alone (room_of size) (length_at st (number_of q))) then message_long
    else 0

-- how many it answers with: the most whole messages that fit, up to the count wanted (and to the store's end)
unfoldable pub how_many : Store → ℕ → ℕ → ℕ → ℕ
how_many st size n wanted = most_that_fit (room_of size) (take wanted (drop (place_of st n) st.lengths))

-- the messages that it answers with: they begin at the wanted number
unfoldable pub chosen : Store → ℕ → ℕ → ℕ → List Message
chosen st size n wanted = take (how_many st size n wanted) (drop (place_of st n) (messages_in st))

-- its bytes
unfoldable pub answer_bytes : Store → ℕ → List ℕ → List ℕ
answer_bytes st size q = encoded st.session (number_of q) (chosen st size (number_of q) (count_of q))
