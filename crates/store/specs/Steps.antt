-- The steps of an answer, each over what it is given: for private helpers alone; no public promise uses it.
use Rattle.std.specs.Prelude.{ℕ, ◌+◌, ◌-◌, ◌≤◌, min, List, Bool, false, not, length, take, drop, ◌≡◌, ltb, leb, eqb, if◌then◌else◌, Option, Some, None, Result, Ok, Err}
use Rattle.wire.specs.declared.refusal.Refusal.{Refusal}
use Rattle.wire.specs.Refusals.{bad_setting, lengths_differ, not_in_store, store_differs}
use Rattle.wire.specs.Bytes.{same_bytes}
use Rattle.moldudp64.specs.Header.{number_of, count_of}
use Rattle.moldudp64.specs.Downstream.{run_out}
use Rattle.moldudp64.specs.Request.{request_refusal, request_session}
use Rattle.moldudp64_writer.specs.Writer.{total, add_up}
use Rattle.packing.specs.declared.fit.Fit.{Fit}
use Rattle.packing.specs.Fit.{size_ground, most_that_fit, fitting}
use Rattle.store.specs.declared.ask.Asked.{Asked}
use Rattle.store.specs.declared.pick.Picked.{Picked}

-- ---- the setting: a size, and a store that holds so many messages from a first number on

-- 19, or 0
unfoldable pub setting_ground : ℕ → ℕ → ℕ → ℕ
setting_ground first held size =
    if not (eqb (size_ground size) 0) then size_ground size
    else if eqb first 0 then bad_setting
    else if run_out first held then bad_setting
    else 0

-- ---- the request

-- the number n is among those held
unfoldable pub is_held : ℕ → ℕ → ℕ → Bool
is_held first held n = if leb first n then ltb (n - first) held else false

-- c messages from the number n on, at most to the store's end
abbrev pub ask_held : ℕ → ℕ → ℕ → ℕ → Asked
ask_held first held n c = record {
  number = record { 0 = n };
  place = n - first;
  count = min c (held - (n - first));
}

-- a ground as the refusal of a request
abbrev pub ask_refused : ℕ → Result Asked Refusal
ask_refused g = Err (record { number = g })

unfoldable pub ask_from : ℕ → ℕ → ℕ → ℕ → Result Asked Refusal
ask_from first held n c = if is_held first held n then Ok (ask_held first held n c) else ask_refused not_in_store

-- the first of 47, 13, 48, 53, 51 that applies, or what is wanted
unfoldable pub ask_of : List ℕ → ℕ → ℕ → List ℕ → Result Asked Refusal
ask_of session first held q =
    if not (eqb (request_refusal q) 0) then ask_refused (request_refusal q)
    else if not (same_bytes (request_session q) session) then ask_refused store_differs
    else ask_from first held (number_of q) (count_of q)

-- a refused request's number, behind that of lengths that don't add up
unfoldable pub refusal_behind : Refusal → List ℕ → List ℕ → Refusal
refusal_behind r ks d = if add_up ks d then r else record { number = lengths_differ }

-- ---- the messages

-- the lengths of so many messages from a place on
abbrev pub wanted_lengths : List ℕ → ℕ → ℕ → List ℕ
wanted_lengths ks place count = take count (drop place ks)

-- the most of them that fit a room, which are among them
pub record TakesMost (fit : Fit) (ks : List ℕ) (place count room : ℕ) : Type 0 where
  pub most : fit ≡ fitting room (wanted_lengths ks place count)
  pub among : place + fit.count ≤ length ks

-- the same with where their data begins
abbrev pub pick_most : List ℕ → ℕ → ℕ → ℕ → Picked
pick_most ks place count room = record {
  from = total (take place ks);
  count = most_that_fit room (wanted_lengths ks place count);
  bytes = total (take (most_that_fit room (wanted_lengths ks place count)) (wanted_lengths ks place count));
}

-- where all lengths add up to so many bytes; otherwise nothing is taken
unfoldable pub pick_of : List ℕ → ℕ → ℕ → ℕ → ℕ → Option Picked
pick_of ks bytes place count room = if eqb (total ks) bytes then Some (pick_most ks place count room) else None

-- ---- what is handed to the writer: the lengths and the data of the messages that are taken, which are there

abbrev pub taken_lengths : Asked → Picked → List ℕ → List ℕ
taken_lengths a p ks = take p.count (drop a.place ks)

abbrev pub taken_data : Picked → List ℕ → List ℕ
taken_data p d = take p.bytes (drop p.from d)

pub record Within (a : Asked) (p : Picked) (ks d : List ℕ) : Type 0 where
  pub messages : a.place + p.count ≤ length ks
  pub bytes : p.from + p.bytes ≤ length d
