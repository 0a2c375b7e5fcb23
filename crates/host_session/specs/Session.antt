-- A SoupBinTCP session as bytes, at either end: its code while it is open, its session's name, its number, its phase.
use Rattle.std.specs.Prelude.{ℕ, ◌+◌, List, [], ◌∷◌, ◌++◌, get_or}
use Rattle.wire.specs.Bounds.{number_size}
use Rattle.host_states.specs.Little.{little}
use Rattle.host_states.specs.States.{name_in, number_at, front_size, front_bytes, phase_size}

-- where its phase stands, and the bytes of the whole
abbrev pub phase_at : ℕ
phase_at = front_size

abbrev pub session_state_size : ℕ
session_state_size = phase_at + phase_size

-- the four fields
pub record SessionFields : Type 0 where
  pub first : ℕ
  pub name : List ℕ
  pub num : ℕ
  pub phase : ℕ

abbrev pub session_fields : ℕ → List ℕ → ℕ → ℕ → SessionFields
session_fields first name n b = record { first = first; name = name; num = n; phase = b }

unfoldable pub session_state_bytes : SessionFields → List ℕ
session_state_bytes s = front_bytes s.first s.name s.num ++ (s.phase ∷ [])

-- any bytes have them
unfoldable pub session_state_in : List ℕ → SessionFields
session_state_in l =
    session_fields (get_or l 0 0) (name_in l) (little l number_at number_size)
    (get_or l phase_at 0)
