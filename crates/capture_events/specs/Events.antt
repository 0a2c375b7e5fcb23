-- A capture as a list of events, whatever is made of them: its settings, the datagrams of its records, and a record
-- that is cut short.
use Rattle.std.specs.Prelude.{ℕ, zero, suc, ◌+◌, ◌-◌, List, [], ◌∷◌, ◌++◌, Bool, true, false, length, drop, ltb, eqb, if◌then◌else◌}
use Rattle.capture_settings.specs.declared.settings.Settings as declared
use Rattle.capture_settings.specs.Settings.{settings_of}
use Rattle.capture_settings.specs.Statements.{longest}
use Rattle.capture_records.specs.Records.{most_records, datagrams_of, rest_of}

pub data Event : Type 0 where
  opened : declared.Settings → Event
  bad_settings : Event
  datagram : List ℕ → Event
  cut_short : Event

-- what a program makes of events, one after the other
unfoldable pub fold : {S : Type 0} → (S → Event → S) → S → List Event → S
fold step s [] = s
fold step s (e ∷ es) = fold step (step s e) es

-- records are their datagrams
unfoldable pub datagrams : List (List ℕ) → List Event
datagrams [] = []
datagrams (d ∷ ds) = datagram d ∷ datagrams ds

-- what comes next: the settings; records, so many at most; or nothing, at the end or where the settings are refused
pub data At : Type 0 where
  settings : At
  records : ℕ → At
  done : At
  refused : At

-- nothing that follows is looked at
unfoldable pub is_over_at : At → Bool
is_over_at settings = false
is_over_at (records k) = false
is_over_at done = true
is_over_at refused = true

-- ---- some bytes read

-- what comes next then, the events in them, and how many of them were used
pub record Read : Type 0 where
  pub at : At
  pub events : List Event
  pub used : ℕ

abbrev pub reads : At → List Event → ℕ → Read
reads a es n = record { at = a; events = es; used = n }

-- the records ds were read in front of l and rest is left: once no more may be read, whatever is left is passed over
unfoldable pub read_to : ℕ → List (List ℕ) → List ℕ → List ℕ → Read
read_to zero ds rest l = reads done (datagrams ds) (length l)
read_to (suc k) ds rest l = reads (records (suc k)) (datagrams ds) (length l - length rest)

-- the whole records in front of l, at most k
unfoldable pub read_records : ℕ → List ℕ → Read
read_records k l = read_to (k - length (datagrams_of k l)) (datagrams_of k l) (rest_of k l) l

-- the records after the settings of l
abbrev pub read_behind : List ℕ → Read
read_behind l = read_records most_records (drop (settings_of l).size l)

-- the settings, and the records after them; bad ones end it, whatever follows
unfoldable pub read_settings : List ℕ → Read
read_settings l =
    if eqb (settings_of l).refusal.number 0
    then reads (read_behind l).at (opened (settings_of l).settings ∷ (read_behind l).events)
    ((settings_of l).size + (read_behind l).used)
    else reads refused (bad_settings ∷ []) (length l)

-- by what comes next, the bytes taken as enough to tell the settings
unfoldable pub read_on : At → List ℕ → Read
read_on settings l = read_settings l
read_on (records k) l = read_records k l
read_on done l = reads done [] (length l)
read_on refused l = reads refused [] (length l)

-- n bytes may be too few to tell the settings
unfoldable pub waits_at : At → ℕ → Bool
waits_at settings n = ltb n longest
waits_at (records k) n = false
waits_at done n = false
waits_at refused n = false

-- a piece, after which more may come
unfoldable pub read_piece : At → List ℕ → Read
read_piece a l = if waits_at a (length l) then reads a [] 0 else read_on a l

-- ---- the end of the input

-- how it came out, and the events
pub record End : Type 0 where
  pub at : At
  pub events : List Event

abbrev pub ends : At → List Event → End
ends a es = record { at = a; events = es }

-- n bytes are left: those of a record that is cut short
unfoldable pub end_at : At → ℕ → End
end_at settings n = ends settings []
end_at (records k) n = if eqb n 0 then ends done [] else ends done (cut_short ∷ [])
end_at done n = ends done []
end_at refused n = ends refused []

-- one list of events, and then an end
abbrev pub and_then : List Event → End → End
and_then es x = ends x.at (es ++ x.events)

-- the last bytes
unfoldable pub read_last : At → List ℕ → End
read_last a l = and_then (read_on a l).events (end_at (read_on a l).at (length l - (read_on a l).used))

-- a whole capture
abbrev pub read_whole : List ℕ → End
read_whole l = read_last settings l
