-- Events one by one: the one in front of some bytes, if one is there, and what comes next then.
use Rattle.std.specs.Prelude.{ℕ, zero, suc, ◌+◌, List, [], ◌∷◌, ◌++◌, Bool, true, false, ◌≡◌, length, take, drop, eqb, if◌then◌else◌, Option, Some, None}
use Rattle.wire.specs.Bounds.{length_size}
use Rattle.capture_settings.specs.Settings.{settings_of}
use Rattle.capture_records.specs.Records.{most_records, record_size, is_whole, datagram_of}
use Rattle.capture_events.specs.declared.place.Place.{Place}
use Rattle.capture_events.specs.declared.place.Place.TheVariants.{Settings, Records, Done, Refused}
use Rattle.capture_events.specs.declared.place.Found.{Found}
use Rattle.capture_events.specs.declared.place.Found.TheVariants.{Opened, BadSettings, Datagram}
use Rattle.capture_events.specs.declared.place.Next.{Next}
use Rattle.capture_events.specs.Events.{Event, opened, bad_settings, datagram, At, settings, records, done}
use Rattle.capture_events.specs.Events.{refused, Read, reads, read_on, end_at}

-- what comes next of a capture
unfoldable pub at_of : Place → At
at_of Settings = settings
at_of (Records left) = records left
at_of Done = done
at_of Refused = refused

-- and back
unfoldable pub place_at : At → Place
place_at settings = Settings
place_at (records k) = Records k
place_at done = Done
place_at refused = Refused

-- the event in front of l, or none; what comes next then; and how many bytes were used
unfoldable pub next_of : At → List ℕ → Read
next_of settings l =
    if eqb (settings_of l).refusal.number 0
    then reads (records most_records) (opened (settings_of l).settings ∷ []) (settings_of l).size
    else reads refused (bad_settings ∷ []) (length l)
next_of (records zero) l = reads done [] (length l)
next_of (records (suc k)) l =
    if is_whole l then reads (records k) (datagram (datagram_of l) ∷ []) (record_size l) else reads (records (suc k)) [] 0
next_of done l = reads done [] (length l)
next_of refused l = reads refused [] (length l)

-- ---- what `look` answers of the bytes l

-- a datagram is what follows the length of its record, the bytes l
unfoldable pub events_in : Option Found → List ℕ → List Event
events_in None l = []
events_in (Some (Opened s)) l = opened s ∷ []
events_in (Some BadSettings) l = bad_settings ∷ []
events_in (Some Datagram) l = datagram (drop length_size l) ∷ []

abbrev pub read_by : Next → List ℕ → Read
read_by r l = reads (at_of r.place) (events_in r.event (take r.used l)) r.used

-- what comes next at the end of the input, however many bytes are left
abbrev pub EndsAt : Place → Place → Type 0
EndsAt p r = (n : ℕ) → at_of r ≡ (end_at (at_of p) n).at

-- ---- what is promised

unfoldable pub is_none : List Event → Bool
is_none [] = true
is_none (e ∷ es) = false

-- what was read of l, and where it was an event all that follows it
unfoldable pub with_rest : Read → List ℕ → Read
with_rest r l =
    if is_none r.events then r
    else reads (read_on r.at (drop r.used l)).at (r.events ++ (read_on r.at (drop r.used l)).events)
    (r.used + (read_on r.at (drop r.used l)).used)

-- some bytes read are their first event, and then the rest
unfoldable pub OneByOne : Type 0
OneByOne = (a : At) (l : List ℕ) → read_on a l ≡ with_rest (next_of a l) l
