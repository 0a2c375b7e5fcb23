-- The places of delivered messages, three words each: whether it lies in the slots, the offset of its first byte there or
-- in the datagram, and its length.
use Rattle.std.specs.Prelude.{ℕ, zero, suc, ◌+◌, ◌-◌, ◌*◌, ◌/◌, ◌<◌, ◌≤◌, List, [], ◌∷◌, ◌++◌, ◌≡◌, length, take, drop, eqb, if◌then◌else◌}
use Rattle.wire.specs.Bounds.{length_size}
use Rattle.moldudp64.specs.Header.{header_size, largest_datagram}
use Rattle.feed.specs.Session.{Message}
use Rattle.early_holding.specs.Holding.{slot_count, Lent}
use Rattle.early_receiver.specs.Early.{lent_after}
use Rattle.early_messages.specs.declared.message.Part.{Part}
use Rattle.early_messages.specs.Delivery.{delivered_count, part_at, delivery}
use Rattle.host_answers.specs.Answers.{flag}

-- the place of one message
abbrev pub place_words : Part → List ℕ
place_words p = flag p.held ∷ p.offset.0 ∷ p.length ∷ []

-- those of the messages at k places from p on
unfoldable pub places_of : Lent → List ℕ → ℕ → ℕ → List ℕ
places_of s d p zero = []
places_of s d p (suc k) = place_words (part_at s d p) ++ places_of s d (p + 1) k

-- those of all that a datagram d delivers, before its step
unfoldable pub places_delivered : Lent → List ℕ → List ℕ
places_delivered s d = places_of s d 0 (delivered_count s d)

-- the parts that places name: of the slots ss where the first word is 1, else of the datagram d
unfoldable pub parts_in : List ℕ → List ℕ → List ℕ → List Message
parts_in [] ss d = []
parts_in (held ∷ []) ss d = []
parts_in (held ∷ at ∷ []) ss d = []
parts_in (held ∷ at ∷ n ∷ ps) ss d = take n (drop at (if eqb held 1 then ss else d)) ∷ parts_in ps ss d

-- so many words are enough for every datagram: 98,421, three for each block of no data and for each slot
abbrev pub most_places : ℕ
most_places = 3 * ((largest_datagram - header_size) / length_size + slot_count)

-- ---- what is promised

-- the parts at the places are the delivered messages, in order, and no more
unfoldable pub PlacesAreMessages : Type 0
PlacesAreMessages = (s : Lent) (d : List ℕ) → parts_in (places_delivered s d) s.slots d ≡ delivery s d

-- whatever the receiver and the datagram are
unfoldable pub EnoughPlaces : Type 0
EnoughPlaces = (s : Lent) (d : List ℕ) → length (places_delivered s d) ≤ most_places

-- the messages lie there after the step too: one that delivers changes no byte of the slots
unfoldable pub StillThere : Type 0
StillThere = (s : Lent) (d : List ℕ) → 0 < delivered_count s d → (lent_after s d).slots ≡ s.slots
