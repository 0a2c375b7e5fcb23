-- The places of delivered messages, two words each: the offset of its first data byte in the datagram, and its length.
use Rattle.std.specs.Prelude.{ℕ, zero, suc, ◌+◌, ◌-◌, ◌*◌, ◌/◌, ◌≤◌, List, [], ◌∷◌, ◌≡◌, length, get_or, take, drop}
use Rattle.wire.specs.Bounds.{length_size}
use Rattle.wire.specs.Bytes.{AreBytes}
use Rattle.wire.specs.Words.{Words, Case, answer, refused, says}
use Rattle.moldudp64.specs.Header.{header_size, largest_datagram}
use Rattle.moldudp64.specs.Blocks.{block_length, block_size, after_block, after_blocks}
use Rattle.receiver.specs.declared.receiver.Receiver.{Receiver}
use Rattle.receiver.specs.Table.{AnswerKind, deliver, old, quiet, ask, ended}
use Rattle.receiver.specs.Receiver.{answer_of}
use Rattle.receiver.specs.Delivery.{messages_delivered}
use Rattle.feed.specs.Session.{Message}

-- of n blocks in front of l, which is what is left of a datagram from a place on
unfoldable pub places_at : ℕ → ℕ → List ℕ → List ℕ
places_at zero at l = []
places_at (suc n) at l = (at + length_size) ∷ block_length l ∷ places_at n (at + block_size l) (after_block l)

-- of count messages of a datagram d behind those that are skipped
abbrev pub places_behind : ℕ → ℕ → List ℕ → List ℕ
places_behind count skipped d =
    places_at count (length d - length (after_blocks skipped (drop header_size d)))
    (after_blocks skipped (drop header_size d))

-- by an answer in document 01's words: a deliver answer's, and none of every other
unfoldable pub places_delivered_at : Case AnswerKind → List ℕ → List ℕ → List ℕ
places_delivered_at (answer deliver) values d = places_behind (get_or values 1 0) (get_or values 2 0) d
places_delivered_at (answer old) values d = []
places_delivered_at (answer quiet) values d = []
places_delivered_at (answer ask) values d = []
places_delivered_at (answer ended) values d = []
places_delivered_at refused values d = []

abbrev pub places_delivered : Words AnswerKind → List ℕ → List ℕ
places_delivered w d = places_delivered_at w.which w.values d

-- the parts of a datagram at places
unfoldable pub parts_at : List ℕ → List ℕ → List Message
parts_at [] d = []
parts_at (at ∷ []) d = []
parts_at (at ∷ n ∷ ps) d = take n (drop at d) ∷ parts_at ps d

-- so many words are enough for every datagram: 65,486, two for each block of no data
abbrev pub most_places : ℕ
most_places = 2 * ((largest_datagram - header_size) / length_size)

-- ---- what is promised

-- the parts at the places are the delivered messages, in order, and no more
unfoldable pub PlacesAreMessages : Type 0
PlacesAreMessages = (r : Receiver) (d : List ℕ) → AreBytes d
    → parts_at (places_delivered (answer_of r d) d) d ≡ messages_delivered (answer_of r d) d

unfoldable pub EnoughPlaces : Type 0
EnoughPlaces = (r : Receiver) (d : List ℕ) → AreBytes d
    → length (places_delivered (answer_of r d) d) ≤ most_places

-- ---- for private helpers alone: no exported function promises it

-- an answer w delivers count messages behind those that are skipped, or nothing
pub data Finds (count skipped : ℕ) (w : Words AnswerKind) : Type 0 where
  finds : (first : ℕ) → w ≡ says deliver (first ∷ count ∷ skipped ∷ []) → Finds count skipped w
  finds_none : count ≡ 0 → skipped ≡ 0 → ((d : List ℕ) → places_delivered w d ≡ []) → Finds count skipped w
