-- What a datagram l delivers: each message had by its place from 0, before the step.
use Rattle.std.specs.Prelude.{ℕ, zero, suc, ◌+◌, ◌-◌, ◌^◌, ◌<◌, List, [], ◌∷◌, ◌++◌, ◌≡◌, true, false, length, take, drop, ltb, eqb, if◌then◌else◌}
use Rattle.moldudp64.specs.Header.{number_of}
use Rattle.moldudp64.specs.Downstream.{DownstreamKind, data_packet, heartbeat, end_of_session, kind_of, messages_of}
use Rattle.moldudp64.specs.Downstream.{message_of}
use Rattle.moldudp64_messages.specs.declared.cursor.Located.{Located}
use Rattle.moldudp64_messages.specs.Cursor.{locate_of}
use Rattle.early_word.specs.Word.{word_bits}
use Rattle.early_holding.specs.Holding.{slot_at, Lent, next_of, is_held, held_message, number_past, take_one}
use Rattle.early_receiver.specs.Early.{early_refusal, lent_after}
use Rattle.early_messages.specs.declared.message.Part.{Part}

-- how many it delivers: as many as the expected number moves on
unfoldable pub delivered_count : Lent → List ℕ → ℕ
delivered_count s l = next_of (lent_after s l).receiver - next_of s.receiver

-- the number of the message at a place
abbrev pub number_at : Lent → ℕ → ℕ
number_at s p = next_of s.receiver + p

-- the message with a number: of the slots if held there, else of the datagram
unfoldable pub message_with : Lent → List ℕ → ℕ → List ℕ
message_with s l j = if is_held s.receiver j then held_message s j else message_of l (j - number_of l)

-- the message at a place: no bytes where there is none
unfoldable pub message_at : Lent → List ℕ → ℕ → List ℕ
message_at s l p = if ltb p (delivered_count s l) then message_with s l (number_at s p) else []

-- where it lies: whether there is one, whether in the slots, and its offset and length there
abbrev pub in_slots : ℕ → ℕ → Part
in_slots at n = record { exists = true; held = true; offset = record { 0 = at }; length = n }

abbrev pub in_datagram : Located → Part
in_datagram p = record { exists = p.exists; held = false; offset = p.offset; length = p.length }

abbrev pub no_part : Part
no_part = record { exists = false; held = false; offset = record { 0 = 0 }; length = 0 }

unfoldable pub part_with : Lent → List ℕ → ℕ → Part
part_with s l j =
    if is_held s.receiver j then in_slots (slot_at j) (length (held_message s j))
    else in_datagram (locate_of l (j - number_of l))

unfoldable pub part_at : Lent → List ℕ → ℕ → Part
part_at s l p = if ltb p (delivered_count s l) then part_with s l (number_at s p) else no_part

-- the bytes that a part names, of the slots or of the datagram
abbrev pub bytes_of : List ℕ → List ℕ → Part → List ℕ
bytes_of slots l p = take p.length (drop p.offset.0 (if p.held then slots else l))

-- a part by place names its message's bytes
unfoldable pub PartsAreMessages : Type 0
PartsAreMessages = (s : Lent) (l : List ℕ) (p : ℕ) → bytes_of s.slots l (part_at s l p) ≡ message_at s l p

-- every place below the count has its message, where the word is one of 64 bits
unfoldable pub PlacesExist : Type 0
PlacesExist = (s : Lent) (l : List ℕ) (p : ℕ) → s.receiver.held.0 < 2 ^ word_bits → p < delivered_count s l
    → (part_at s l p).exists ≡ true

-- the messages at k places from p on
unfoldable pub messages_at : Lent → List ℕ → ℕ → ℕ → List (List ℕ)
messages_at s l p zero = []
messages_at s l p (suc k) = message_at s l p ∷ messages_at s l (p + 1) k

-- what a datagram delivers: the messages had by place before its step
abbrev pub delivery : Lent → List ℕ → List (List ℕ)
delivery s l = messages_at s l 0 (delivered_count s l)

-- ---- the same, one message at a time: number n, and then every held message that follows without a gap

-- the held messages of k numbers from j on
unfoldable pub held_from : Lent → ℕ → ℕ → List (List ℕ)
held_from s j zero = []
held_from s j (suc k) = held_message s j ∷ held_from s (j + 1) k

unfoldable pub gives_one : Lent → ℕ → List ℕ → List (List ℕ)
gives_one s j m =
    if eqb j (next_of s.receiver)
    then m ∷ held_from s (j + 1) (number_past (next_of s.receiver) s.receiver.held.0 - next_of s.receiver - 1)
    else []

unfoldable pub gives_all : Lent → ℕ → List (List ℕ) → List (List ℕ)
gives_all s f [] = []
gives_all s f (m ∷ ms) = gives_one s f m ++ gives_all (take_one s f m) (f + 1) ms

unfoldable pub gives_kind : Lent → DownstreamKind → List ℕ → List (List ℕ)
gives_kind s data_packet l = gives_all s (number_of l) (messages_of l)
gives_kind s heartbeat l = []
gives_kind s end_of_session l = []

unfoldable pub gives : Lent → List ℕ → List (List ℕ)
gives s l = if eqb (early_refusal s l) 0 then gives_kind s (kind_of l) l else []

-- the messages had by place before the step are those that the step delivers, for every receiver,
-- made up or not, whose word is one of 64 bits
unfoldable pub PlacesAreDelivered : Type 0
PlacesAreDelivered = (s : Lent) (l : List ℕ) → s.receiver.held.0 < 2 ^ word_bits → delivery s l ≡ gives s l
