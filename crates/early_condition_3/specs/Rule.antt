-- Order 6's rule in its own words: what one message does to a receiver and to what is lent to it, and how a datagram's
-- messages are taken.
use Rattle.std.specs.Prelude.{ℕ, ◌+◌, ◌-◌, ◌^◌, ◌<◌, ◌≤◌, List, [], ◌∷◌, ◌≡◌, true, false, length, get_or, take, drop}
use Rattle.wire.specs.Bounds.{largest_number}
use Rattle.moldudp64.specs.Header.{number_of}
use Rattle.moldudp64.specs.Downstream.{data_packet, heartbeat, end_of_session, kind_of, messages_of}
use Rattle.feed.specs.Session.{Datagram, Message}
use Rattle.early_word.specs.Word.{word_bits}
use Rattle.early_holding.specs.Holding.{slot_count, slot_size, slot_bytes, length_bytes, slot_at, Lent, lent, next_of}
use Rattle.early_holding.specs.Holding.{is_held, length_of, held_message, take_one, take_all}
use Rattle.early_receiver.specs.Early.{start_early, early_refusal, named_lent, lent_after}
use Rattle.early_messages.specs.Delivery.{held_from, gives_one, gives_all}
use Rattle.early_condition_3.specs.Condition3.{StepRule, GivesRule}

-- what holds of every receiver that datagrams brought up from a start, whatever they say
pub record Sound (s : Lent) : Type 0 where
  pub word : s.receiver.held.0 < 2 ^ word_bits
  pub noted : length s.lengths ≡ length_bytes
  pub size : length s.slots ≡ slot_bytes
  pub short : (j : ℕ) → is_held s.receiver j ≡ true → length_of s.lengths j ≤ slot_size
  pub low : (j : ℕ) → is_held s.receiver j ≡ true → j < largest_number

-- a start is so, with lengths and slots of any bytes, of their size, and every datagram leaves it so
pub record SoundThroughout : Type 0 where
  pub at_start : (name : List ℕ) (n limit : ℕ) (lengths slots : List ℕ) → length lengths ≡ length_bytes
      → length slots ≡ slot_bytes
      → Sound (lent (start_early name n limit) lengths slots)
  pub stays : (s : Lent) (l : Datagram) → Sound s → Sound (lent_after s l)

-- the name, the limit, and whether it has ended stay
pub record SameSettings (s t : Lent) : Type 0 where
  pub name : t.receiver.base.session ≡ s.receiver.base.session
  pub limit : t.receiver.base.limit ≡ s.receiver.base.limit
  pub ended : t.receiver.base.ended ≡ s.receiver.base.ended

-- ---- one message

-- number n is delivered, and then every held message that follows without a gap: s becomes t and gives ms
pub record DeliversOn (s t : Lent) (m : Message) (ms : List Message) : Type 0 where
  pub moves : next_of s.receiver < next_of t.receiver
  pub follow : (j : ℕ) → next_of s.receiver < j → j < next_of t.receiver → is_held s.receiver j ≡ true
  pub gap : is_held s.receiver (next_of t.receiver) ≡ false
  pub gives : ms ≡ m ∷ held_from s (next_of s.receiver + 1) (next_of t.receiver - next_of s.receiver - 1)
  pub stay_held : (j : ℕ) → next_of t.receiver < j → is_held t.receiver j ≡ is_held s.receiver j
  pub settings : SameSettings s t
  pub lengths : t.lengths ≡ s.lengths
  pub slots : t.slots ≡ s.slots

-- number j may be held: it lies from n + 1 to n + 64, has at most 1,024 bytes, and isn't held already
pub record MayBeHeld (s : Lent) (j : ℕ) (m : Message) : Type 0 where
  pub above : next_of s.receiver < j
  pub within : j ≤ next_of s.receiver + slot_count
  pub short : length m ≤ slot_size
  pub not_yet : is_held s.receiver j ≡ false

-- it is held, from the first byte of its slot, and no other slot byte changes
pub record Holds (s t : Lent) (j : ℕ) (m : Message) : Type 0 where
  pub number : next_of t.receiver ≡ next_of s.receiver
  pub settings : SameSettings s t
  pub held : is_held t.receiver j ≡ true
  pub others : (i : ℕ) → (i ≡ j → ⊥) → is_held t.receiver i ≡ is_held s.receiver i
  pub message : held_message t j ≡ m
  pub messages : (i : ℕ) → (i ≡ j → ⊥) → is_held s.receiver i ≡ true → held_message t i ≡ held_message s i
  pub in_its_slot : take (length m) (drop (slot_at j) t.slots) ≡ m
  pub no_other_byte : (i : ℕ) → (slot_at j ≤ i → i < slot_at j + length m → ⊥)
      → get_or t.slots i 0 ≡ get_or s.slots i 0

-- what one message does
pub record OneMessage : Type 0 where
  pub expected : (s : Lent) (m : Message) → Sound s → next_of s.receiver < largest_number
      → DeliversOn s (take_one s (next_of s.receiver) m) m (gives_one s (next_of s.receiver) m)
  pub early : (s : Lent) (j : ℕ) (m : Message) → Sound s → MayBeHeld s j m → Holds s (take_one s j m) j m
  pub early_gives : (s : Lent) (j : ℕ) (m : Message) → MayBeHeld s j m → gives_one s j m ≡ []
  pub else_left : (s : Lent) (j : ℕ) (m : Message) → (j ≡ next_of s.receiver → ⊥) → (MayBeHeld s j m → ⊥)
      → (take_one s j m ≡ s) × (gives_one s j m ≡ [])
  -- so that it holds at each message of a datagram
  pub stays_sound : (s : Lent) (j : ℕ) (m : Message) → Sound s → j < largest_number → Sound (take_one s j m)

-- ---- a datagram

-- the session has ended: the receiver holds nothing, and no lent byte changes
pub record EndsHere (s t : Lent) : Type 0 where
  pub ended : t.receiver.base.ended ≡ true
  pub name : t.receiver.base.session ≡ s.receiver.base.session
  pub limit : t.receiver.base.limit ≡ s.receiver.base.limit
  pub number : next_of t.receiver ≡ next_of s.receiver
  pub nothing_held : (j : ℕ) → is_held t.receiver j ≡ false
  pub lengths : t.lengths ≡ s.lengths
  pub slots : t.slots ≡ s.slots

-- a receiver, by how it goes on and what a datagram delivers, takes a datagram's messages one at a time in rising
-- number; a heartbeat, and an end of session ahead of n, only name it; an end of session at n names and ends it; a
-- refusal changes nothing
pub record FollowsTheRule (step : StepRule) (gives : GivesRule) : Type 0 where
  pub refused : (s : Lent) (l : Datagram) → (early_refusal s l ≡ 0 → ⊥) → (step s l ≡ s) × (gives s l ≡ [])
  pub data_taken : (s : Lent) (l : Datagram) → early_refusal s l ≡ 0 → kind_of l ≡ data_packet
      → step s l ≡ take_all (named_lent s l) (number_of l) (messages_of l)
  pub data_gives : (s : Lent) (l : Datagram) → s.receiver.held.0 < 2 ^ word_bits → early_refusal s l ≡ 0
      → kind_of l ≡ data_packet
      → gives s l ≡ gives_all s (number_of l) (messages_of l)
  pub heartbeat_names : (s : Lent) (l : Datagram) → early_refusal s l ≡ 0 → kind_of l ≡ heartbeat
      → (step s l ≡ named_lent s l) × (gives s l ≡ [])
  pub end_ends : (s : Lent) (l : Datagram) → early_refusal s l ≡ 0 → kind_of l ≡ end_of_session
      → number_of l ≡ next_of s.receiver
      → EndsHere (named_lent s l) (step s l) × (gives s l ≡ [])
  pub end_ahead_names : (s : Lent) (l : Datagram) → early_refusal s l ≡ 0 → kind_of l ≡ end_of_session
      → next_of s.receiver < number_of l
      → (step s l ≡ named_lent s l) × (gives s l ≡ [])
