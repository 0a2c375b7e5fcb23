-- What is promised of the receiver that keeps early messages at one datagram.
use Rattle.std.specs.Prelude.{ℕ, ◌+◌, ◌-◌, ◌^◌, ◌<◌, ◌≤◌, List, [], ◌∷◌, true, false, ◌≡◌, length, get_or}
use Rattle.wire.specs.Bounds.{largest_count}
use Rattle.wire.specs.Words.{Injective}
use Rattle.moldudp64.specs.Header.{number_of}
use Rattle.receiver.specs.Table.{ask_for}
use Rattle.early_word.specs.Word.{word_bits}
use Rattle.early_holding.specs.declared.holding.EarlyReceiver.{EarlyReceiver}
use Rattle.early_holding.specs.Holding.{slot_at, Lent, next_of, is_held, held_message}
use Rattle.early_receiver.specs.Answers.{early_words, request_words}
use Rattle.early_receiver.specs.Early.{right_size, early_refusal, lent_after, early_answer, request_of, wanted_to}

-- a refusal changes nothing: neither the receiver nor one lent byte
unfoldable pub EarlyRefusalKeeps : Type 0
EarlyRefusalKeeps = (s : Lent) (l : List ℕ) → (early_refusal s l ≡ 0 → ⊥)
    → (lent_after s l ≡ s) × (request_of s l ≡ [])

-- a byte of the slots that changes is one of a message that is held then and wasn't before
pub record ByteOfHeld (s t : Lent) (i : ℕ) : Type 0 where
  pub number : ℕ
  pub held_now : is_held t.receiver number ≡ true
  pub not_before : is_held s.receiver number ≡ false
  pub from : slot_at number ≤ i
  pub to : i < slot_at number + length (held_message t number)

-- and what is lent keeps its size
pub record OnlyHeldBytesChange : Type 0 where
  pub bytes : (s : Lent) (l : List ℕ) (i : ℕ) → (get_or (lent_after s l).slots i 0 ≡ get_or s.slots i 0 → ⊥)
      → ByteOfHeld s (lent_after s l) i
  pub lengths_stay : (s : Lent) (l : List ℕ) → length (lent_after s l).lengths ≡ length s.lengths
  pub slots_stay : (s : Lent) (l : List ℕ) → length (lent_after s l).slots ≡ length s.slots

-- what bytes the lent slots and lengths have doesn't matter to the receiver: lent some of their size, the same receiver
-- goes on the same, and answers and asks the same
pub record SameBut (s t : Lent) (l : List ℕ) : Type 0 where
  pub receiver : (lent_after s l).receiver ≡ (lent_after t l).receiver
  pub answers : early_answer s l ≡ early_answer t l
  pub asks : request_of s l ≡ request_of t l

unfoldable pub SlotsDontMatter : Type 0
SlotsDontMatter = (s t : Lent) (l : List ℕ) → s.receiver ≡ t.receiver → right_size s ≡ true → right_size t ≡ true
    → SameBut s t l

-- after an accepted datagram that leaves the receiver unended it asks exactly when the datagram's number is above the
-- number then, or something is held: from that number to just below the lowest held one, or the datagram's, within the
-- limit
pub record AsksExactlyWhen : Type 0 where
  pub when_ahead : (s : Lent) (l : List ℕ) → early_refusal s l ≡ 0
      → (lent_after s l).receiver.base.ended ≡ false
      → next_of (lent_after s l).receiver < wanted_to (lent_after s l).receiver (number_of l)
      → request_of s l ≡ next_of (lent_after s l).receiver
      ∷ ask_for s.receiver.base.limit.0 (next_of (lent_after s l).receiver)
      (wanted_to (lent_after s l).receiver (number_of l))
      ∷ []
  pub when_held : (s : Lent) (l : List ℕ) (j : ℕ) → early_refusal s l ≡ 0
      → (lent_after s l).receiver.base.ended ≡ false
      → is_held (lent_after s l).receiver j ≡ true
      → wanted_to (lent_after s l).receiver (number_of l) ≤ j
  -- where something is held it does ask, and the number that it asks up to is held
  pub held_asks : (r : EarlyReceiver) (f j : ℕ) → is_held r j ≡ true → next_of r < wanted_to r f
  pub to_a_held_one : (r : EarlyReceiver) (f : ℕ) → r.held.0 < 2 ^ word_bits → (r.held.0 ≡ 0 → ⊥)
      → is_held r (wanted_to r f) ≡ true
  pub else_nothing : (s : Lent) (l : List ℕ) → (lent_after s l).receiver.held.0 ≡ 0
      → number_of l ≤ next_of (lent_after s l).receiver
      → request_of s l ≡ []

-- a count holds what a datagram delivers, held messages too
unfoldable pub CountsAll : Type 0
CountsAll = (s : Lent) (l : List ℕ) → next_of (lent_after s l).receiver - next_of s.receiver ≤ largest_count

-- what taking a datagram promises beside its answer
pub record EarlyPromises : Type 0 where
  pub refusal_keeps : EarlyRefusalKeeps
  pub only_held_bytes_change : OnlyHeldBytesChange
  pub slots_dont_matter : SlotsDontMatter
  pub asks_exactly_when : AsksExactlyWhen
  pub counts_all : CountsAll
  pub answers_apart : Injective early_words
  pub requests_apart : Injective request_words
