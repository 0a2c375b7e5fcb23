-- For private helpers alone; no public promise uses it: what each step of taking a datagram leaves to the next.
use Rattle.std.specs.Prelude.{ℕ, ◌+◌, ◌-◌, ◌≤◌, min, List, [], ◌∷◌, ◌≡◌}
use Rattle.wire.specs.Bounds.{largest_number, largest_count}
use Rattle.wire.specs.Words.{Words, says}
use Rattle.moldudp64.specs.Downstream.{DownstreamKind}
use Rattle.receiver.specs.Table.{deliver}
use Rattle.receiver.specs.Receiver.{number_read, row_read}
use Rattle.early_holding.specs.declared.holding.EarlyReceiver.{EarlyReceiver}
use Rattle.early_holding.specs.Holding.{Lent, lent, early, next_of, at, move_to}
use Rattle.early_receiver.specs.declared.early.Answer.{Answer}
use Rattle.early_receiver.specs.declared.early.Answer.TheVariants.{Ahead}
use Rattle.early_receiver.specs.declared.early.Taken.{Taken}
use Rattle.early_receiver.specs.Answers.{early_words, request_words}
use Rattle.early_receiver.specs.Early.{named_lent, wanted, answer_by}
use Rattle.early_receiver.specs.Read.{take_read_at}

-- x is this answer with this receiver, and the request of a datagram with number f
pub record Stays (x : Taken) (r : EarlyReceiver) (a : Answer) (f : ℕ) : Type 0 where
  pub answers : x.answer ≡ a
  pub asks : request_words x.request ≡ wanted r f
  pub leaves : x.receiver ≡ r

-- the receiver r moved past c messages from number n on, and past the held ones that follow
abbrev pub moved_past : EarlyReceiver → ℕ → ℕ → EarlyReceiver
moved_past r n c = early (at r.base (move_to n r.held.0 (n + c)).next.0) (move_to n r.held.0 (n + c)).held.0

-- x delivers those; its request is by what is held, for the datagram states no number above the expected one
pub record Delivers (x : Taken) (r : EarlyReceiver) (n c skipped : ℕ) : Type 0 where
  pub answers : early_words x.answer
      ≡ says deliver (n ∷ min largest_count (next_of (moved_past r n c) - n) ∷ skipped ∷ [])
  pub asks : request_words x.request ≡ wanted (moved_past r n c) 0
  pub leaves : x.receiver ≡ moved_past r n c
  pub fits : n + c ≤ largest_number

-- x is the answer to a datagram ahead
pub record TakesAhead (x : Taken) (ls ss : List ℕ) (s : Lent) (l : List ℕ) (w : Words DownstreamKind) : Type 0 where
  pub answers : x.answer ≡ Ahead
  pub asks : request_words x.request ≡ wanted x.receiver (number_read w)
  pub leaves : lent x.receiver ls ss ≡ take_read_at s l w w.which

-- x is the answer to a datagram that isn't refused
pub record Accepts (x : Taken) (ls ss : List ℕ) (s : Lent) (l : List ℕ) (w : Words DownstreamKind) : Type 0 where
  pub answers : early_words x.answer ≡ answer_by (row_read s.receiver.base w).reply.which (next_of s.receiver)
      (number_read w) (next_of (take_read_at (named_lent s l) l w w.which).receiver)
  pub asks : request_words x.request ≡ wanted (take_read_at (named_lent s l) l w w.which).receiver (number_read w)
  pub leaves : lent x.receiver ls ss ≡ take_read_at (named_lent s l) l w w.which
