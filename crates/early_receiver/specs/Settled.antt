-- What a datagram comes to where that can be told without what is lent: data or a heartbeat that isn't ahead, of the
-- receiver's name, which doesn't end in a space. Nothing is kept then.
use Rattle.std.specs.Prelude.{ℕ, List, Bool, true, false, ◌≡◌, leb, if◌then◌else◌}
use Rattle.wire.specs.Words.{Words, Case, answer, refused}
use Rattle.moldudp64.specs.Downstream.{DownstreamKind, data_packet, heartbeat, end_of_session}
use Rattle.receiver.specs.Table.{AnswerKind, deliver, old, quiet, ask, ended}
use Rattle.receiver.specs.declared.receiver.Receiver.{Receiver}
use Rattle.receiver.specs.declared.receiver.Taken as plain
use Rattle.receiver.specs.Receiver.{open_for, number_read, row_read, TakesRow}
use Rattle.early_holding.specs.declared.holding.EarlyReceiver.{EarlyReceiver}
use Rattle.early_holding.specs.Holding.{lent, next_of}
use Rattle.early_receiver.specs.declared.early.Taken.{Taken}
use Rattle.early_receiver.specs.declared.early.Answer.TheVariants.{Old}
use Rattle.std.specs.Prelude.{None}
use Rattle.early_receiver.specs.declared.early.Settled.{Settled}
use Rattle.early_receiver.specs.Early.{right_size}
use Rattle.early_receiver.specs.Read.{TakesEarlyRead}
use Rattle.early_receiver.specs.Steps.{Accepts}

-- data or a heartbeat
unfoldable pub data_or_beat : Case DownstreamKind → Bool
data_or_beat (answer data_packet) = true
data_or_beat (answer heartbeat) = true
data_or_beat (answer end_of_session) = false
data_or_beat refused = false

-- of a datagram l for which the receiver is open, w being what was read of it
unfoldable pub is_here : Receiver → List ℕ → Words DownstreamKind → Bool
is_here r l w = if open_for r l then data_or_beat w.which else false

-- it is settled where its number isn't above the expected one
unfoldable pub settles : EarlyReceiver → List ℕ → Words DownstreamKind → Bool
settles r l w = if is_here r.base l w then leb (number_read w) (next_of r) else false

abbrev pub unsettled_of : EarlyReceiver → Settled
unsettled_of r = record { applies = false; taken = record { answer = Old; request = None; receiver = r } }

abbrev pub settled_of : Taken → Settled
settled_of x = record { applies = true; taken = x }

-- what `settle` promises, which returned x: where it applies, what taking the datagram promises, whatever lengths and
-- slots of their size are lent, none of whose bytes changes
pub record Settles (x : Settled) (r : EarlyReceiver) (l : List ℕ) (w : Words DownstreamKind) : Type 0 where
  pub applies : x.applies ≡ settles r l w
  pub takes : x.applies ≡ true → (ls ss : List ℕ) → right_size (lent r ls ss) ≡ true
      → TakesEarlyRead x.taken ls ss (lent r ls ss) l w
  pub else_nothing : x.applies ≡ false → x ≡ unsettled_of r

-- ---- for private helpers alone; no public promise uses it

-- the plain receiver r takes data or a heartbeat by its row
abbrev pub RowHere : plain.Taken → Receiver → Words DownstreamKind → Type 0
RowHere x r w = data_or_beat w.which ≡ true → TakesRow x r (row_read r w)

-- a row that delivers, or is old or quiet
unfoldable pub stays_here : Case AnswerKind → Bool
stays_here (answer deliver) = true
stays_here (answer old) = true
stays_here (answer quiet) = true
stays_here (answer ask) = false
stays_here (answer ended) = false
stays_here refused = false

-- the row settled: x is what it comes to
pub record SettlesRow (x : Settled) (r : EarlyReceiver) (l : List ℕ) (w : Words DownstreamKind) : Type 0 where
  pub applies : x.applies ≡ stays_here (row_read r.base w).reply.which
  pub accepts : x.applies ≡ true → (ls ss : List ℕ) → Accepts x.taken ls ss (lent r ls ss) l w
  pub else_nothing : x.applies ≡ false → x ≡ unsettled_of r
