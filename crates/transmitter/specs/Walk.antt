-- What the code goes through between packets: a group is the most that fit of the messages that are left.
use Rattle.std.specs.Prelude.{ℕ, zero, suc, ◌+◌, List, not, ◌≡◌, drop, leb, eqb, if◌then◌else◌}
use Rattle.wire.specs.Refusals.{number_zero, numbers_run_out, lengths_differ, message_long, no_such_packet}
use Rattle.wire.specs.Output.{Writes}
use Rattle.wire.specs.Output.{Written}
use Rattle.std.specs.Prelude.{Ok, Err}
use Rattle.moldudp64.specs.Downstream.{run_out}
use Rattle.packing.specs.declared.fit.Fit.{Fit}
use Rattle.packing.specs.Fit.{fitting}
use Rattle.transmitter.specs.declared.turns.Progress.{Progress}
use Rattle.transmitter.specs.declared.turns.Turn.{Turn}
use Rattle.transmitter.specs.Turns.{progress, next_number, next_ground, next_bytes, progress_after}

-- the progress past a group
abbrev pub past : Progress → Fit → Progress
past p g = progress (p.messages + g.count) (p.bytes + g.bytes)

-- after a group was written, or refused
unfoldable pub moved : Progress → Fit → Written → Progress
moved p g (Ok size) = past p g
moved p g (Err r) = p

-- past so many groups
unfoldable pub past_groups : ℕ → List ℕ → Progress → ℕ → Progress
past_groups room ks p zero = p
past_groups room ks p (suc i) = past_groups room ks (past p (fitting room (drop p.messages ks))) i

-- a turn's grounds behind its size: of the run's messages there are all, and of the group's data have bytes
unfoldable pub group_ground : ℕ → ℕ → Progress → Fit → ℕ → ℕ
group_ground n all p g have =
    if leb all p.messages then no_such_packet
    else if not (eqb g.bytes have) then lengths_differ
    else if eqb (next_number n p) 0 then number_zero
    else if run_out (next_number n p) g.count then numbers_run_out
    else if eqb g.count 0 then message_long
    else 0

-- a turn that answers r and turns the output l into m
pub record Turns (r : Turn) (session : List ℕ) (size n : ℕ) (ks d : List ℕ) (p : Progress) (l m : List ℕ) : Type 0 where
  pub writes : Writes r.written l m (next_ground size n ks d p) 0 (next_bytes session size n ks d p)
  pub leads : r.progress ≡ progress_after session size n ks d p l
